-- What a survey in memory means.
use Rattle.survey.specs.declared.plan.Survey.{Survey as Plan}
use Rattle.survey.specs.Surveys.{Survey}
use Rattle.survey.specs.Views.{drawn}

abbrev pub survey_of : Plan → Survey
survey_of p = drawn p.neighbours p.fence
