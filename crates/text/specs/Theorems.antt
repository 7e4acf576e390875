-- What a survey's text and reading are to each other.
use Rattle.std.specs.Prelude.{◌≡◌, ℕ, List, ◌++◌, length}
use Rattle.refusal.specs.Outcomes.{accepted}
use Rattle.survey.specs.Surveys.{Survey, Valid}
use Rattle.text.specs.Text.{text, text_length_of}
use Rattle.text.specs.Reading.{Read, reading}

-- what is accepted is the text of the survey that it gives, and what comes behind it
abbrev pub AcceptedIsText : Type 0
AcceptedIsText = (bytes : List ℕ) (r : Read Survey) → reading bytes ≡ accepted r → bytes ≡ text r.got ++ r.rest

-- what is accepted keeps every rule
abbrev pub AcceptedIsValid : Type 0
AcceptedIsValid = (bytes : List ℕ) (r : Read Survey) → reading bytes ≡ accepted r → Valid r.got

-- the text of a survey that keeps the rules is read back, whatever comes behind it
abbrev pub ReadsBack : Type 0
ReadsBack = (s : Survey) → Valid s → (rest : List ℕ) → reading (text s ++ rest) ≡ accepted (record { got = s; rest = rest })

-- a survey that keeps the rules has one text: bytes that read as it begin with that text, and no other survey has it
abbrev pub OneText : Type 0
OneText = (s t : Survey) → Valid s → Valid t → (rest more : List ℕ) → text s ++ rest ≡ text t ++ more → (s ≡ t) × (rest ≡ more)

-- how long it is
abbrev pub TextLength : Type 0
TextLength = (s : Survey) → Valid s → length (text s) ≡ text_length_of s
