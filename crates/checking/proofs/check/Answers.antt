-- A survey's lists fit the tables, so that they are listed whole, and the grid holds the starting matrix.
use Rattle.std.proofs.Common.{◌≤◌, length, replicate, ap, ◌∙◌, ap₂, arith}
use Rattle.survey.specs.Plans.{survey_of}
use Rattle.survey.specs.Sets.{set_of}
use Rattle.survey.specs.Surveys.{edges, triangles, everyone}
use Rattle.complex.specs.Boundaries.{no_edge, no_triangle, system}
use Rattle.complex.proofs.Listed.{listed_take}
use Rattle.complex.specs.Systems.{starting_matrix}
use Rattle.checking.specs.Claims.{verdict}
use Rattle.checking.specs.Equations.{system_in}
use Rattle.checking.proofs.Starting.{starting_surveyed, verdict_starting}
use Rattle.checking.proofs.Tables.{few_edges, few_triangles, never_refused, all_counted}
use Rattle.checking.proofs.check.Goals as goal

pub returns-in_err-edge_count : goal.returns-in_err-edge_count
returns-in_err-edge_count g c =
    let s = survey_of c.args.survey.now in
    let few : length (edges s everyone) ≤ 512 = omega arith in
    absurd (never_refused _ (replicate 512 no_edge) (few_edges s (set_of c.args.on.now) few) _ c.in_err-edge_count.ensures.answer)

pub returns-in_err-triangle_count : goal.returns-in_err-triangle_count
returns-in_err-triangle_count g c =
    let s = survey_of c.args.survey.now in
    let few : length (triangles s everyone) ≤ 1024 = omega arith in
    absurd (never_refused _ (replicate 1024 no_triangle) (few_triangles s (set_of c.args.on.now) few) _ c.in_err-triangle_count.ensures.answer)

pub returns : goal.returns
returns g c =
    let s = survey_of c.args.survey.now in
    let on = set_of c.args.on.now in
    let F = g.F.Field.arithmetic c.args.field.now in
    let S = system s on F in
    let links : length (edges s everyone) ≤ 512 = omega arith in
    let thirds : length (triangles s everyone) ≤ 1024 = omega arith in
    let edge_list = c.in_ok-edge_count.ensures in
    let triangle_list = c.in_ok-triangle_count.ensures in
    let rows = all_counted (edges s on) (replicate 512 c.default-edges.result) (few_edges s on links) _ edge_list.answer in
    let columns = all_counted (triangles s on) (replicate 1024 c.default-triangles.result) (few_triangles s on thirds) _ triangle_list.answer in
    let es = listed_take (edges s on) (replicate 512 c.default-edges.result) _ _ edge_list.answer edge_list.after in
    let ts = listed_take (triangles s on) (replicate 1024 c.default-triangles.result) _ _ triangle_list.answer triangle_list.after in
    let holds = starting_surveyed s on F links thirds _ _ _ _ _ es ts c.fence.ensures c.negative.ensures c.new-grid.ensures.holds in
    c.judge.ensures
    ∙ ap (λ m. verdict F (system_in c.in_ok-edge_count.edge_count c.in_ok-triangle_count.triangle_count m) c.args.claim c.args.codes.now) holds
    ∙ ap₂ (λ e t. verdict F (system_in e t (starting_matrix S)) c.args.claim c.args.codes.now) rows columns
    ∙ verdict_starting F (g.met.F.Field.laws c.args.field.now) S c.args.claim c.args.codes.now
