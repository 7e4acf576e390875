-- Each place is asked for the step from it, the last back to the first.
use Rattle.std.proofs.Common.{rules, tests, ◌≡◌, ℕ, zero, suc, ◌+◌, Bool, ◌&&◌, ◌||◌, eqb, List, length, get_or, drop, sym, ap, ◌∙◌, arith}
use Rattle.std.specs.List.{list_any, enumerate_from}
use Rattle.std.proofs.lemmas.Iterator.{YieldsList-from_slice}
use Rattle.std.proofs.lemmas.Iterator.Consumers.{YieldsList-from_enumerate}
use Rattle.std.proofs.lemmas.Iterator.Search.{any_from_yields_List}
use Rattle.std.proofs.lemmas.List.{at_drop_more, at_drop_all}
use Rattle.survey.specs.Lists.{after}
use Rattle.survey.specs.Surveys.{steps_from}
use Rattle.survey.proofs.Fences.{steps_more, steps_whole}
use Rattle.complex.specs.Boundaries.{has_step_of}
use Rattle.complex.proofs.boundary.has_step.Goals as goal

module _ (u v : ℕ) (xs : List ℕ) where
  abbrev goes : ℕ × ℕ → Bool
  goes e = eqb u e.1 && eqb v (after xs e.0)

  from_place : (n i : ℕ) → n + i ≡ length xs → list_any goes (enumerate_from i (drop i xs)) ≡ has_step_of u v (steps_from (get_or xs 0 0) (drop i xs))
  from_place zero i e =
      at_drop_all (λ ys. list_any goes (enumerate_from i ys)) xs i (omega arith)
      ∙ sym (at_drop_all (λ ys. has_step_of u v (steps_from (get_or xs 0 0) ys)) xs i (omega arith))
  from_place (suc n) i e =
      at_drop_more (λ ys. list_any goes (enumerate_from i ys)) xs i 0 (omega arith)
      ∙ ap (λ b. goes (i, get_or xs i 0) || b) (from_place n (i + 1) (omega arith))
      ∙ sym (ap (has_step_of u v) (steps_more xs i (omega arith)))

pub returns : goal.returns
returns c =
    let xs = c.args.fence.now in
    let u = c.args.u in
    let v = c.args.v in
    any_from_yields_List (goes u v xs) _ _ c.any.result c.any.ensures.ran (YieldsList-from_enumerate (YieldsList-from_slice xs (cc)) (cc)) (λ x b q k. search (rules, tests))
    ∙ from_place u v xs (length xs) 0 (omega arith) ∙ ap (has_step_of u v) (steps_whole xs)
