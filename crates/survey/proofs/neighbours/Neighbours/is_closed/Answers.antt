-- Each place is asked for the step from it, the last back to the first.
use Rattle.std.proofs.Common.{rules, tests, ◌≡◌, ℕ, zero, suc, ◌+◌, Bool, ◌&&◌, [], List, length, get_or, drop, sym, ap, ◌∙◌, arith}
use Rattle.std.specs.List.{list_all, enumerate_from}
use Rattle.std.proofs.lemmas.Iterator.{YieldsList-from_slice}
use Rattle.std.proofs.lemmas.Iterator.Consumers.{YieldsList-from_enumerate}
use Rattle.std.proofs.lemmas.Iterator.Search.{all_from_yields_List}
use Rattle.std.proofs.lemmas.List.{at_drop_more, at_drop_all}
use Rattle.survey.specs.Lists.{after}
use Rattle.survey.specs.Surveys.{Survey, all_linked, steps_from}
use Rattle.survey.specs.Views.{drawn}
use Rattle.survey.proofs.Fences.{steps_more, steps_whole}
use Rattle.survey.proofs.neighbours.Neighbours.is_closed.Goals as goal

module _ (s : Survey) (xs : List ℕ) where
  abbrev goes : ℕ × ℕ → Bool
  goes e = s.linked e.1 (after xs e.0)

  from_place : (n i : ℕ) → n + i ≡ length xs → list_all goes (enumerate_from i (drop i xs)) ≡ all_linked s (steps_from (get_or xs 0 0) (drop i xs))
  from_place zero i e =
      at_drop_all (λ ys. list_all goes (enumerate_from i ys)) xs i (omega arith)
      ∙ sym (at_drop_all (λ ys. all_linked s (steps_from (get_or xs 0 0) ys)) xs i (omega arith))
  from_place (suc n) i e =
      at_drop_more (λ ys. list_all goes (enumerate_from i ys)) xs i 0 (omega arith)
      ∙ ap (λ b. goes (i, get_or xs i 0) && b) (from_place n (i + 1) (omega arith))
      ∙ sym (ap (all_linked s) (steps_more xs i (omega arith)))

pub returns : goal.returns
returns c =
    let s = drawn c.args.self.now [] in
    let xs = c.args.fence.now in
    all_from_yields_List (goes s xs) _ _ c.all.result c.all.ensures.ran (YieldsList-from_enumerate (YieldsList-from_slice xs (cc)) (cc)) (λ x b q k. search (rules, tests))
    ∙ from_place s xs (length xs) 0 (omega arith) ∙ ap (all_linked s) (steps_whole xs)
