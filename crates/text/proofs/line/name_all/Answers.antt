-- The list does not rise, or one neighbour more is named.
use Rattle.std.proofs.Common.{refl, sym, ltb, rules}
use Rattle.std.proofs.lemmas.Bool.{ltb-true, ltb-false}
use Rattle.std.proofs.lemmas.List.Sorted.{answers_always}
use Rattle.text.proofs.Rising.{Ascends, rising_unsorted}
use Rattle.text.proofs.Naming.{names_on_none, names_on_more}
use Rattle.text.proofs.line.name_all.Goals as goal

pub returns-then-not-is_sorted_by : goal.returns-then-not-is_sorted_by
returns-then-not-is_sorted_by c =
    let at = rw c.if-not-is_sorted_by.true at (c.is_sorted_by.ensures.cases ltb (answers_always _ _ _ (λ f a r g h. search rules))) in
    (rising_unsorted _ _ c.args.list.now at.0 at.1 (ltb-false _ _ (sym (at.2 0))), refl)

ascends : (c : goal.Else-not-is_sorted_by) → Ascends c.args.list.now
ascends c k l =
    let all = rw c.if-not-is_sorted_by.false at (c.is_sorted_by.ensures.cases ltb (answers_always _ _ _ (λ f a r g h. search rules))) in
    ltb-true _ _ (sym (all k 0 l))

pub loop-y-init : goal.loop-y-init
loop-y-init c = names_on_none _ _ _ (ascends c)

pub loop-y-preserved : goal.loop-y-preserved
loop-y-preserved c = names_on_more _ _ _ _ _ c.loop-y.invariant _ c.loop-y-test.true c.requires.0 c.requires.1 c.in_ok-add.ensures.answer
