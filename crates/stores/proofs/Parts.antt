-- A position in a part of a list is a place of the list.
use Rattle.std.proofs.Common.{◌≡◌, ℕ, ◌+◌, ◌-◌, ◌<◌, ◌≤◌, ◌≢◌, List, length, get_or, take, drop, Some, None, Option, sym, ap, subst, ◌∙◌, arith, length-drop}
use Rattle.std.proofs.lemmas.List.{get_or-drop, get_or-take, length-take-le}
use Rattle.std.specs.Option.{MatchOption}
use Rattle.std.specs.List.{AllWithin, HoldsAt}
use Rattle.stores.specs.Packed.{Scanned}

module _ (xs : List ℕ) (start end : ℕ) (from : start ≤ end) (to : end ≤ length xs) where
  abbrev pub part : List ℕ
  part = take (end - start) (drop start xs)

  long : length part ≡ end - start
  long = length-take-le (end - start) (drop start xs) (omega (arith, length-drop start xs))

  at : (k : ℕ) → k < end - start → get_or part k 0 ≡ get_or xs (start + k) 0
  at k l = get_or-take (end - start) (drop start xs) k 0 l ∙ get_or-drop start xs k 0

  zero_at : (n : ℕ) → n ≤ end - start → AllWithin (λ x. x ≡ 0) part 0 n → (q : ℕ) → start ≤ q → q < start + n → get_or xs q 0 ≡ 0
  zero_at n l h q a b =
      let here : start + (q - start) ≡ q = omega arith in
      sym (at (q - start) (omega arith) ∙ ap (λ i. get_or xs i 0) here) ∙ h (q - start) 0 (omega arith) (omega arith)

  -- the position that a search in the part gave
  abbrev pub InPart : Option ℕ → Type 0
  InPart o = MatchOption o (AllWithin (λ x. x ≡ 0) part 0 (length part)) (λ i. (i < length part) × HoldsAt (λ x. x ≢ 0) part i × AllWithin (λ x. x ≡ 0) part 0 i)

  pub part_none : (o : Option ℕ) → InPart o → o ≡ None → Scanned (λ i. get_or xs i 0) start end None
  part_none o d e = λ q a b. zero_at (length part) (omega (arith, long)) (subst InPart e d) q a (omega (arith, long))

  pub part_some : (o : Option ℕ) (i : ℕ) → InPart o → o ≡ Some i → Scanned (λ i. get_or xs i 0) start end (Some (start + i))
  part_some o i d e = let h = subst InPart e d in (omega arith, omega (arith, h.0, long), λ z. h.1 0 (at i (omega (arith, h.0, long)) ∙ z), zero_at i (omega (arith, h.0, long)) h.2)
