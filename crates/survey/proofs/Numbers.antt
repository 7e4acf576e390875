-- What the ranges 1..=n and (1..=n).rev() give.
use denote.Param.Members.{Mut}
use Rattle.std.specs.declared.iter.Filter.{Filter}
use Rattle.std.specs.declared.iter.Rev.{Rev}
use Rattle.std.specs.declared.ops.RangeInclusive.{RangeInclusive}
use Rattle.std.proofs.Common.{◌≡◌, ℕ, zero, suc, ◌+◌, ◌-◌, Bool, true, false, List, [], ◌∷◌, length, Some, None, Option, Bor, sym, refl, ap, ◌∙◌, subst, arith}
use Rattle.std.proofs.iter.runs.Sources.{nat_range_inclusive_steps, nat_range_inclusive_steps_back}
use Rattle.std.proofs.lemmas.Iterator.{YieldsList}
use Rattle.std.proofs.lemmas.Iterator.Consumers.{YieldsList-from_shown, YieldsList-from_filter, YieldsList-at}
use Rattle.std.specs.Fn.{CalledAt}
use Rattle.std.specs.Iterator.Adapters.{filter_source, filter_callee, filter_steps, rev_source, rev_steps}
use Rattle.std.specs.List.{filter}
use Rattle.std.specs.Range.{range_inclusive_start, range_inclusive_end, range_inclusive_exhausted, range_inclusive_len, range_inclusive_left}
use Rattle.survey.specs.Lists.{numbers}

abbrev count_left : RangeInclusive ℕ → ℕ
count_left s = range_inclusive_left (λ x y. y - x) s

abbrev left : RangeInclusive ℕ → List ℕ
left s = numbers (range_inclusive_start s) (count_left s)

left_none : (s t : RangeInclusive ℕ) → nat_range_inclusive_steps s None t → length (left s) ≡ 0
left_none s t h = ap (λ n. length (numbers (range_inclusive_start s) n)) h.1.0

left_some : (s : RangeInclusive ℕ) (x : ℕ) (t : RangeInclusive ℕ) → nat_range_inclusive_steps s (Some x) t → left s ≡ x ∷ left t
left_some s x t h =
    let n : count_left s ≡ suc (count_left t) = omega (arith, h.1.1) in
    ap (numbers (range_inclusive_start s)) n ∙ ap (λ k. k ∷ numbers (suc (range_inclusive_start s)) (count_left t)) (sym h.1.0)
    ∙ ap {B = List ℕ} (λ l. x ∷ l) (go (range_inclusive_exhausted t) refl)
  where
    go : (b : Bool) → range_inclusive_exhausted t ≡ b → numbers (suc (range_inclusive_start s)) (count_left t) ≡ left t
    go true e =
        let z : count_left t ≡ 0 = ap (range_inclusive_len (λ x y. y - x) (range_inclusive_start t) (range_inclusive_end t)) e in
        ap (numbers (suc (range_inclusive_start s))) z ∙ sym (ap (numbers (range_inclusive_start t)) z)
    go false e = let m : suc (range_inclusive_start s) ≡ range_inclusive_start t = omega (arith, h.1.2 e) in ap (λ k. numbers k (count_left t)) m

-- `1..=n` gives 1 to n
pub YieldsList-from_numbers : {s : RangeInclusive ℕ} (n : ℕ) → range_inclusive_start s ≡ 1 → range_inclusive_end s ≡ n → range_inclusive_exhausted s ≡ false
    → YieldsList nat_range_inclusive_steps (λ x. x) s (numbers 1 n)
YieldsList-from_numbers {s} n a b z =
    let fresh : count_left s ≡ range_inclusive_end s - range_inclusive_start s + 1 - (range_inclusive_start s - range_inclusive_end s) =
    ap (range_inclusive_len (λ x y. y - x) (range_inclusive_start s) (range_inclusive_end s)) z in
    let all : count_left s ≡ n = omega (arith, fresh) in
    let e : left s ≡ numbers 1 n = ap (numbers (range_inclusive_start s)) all ∙ ap (λ k. numbers k n) a in
    subst (λ l. YieldsList nat_range_inclusive_steps (λ x. x) s l) e (YieldsList-from_shown nat_range_inclusive_steps (λ x. x) left left_none left_some s)

-- and `(1..=n).filter(..)` those that pass
pub YieldsList-from_passing : {F : Type 0} {g : Mut F (Bor ℕ × Unit {0}) Bool} {f : F} {s : Filter (RangeInclusive ℕ) F} {range : RangeInclusive ℕ} (p : ℕ → Bool) (n : ℕ)
    → filter_source s ≡ range → range_inclusive_start range ≡ 1 → range_inclusive_end range ≡ n → range_inclusive_exhausted range ≡ false → filter_callee s ≡ f
    → ((x : ℕ) (b : Bool) (q : F) → CalledAt g f x b q → (q ≡ f) × (b ≡ p x)) → YieldsList (filter_steps nat_range_inclusive_steps g) (λ x. x) s (filter p (numbers 1 n))
YieldsList-from_passing {g = g} p n source a b z callee passes = YieldsList-from_filter g p (YieldsList-at source (YieldsList-from_numbers n a b z)) callee passes

-- m, m - 1, .., n of them
abbrev pub falling : ℕ → ℕ → List ℕ
falling m zero = []
falling m (suc n) = m ∷ falling (m - 1) n

abbrev above : Rev (RangeInclusive ℕ) → List ℕ
above r = falling (range_inclusive_end (rev_source r)) (count_left (rev_source r))

abbrev steps : Rev (RangeInclusive ℕ) → Option ℕ → Rev (RangeInclusive ℕ) → Type 0
steps = rev_steps nat_range_inclusive_steps_back

above_none : (r u : Rev (RangeInclusive ℕ)) → steps r None u → length (above r) ≡ 0
above_none r u h = ap (λ n. length (falling (range_inclusive_end (rev_source r)) n)) h.1.0

above_some : (r : Rev (RangeInclusive ℕ)) (x : ℕ) (u : Rev (RangeInclusive ℕ)) → steps r (Some x) u → above r ≡ x ∷ above u
above_some r x u h =
    let s = rev_source r in
    let t = rev_source u in
    let n : count_left s ≡ suc (count_left t) = omega (arith, h.1.1) in
    ap (falling (range_inclusive_end s)) n ∙ ap (λ m. m ∷ falling (range_inclusive_end s - 1) (count_left t)) (sym h.1.0)
    ∙ ap {B = List ℕ} (λ l. x ∷ l) (go (range_inclusive_exhausted t) refl)
  where
    go : (b : Bool) → range_inclusive_exhausted (rev_source u) ≡ b → falling (range_inclusive_end (rev_source r) - 1) (count_left (rev_source u)) ≡ above u
    go true e =
        let t = rev_source u in
        let z : count_left t ≡ 0 = ap (range_inclusive_len (λ x y. y - x) (range_inclusive_start t) (range_inclusive_end t)) e in
        ap (falling (range_inclusive_end (rev_source r) - 1)) z ∙ sym (ap (falling (range_inclusive_end t)) z)
    go false e =
        let m : range_inclusive_end (rev_source r) - 1 ≡ range_inclusive_end (rev_source u) = omega (arith, h.1.2 e) in
        ap (λ k. falling k (count_left (rev_source u))) m

-- `(1..=n).rev()` gives n to 1
pub YieldsList-from_falling : {r : Rev (RangeInclusive ℕ)} (s : RangeInclusive ℕ) (n : ℕ) → rev_source r ≡ s → range_inclusive_start s ≡ 1 → range_inclusive_end s ≡ n → range_inclusive_exhausted s ≡ false
    → YieldsList steps (λ x. x) r (falling n n)
YieldsList-from_falling {r} s n i a b z =
    let fresh : count_left s ≡ range_inclusive_end s - range_inclusive_start s + 1 - (range_inclusive_start s - range_inclusive_end s) =
    ap (range_inclusive_len (λ x y. y - x) (range_inclusive_start s) (range_inclusive_end s)) z in
    let all : count_left s ≡ n = omega (arith, fresh) in
    let e : above r ≡ falling n n = ap (λ t. falling (range_inclusive_end t) (count_left t)) i ∙ ap (falling (range_inclusive_end s)) all ∙ ap (λ k. falling k n) b in
    subst (λ l. YieldsList steps (λ x. x) r l) e (YieldsList-from_shown steps (λ x. x) above above_none above_some r)
