-- Lists that ascend: each element is below each later one, what one comparison says of a whole half, and what a test of neighbours says.
use Rattle.std.proofs.Common.{◌≡◌, ℕ, zero, suc, ◌+◌, ◌-◌, ◌<◌, ◌≤◌, Bool, true, false, ◌&&◌, List, [], ◌∷◌, length, get_or, drop, Ordering, Less, Equal, Greater, sym, refl, ap, ◌∙◌, subst, ap₂, ⊎_elim, true≢false, add-one, arith}
use Rattle.std.specs.List.{AllByRecursion, AllPairs, IsAllAdjacentAnswer}
use Rattle.std.specs.Ordering.{MatchOrdering, is_lt, nat_cmp, ordering_then}
use Rattle.std.proofs.ByRecursion.{All-get_or, All-weaker}
use Rattle.std.proofs.lemmas.List.{get_or_read, at_drop_more, at_drop_all}
use Rattle.std.proofs.lemmas.Bool.{and_parts, and_from, cases_lt}
use Rattle.std.proofs.lemmas.Bool.Decides.{nat_tests}
use Rattle.survey.specs.declared.edge.Edge.{Edge}
use Rattle.survey.specs.declared.edge.Triangle.{Triangle}
use Rattle.complex.specs.OrderLaws.{edge_decides, edge_same, triangle_decides, triangle_same}
use Rattle.complex.specs.Orders.{ascends, ascends_from, edge_less, triangle_less, Stands}

module _ {R : Type 0} (less : R → R → Bool) where
  abbrev pub Apart : Type 0
  Apart = (x : R) → less x x ≡ false

  abbrev pub Chained : Type 0
  Chained = (x y z : R) → less x y ≡ true → less y z ≡ true → less x z ≡ true

  -- each element is below all later ones
  abbrev pub Sorted : List R → Type 0
  Sorted [] = Unit {0}
  Sorted (x ∷ xs) = AllByRecursion (λ y. less x y ≡ true) xs × Sorted xs

  -- each element is below each later one
  abbrev pub Ascending : List R → Type 0
  Ascending xs = AllPairs (λ x y. less x y ≡ true) xs

  sorted_from : Chained → (x : R) (xs : List R) → ascends_from less x xs ≡ true → Sorted (x ∷ xs)
  sorted_from ch x [] e = (tt, tt)
  sorted_from ch x (y ∷ ys) e =
      let p = and_parts (less x y) (ascends_from less y ys) e in
      let s = sorted_from ch y ys p.1 in
      ((p.0, All-weaker (λ z. less y z ≡ true) (λ z. less x z ≡ true) (λ z h. ch x y z p.0 h) ys s.0), s)

  pub ascends_sorted : Chained → (xs : List R) → ascends less xs ≡ true → Sorted xs
  ascends_sorted ch [] e = tt
  ascends_sorted ch (x ∷ xs) e = sorted_from ch x xs e

  from_sorted : (x : R) (xs : List R) → Sorted (x ∷ xs) → ascends_from less x xs ≡ true
  from_sorted x [] s = refl
  from_sorted x (y ∷ ys) s = and_from (less x y) (ascends_from less y ys) s.0.0 (from_sorted y ys s.1)

  pub sorted_ascends : (xs : List R) → Sorted xs → ascends less xs ≡ true
  sorted_ascends [] s = refl
  sorted_ascends (x ∷ xs) s = from_sorted x xs s

  pub sorted_far : (xs : List R) → Sorted xs → Ascending xs
  sorted_far [] h i j d lt in' = absurd (omega arith)
  sorted_far (x ∷ xs) h i zero d lt in' = absurd (omega arith)
  sorted_far (x ∷ xs) h zero (suc j) d lt in' = All-get_or (λ y. less x y ≡ true) xs j d (omega arith) h.0
  sorted_far (x ∷ xs) h (suc i) (suc j) d lt in' = sorted_far xs h.1 i j d (omega arith) (omega arith)

  pub ascends_far : Chained → (xs : List R) → ascends less xs ≡ true → Ascending xs
  ascends_far ch xs e = sorted_far xs (ascends_sorted ch xs e)

  -- each below the next is enough
  steps_from : (x : R) (xs : List R) → ((k : ℕ) (d : R) → suc k < length (x ∷ xs) → less (get_or (x ∷ xs) k d) (get_or (x ∷ xs) (suc k) d) ≡ true) → ascends_from less x xs ≡ true
  steps_from x [] h = refl
  steps_from x (y ∷ ys) h = and_from (less x y) (ascends_from less y ys) (h 0 x (omega arith)) (steps_from y ys (λ k d l. h (suc k) d (omega arith)))

  pub steps_ascend : (xs : List R) → ((k : ℕ) (d : R) → suc k < length xs → less (get_or xs k d) (get_or xs (suc k) d) ≡ true) → ascends less xs ≡ true
  steps_ascend [] h = refl
  steps_ascend (x ∷ xs) h = steps_from x xs h

  -- a test of each element and the next
  pub adjacent_ascends : Chained → (xs : List R) (r : Bool) → IsAllAdjacentAnswer (λ x y b. b ≡ less x y) xs r → r ≡ ascends less xs
  adjacent_ascends ch xs true h = sym (steps_ascend xs (λ k d l. rw (← add-one) (sym (h k d (omega arith)))))
  adjacent_ascends ch [] false h = absurd (let l = h.1 in omega arith)
  adjacent_ascends ch (x ∷ xs) false h = go (ascends less (x ∷ xs)) refl
    where
      go : (t : Bool) → ascends less (x ∷ xs) ≡ t → false ≡ t
      go true e = h.2 x ∙ ascends_far ch (x ∷ xs) e h.0 (h.0 + 1) x (omega arith) h.1
      go false e = refl

  -- what is not less
  pub not_less : Apart → Chained → (x y : R) → less y x ≡ true → less x y ≡ false
  not_less ap' ch x y h = go (less x y) refl
    where
      go : (t : Bool) → less x y ≡ t → t ≡ false
      go true e = absurd (true≢false (sym (ch x y x e h) ∙ ap' x))
      go false e = refl

  pub not_less_same : Apart → (x y : R) → x ≡ y → less x y ≡ false
  not_less_same ap' x y e = ap (less x) (sym e) ∙ ap' x

-- a search that halves a list: an element x at the place m is compared with w
module _ {R : Type 0} (less : R → R → Bool) (chained : Chained less) (xs : List R) (m : ℕ) (x w : R) (in' : m < length xs) (read : x ≡ get_or xs m x) where
  pub lower_half : less x w ≡ true → ascends less xs ≡ true → (i : ℕ) (d : R) → i < m + 1 → i < length xs → less (get_or xs i d) w ≡ true
  lower_half h up i d lt _ =
      let at : less (get_or xs m d) w ≡ true = subst (λ y. less y w ≡ true) (get_or_read xs m x in' read d) h in
      ⊎_elim (λ l. chained _ _ _ (ascends_far less chained xs up i m d l in') at) (λ g. let e : i ≡ m = omega arith in subst (λ k. less (get_or xs k d) w ≡ true) (sym e) at) (cases_lt i m)

  pub upper_half : less w x ≡ true → ascends less xs ≡ true → (i : ℕ) (d : R) → m ≤ i → i < length xs → less w (get_or xs i d) ≡ true
  upper_half h up i d ge lt =
      let at : less w (get_or xs m d) ≡ true = subst (λ y. less w y ≡ true) (get_or_read xs m x in' read d) h in
      ⊎_elim (λ l. chained _ _ _ at (ascends_far less chained xs up m i d l lt)) (λ g. let e : i ≡ m = omega arith in subst (λ k. less w (get_or xs k d) ≡ true) (sym e) at) (cases_lt m i)

-- an element that stands in neither half stands nowhere
pub nowhere : {R : Type 0} (less : R → R → Bool) → Apart less → (xs : List R) (w : R) (low high : ℕ)
    → ((i : ℕ) (d : R) → i < low → i < length xs → less (get_or xs i d) w ≡ true) → ((i : ℕ) (d : R) → high ≤ i → i < length xs → less w (get_or xs i d) ≡ true)
    → high ≤ low → (i : ℕ) → Stands xs i w → ⊥
nowhere less apart xs w low high below above met i s =
    ⊎_elim
    (λ l. true≢false (sym (subst (λ y. less y w ≡ true) (s.1 w) (below i w l s.0)) ∙ apart w))
    (λ g. true≢false (sym (subst (λ y. less w y ≡ true) (s.1 w) (above i w (omega arith) s.0)) ∙ apart w))
    (cases_lt i low)

-- a loop that compares each element with the one before it: at the place i, what is still to be compared
abbrev pub rest_ascends : {R : Type 0} → (R → R → Bool) → List R → ℕ → Bool
rest_ascends less [] i = true
rest_ascends less (x ∷ xs) i = ascends_from less (get_or (x ∷ xs) (i - 1) x) (drop i (x ∷ xs))

pub rest_more : {R : Type 0} (less : R → R → Bool) (xs : List R) (i : ℕ) (x y : R) (b : Bool) → 1 ≤ i → i < length xs
    → x ≡ get_or xs (i - 1) x → y ≡ get_or xs i y → less x y ≡ b → rest_ascends less xs i ≡ (b && rest_ascends less xs (i + 1))
rest_more less [] i x y b l h ex ey t = absurd (omega arith)
rest_more less (z ∷ zs) i x y b l h ex ey t =
    let xs = z ∷ zs in
    let first : get_or xs (i - 1) z ≡ x = sym (get_or_read xs (i - 1) x (omega arith) ex z) in
    let second : get_or xs i z ≡ y = sym (get_or_read xs i y h ey z) in
    let at : i ≡ i + 1 - 1 = omega arith in
    at_drop_more (ascends_from less (get_or xs (i - 1) z)) xs i z h
    ∙ ap₂ (λ p q. less p q && ascends_from less (get_or xs i z) (drop (i + 1) xs)) first second
    ∙ ap₂ (λ p k. p && ascends_from less (get_or xs k z) (drop (i + 1) xs)) t at

pub rest_all : {R : Type 0} (less : R → R → Bool) (xs : List R) (i : ℕ) → length xs ≤ i → rest_ascends less xs i ≡ true
rest_all less [] i l = refl
rest_all less (z ∷ zs) i l = at_drop_all (ascends_from less (get_or (z ∷ zs) (i - 1) z)) (z ∷ zs) i l

-- a comparison that is not `Less`
pub ranked_not : {R : Type 0} (less : R → R → Bool) → Apart less → Chained less → (x y : R) (o : Ordering)
    → MatchOrdering o (less x y ≡ true) (x ≡ y) (less y x ≡ true) → (o ≡ Less → ⊥) → less x y ≡ false
ranked_not less ap' ch x y Less r n = absurd (n refl)
ranked_not less ap' ch x y Equal r n = not_less_same less ap' x y r
ranked_not less ap' ch x y Greater r n = not_less less ap' ch x y r

-- a comparison answers by `less`
pub ranked_less : {R : Type 0} (less : R → R → Bool) → Apart less → Chained less → (x y : R) (o : Ordering)
    → MatchOrdering o (less x y ≡ true) (x ≡ y) (less y x ≡ true) → is_lt o ≡ less x y
ranked_less less ap' ch x y Less r = sym r
ranked_less less ap' ch x y Equal r = sym (not_less_same less ap' x y r)
ranked_less less ap' ch x y Greater r = sym (not_less less ap' ch x y r)

-- comparing edges and triangles field by field ranks them by their orders
pub edge_ranked : (x y : Edge) (o : Ordering) → o ≡ ordering_then (nat_cmp x.a y.a) (nat_cmp x.b y.b)
    → MatchOrdering o (edge_less x y ≡ true) (x ≡ y) (edge_less y x ≡ true)
edge_ranked x y Less e = sym (edge_decides x y) ∙ ap is_lt (sym e)
edge_ranked x y Equal e = edge_same x y (sym e)
edge_ranked x y Greater e = grind (arith, nat_tests)

pub triangle_ranked : (x y : Triangle) (o : Ordering) → o ≡ ordering_then (nat_cmp x.a y.a) (ordering_then (nat_cmp x.b y.b) (nat_cmp x.c y.c))
    → MatchOrdering o (triangle_less x y ≡ true) (x ≡ y) (triangle_less y x ≡ true)
triangle_ranked x y Less e = sym (triangle_decides x y) ∙ ap is_lt (sym e)
triangle_ranked x y Equal e = triangle_same x y (sym e)
triangle_ranked x y Greater e = grind (arith, nat_tests)
