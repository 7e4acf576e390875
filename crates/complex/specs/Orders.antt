-- Lists that ascend in a total order, places in them, and the lexicographic orders of edges and triangles.
use Rattle.std.specs.Prelude.{◌≡◌, ℕ, ◌<◌, Bool, true, cond, ◌&&◌, List, [], ◌∷◌, length, Some, None, Option, ◌==◌, nat_lt, slice_index_or}
use Rattle.survey.specs.declared.edge.Edge.{Edge}
use Rattle.survey.specs.declared.edge.Triangle.{Triangle}

module _ {R : Type 0} (less : R → R → Bool) where
  -- is each of the list above the one before it, and the first above x?
  abbrev pub ascends_from : R → List R → Bool
  ascends_from x [] = true
  ascends_from x (y ∷ ys) = less x y && ascends_from y ys

  -- is each above the one before it?
  abbrev pub ascends : List R → Bool
  ascends [] = true
  ascends (x ∷ xs) = ascends_from x xs

-- x stands in the list at the place i
abbrev pub Stands : {R : Type 0} → List R → ℕ → R → Type 0
Stands {R} xs i x = (i < length xs) × ((d : R) → slice_index_or xs i d ≡ x)

-- a place that was found holds x; if none was, x stands nowhere in the list, should it ascend
abbrev pub Found : {R : Type 0} → (R → R → Bool) → List R → R → Option ℕ → Type 0
Found less xs x None = ascends less xs ≡ true → (i : ℕ) → Stands xs i x → ⊥
Found less xs x (Some i) = Stands xs i x

abbrev pub edge_less : Edge → Edge → Bool
edge_less x y = cond (x.a == y.a) (nat_lt x.b y.b) (nat_lt x.a y.a)

abbrev pub triangle_less : Triangle → Triangle → Bool
triangle_less x y = cond (x.a == y.a) (cond (x.b == y.b) (nat_lt x.c y.c) (nat_lt x.b y.b)) (nat_lt x.a y.a)
