-- Tables of flags: one value everywhere, and one flag set.
use Rattle.std.proofs.Common.{◌≡◌, ℕ, zero, suc, ◌<◌, Bool, true, false, ◌&&◌, ◌||◌, eqb, List, [], length, get_or, set, replicate, sym, refl, ap, ap₂, ◌∙◌, inl, inr, get_or-set_other, get_or-set_same}
use Rattle.std.proofs.lemmas.Bool.{cases_eq, eq-eqb, ne_eqb}
use Rattle.survey.specs.Tables.{at}

-- a row of one value reads that value everywhere, past its end too
pub getD_one_value : {A : Type 0} (n i : ℕ) (a : A) → get_or (replicate n a) i a ≡ a
getD_one_value zero zero a = refl
getD_one_value zero (suc i) a = refl
getD_one_value (suc n) zero a = refl
getD_one_value (suc n) (suc i) a = getD_one_value n i a

pub at_blank : (m n x y : ℕ) → at (replicate m (replicate n false)) x y ≡ false
at_blank zero n zero zero = refl
at_blank zero n (suc x) zero = refl
at_blank zero n zero (suc y) = refl
at_blank zero n (suc x) (suc y) = refl
at_blank (suc m) n zero y = getD_one_value n y false
at_blank (suc m) n (suc x) y = at_blank m n x y

-- a table of flags after one more is set
pub getD_set_true : (met : List Bool) (x y : ℕ) → x < length met → get_or (set met x true) y false ≡ (eqb y x || get_or met y false)
getD_set_true met x y h = elim (cases_eq y x) [
  | inl e ↦ ap (λ k. get_or (set met x true) k false) e ∙ get_or-set_same met x true false h ∙ sym (ap (λ b. b || get_or met y false) (eq-eqb y x e))
  | inr d ↦ get_or-set_other met x y true false d ∙ sym (ap (λ b. b || get_or met y false) (ne_eqb y x d))
]

-- a table of rows after one more flag is set
pub at_set_true : (rows : List (List Bool)) (x y a b : ℕ) → x < length rows → y < length (get_or rows x [])
    → at (set rows x (set (get_or rows x []) y true)) a b ≡ ((eqb a x && eqb b y) || at rows a b)
at_set_true rows x y a b l m = elim (cases_eq a x) [
  | inl e ↦
      ap (λ r. get_or r b false) (ap (λ i. get_or (set rows x (set (get_or rows x []) y true)) i []) e ∙ get_or-set_same rows x _ [] l)
      ∙ getD_set_true (get_or rows x []) y b m
      ∙ sym (ap₂ (λ t i. (t && eqb b y) || at rows i b) (eq-eqb a x e) e)
  | inr d ↦
      ap (λ r. get_or r b false) (get_or-set_other rows x a _ [] d)
      ∙ sym (ap (λ t. (t && eqb b y) || at rows a b) (ne_eqb a x d))
]
