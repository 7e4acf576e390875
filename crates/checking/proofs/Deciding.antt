-- What the answer says: by the equations, and for a list of zeros.
use Rattle.std.proofs.Common.{◌≡◌, ℕ, zero, suc, ◌-◌, ◌<◌, Bool, true, false, ◌&&◌, List, [], ◌∷◌, get_or, sym, refl, ap, ◌∙◌, subst, inl, inr, arith}
use Rattle.std.proofs.ByRecursion.{All-from_get_or}
use Rattle.std.proofs.lemmas.Bool.{cases_Bool, both_ways, and_parts, and_from, or_parts, or_from, not-false, eqb-true, eq-eqb, leb-false, lt-leb}
use Rattle.refusal.specs.Outcomes.{accepted}
use Rattle.refusal.proofs.Outcomes.{left_parts, same_from_accepted}
use Rattle.field.specs.Arithmetic.{Arithmetic, FieldLaws}
use Rattle.field.proofs.Elements.{zero_code, zero_product_code}
use Rattle.survey.specs.Sets.{KeepsFence}
use Rattle.survey.specs.Surveys.{Survey, Sensors, Valid, edges}
use Rattle.complex.specs.Boundaries.{no_edge, fence_entry, system}
use Rattle.complex.specs.Systems.{Vector, System}
use Rattle.homology.specs.Certificate.{vector}
use Rattle.homology.specs.Linear.{Codes, total}
use Rattle.homology.proofs.Totals.{total_zero}
use Rattle.homology.specs.declared.kind.Kind.{Kind}
use Rattle.homology.specs.declared.kind.Kind.TheVariants.{Filling, Block}
use Rattle.checking.specs.Claims.{has_outside_of, has_nonzero_of, claimed, forms, verdict}
use Rattle.checking.specs.Theorems.{Forms, Decided, CheckDecides}
use Rattle.checking.proofs.Agreeing.{agree_true, agree_from}
use Rattle.checking.proofs.Fences.{fence_not_zero}
use Rattle.checking.proofs.Verdicts.{verdict_formed}

-- the test and what it tests
module _ (F : Arithmetic) (S : System) where
  forms_true : (claim : Kind) (x : Vector) → Codes F x → forms F S claim x ≡ true → Forms F S claim x
  forms_true Filling x codes e = record { codes = codes; reaches = agree_true S.rows _ _ e }
  forms_true Block y codes e =
      let parts = and_parts _ _ e in
      record { codes = codes; closed = agree_true S.columns _ _ parts.0; one = eqb-true _ 1 parts.1 }

  forms_from : (claim : Kind) (x : Vector) → Forms F S claim x → forms F S claim x ≡ true
  forms_from Filling x h = agree_from S.rows _ _ h.reaches
  forms_from Block y h = and_from _ _ (agree_from S.columns _ _ h.closed) (eq-eqb _ 1 h.one)

  forms_codes : (claim : Kind) (x : Vector) → Forms F S claim x → Codes F x
  forms_codes Filling x h = h.codes
  forms_codes Block y h = h.codes

-- a list with none outside, as a vector, and a list of zeros
module _ (F : Arithmetic) (f : FieldLaws F) where
  listed_code : (xs : List ℕ) → has_outside_of F xs ≡ false → (i : ℕ) → get_or xs i 0 < F.order
  listed_code [] e i = zero_code F f
  listed_code (x ∷ xs) e zero = leb-false F.order x (or_parts _ _ e).0
  listed_code (x ∷ xs) e (suc i) = listed_code xs (or_parts _ _ e).1 i

  none_outside : (xs : List ℕ) → ((i : ℕ) → get_or xs i 0 < F.order) → has_outside_of F xs ≡ false
  none_outside [] h = refl
  none_outside (x ∷ xs) h = or_from _ _ (lt-leb F.order x (h 0)) (none_outside xs (λ i. h (suc i)))

  vector_codes : (xs : List ℕ) → has_outside_of F xs ≡ false → Codes F (vector xs)
  vector_codes xs e zero = zero_code F f
  vector_codes xs e (suc i) = listed_code xs e i

listed_zero : (xs : List ℕ) → has_nonzero_of xs ≡ false → (i : ℕ) → get_or xs i 0 ≡ 0
listed_zero [] e i = refl
listed_zero (x ∷ xs) e zero = eqb-true x 0 (not-false _ (or_parts _ _ e).0)
listed_zero (x ∷ xs) e (suc i) = listed_zero xs (or_parts _ _ e).1 i

vector_zero : (xs : List ℕ) → has_nonzero_of xs ≡ false → (i : ℕ) → vector xs i ≡ 0
vector_zero xs e zero = refl
vector_zero xs e (suc i) = listed_zero xs e i

-- zeros weigh every sum to 0, and neither 1 nor the fence vector is 0
module _ (s : Survey) (on : Sensors) (F : Arithmetic) (f : FieldLaws F) (valid : Valid s) (keeps : KeepsFence s on) where
  weighed_zero : (n : ℕ) (x d : Vector) → ((i : ℕ) → x i ≡ 0) → total F n (λ i. F.product (x i) (d i)) ≡ 0
  weighed_zero n x d z = total_zero F f n _ (λ i _ _. ap (λ k. F.product k (d i)) (z i) ∙ zero_product_code F f (d i))

  zeros_form_nothing : (claim : Kind) (x : Vector) → ((i : ℕ) → x i ≡ 0) → Forms F (system s on F) claim x → ⊥
  zeros_form_nothing Filling x z h = fence_not_zero s valid on keeps F f (All-from_get_or _ (edges s on) no_edge (λ i l.
      let place : suc i - 1 ≡ i = omega arith in
      subst (λ j. fence_entry F s.fence (get_or (edges s on) j no_edge) ≡ 0) place
      (sym (h.reaches (suc i) (omega arith) (omega arith)) ∙ weighed_zero (system s on F).columns x ((system s on F).matrix (suc i)) z)))
  zeros_form_nothing Block y z h =
      let one : ◌≡◌ {A = ℕ} 0 1 = sym (weighed_zero (system s on F).rows y (system s on F).target z) ∙ h.one in
      omega arith

module _ (s : Survey) (on : Sensors) (F : Arithmetic) (f : FieldLaws F) (claim : Kind) (codes : List ℕ) where
  abbrev S : System
  S = system s on F

  abbrev front : List ℕ
  front = claimed S claim codes

  -- what an answer tells of the tests
  tests : (b : Bool) → verdict F S claim codes ≡ accepted b → (has_outside_of F front ≡ false) × ((has_nonzero_of front && forms F S claim (vector front)) ≡ b)
  tests b e =
      let enough = left_parts _ _ 16 b e in
      let inside = left_parts _ _ 22 b enough.1 in
      (inside.0, same_from_accepted inside.1)

  not_formed : verdict F S claim codes ≡ accepted false → has_nonzero_of front ≡ true → Forms F S claim (vector front) → ⊥
  not_formed e some h = both_ways _ (tests false e).1 (and_from _ _ some (forms_from F S claim (vector front) h))

  some_nonzero : Valid s → KeepsFence s on → Forms F S claim (vector front) → has_nonzero_of front ≡ true
  some_nonzero valid keeps h = elim (cases_Bool (has_nonzero_of front)) [
    | inl some ↦ some
    | inr none ↦ absurd (zeros_form_nothing s on F f valid keeps claim (vector front) (vector_zero front none) h)
  ]

  decided : Decided s on F claim codes
  decided = record {
    yes = λ e. (let t = tests true e in forms_true F S claim (vector front) (vector_codes F f front t.0) (and_parts _ _ t.1).1);
    no = not_formed;
    no_fenced = λ valid keeps e h. not_formed e (some_nonzero valid keeps h) h;
    all_fenced = λ valid keeps enough h. sym (verdict_formed F S claim codes _ enough refl true
        (sym (none_outside F f front (λ i. forms_codes F S claim (vector front) h (suc i)))) (sym (some_nonzero valid keeps h)) (sym (forms_from F S claim (vector front) h)));
  }

pub check_decides_lem : CheckDecides
check_decides_lem = decided
