-- A filling stays when more sensors are on.
use Rattle.std.proofs.Common.{◌≡◌, ℕ, suc, ◌-◌, ◌<◌, Bool, true, false, cond, ◌&&◌, T, eqb, ltb, ◌⊎◌, List, [], ◌∷◌, length, get_or, sym, refl, ap, ◌∙◌, subst, subst₂, inl, inr, arith}
use native.Mathlib.Fin.{val_path as by_code}
use Rattle.std.specs.List.{AllByRecursion}
use Rattle.std.proofs.ByRecursion.{All-weaker, All-get_or, All-from_get_or}
use Rattle.std.proofs.lemmas.Bool.{cases_Bool, both_ways, and_parts, and_from, or_cases, or_left, or_right, eqb-true, eq-eqb, cond-false}
use Rattle.std.proofs.lemmas.Bool.Decides.{nat_tests}
use Rattle.field.specs.Algebra.{Operations, Laws}
use Rattle.field.specs.Arithmetic.{Arithmetic, FieldLaws}
use Rattle.field.proofs.Elements.{Element, elements, element_laws}
use Rattle.survey.specs.declared.edge.Edge.{Edge}
use Rattle.survey.specs.declared.edge.Triangle.{Triangle}
use Rattle.survey.specs.Lists.{member}
use Rattle.survey.specs.Surveys.{Survey, Sensors, sensors, edge, triangle, joined, edges, triangles, steps, steps_from}
use Rattle.survey.proofs.Lists.{false_from}
use Rattle.complex.specs.Systems.{Vector}
use Rattle.complex.specs.Boundaries.{has_step_of, no_edge, no_triangle, fence_entry, boundary_entry, system}
use Rattle.homology.specs.Linear.{Codes, combination}
use Rattle.homology.specs.Certificate.{HasFilling}
use Rattle.homology.specs.Sets.{Inside, KeepsFence, fenced}
use Rattle.homology.specs.Theorems.{FillingsGrow}
use Rattle.homology.proofs.Sums.{sum_below}
use Rattle.homology.proofs.Totals.{total_sum, lifted, lowered, lowered_codes}
use Rattle.homology.proofs.Certificates.{boundary_is_code, fence_is_code}
use Rattle.homology.proofs.Weighted.{all_if, all_gather, all_gather_over, weighted, weighted_sum, weighted_zero, Widens, leads_one, leads_gather, leads_widens}

pub true_from : (b : Bool) → T b → b ≡ true
true_from true t = refl
true_from false t = absurd t

pub from_true : (b : Bool) → b ≡ true → T b
from_true b e = subst T (sym e) tt

-- the ends of a step round a cycle are on it
step_from_ends : (u v first : ℕ) (xs : List ℕ) → has_step_of u v (steps_from first xs) ≡ true → (member u xs ≡ true) × ((member v xs ≡ true) ⊎ (v ≡ first))
step_from_ends u v first [] e = absurd (both_ways _ refl e)
step_from_ends u v first (x ∷ []) e = elim (or_cases _ _ e) [
  | inl h ↦ let p = and_parts (eqb u x) (eqb v first) h in (or_left _ _ p.0, inr (eqb-true v first p.1))
  | inr h ↦ absurd (both_ways _ refl h)
]
step_from_ends u v first (x ∷ (y ∷ ys)) e = elim (or_cases _ _ e) [
  | inl h ↦ let p = and_parts (eqb u x) (eqb v y) h in (or_left _ _ p.0, inl (or_right _ _ (or_left _ _ p.1)))
  | inr h ↦ let r = step_from_ends u v first (y ∷ ys) h in (or_right _ _ r.0, elim r.1 [ inl m ↦ inl (or_right _ _ m) | inr q ↦ inr q ])
]

step_ends : (u v : ℕ) (xs : List ℕ) → has_step_of u v (steps xs) ≡ true → (member u xs ≡ true) × (member v xs ≡ true)
step_ends u v [] e = absurd (both_ways _ refl e)
step_ends u v (x ∷ xs) e =
    let r = step_from_ends u v x (x ∷ xs) e in
    (r.0, elim r.1 [ inl m ↦ m | inr q ↦ or_left _ _ (eq-eqb v x q) ])

joined_ways : (l pa pb qa qb k : Bool) → (pa ≡ true → qa ≡ true) → (pb ≡ true → qb ≡ true) → (l && pa && pb && k) ≡ true → (l && qa && qb && k) ≡ true
joined_ways l pa pb qa qb k f g h = grind (arith, nat_tests)

-- Let the sensors p be among q, and have the fence. Every triangle of p is one of q, so the weights of a filling of p are weights
-- of triangles of q, with 0 at the others. On an edge of p nothing changes. An edge of q that is none of p is no side of a
-- triangle of p, and no step of the fence: both sides are 0 there.
module _ (s : Survey) (p q : Sensors) (more : Inside p q) (keeps : KeepsFence s p) where
  joined_stays : (a b : ℕ) → joined s p a b ≡ true → joined s q a b ≡ true
  joined_stays a b e =
      let on : (x : ℕ) → p x ≡ true → q x ≡ true = λ x e. true_from (q x) (more x (from_true (p x) e)) in
      joined_ways (ltb a b) (p a) (p b) (q a) (q b) (s.linked a b) (on a) (on b) e

  -- the test for a triangle
  abbrev solid : Sensors → ℕ → ℕ → ℕ → Bool
  solid o a b c = joined s o a b && joined s o a c && joined s o b c

  abbrev Sides : Sensors → Triangle → Type 0
  Sides o t = (joined s o t.a t.b ≡ true) × (joined s o t.a t.c ≡ true) × (joined s o t.b t.c ≡ true)

  sides : (o : Sensors) (a b c : ℕ) → solid o a b c ≡ true → Sides o (triangle a b c)
  sides o a b c e = let x = and_parts _ _ e in let y = and_parts _ _ x.0 in (y.0, y.1, x.1)

  solid_stays : (a b c : ℕ) → solid p a b c ≡ true → solid q a b c ≡ true
  solid_stays a b c e =
      let h = sides p a b c e in
      and_from _ _ (and_from _ _ (joined_stays a b h.0) (joined_stays a c h.1)) (joined_stays b c h.2)

  -- the sides of listed triangles are joined, and so are listed edges
  all_sides : AllByRecursion (Sides p) (triangles s p)
  all_sides =
      all_gather _ _ (sensors s) (λ a. all_gather _ _ (sensors s) (λ b. all_gather _ _ (sensors s) (λ c.
      all_if (Sides p) (triangle a b c) (solid p a b c) (sides p a b c))))

  abbrev Joined : Sensors → Edge → Type 0
  Joined o e = joined s o e.a e.b ≡ true

  all_joined : AllByRecursion (Joined q) (edges s q)
  all_joined = all_gather _ _ (sensors s) (λ a. all_gather _ _ (sensors s) (λ b. all_if (Joined q) (edge a b) (joined s q a b) (λ e. e)))

  -- what holds of every edge of p holds of the edges of q that are such
  carried : (P : Edge → Type 0) → AllByRecursion P (edges s p) → AllByRecursion (λ e. Joined p e → P e) (edges s q)
  carried P = all_gather_over P _ _ _ (sensors s) (λ a. all_gather_over P _ _ _ (sensors s) (λ b. one a b (joined s p a b) (joined s q a b) refl))
    where
      one : (a b : ℕ) (x y : Bool) → joined s p a b ≡ x → AllByRecursion P (cond x (edge a b ∷ []) []) → AllByRecursion (λ e. Joined p e → P e) (cond y (edge a b ∷ []) [])
      one a b x false o h = tt
      one a b true true o h = ((λ _. h.0), tt)
      one a b false true o h = ((λ e. absurd (both_ways _ o e)), tt)

  -- no edge of p: no side of a triangle, and no step of the fence
  not_side : (e : Edge) (u v : ℕ) → joined s p e.a e.b ≡ false → joined s p u v ≡ true → (eqb e.a u && eqb e.b v) ≡ false
  not_side e u v off on = false_from _ (λ h.
      let w = and_parts (eqb e.a u) (eqb e.b v) h in
      both_ways _ off (subst₂ (λ a b. joined s p a b ≡ true) (sym (eqb-true e.a u w.0)) (sym (eqb-true e.b v w.1)) on))

  not_fenced : (e : Edge) → Joined q e → joined s p e.a e.b ≡ false → fenced s e.a ≡ true → fenced s e.b ≡ true → ⊥
  not_fenced e on off u v =
      let has : (x : ℕ) → fenced s x ≡ true → p x ≡ true = λ x e. true_from (p x) (keeps x (from_true (fenced s x) e)) in
      both_ways _ off (joined_ways (ltb e.a e.b) (q e.a) (q e.b) (p e.a) (p e.b) (s.linked e.a e.b) (λ _. has e.a u) (λ _. has e.b v) on)

  module _ (F : Arithmetic) (f : FieldLaws F) where
    abbrev K : Operations (Element F)
    K = elements F f

    abbrev laws : Laws K
    laws = element_laws F f

    abbrev boundary : Edge → Triangle → Element F
    boundary e t = (boundary_entry F t e, boundary_is_code F f t e)

    abbrev aim : Edge → Element F
    aim e = (fence_entry F s.fence e, fence_is_code F f s e)

    boundary_off : (e : Edge) (t : Triangle) → joined s p e.a e.b ≡ false → Sides p t → boundary e t ≡ K.zero
    boundary_off e t off h = by_code (
        cond-false _ _ _ (not_side e t.b t.c off h.2) ∙ cond-false _ _ _ (not_side e t.a t.c off h.1) ∙ cond-false _ _ _ (not_side e t.a t.b off h.0))

    aim_off : (e : Edge) → Joined q e → joined s p e.a e.b ≡ false → aim e ≡ K.zero
    aim_off e on off = by_code (
        cond-false (has_step_of e.a e.b (steps s.fence)) _ _ (false_from _ (λ h. let m = step_ends e.a e.b s.fence h in not_fenced e on off m.0 m.1))
        ∙ cond-false (has_step_of e.b e.a (steps s.fence)) _ _ (false_from _ (λ h. let m = step_ends e.b e.a s.fence h in not_fenced e on off m.1 m.0)))

    -- a combination of the columns, as a weighted list of triangles
    by_list : (o : Sensors) (x : Vector) (cx : Codes F x) (r : ℕ)
        → combination F (length (triangles s o)) (system s o F).matrix x r ≡ (weighted K laws (triangles s o) (lifted F x cx) (boundary (get_or (edges s o) (r - 1) no_edge))).0
    by_list o x cx r =
        let e = get_or (edges s o) (r - 1) no_edge in
        let n = length (triangles s o) in
        total_sum F f n (λ t. K.mul (x t, cx t) (boundary e (get_or (triangles s o) (t - 1) no_triangle)))
        ∙ ap (λ z. z.0) (
        sum_below K laws n (λ i. K.mul (lifted F x cx i) (boundary e (get_or (triangles s o) (suc i - 1) no_triangle))) (λ i. K.mul (lifted F x cx i) (boundary e (get_or (triangles s o) i no_triangle)))
        (λ i _. let m : suc i - 1 ≡ i = omega arith in ap (λ j. K.mul (lifted F x cx i) (boundary e (get_or (triangles s o) j no_triangle))) m)
        ∙ sym (weighted_sum K laws no_triangle (triangles s o) (lifted F x cx) (boundary e)))

    widens : Widens K laws (triangles s p) (triangles s q)
    widens = leads_widens K laws (triangles s p) (triangles s q)
        (leads_gather K laws _ _ (sensors s) (λ a. leads_gather K laws _ _ (sensors s) (λ b. leads_gather K laws _ _ (sensors s) (λ c.
        leads_one K laws (triangle a b c) (solid p a b c) (solid q a b c) (solid_stays a b c)))))

    grown : HasFilling s p F → HasFilling s q F
    grown h =
        let x = h.0 in
        let solves = h.1 in
        let X = lifted F x solves.codes in
        let w = widens X in
        let y = lowered F w.0 in
        let Fits : Edge → Type 0 = λ e. weighted K laws (triangles s p) X (boundary e) ≡ aim e in
        let before : AllByRecursion Fits (edges s p) = All-from_get_or Fits (edges s p) no_edge (λ i l.
        let m : suc i - 1 ≡ i = omega arith in
        subst (λ j. Fits (get_or (edges s p) j no_edge)) m (by_code (sym (by_list p x solves.codes (suc i)) ∙ solves.reaches (suc i) (omega arith) (omega arith)))) in
        let each : (e : Edge) → Joined q e → (Joined p e → Fits e) → Fits e = λ e on have. elim (cases_Bool (joined s p e.a e.b)) [
          | inl t ↦ have t
          | inr o ↦
              weighted_zero K laws (triangles s p) X (boundary e) (All-weaker (Sides p) (λ t. boundary e t ≡ K.zero) (λ t sides. boundary_off e t o sides) (triangles s p) all_sides)
              ∙ sym (aim_off e on o)
        ] in (
          y,
          record {
            codes = lowered_codes F f w.0;
            reaches = λ r l m.
                let e = get_or (edges s q) (r - 1) no_edge in
                let here : r - 1 < length (edges s q) = omega arith in
                let fits : Fits e = each e (All-get_or _ (edges s q) (r - 1) no_edge here all_joined) (All-get_or _ (edges s q) (r - 1) no_edge here (carried Fits before)) in
                by_list q y (lowered_codes F f w.0) r ∙ ap (λ z. z.0) (sym (w.1 (boundary e)) ∙ fits);
          },
        )

pub fillings_grow_lem : FillingsGrow
fillings_grow_lem s p q F f more keeps h = grown s p q more keeps F f h
