-- Lists with elements left out: gathered from runs, a list is a sublist of another if each run is.
use Rattle.std.proofs.Common.{◌≡◌, ℕ, ◌≤◌, Bool, true, false, cond, ◌&&◌, List, [], ◌∷◌, ◌++◌, length, sym, refl, true≢false, arith}
use Rattle.std.proofs.lemmas.Bool.{and_parts, and_from}
use Rattle.survey.specs.Lists.{gather}
use Rattle.survey.specs.Surveys.{sensors, joined, edge, triangle}
use Rattle.complex.specs.Theorems.{Sublist, none, skip, keep, Monotone}

pub sublist_same : {X : Type 0} (xs : List X) → Sublist xs xs
sublist_same [] = none
sublist_same (x ∷ xs) = keep x xs xs (sublist_same xs)

pub sublist_append : {X : Type 0} (xs ys us vs : List X) → Sublist xs ys → Sublist us vs → Sublist (xs ++ us) (ys ++ vs)
sublist_append xs ys us vs none h = h
sublist_append xs ys us vs (skip y xs' ys' g) h = skip y (xs' ++ us) (ys' ++ vs) (sublist_append xs' ys' us vs g h)
sublist_append xs ys us vs (keep x xs' ys' g) h = keep x (xs' ++ us) (ys' ++ vs) (sublist_append xs' ys' us vs g h)

pub sublist_gather : {X : Type 0} (f g : ℕ → List X) (ns : List ℕ) → ((n : ℕ) → Sublist (f n) (g n)) → Sublist (gather f ns) (gather g ns)
sublist_gather f g [] h = none
sublist_gather f g (n ∷ ns) h = sublist_append (f n) (g n) (gather f ns) (gather g ns) (h n) (sublist_gather f g ns h)

pub sublist_if : {X : Type 0} (p q : Bool) (x : X) → (p ≡ true → q ≡ true) → Sublist (cond p (x ∷ []) []) (cond q (x ∷ []) [])
sublist_if true true x h = keep x [] [] none
sublist_if true false x h = absurd (true≢false (sym (h refl)))
sublist_if false true x h = skip x [] [] none
sublist_if false false x h = none

pub length_sublist : {X : Type 0} (xs ys : List X) → Sublist xs ys → length xs ≤ length ys
length_sublist xs ys none = omega arith
length_sublist xs ys (skip y xs' ys' h) = omega (arith, length_sublist xs' ys' h)
length_sublist xs ys (keep x xs' ys' h) = omega (arith, length_sublist xs' ys' h)

pub monotone : Monotone
monotone s small large h = (
  sublist_gather _ _ (sensors s) (λ a. sublist_gather _ _ (sensors s) (λ b. sublist_if _ _ (edge a b) (more a b))),
  sublist_gather _ _ (sensors s) (λ a. sublist_gather _ _ (sensors s) (λ b. sublist_gather _ _ (sensors s) (λ c. sublist_if _ _ (triangle a b c) (three a b c)))),
)
  where
    more : (a b : ℕ) → joined s small a b ≡ true → joined s large a b ≡ true
    more a b e =
        let p = and_parts _ _ e in
        let q = and_parts _ _ p.0 in
        let r = and_parts _ _ q.0 in
        and_from _ _ (and_from _ _ (and_from _ _ r.0 (h a r.1)) (h b q.1)) p.1

    three : (a b c : ℕ) → (joined s small a b && joined s small a c && joined s small b c) ≡ true → (joined s large a b && joined s large a c && joined s large b c) ≡ true
    three a b c e =
        let p = and_parts _ _ e in
        let q = and_parts _ _ p.0 in
        and_from _ _ (and_from _ _ (more a b q.0) (more a c q.1)) (more b c p.1)
