-- Lists with a weight for each place: weights of one list come to weights of a longer one, with 0 at what is new.
use Rattle.std.proofs.Common.{◌≡◌, ℕ, zero, suc, ◌+◌, ◌<◌, Bool, true, false, cond, List, [], ◌∷◌, ◌++◌, length, get_or, sym, refl, ap, ◌∙◌, ap₂, subst₂, append_assoc, append-nil, arith}
use Rattle.std.specs.List.{range_with_len, AllByRecursion}
use Rattle.std.proofs.ByRecursion.{All-append}
use Rattle.std.proofs.lemmas.Bool.{both_ways}
use Rattle.field.specs.Algebra.{Operations, Laws}
use Rattle.field.proofs.Rings.{zero_mul}
use Rattle.survey.specs.Lists.{gather}
use Rattle.homology.proofs.Sums.{sum}
use Rattle.homology.proofs.Equations.{times_zero, zero_plus}

-- what holds of an element that is there if a test holds, and of each element of what is gathered
pub all_if : {X : Type 0} (P : X → Type 0) (x : X) (o : Bool) → (o ≡ true → P x) → AllByRecursion P (cond o (x ∷ []) [])
all_if P x true h = (h refl, tt)
all_if P x false h = tt

pub all_split : {X : Type 0} (P : X → Type 0) (xs ys : List X) → AllByRecursion P (xs ++ ys) → AllByRecursion P xs × AllByRecursion P ys
all_split P [] ys h = (tt, h)
all_split P (x ∷ xs) ys h = let r = all_split P xs ys h.1 in ((h.0, r.0), r.1)

pub all_gather : {A X : Type 0} (P : X → Type 0) (f : A → List X) (xs : List A) → ((x : A) → AllByRecursion P (f x)) → AllByRecursion P (gather f xs)
all_gather P f [] h = tt
all_gather P f (x ∷ xs) h = All-append P (f x) (gather f xs) (h x) (all_gather P f xs h)

pub all_gather_over : {A X : Type 0} (P Q : X → Type 0) (f g : A → List X) (xs : List A) → ((x : A) → AllByRecursion P (f x) → AllByRecursion Q (g x)) → AllByRecursion P (gather f xs) → AllByRecursion Q (gather g xs)
all_gather_over P Q f g [] h p = tt
all_gather_over P Q f g (x ∷ xs) h p = let s = all_split P (f x) (gather f xs) p in All-append Q (g x) (gather g xs) (h x s.0) (all_gather_over P Q f g xs h s.1)

-- a in front of y
abbrev front : {E : Type 0} → E → (ℕ → E) → ℕ → E
front a y zero = a
front a y (suc i) = y i

module _ {E : Type 0} (k : Operations E) (laws : Laws k) {X : Type 0} where
  open k use {zero as 𝟘, add as ◌⊕◌, mul as ◌⊗◌}

  infixl 65 ◌⊕◌
  infixl 70 ◌⊗◌
  -- the values of g along the list, weighted by place
  abbrev pub weighted : List X → (ℕ → E) → (X → E) → E
  weighted [] x g = 𝟘
  weighted (t ∷ ts) x g = x 0 ⊗ g t ⊕ weighted ts (λ i. x (suc i)) g

  pub weighted_sum : (none : X) (ts : List X) (x : ℕ → E) (g : X → E) → weighted ts x g ≡ sum k (range_with_len 0 (length ts)) (λ i. x i ⊗ g (get_or ts i none))
  weighted_sum none ts x g = from 0 ts x _ (λ i l. let n : i ≡ 0 + i = omega arith in ap (λ i. x i ⊗ g (get_or ts i none)) n)
    where
      from : (a : ℕ) (ts : List X) (x h : ℕ → E) → ((i : ℕ) → i < length ts → x i ⊗ g (get_or ts i none) ≡ h (a + i)) → weighted ts x g ≡ sum k (range_with_len a (length ts)) h
      from a [] x h e = refl
      from a (t ∷ ts) x h e =
          let same : a + 0 ≡ a = omega arith in
          ap₂ ◌⊕◌ (e 0 (omega arith) ∙ ap h same)
          (from (a + 1) ts (λ i. x (suc i)) h (λ i l. let n : a + suc i ≡ a + 1 + i = omega arith in e (suc i) (omega arith) ∙ ap h n))

  pub weighted_zero : (ts : List X) (x : ℕ → E) (g : X → E) → AllByRecursion (λ t. g t ≡ 𝟘) ts → weighted ts x g ≡ 𝟘
  weighted_zero [] x g h = refl
  weighted_zero (t ∷ ts) x g h = zero_plus k laws (x 0 ⊗ g t) _ (times_zero k laws (x 0) (g t) h.0) ∙ weighted_zero ts (λ i. x (suc i)) g h.1

  -- any weights of the one list come to weights of the other
  abbrev pub Widens : List X → List X → Type 0
  Widens us vs = (x : ℕ → E) → (y : ℕ → E) × ((g : X → E) → weighted us x g ≡ weighted vs y g)

  -- and so with these in front; that is kept along a gathering
  abbrev pub Leads : List X → List X → Type 0
  Leads us vs = (ms ns : List X) → Widens ms ns → Widens (us ++ ms) (vs ++ ns)

  pub leads_one : (t : X) (p q : Bool) → (p ≡ true → q ≡ true) → Leads (cond p (t ∷ []) []) (cond q (t ∷ []) [])
  leads_one t true true h ms ns w x = let r = w (λ i. x (suc i)) in (front (x 0) r.0, λ g. ap (λ z. x 0 ⊗ g t ⊕ z) (r.1 g))
  leads_one t true false h ms ns w x = absurd (both_ways _ refl (h refl))
  leads_one t false true h ms ns w x = let r = w x in (front 𝟘 r.0, λ g. r.1 g ∙ sym (zero_plus k laws (𝟘 ⊗ g t) (weighted ns r.0 g) (zero_mul k laws (g t))))
  leads_one t false false h ms ns w x = w x

  pub leads_gather : {A : Type 0} (f g : A → List X) (xs : List A) → ((x : A) → Leads (f x) (g x)) → Leads (gather f xs) (gather g xs)
  leads_gather f g [] h ms ns w = w
  leads_gather f g (x ∷ xs) h ms ns w =
      subst₂ Widens (sym (append_assoc (f x) (gather f xs) ms)) (sym (append_assoc (g x) (gather g xs) ns)) (h x (gather f xs ++ ms) (gather g xs ++ ns) (leads_gather f g xs h ms ns w))

  pub leads_widens : (us vs : List X) → Leads us vs → Widens us vs
  leads_widens us vs h = subst₂ Widens (append-nil us) (append-nil vs) (h [] [] (λ x. (x, λ g. refl)))
