-- What stays of a store over one call stays over two.
use Rattle.std.proofs.Common.{◌≡◌, refl, ◌∙◌, subst}
use Rattle.matrix.specs.Terms.{Terms, Backing}
use Rattle.reduction.specs.Stores.{Stays}

module _ {S : Type 0} (terms : S → Terms) (backing : S → Backing) where
  pub stays_itself : (s : S) → Stays terms backing s s
  stays_itself s = record { terms_stay = refl; backing_stays = refl }

  pub stays_on : (a b c : S) → Stays terms backing a b → Stays terms backing b c → Stays terms backing a c
  stays_on a b c h k = record { terms_stay = k.terms_stay ∙ h.terms_stay; backing_stays = k.backing_stays ∙ h.backing_stays }

  -- a call that says both by itself
  pub stays_over : (a b c : S) → Stays terms backing a b → terms c ≡ terms b → backing c ≡ backing b → Stays terms backing a c
  stays_over a b c h t k = stays_on a b c h (record { terms_stay = t; backing_stays = k })

-- a fact about three things, at equal ones
pub subst_three : {A B C : Type 0} (P : A → B → C → Type 0) {a x : A} {b y : B} {c z : C} → a ≡ x → b ≡ y → c ≡ z → P a b c → P x y z
subst_three P {a = a} {x = x} {b = b} {y = y} {c = c} p q r h = subst (λ c. P x y c) r (subst (λ b. P x b c) q (subst (λ a. P a b c) p h))
