-- The verdict on a claim with codes enough, none of them outside and one not 0: whether they form what is claimed.
use Rattle.std.proofs.Common.{◌≡◌, ℕ, ◌≤◌, Bool, true, false, cond, ◌&&◌, ltb, List, length, take, sym, ap, ◌∙◌, ap₂}
use Rattle.std.proofs.lemmas.Bool.{cond-false, le-ltb}
use Rattle.refusal.specs.declared.Refusal.TheVariants.{NotACode}
use Rattle.refusal.specs.Numbers.{number_of}
use Rattle.refusal.specs.Outcomes.{accepted, refused}
use Rattle.field.specs.Arithmetic.{Arithmetic}
use Rattle.complex.specs.Systems.{Vector, System}
use Rattle.homology.specs.Certificate.{vector}
use Rattle.homology.specs.declared.kind.Kind.{Kind}
use Rattle.checking.specs.Claims.{has_outside_of, has_nonzero_of, size, forms, verdict}

module _ (F : Arithmetic) (S : System) (claim : Kind) (codes : List ℕ) (n : ℕ) (enough : n ≤ length codes) (whole : n ≡ size claim S.rows S.columns) where
  told : verdict F S claim codes ≡ cond (has_outside_of F (take n codes)) (refused (number_of NotACode)) (accepted (has_nonzero_of (take n codes) && forms F S claim (vector (take n codes))))
  told =
      ap (λ k. cond (ltb (length codes) k) (refused 16) (cond (has_outside_of F (take k codes)) (refused 22) (accepted (has_nonzero_of (take k codes) && forms F S claim (vector (take k codes)))))) (sym whole)
      ∙ cond-false _ _ _ (le-ltb _ _ enough)

  pub verdict_formed : (b : Bool) → false ≡ has_outside_of F (take n codes) → true ≡ has_nonzero_of (take n codes) → b ≡ forms F S claim (vector (take n codes))
      → accepted b ≡ verdict F S claim codes
  verdict_formed b o z t = ap₂ (λ a b. accepted (a && b)) z t ∙ sym (told ∙ cond-false _ _ _ (sym o))

-- what the test of one kind tells of a claim of that kind
pub forms_claim : (F : Arithmetic) (S : System) (claim kind : Kind) (x : Vector) (b : Bool) → claim ≡ kind → b ≡ forms F S kind x → b ≡ forms F S claim x
forms_claim F S claim kind x b e t = t ∙ ap (λ claim. forms F S claim x) (sym e)
