-- Which shapes a store takes by its rule, and what memory of zeros is.
use Rattle.std.proofs.Common.{◌≡◌, ℕ, ◌*◌, ◌<◌, ◌≤◌, Bool, true, ◌&&◌, leb, List, get_or, sym, ap, ◌∙◌}
use Rattle.std.proofs.lemmas.Bool.{cond-true, and_from, le-leb}
use Rattle.refusal.specs.Outcomes.{accepted}
use Rattle.matrix.specs.Matrix.{blank, count}
use Rattle.matrix.specs.Terms.{begin_outcome}
use Rattle.matrix.proofs.Counts.{count_blank}
use Rattle.matrix.proofs.Layouts.{laid_blank}
use Rattle.customer.specs.Shapes.{shaped, shaped_terms}

pub shaped_accepted : (takes : ℕ → ℕ → Bool) (r c n : ℕ) → takes r c ≡ true → r * c ≤ n → begin_outcome (shaped_terms takes n) r c ≡ accepted tt
shaped_accepted takes r c n e h = cond-true (takes r c && leb (r * c) n) _ _ (and_from (takes r c) (leb (r * c) n) e (le-leb (r * c) n h))

pub shaped_blank : (r c : ℕ) (xs : List ℕ) → ((q : ℕ) → q < r * c → get_or xs q 0 ≡ 0) → shaped r c xs ≡ blank r c
shaped_blank r c xs z = laid_blank r c (λ q. get_or xs q 0) z

pub shaped_count : (r c : ℕ) (xs : List ℕ) → ((q : ℕ) → q < r * c → get_or xs q 0 ≡ 0) → 0 ≡ count (shaped r c xs)
shaped_count r c xs z = sym (ap count (shaped_blank r c xs z) ∙ count_blank r c)
