-- A list of codes that is written from the front, one code a turn, and read as a vector.
use Rattle.std.proofs.Common.{◌≡◌, ℕ, zero, suc, ◌+◌, ◌<◌, ◌≤◌, List, [], ◌∷◌, ◌++◌, length, get_or, drop, set, sym, refl, ap, ◌∙◌, append_assoc, add-one, arith, drop-cons}
use Rattle.std.proofs.Math.ListN.{get_or-append}
use Rattle.std.proofs.Math.Seq.{set-append_seam}
use Rattle.complex.specs.Systems.{Vector}
use Rattle.homology.specs.Certificate.{listed, vector}
use Rattle.homology.proofs.Listing.{length_listed, vector_listed}

-- the code behind the first n
pub listed_more : (n : ℕ) (v : Vector) (old : List ℕ) (x : ℕ) → n < length old → x ≡ v (n + 1) → set (listed n v ++ drop n old) n x ≡ listed (n + 1) v ++ drop (n + 1) old
listed_more n v old x l e =
    ap (λ ys. set (listed n v ++ ys) n x) (drop-cons old n 0 l)
    ∙ ap (λ k. set (listed n v ++ (get_or old n 0 ∷ drop (suc n) old)) k x) (sym (length_listed n v))
    ∙ set-append_seam (listed n v) (get_or old n 0) (drop (suc n) old) x
    ∙ sym (append_assoc (listed n v) (x ∷ []) (drop (suc n) old))
    ∙ (λ i. (listed n v ++ ((e ∙ ap v (add-one n)) i ∷ [])) ++ drop (suc n) old)
    ∙ (λ i. listed (sym (add-one n) i) v ++ drop (sym (add-one n) i) old)

pub listed_same : (n : ℕ) (v w : Vector) → ((i : ℕ) → 1 ≤ i → i ≤ n → v i ≡ w i) → listed n v ≡ listed n w
listed_same zero v w h = refl
listed_same (suc n) v w h = (λ i. listed_same n v w (λ k a b. h k a (omega arith)) i ++ (h (suc n) (omega arith) (omega arith) i ∷ []))

pub vector_front : (n : ℕ) (v : Vector) (ys : List ℕ) (i : ℕ) → 1 ≤ i → i ≤ n → vector (listed n v ++ ys) i ≡ v i
vector_front n v ys zero l m = absurd (omega arith)
vector_front n v ys (suc i) l m = get_or-append (listed n v) ys 0 i (omega (arith, length_listed n v)) ∙ vector_listed n v (suc i) l m
