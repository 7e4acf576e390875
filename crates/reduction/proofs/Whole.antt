-- The whole of a reduction in a store: loaded, reduced and read off, or refused with all its puts.
use Rattle.std.proofs.Common.{◌≡◌, ℕ, ◌+◌, ◌-◌, ◌<◌, Bool, true, false, cond, eqb, List, ◌++◌, length, drop, None, Ok, Err, Result, sym, ap, ◌∙◌, subst, arith}
use Rattle.refusal.specs.declared.Refusal.{Refusal}
use Rattle.refusal.specs.Numbers.{number_of}
use Rattle.refusal.specs.Outcomes.{refused, and_then}
use Rattle.field.specs.Arithmetic.{Arithmetic, FieldLaws}
use Rattle.matrix.specs.Matrix.{Matrix, over, played}
use Rattle.matrix.specs.Terms.{Terms, told, puts_outcome, puts_after}
use Rattle.matrix.proofs.Puts.{puts_outcome-++, accepted_played}
use Rattle.complex.specs.Systems.{System, starting}
use Rattle.homology.specs.declared.kind.Kind.{Kind}
use Rattle.homology.specs.Kinds.{kind_of, filled_of}
use Rattle.homology.specs.Linear.{CodedSystem}
use Rattle.homology.specs.Certificate.{filling_codes, block_codes}
use Rattle.homology.specs.Reduction.{low, due, course, enough, reduction, all_puts}
use Rattle.homology.proofs.Columns.{starting_codes}
use Rattle.homology.proofs.Ending.{reduction_ends_lem}
use Rattle.homology.proofs.Listing.{length_listed}
use Rattle.homology.proofs.Putting.{loading_loads, starting_outside}
use Rattle.reduction.specs.Progress.{left, left_outcome, Ready, Onward, Stops}
use Rattle.reduction.specs.Grids.{shaped, loads}
use Rattle.reduction.specs.Verdicts.{empty, verdict, Worked}
use Rattle.reduction.proofs.Likeness.{shaped_coded}
use Rattle.reduction.proofs.Steps.{ended_matrix, ended_additions, ended_puts}

-- what loading a system in the shape begun came to
pub record Loaded (F : Arithmetic) (S : System) (t : Terms) (m n : Matrix) (r : Result (Unit {0}) Refusal) : Type 0 where
  pub coded : CodedSystem F S
  pub begun : m ≡ empty S
  pub answer : told r ≡ puts_outcome t m (loads S)
  pub after : n ≡ puts_after t m (loads S)

-- the system that a grid holds is one over the field
pub loaded_by : {F : Arithmetic} (f : FieldLaws F) (start : Matrix) (E T : ℕ) (t : Terms) {m n : Matrix} {r : Result (Unit {0}) Refusal}
    → m ≡ empty (shaped F start E T) → told r ≡ puts_outcome t m (loads (shaped F start E T)) → n ≡ puts_after t m (loads (shaped F start E T)) → Loaded F (shaped F start E T) t m n r
loaded_by {F = F} f start E T t begun answer after = record { coded = shaped_coded F f start E T; begun = begun; answer = answer; after = after }

module _ {F : Arithmetic} (f : FieldLaws F) {S : System} {t : Terms} {m n : Matrix} {r : Result (Unit {0}) Refusal} (h : Loaded F S t m n r) where
  outcome_is : told r ≡ puts_outcome t (empty S) (loads S)
  outcome_is = h.answer ∙ ap (λ k. puts_outcome t k (loads S)) h.begun

  pub load_refused : {e : Refusal} → r ≡ Err e → puts_outcome t (empty S) (all_puts F S) ≡ refused (number_of e)
  load_refused is =
      puts_outcome-++ t (empty S) (loads S) (reduction F S).puts
      ∙ ap (λ o. and_then o (λ _. puts_outcome t (played (empty S) (loads S)) (reduction F S).puts)) (sym outcome_is ∙ ap told is)

  module _ {u : Unit {0}} (is : r ≡ Ok u) where
    loaded : n ≡ over (empty S) (starting S)
    loaded =
        h.after ∙ ap (λ k. puts_after t k (loads S)) h.begun
        ∙ accepted_played t (empty S) (loads S) (sym outcome_is ∙ ap told is) ∙ loading_loads (starting S) (S.rows + S.columns) (S.columns + 1) (starting_outside S)

    entries : n.at ≡ starting S
    entries = ap (λ k. k.at) loaded

    whole_left : left F S.rows S.columns 0 n.at ≡ reduction F S
    whole_left = let all : enough S.columns - 0 ≡ enough S.columns = omega arith in (λ i. course F S.rows S.columns (all i) (entries i))

    pub loaded_ready : Ready F S.rows S.columns n 0
    loaded_ready = record {
      rows = ap (λ k. k.rows) loaded;
      columns = ap (λ k. k.columns) loaded;
      codes = subst (λ M. (r c : ℕ) → M r c < F.order) (sym entries) (starting_codes F f S h.coded);
      few = omega arith;
      ends = ap (λ c. due S.rows S.columns c.matrix) whole_left ∙ (reduction_ends_lem F f S h.coded).none_due;
    }

    whole_outcome : puts_outcome t (empty S) (all_puts F S) ≡ left_outcome F S.rows S.columns t n 0
    whole_outcome =
        puts_outcome-++ t (empty S) (loads S) (reduction F S).puts
        ∙ ap (λ o. and_then o (λ _. puts_outcome t (played (empty S) (loads S)) (reduction F S).puts)) (sym outcome_is ∙ ap told is)
        ∙ (λ i. puts_outcome t ((loading_loads (starting S) (S.rows + S.columns) (S.columns + 1) (starting_outside S) ∙ sym loaded) i) (sym whole_left i).puts)

    pub reduce_refused : (e : Refusal) → Stops F S.rows S.columns t n 0 e → puts_outcome t (empty S) (all_puts F S) ≡ refused (number_of e)
    reduce_refused e stops = whole_outcome ∙ stops

    -- what is read off the matrix that the reduction leaves
    pub read_worked : {new : Matrix} {k : ℕ} → Onward F S.rows S.columns t n 0 new k → due S.rows S.columns new.at ≡ None → {old codes : List ℕ} {v : Kind}
        → v ≡ kind_of (eqb (low S.rows new.at (S.columns + 1)) 0)
        → codes ≡ cond (filled_of v) (filling_codes F S.rows S.columns new.at ++ drop S.columns old) (block_codes F S.rows S.columns new.at ++ drop S.rows old)
        → Worked F S t old codes (record { kind = v; additions = k })
    read_worked {new = new} {k = k} onward none {old = old} {v = v} is_kind is-codes =
        let N : new.at ≡ (reduction F S).matrix = ended_matrix F f S.rows S.columns t n new k onward none ∙ ap (λ c. c.matrix) whole_left in
        let same : v ≡ (verdict F S).kind = is_kind ∙ ap (λ M. kind_of (eqb (low S.rows M (S.columns + 1)) 0)) N in
        record {
          puts = whole_outcome ∙ ended_puts F f S.rows S.columns t n new k onward none;
          is = (λ i. record { kind = same i; additions = (ended_additions F f S.rows S.columns t n new k onward none ∙ ap (λ c. c.additions) whole_left) i });
          codes = is-codes ∙ (λ i. cond (filled_of (same i)) (filling_codes F S.rows S.columns (N i) ++ drop S.columns old) (block_codes F S.rows S.columns (N i) ++ drop S.rows old))
              ∙ joined (filled_of (verdict F S).kind) (filling_codes F S.rows S.columns (reduction F S).matrix) (block_codes F S.rows S.columns (reduction F S).matrix) old (length_listed S.columns _) (length_listed S.rows _);
        }
      where
        joined : (b : Bool) (xs ys old : List ℕ) → length xs ≡ S.columns → length ys ≡ S.rows → cond b (xs ++ drop S.columns old) (ys ++ drop S.rows old) ≡ cond b xs ys ++ drop (length (cond b xs ys)) old
        joined true xs ys old p q = ap (λ n. xs ++ drop n old) (sym p)
        joined false xs ys old p q = ap (λ n. ys ++ drop n old) (sym q)
