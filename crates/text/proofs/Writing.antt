-- Bytes written part by part: writing what is still to come, from here on, gives the whole.
use Rattle.std.proofs.Common.{◌≡◌, ℕ, suc, ◌+◌, ◌<◌, ◌≤◌, true, false, cond, List, [], ◌∷◌, ◌++◌, length, take, drop, sym, refl, ap, ◌∙◌, ap₂, append_assoc, append-nil, arith, length-append}
use lib.Seq.{sets, sets-eq, length-sets}
use Rattle.std.proofs.lemmas.List.{drop-drop}
use Rattle.survey.specs.Lists.{gather}
use Rattle.survey.specs.Surveys.{Survey, sensors}
use Rattle.survey.proofs.Lists.{sift}
use Rattle.survey.proofs.Walks.{below, below_more, below_one}
use Rattle.text.specs.declared.write.Writer.{Writer}
use Rattle.text.specs.Columns.{column}
use Rattle.text.specs.Writing.{Fits, Wrote}

pub sets_append : (out : List ℕ) (at : ℕ) (a b : List ℕ) → sets out at (a ++ b) ≡ sets (sets out at a) (at + length a) b
sets_append out at [] b = let e : at ≡ at + 0 = omega arith in ap (λ k. sets out k b) e
sets_append out at (x ∷ a) b =
    let e : suc at + length a ≡ at + length (x ∷ a) = omega arith in
    sets_append _ (suc at) a b ∙ ap (λ k. sets (sets out at (x ∷ a)) k b) e

pub sets_front : (all old : List ℕ) → length all ≤ length old → sets old 0 all ≡ all ++ drop (length all) old
sets_front all old l = let e : 0 + length all ≡ length all = omega arith in sets-eq all old 0 (omega arith) ∙ ap (λ k. all ++ drop k old) e

-- a slice that is set, as what the bytes before, in and behind it are
pub put_sets : (out bytes : List ℕ) (at k : ℕ) → k ≡ length bytes → at + length bytes ≤ length out → take at out ++ (bytes ++ drop k (drop at out)) ≡ sets out at bytes
put_sets out bytes at k e l =
    ap (λ n. take at out ++ (bytes ++ drop n (drop at out))) e ∙ ap (λ t. take at out ++ (bytes ++ t)) (drop-drop (length bytes) at out)
    ∙ sym (append_assoc (take at out) bytes (drop (at + length bytes) out)) ∙ sym (sets-eq bytes out at l)

-- one part after another

pub wrote_none : (w : Writer) → Wrote w [] w
wrote_none w = record { same = refl; after = refl; place = omega arith }

pub wrote_then : (a b c : Writer) (xs ys : List ℕ) → Wrote a xs b → Wrote b ys c → Wrote a (xs ++ ys) c
wrote_then a b c xs ys p q = record {
  same = q.same ∙ p.same;
  after = q.after ∙ ap₂ (λ l k. sets l k ys) p.after p.place ∙ sym (sets_append a.out.now a.at xs ys);
  place = omega (arith, p.place, q.place, length-append xs ys);
}

pub fits_first : (w : Writer) (xs ys : List ℕ) → Fits w (xs ++ ys) → Fits w xs
fits_first w xs ys f = omega (arith, length-append xs ys)

pub fits_then : (a b : Writer) (xs ys : List ℕ) → Wrote a xs b → Fits a (xs ++ ys) → Fits b ys
fits_then a b xs ys p f = omega (arith, p.place, length-append xs ys, ap length p.after, length-sets a.out.now a.at xs)

-- a loop that writes `all` from `old` on: the part that is written, and the rest
pub record Due (old : Writer) (all : List ℕ) (now : Writer) (rest : List ℕ) : Type 0 where
  pub part : List ℕ
  pub wrote : Wrote old part now
  pub whole : part ++ rest ≡ all

pub due_none : (w : Writer) (all rest : List ℕ) → rest ≡ all → Due w all w rest
due_none w all rest e = record { part = []; wrote = wrote_none w; whole = e }

module _ (old : Writer) (all : List ℕ) (now : Writer) (rest : List ℕ) (due : Due old all now rest) where
  pub due_fits : (xs more : List ℕ) → rest ≡ xs ++ more → Fits old all → Fits now xs
  due_fits xs more e f =
      let same = ap (λ l. due.part ++ l) (sym e) ∙ due.whole in
      fits_first now xs more (fits_then old now due.part (xs ++ more) due.wrote (rw same f))

  pub due_more : (xs more : List ℕ) (next : Writer) → rest ≡ xs ++ more → Wrote now xs next → Due old all next more
  due_more xs more next e w = record {
    part = due.part ++ xs;
    wrote = wrote_then old now next due.part xs due.wrote w;
    whole = append_assoc due.part xs more ∙ ap (λ l. due.part ++ l) (sym e) ∙ due.whole;
  }

  pub due_all : rest ≡ [] → Wrote old all now
  due_all e = let same = sym (append-nil due.part) ∙ ap (λ l. due.part ++ l) (sym e) ∙ due.whole in rw (sym same) due.wrote

-- what a loop over the sensors has ahead of it

pub below_sensors : (s : Survey) (end : ℕ) → end ≡ s.count → below (end + 1) 1 ≡ sensors s
below_sensors s end e = ap (λ k. below (k + 1) 1) e ∙ below_one s.count

-- the columns of those of ys that x is linked to
abbrev pub columns_among : Survey → ℕ → List ℕ → List ℕ
columns_among s x ys = gather column (sift (s.linked x) ys)

pub columns_linked : (s : Survey) (x y : ℕ) (ys : List ℕ) → true ≡ s.linked x y → columns_among s x (y ∷ ys) ≡ column y ++ columns_among s x ys
columns_linked s x y ys t = ap (λ b. gather column (cond b (y ∷ []) [] ++ sift (s.linked x) ys)) (sym t)

pub columns_unlinked : (s : Survey) (x y : ℕ) (ys : List ℕ) → false ≡ s.linked x y → columns_among s x (y ∷ ys) ≡ columns_among s x ys
columns_unlinked s x y ys t = ap (λ b. gather column (cond b (y ∷ []) [] ++ sift (s.linked x) ys)) (sym t)

-- the loop is at y
module _ (s : Survey) (x y end : ℕ) (old : Writer) (all : List ℕ) (now : Writer) (due : Due old all now (columns_among s x (below end y))) (more : y < end) where
  pub column_fits : true ≡ s.linked x y → Fits old all → Fits now (column y)
  column_fits t = due_fits old all now _ due (column y) (columns_among s x (below end (y + 1))) (ap (columns_among s x) (below_more end y more) ∙ columns_linked s x y _ t)

  pub column_wrote : (next : Writer) → true ≡ s.linked x y → Wrote now (column y) next → Due old all next (columns_among s x (below end (y + 1)))
  column_wrote next t = due_more old all now _ due (column y) (columns_among s x (below end (y + 1))) next (ap (columns_among s x) (below_more end y more) ∙ columns_linked s x y _ t)

  pub column_passed : (next : Writer) → false ≡ s.linked x y → next ≡ now → Due old all next (columns_among s x (below end (y + 1)))
  column_passed next t e = rw (e, sym (ap (columns_among s x) (below_more end y more) ∙ columns_unlinked s x y _ t)) due
