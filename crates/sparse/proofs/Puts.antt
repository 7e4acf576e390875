-- What one put leaves.
use Rattle.std.proofs.Common.{◌≡◌, ℕ, zero, suc, ◌+◌, ◌-◌, ◌<◌, ◌≤◌, min, true, List, length, get_or, set, sym, refl, ap, ◌∙◌, inl, inr, ⊎_elim, arith, length-set, get_or-set_other, get_or-set_same}
use Rattle.std.proofs.lemmas.Bool.{cases_eq, cases_lt}
use Rattle.std.proofs.lemmas.Bool.Decides.{nat_tests}
use Rattle.matrix.specs.Matrix.{inside, count, one_if_not_zero, put_at, put_into}
use Rattle.matrix.proofs.Counts.{count_put}
use Rattle.sparse.specs.declared.cell.Cell.{Cell}
use Rattle.sparse.specs.Cells.{cell, row_at, column_at, code_at, next_at, found, held, sparse_terms}
use Rattle.sparse.specs.Chains.{Follows, Chained, Spotted, Stands, spare, recoded}
use Rattle.sparse.specs.Puts.{Kept}
use Rattle.sparse.specs.Sound.{Sound}
use Rattle.sparse.proofs.Rows.{used_lt}
use Rattle.sparse.proofs.Found.{found_none}
use Rattle.sparse.proofs.Readings.{between, found_by, held_in}
use Rattle.sparse.proofs.Relinks.{Edited, same_of}
use Rattle.sparse.proofs.Walks.{follows_by, first_follows, next_follows, chained_by}
use Rattle.sparse.proofs.Inserts.{insert_chained}
use Rattle.sparse.proofs.Removes.{remove_chained}
use Rattle.sparse.proofs.Changes.{Changed, held_changed, filled_changed, rows_to_changed, unused_changed, kept_changed}
use Rattle.sparse.proofs.Spares.{Idle, first_spare, spare_used}
use Rattle.sparse.proofs.Takes.{Taking}

-- a place of the shape
pub record Place (rows columns r c : ℕ) : Type 0 where
  pub row_from : 1 ≤ r
  pub row_to : r ≤ rows
  pub column_from : 1 ≤ c
  pub column_to : c ≤ columns

-- the invariant, the matrix and the cells of other entries after it
pub record Put (rows columns used free fresh : ℕ) (heads heads' : List ℕ) (cells cells' : List Cell) (r c v : ℕ) : Type 0 where
  pub is_sound : Sound rows columns used free fresh heads' cells'
  pub holds : held rows columns cells' ≡ put_into (held rows columns cells) (put_at r c v)
  pub kept : Kept cells cells' r c
  pub terms : sparse_terms (length cells') (length heads') ≡ sparse_terms (length cells) (length heads)

one_some : (v : ℕ) → 1 ≤ v → one_if_not_zero v ≡ 1
one_some zero h = absurd (omega arith)
one_some (suc v) h = refl

pub inside_is : (rows columns r c : ℕ) → Place rows columns r c → inside rows columns r c ≡ true
inside_is rows columns r c p = ways rows columns r c p.row_from p.row_to p.column_from p.column_to
  where
    ways : (rows columns r c : ℕ) → 1 ≤ r → r ≤ rows → 1 ≤ c → c ≤ columns → inside rows columns r c ≡ true
    ways rows columns r c a b d e = grind (arith, nat_tests)

-- the count after a put
counts : (rows columns r c v : ℕ) (cells cells' : List Cell) → Place rows columns r c → held rows columns cells' ≡ put_into (held rows columns cells) (put_at r c v)
    → count (held rows columns cells') + one_if_not_zero (found cells r c) ≡ count (held rows columns cells) + one_if_not_zero v
counts rows columns r c v cells cells' p h =
    ap (λ m. count m + one_if_not_zero (found cells r c)) h
    ∙ ap (λ x. count (put_into (held rows columns cells) (put_at r c v)) + one_if_not_zero x) (sym (held_in rows columns cells r c p.row_from p.row_to p.column_from p.column_to))
    ∙ count_put (held rows columns cells) (put_at r c v) (inside_is rows columns r c p)

-- the same places and links
record Links (cells cells' : List Cell) : Type 0 where
  row : (q : ℕ) → row_at cells' q ≡ row_at cells q
  column : (q : ℕ) → column_at cells' q ≡ column_at cells q
  next : (q : ℕ) → next_at cells' q ≡ next_at cells q

links_follow : (cells cells' : List Cell) (d p link : ℕ) → Links cells cells' → Follows cells d p link → Follows cells' d p link
links_follow cells cells' d p link k f = (
  λ z. (k.column (link - 1) ∙ (f.0 z).0, omega (arith, k.row (link - 1), (f.0 z).1)),
  λ q qc qr. let n = f.1 q (sym (k.column q) ∙ qc) (omega (arith, k.row q)) in (n.0, omega (arith, n.1, k.row q, k.row (link - 1))),
)

links_chained : (n : ℕ) (heads heads' : List ℕ) (cells cells' : List Cell) → Chained n heads cells → heads' ≡ heads → Links cells cells' → Chained n heads' cells'
links_chained n heads heads' cells cells' ch eh k = chained_by n heads' cells'
    (λ d l t. follows_by cells' _ _ _ _ _ _ refl refl (ap (λ ys. get_or ys (d - 1) 0) (sym eh)) (links_follow cells cells' d 0 _ k (first_follows n heads cells d ch l t)))
    (λ q l. follows_by cells' _ _ _ _ _ _ (sym (k.column q)) (sym (k.row q)) (sym (k.next q)) (links_follow cells cells' _ _ _ k (next_follows n heads cells q ch (omega (arith, k.row q)))))
    (λ x y l er ec. ch.one_each x y (omega (arith, k.row x)) (sym (k.row x) ∙ er ∙ k.row y) (sym (k.column x) ∙ ec ∙ k.column y))

-- what was out of use stays so
idle_edited : (heads heads' : List ℕ) (cells cells' : List Cell) (c b l to : ℕ) (x : Cell) → Edited heads heads' cells cells' c b l to x → Stands cells c b → Idle cells cells' (l - 1)
idle_edited heads heads' cells cells' c b l to x e s q ne z =
    let other : q + 1 ≡ b → ⊥ = λ eq.
    (let nz : b ≡ 0 → ⊥ = λ y. omega arith in
    let at : b - 1 ≡ q = omega arith in
    omega (arith, (s nz).1, ap (row_at cells) at)) in
    ((e.others q ne).row ∙ z, e.nexts q ne other)

module _ {rows columns used free fresh : ℕ} {heads : List ℕ} {cells : List Cell} {r c b a : ℕ}
    (s : Sound rows columns used free fresh heads cells) (p : Place rows columns r c) (t : Spotted cells c r b a) where
  -- one cell changed, and what is spare and in use with it
  put_by : {heads' : List ℕ} {cells' : List Cell} {used' free' fresh' v : ℕ} (k : ℕ) → Changed cells cells' r c k → Chained columns heads' cells' → length heads' ≡ length heads → found cells' r c ≡ v
      → (1 ≤ row_at cells' k → 1 ≤ code_at cells' k) → k < fresh' → fresh ≤ fresh' → fresh' ≤ min (length cells) 65535 → used' ≤ fresh' → spare cells' fresh' (fresh' - used') free' ≡ true
      → used' + one_if_not_zero (found cells r c) ≡ used + one_if_not_zero v → Put rows columns used' free' fresh' heads heads' cells cells' r c v
  put_by {heads'} {cells'} {used'} {free'} {fresh'} {v} k h ch wide is some in_fresh later lent begun spared counted =
      let holds = held_changed rows columns cells cells' r c k v p.row_from p.row_to p.column_from p.column_to h is in
      record {
        is_sound = record {
          low = s.low;
          wide = omega (arith, s.wide);
          chained = ch;
          filled = filled_changed cells cells' r c k h s.filled some;
          rows_to = rows_to_changed rows cells cells' r c k h p.row_to s.rows_to;
          lent = omega (arith, h.many);
          unused = unused_changed fresh fresh' cells cells' r c k h in_fresh later s.unused;
          begun = begun;
          spared = spared;
          counted = omega (arith, counts rows columns r c v cells cells' p holds, s.counted);
        };
        holds = holds;
        terms = rw (h.many, wide);
        kept = kept_changed cells cells' r c k h p.row_from;
      }

  module _ {heads' : List ℕ} {cells' : List Cell} {v : ℕ} (l free' fresh' : ℕ) (x : Cell) (new : (a ≡ 0 → ⊥) → r < row_at cells (a - 1)) (some : 1 ≤ v) (k : Taking cells used fresh l free' fresh')
      (xr : x.row ≡ r) (xc : x.column ≡ c) (xv : x.code ≡ v) (xn : x.next ≡ a) (e : Edited heads heads' cells cells' c b l l x) where
    pub put_inserted : Put rows columns (used + 1) free' fresh' heads heads' cells cells' r c v
    put_inserted =
        let ch = insert_chained columns heads heads' cells cells' c r b a l x s.chained t new k.idle p.row_from k.from p.column_from p.column_to xr xc xn e in
        let row : row_at cells' (l - 1) ≡ r = ap (λ (u : Cell). u.row) e.here ∙ xr in
        let column : column_at cells' (l - 1) ≡ c = ap (λ (u : Cell). u.column) e.here ∙ xc in
        let code : code_at cells' (l - 1) ≡ v = ap (λ (u : Cell). u.code) e.here ∙ xv in
        let none : found cells r c ≡ 0 = between cells c r b a r t t.below new in
        put_by (l - 1) (record { others = e.others; old = inl k.idle; new = inr (row, column); many = e.many }) ch e.wide (found_by cells' (l - 1) r c v ch.one_each row p.row_from column code)
        (λ _. omega arith) (omega (arith, k.from, k.to)) k.later k.lent k.begun (k.spared cells' (idle_edited heads heads' cells cells' c b l l x e t.stands))
        (omega (arith, ap one_if_not_zero none, one_some v some))

  module _ (nz : a ≡ 0 → ⊥) (hit : row_at cells (a - 1) ≡ r) where
    there : code_at cells (a - 1) ≡ found cells r c
    there = sym (found_by cells (a - 1) r c (code_at cells (a - 1)) s.chained.one_each hit p.row_from (t.ahead nz).0 refl)

    one_there : one_if_not_zero (found cells r c) ≡ 1
    one_there = ap one_if_not_zero (sym there) ∙ one_some (code_at cells (a - 1)) (s.filled (a - 1) (omega (arith, p.row_from)))

    before_fresh : a - 1 < fresh
    before_fresh = ⊎_elim
        (λ (lt : a - 1 < fresh). lt)
        (λ (le : fresh ≤ a - 1). absurd (omega (arith, s.unused (a - 1) le, p.row_from)))
        (cases_lt (a - 1) fresh)

    -- the entry was counted
    pub used_from : 1 ≤ used
    used_from =
        let here = ap one_if_not_zero (held_in rows columns cells r c p.row_from p.row_to p.column_from p.column_to) in
        omega (arith, count_put (held rows columns cells) (put_at r c 0) (inside_is rows columns r c p), here, one_there, s.counted)

    pub put_removed : {heads' : List ℕ} {cells' : List Cell} (x : Cell) → x.row ≡ 0 → x.next ≡ free → Edited heads heads' cells cells' c b a (next_at cells (a - 1)) x → Put rows columns (used - 1) a fresh heads heads' cells cells' r c 0
    put_removed {heads'} {cells'} x gone xn e =
        let ch = remove_chained columns heads heads' cells cells' c r b a x s.chained t nz hit p.row_from p.column_from p.column_to gone e in
        let row : row_at cells' (a - 1) ≡ 0 = ap (λ (u : Cell). u.row) e.here ∙ gone in
        let none : found cells' r c ≡ 0 = found_none cells' r c (λ q qr qc.
        let ne : q ≡ a - 1 → ⊥ = λ eq. omega (arith, ap (row_at cells') eq, p.row_from) in
        let o = e.others q ne in
        ne (s.chained.one_each q (a - 1) (omega (arith, o.row, p.row_from)) (sym o.row ∙ qr ∙ sym hit) (sym o.column ∙ qc ∙ sym (t.ahead nz).0))) in
        let left : fresh - (used - 1) ≡ suc (fresh - used) = omega (arith, s.begun, used_from) in
        put_by (a - 1) (record { others = e.others; old = inr (hit, (t.ahead nz).0); new = inl row; many = e.many }) ch e.wide none
        (λ l. absurd (omega arith)) before_fresh (omega arith) s.lent (omega (arith, s.begun))
        (ap (λ n. spare cells' fresh n a) left ∙ first_spare cells' fresh (fresh - used) a (record {
          some = nz;
          to = omega (arith, before_fresh);
          idle = row;
          rest = ap (spare cells' fresh (fresh - used)) (ap (λ (u : Cell). u.next) e.here ∙ xn)
              ∙ spare_used cells cells' fresh (a - 1) (fresh - used) free (idle_edited heads heads' cells cells' c b a (next_at cells (a - 1)) x e t.stands) (omega (arith, p.row_from)) s.spared;
        }))
        (omega (arith, one_there, used_from))

    pub put_replaced : {heads' : List ℕ} {cells' : List Cell} {v : ℕ} → 1 ≤ v → heads' ≡ heads → cells' ≡ set cells (a - 1) (recoded (cell cells (a - 1)) v) → Put rows columns used free fresh heads heads' cells cells' r c v
    put_replaced {heads'} {cells'} {v} some eh ec =
        let lt : a - 1 < length cells = used_lt cells (a - 1) (omega (arith, p.row_from)) in
        let other : (q : ℕ) → (q ≡ a - 1 → ⊥) → cell cells' q ≡ cell cells q = λ q ne. ap (λ ys. cell ys q) ec ∙ get_or-set_other cells (a - 1) q _ _ ne in
        let here : cell cells' (a - 1) ≡ recoded (cell cells (a - 1)) v = ap (λ ys. cell ys (a - 1)) ec ∙ get_or-set_same cells (a - 1) _ _ lt in
        let links : Links cells cells' = record {
          row = λ q. ⊎_elim (λ (e : q ≡ a - 1). ap (row_at cells') e ∙ ap (λ (u : Cell). u.row) here ∙ ap (row_at cells) (sym e)) (λ (ne : q ≡ a - 1 → ⊥). ap (λ (u : Cell). u.row) (other q ne)) (cases_eq q (a - 1));
          column = λ q. ⊎_elim (λ (e : q ≡ a - 1). ap (column_at cells') e ∙ ap (λ (u : Cell). u.column) here ∙ ap (column_at cells) (sym e)) (λ (ne : q ≡ a - 1 → ⊥). ap (λ (u : Cell). u.column) (other q ne)) (cases_eq q (a - 1));
          next = λ q. ⊎_elim (λ (e : q ≡ a - 1). ap (next_at cells') e ∙ ap (λ (u : Cell). u.next) here ∙ ap (next_at cells) (sym e)) (λ (ne : q ≡ a - 1 → ⊥). ap (λ (u : Cell). u.next) (other q ne)) (cases_eq q (a - 1));
        } in
        let ch = links_chained columns heads heads' cells cells' s.chained eh links in
        let row : row_at cells' (a - 1) ≡ r = links.row (a - 1) ∙ hit in
        let column : column_at cells' (a - 1) ≡ c = links.column (a - 1) ∙ (t.ahead nz).0 in
        let code : code_at cells' (a - 1) ≡ v = ap (λ (u : Cell). u.code) here in
        let idle : Idle cells cells' (a - 1) = λ q _ z. (links.row q ∙ z, links.next q) in
        put_by (a - 1) (record { others = λ q ne. same_of _ _ (other q ne); old = inr (hit, (t.ahead nz).0); new = inr (row, column); many = ap length ec ∙ length-set cells (a - 1) _ }) ch (ap length eh)
        (found_by cells' (a - 1) r c v ch.one_each row p.row_from column code) (λ _. omega arith) before_fresh (omega arith) s.lent s.begun
        (spare_used cells cells' fresh (a - 1) (fresh - used) free idle (omega (arith, p.row_from)) s.spared) (omega (arith, one_there, one_some v some))
