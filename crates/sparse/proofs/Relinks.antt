-- A cell written, and the link after another changed: place by place.
use Rattle.std.proofs.Common.{◌≡◌, ℕ, ◌+◌, ◌-◌, ◌<◌, ◌≤◌, eqb, List, length, get_or, set, sym, ap, ◌∙◌, ⊎_elim, arith, length-set, get_or-set_other, get_or-set_same}
use Rattle.std.proofs.lemmas.Bool.{cond-true, cond-false, ne_eqb, eq-eqb, cases_eq}
use Rattle.sparse.specs.declared.cell.Cell.{Cell}
use Rattle.sparse.specs.Cells.{cell, next_at}
use Rattle.sparse.specs.Chains.{leading, linked_cells, linked_heads}
use Rattle.sparse.proofs.Found.{Same}

-- the cell x is at the link l, and the link after b in the column c is `to`
pub record Edited (heads heads' : List ℕ) (cells cells' : List Cell) (c b l to : ℕ) (x : Cell) : Type 0 where
  pub others : (q : ℕ) → (q ≡ l - 1 → ⊥) → Same (cell cells' q) (cell cells q)
  pub here : cell cells' (l - 1) ≡ x
  pub nexts : (q : ℕ) → (q ≡ l - 1 → ⊥) → (q + 1 ≡ b → ⊥) → next_at cells' q ≡ next_at cells q
  pub before : (q : ℕ) → q + 1 ≡ b → next_at cells' q ≡ to
  pub heads_same : (d : ℕ) → 1 ≤ d → (b ≡ 0 → d ≡ c → ⊥) → get_or heads' (d - 1) 0 ≡ get_or heads (d - 1) 0
  pub head : (d : ℕ) → b ≡ 0 → d ≡ c → get_or heads' (d - 1) 0 ≡ to
  pub many : length cells' ≡ length cells
  pub wide : length heads' ≡ length heads

-- the cells with another link, one that is not 0
abbrev led : List Cell → ℕ → ℕ → List Cell
led cells b to = set cells (b - 1) (leading (cell cells (b - 1)) to)

linked_none : (cells : List Cell) (b to : ℕ) → b ≡ 0 → linked_cells cells b to ≡ cells
linked_none cells b to e = cond-true (eqb b 0) _ _ (eq-eqb b 0 e)

linked_some : (cells : List Cell) (b to : ℕ) → (b ≡ 0 → ⊥) → linked_cells cells b to ≡ led cells b to
linked_some cells b to d = cond-false (eqb b 0) _ _ (ne_eqb b 0 d)

led_here : (cells : List Cell) (b to q : ℕ) → b - 1 < length cells → q ≡ b - 1 → cell (led cells b to) q ≡ leading (cell cells q) to
led_here cells b to q l e = ap (cell (led cells b to)) e ∙ get_or-set_same cells (b - 1) _ _ l ∙ ap (λ k. leading (cell cells k) to) (sym e)

led_other : (cells : List Cell) (b to q : ℕ) → (q ≡ b - 1 → ⊥) → cell (led cells b to) q ≡ cell cells q
led_other cells b to q d = get_or-set_other cells (b - 1) q _ _ d

led_same : (cells : List Cell) (b to q : ℕ) → b - 1 < length cells → Same (cell (led cells b to) q) (cell cells q)
led_same cells b to q l = ⊎_elim
    (λ (e : q ≡ b - 1). let h = led_here cells b to q l e in
    record { row = ap (λ (x : Cell). x.row) h; column = ap (λ (x : Cell). x.column) h; code = ap (λ (x : Cell). x.code) h })
    (λ (d : q ≡ b - 1 → ⊥). let h = led_other cells b to q d in
    record { row = ap (λ (x : Cell). x.row) h; column = ap (λ (x : Cell). x.column) h; code = ap (λ (x : Cell). x.code) h })
    (cases_eq q (b - 1))

same_through : (x y z : Cell) → Same x y → y ≡ z → Same x z
same_through x y z s e = record { row = s.row ∙ ap (λ (u : Cell). u.row) e; column = s.column ∙ ap (λ (u : Cell). u.column) e; code = s.code ∙ ap (λ (u : Cell). u.code) e }

same_from : (x y z : Cell) → x ≡ y → Same y z → Same x z
same_from x y z e s = record { row = ap (λ (u : Cell). u.row) e ∙ s.row; column = ap (λ (u : Cell). u.column) e ∙ s.column; code = ap (λ (u : Cell). u.code) e ∙ s.code }

pub same_of : (x y : Cell) → x ≡ y → Same x y
same_of x y e = record { row = ap (λ (u : Cell). u.row) e; column = ap (λ (u : Cell). u.column) e; code = ap (λ (u : Cell). u.code) e }

module _ (heads heads' : List ℕ) (cells cells' : List Cell) (c b l to : ℕ) (x : Cell)
    (in_cells : l - 1 < length cells) (in_heads : c - 1 < length heads)
    (cells_are : cells' ≡ linked_cells (set cells (l - 1) x) b to) (heads-are : heads' ≡ linked_heads heads c b to) where
  edited_first : 1 ≤ c → b ≡ 0 → Edited heads heads' cells cells' c b l to x
  edited_first lc z =
      let are : cells' ≡ set cells (l - 1) x = cells_are ∙ linked_none _ b to z in
      let hs : heads' ≡ set heads (c - 1) to = heads-are ∙ cond-true (eqb b 0) _ _ (eq-eqb b 0 z) in
      let other : (q : ℕ) → (q ≡ l - 1 → ⊥) → cell cells' q ≡ cell cells q = λ q d. ap (λ ys. cell ys q) are ∙ get_or-set_other cells (l - 1) q _ _ d in
      record {
        others = λ q d. same_of _ _ (other q d);
        here = ap (λ ys. cell ys (l - 1)) are ∙ get_or-set_same cells (l - 1) _ _ in_cells;
        nexts = λ q d n. ap (λ (u : Cell). u.next) (other q d);
        before = λ q e. absurd (omega arith);
        heads_same = λ d ld n. let ne : d - 1 ≡ c - 1 → ⊥ = λ e. n z (omega arith) in ap (λ ys. get_or ys (d - 1) 0) hs ∙ get_or-set_other heads (c - 1) (d - 1) _ _ ne;
        head = λ d _ e. ap (λ y. get_or heads' (y - 1) 0) e ∙ ap (λ ys. get_or ys (c - 1) 0) hs ∙ get_or-set_same heads (c - 1) _ _ in_heads;
        many = ap length are ∙ length-set cells (l - 1) x;
        wide = ap length hs ∙ length-set heads (c - 1) to;
      }

  edited_later : (b ≡ 0 → ⊥) → b - 1 < length cells → (b - 1 ≡ l - 1 → ⊥) → Edited heads heads' cells cells' c b l to x
  edited_later nz lb apart =
      let are : cells' ≡ led (set cells (l - 1) x) b to = cells_are ∙ linked_some _ b to nz in
      let hs : heads' ≡ heads = heads-are ∙ cond-false (eqb b 0) _ _ (ne_eqb b 0 nz) in
      let long : length (set cells (l - 1) x) ≡ length cells = length-set cells (l - 1) x in
      let lb' : b - 1 < length (set cells (l - 1) x) = omega arith in
      let under : (q : ℕ) → (q ≡ l - 1 → ⊥) → cell (set cells (l - 1) x) q ≡ cell cells q = λ q d. get_or-set_other cells (l - 1) q _ _ d in
      record {
        others = λ q d. same_from _ _ _ (ap (λ ys. cell ys q) are) (same_through _ _ _ (led_same (set cells (l - 1) x) b to q lb') (under q d));
        here = ap (λ ys. cell ys (l - 1)) are ∙ led_other (set cells (l - 1) x) b to (l - 1) (λ e. apart (sym e)) ∙ get_or-set_same cells (l - 1) _ _ in_cells;
        nexts = λ q d n. let ne : q ≡ b - 1 → ⊥ = λ e. n (omega (arith, nz)) in ap (λ ys. next_at ys q) are ∙ ap (λ (u : Cell). u.next) (led_other (set cells (l - 1) x) b to q ne ∙ under q d);
        before = λ q e. let at : q ≡ b - 1 = omega arith in ap (λ ys. next_at ys q) are ∙ ap (λ (u : Cell). u.next) (led_here (set cells (l - 1) x) b to q lb' at);
        heads_same = λ d _ _. ap (λ ys. get_or ys (d - 1) 0) hs;
        head = λ d z e. absurd (nz z);
        many = ap length are ∙ length-set (set cells (l - 1) x) (b - 1) _ ∙ long;
        wide = ap length hs;
      }

-- a link that is not 0 leads to a cell in use, and so to another place than one out of use
pub edited : (heads heads' : List ℕ) (cells cells' : List Cell) (c b l to : ℕ) (x : Cell) → 1 ≤ c → c ≤ length heads → l - 1 < length cells
    → ((b ≡ 0 → ⊥) → (b - 1 < length cells) × (b - 1 ≡ l - 1 → ⊥))
    → cells' ≡ linked_cells (set cells (l - 1) x) b to → heads' ≡ linked_heads heads c b to → Edited heads heads' cells cells' c b l to x
edited heads heads' cells cells' c b l to x lc ch lt h p q = ⊎_elim
    (λ (z : b ≡ 0). edited_first heads heads' cells cells' c b l to x lt (omega arith) p q lc z)
    (λ (nz : b ≡ 0 → ⊥). edited_later heads heads' cells cells' c b l to x lt (omega arith) p q nz (h nz).0 (h nz).1)
    (cases_eq b 0)
