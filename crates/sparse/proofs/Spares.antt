-- The chain of cells that are out of use.
use Rattle.std.proofs.Common.{◌≡◌, ℕ, zero, suc, ◌+◌, ◌-◌, ◌≤◌, true, not, ◌&&◌, eqb, leb, List, sym, refl, ap, ◌∙◌, subst, arith}
use Rattle.std.proofs.lemmas.Bool.{ne_eqb, eq-eqb, eqb-true, eqb-false, leb-true, le-leb, and_parts, and_from, not-true, not_from_false}
use Rattle.sparse.specs.declared.cell.Cell.{Cell}
use Rattle.sparse.specs.Cells.{row_at, next_at}
use Rattle.sparse.specs.Chains.{spare}

module _ (cells : List Cell) (top : ℕ) where
  -- the first of n + 1
  pub record First (n link : ℕ) : Type 0 where
    pub some : link ≡ 0 → ⊥
    pub to : link ≤ top
    pub idle : row_at cells (link - 1) ≡ 0
    pub rest : spare cells top n (next_at cells (link - 1)) ≡ true

  spare_first : (n link : ℕ) → spare cells top (suc n) link ≡ true → First n link
  unfolding spare
  spare_first n link h =
      let p = and_parts (not (eqb link 0) && leb link top) _ h in
      let q = and_parts (not (eqb link 0)) (leb link top) p.0 in
      let t = and_parts (eqb (row_at cells (link - 1)) 0) _ p.1 in
      record { some = eqb-false link 0 (not-true _ q.0); to = leb-true _ _ q.1; idle = eqb-true _ _ t.0; rest = t.1 }

  pub first_spare : (n link : ℕ) → First n link → spare cells top (suc n) link ≡ true
  unfolding spare
  first_spare n link f =
      and_from _ _ (and_from _ _ (not_from_false _ (ne_eqb link 0 f.some)) (le-leb _ _ f.to)) (and_from _ _ (eq-eqb _ _ f.idle) f.rest)

  spare_end : (link : ℕ) → spare cells top 0 link ≡ true → link ≡ 0
  unfolding spare
  spare_end link h = eqb-true link 0 h

  pub spare_nil : spare cells top 0 0 ≡ true
  unfolding spare
  spare_nil = refl

  -- none are left exactly if the link is 0
  pub spare_none : (n link : ℕ) → spare cells top n link ≡ true → link ≡ 0 → n ≡ 0
  spare_none zero link h z = refl
  spare_none (suc n) link h z = absurd ((spare_first n link h).some z)

  pub spare_some : (n link : ℕ) → spare cells top n link ≡ true → (link ≡ 0 → ⊥) → (1 ≤ n) × First (n - 1) link
  spare_some zero link h d = absurd (d (spare_end link h))
  spare_some (suc n) link h d = (omega arith, let e : suc n - 1 ≡ n = omega arith in subst (λ m. First m link) (sym e) (spare_first n link h))

  -- a link has one number of cells after it
  spare_one : (m n link : ℕ) → spare cells top m link ≡ true → spare cells top n link ≡ true → m ≡ n
  spare_one zero n link h g = sym (spare_none n link g (spare_end link h))
  spare_one (suc m) zero link h g = absurd ((spare_first m link h).some (spare_end link g))
  spare_one (suc m) (suc n) link h g = ap suc (spare_one m n _ (spare_first m link h).rest (spare_first n link g).rest)

  -- a cell in use is in no such chain
  used_away : (k : ℕ) → 1 ≤ row_at cells k → (m : ℕ) → spare cells top m (k + 1) ≡ true → ⊥
  used_away k u zero s = omega (arith, spare_end (k + 1) s)
  used_away k u (suc m) s = let at : k + 1 - 1 ≡ k = omega arith in omega (arith, (spare_first m (k + 1) s).idle, ap (row_at cells) at)

-- but for the place k, what is out of use stays so, and leads on as it did
abbrev pub Idle : List Cell → List Cell → ℕ → Type 0
Idle cells cells' k = (q : ℕ) → (q ≡ k → ⊥) → row_at cells q ≡ 0 → (row_at cells' q ≡ 0) × (next_at cells' q ≡ next_at cells q)

-- a change at a place that is not in the chain leaves it
spare_kept : (cells cells' : List Cell) (top k n link : ℕ) → Idle cells cells' k → ((m : ℕ) → m ≤ n → spare cells top m (k + 1) ≡ true → ⊥) → spare cells top n link ≡ true → spare cells' top n link ≡ true
unfolding spare
spare_kept cells cells' top k zero link o away h = h
spare_kept cells cells' top k (suc n) link o away h =
    let f = spare_first cells top n link h in
    let ne : link - 1 ≡ k → ⊥ = λ e. away (suc n) (omega arith) (let at : k + 1 ≡ link = omega (arith, f.some) in ap (spare cells top (suc n)) at ∙ h) in
    let s = o (link - 1) ne f.idle in
    first_spare cells' top n link (record {
      some = f.some;
      to = f.to;
      idle = s.0;
      rest = ap (spare cells' top n) s.1 ∙ spare_kept cells cells' top k n _ o (λ m g. away m (omega arith)) f.rest;
    })

pub spare_used : (cells cells' : List Cell) (top k n link : ℕ) → Idle cells cells' k → 1 ≤ row_at cells k → spare cells top n link ≡ true → spare cells' top n link ≡ true
spare_used cells cells' top k n link o used h = spare_kept cells cells' top k n link o (λ m _. used_away cells top k used m) h

-- the first cell is not in the chain after it
pub spare_taken : (cells cells' : List Cell) (top n link : ℕ) → Idle cells cells' (link - 1) → First cells top n link → spare cells' top n (next_at cells (link - 1)) ≡ true
spare_taken cells cells' top n link o f = spare_kept cells cells' top (link - 1) n _ o
    (λ m g s. let at : link - 1 + 1 ≡ link = omega (arith, f.some) in
    omega (arith, spare_one cells top m (suc n) link (ap (spare cells top m) (sym at) ∙ s) (first_spare cells top n link f)))
    f.rest
