-- The token at a place, by the character there.
use Rattle.std.proofs.Common.{◌≡◌, ℕ, ◌+◌, ◌<◌, ◌⊎◌, List, [], ◌∷◌, length, get_or, drop, Some, None, Option, sym, ap, ◌∙◌, inl, inr, arith}
use Rattle.std.proofs.lemmas.List.{at_drop_more, drop-drop}
use Rattle.refusal.specs.Outcomes.{accepted}
use Rattle.text.specs.declared.symbol.Symbol.{Symbol}
use Rattle.text.specs.declared.symbol.Symbol.TheVariants.{Survey, Sensor, Fence, End, Space, LineEnd, Digit, Other}
use Rattle.std.proofs.lemmas.Bool.{cond-true, eq-eqb}
use Rattle.std.proofs.lemmas.Bool.Decides.{nat_tests}
use Rattle.text.specs.Columns.{and_next}
use Rattle.text.specs.Reading.{number_first, byte, formed}
use Rattle.text.specs.Symbols.{symbol_of}
use Rattle.text.specs.Tokens.{number, mark, line_end, part_by, part_first}

module _ (s : List ℕ) (at : ℕ) (k : Symbol) where
  -- the character at a place tells what kind of token is there
  pub part_at : at < length s → k ≡ symbol_of (get_or s at 0) → part_first (drop at s) ≡ part_by k (get_or s at 0) (drop (at + 1) s)
  part_at h e = at_drop_more part_first s at 0 h ∙ ap (λ j. part_by j (get_or s at 0) (drop (at + 1) s)) (sym e)

pub mark_by : (k : Symbol) (a : ℕ) (rest : List ℕ) → (k ≡ Survey) ⊎ ((k ≡ Sensor) ⊎ ((k ≡ Fence) ⊎ (k ≡ End))) → part_by k a rest ≡ Some (mark a)
mark_by k a rest (inl e) = ap (λ j. part_by j a rest) e
mark_by k a rest (inr (inl e)) = ap (λ j. part_by j a rest) e
mark_by k a rest (inr (inr (inl e))) = ap (λ j. part_by j a rest) e
mark_by k a rest (inr (inr (inr e))) = ap (λ j. part_by j a rest) e

pub number_by : (k : Symbol) (a : ℕ) (rest : List ℕ) → (k ≡ Space) ⊎ ((d : ℕ) × (k ≡ Digit d)) → part_by k a rest ≡ and_next (number_first (a ∷ rest)) (λ v. Some (number v))
number_by k a rest (inl e) = ap (λ j. part_by j a rest) e
number_by k a rest (inr e) = ap (λ j. part_by j a rest) e.1

-- the number column that begins at a place where a space or a digit stands
pub number_at : (s : List ℕ) (at : ℕ) (k : Symbol) (o : Option ℕ) → at < length s → k ≡ symbol_of (get_or s at 0) → (k ≡ Space) ⊎ ((d : ℕ) × (k ≡ Digit d))
    → o ≡ number_first (drop at s) → part_first (drop at s) ≡ and_next o (λ v. Some (number v))
number_at s at k o h e w n =
    part_at s at k h e ∙ number_by k (get_or s at 0) (drop (at + 1) s) w
    ∙ ap (λ p. and_next p (λ v. Some (number v))) (sym (n ∙ at_drop_more number_first s at 0 h))

-- a number is no mark
number_no_mark : (o : Option ℕ) (b a : ℕ) → and_next o (λ v. Some (number v)) ≡ Some (mark a) → b ≡ a
number_no_mark None b a e = cc
number_no_mark (Some v) b a e = cc

-- a mark is the byte that stands first
mark_by_is : (k : Symbol) (b a : ℕ) (rest : List ℕ) → part_by k b rest ≡ Some (mark a) → b ≡ a
mark_by_is Survey b a rest e = cc
mark_by_is Sensor b a rest e = cc
mark_by_is Fence b a rest e = cc
mark_by_is End b a rest e = cc
mark_by_is Space b a rest e = number_no_mark (number_first (b ∷ rest)) b a e
mark_by_is LineEnd b a rest e = cc
mark_by_is (Digit d) b a rest e = number_no_mark (number_first (b ∷ rest)) b a e
mark_by_is Other b a rest e = cc

byte_mark : (s : List ℕ) (a : ℕ) → Some (mark a) ≡ part_first s → byte a s ≡ Some (drop 1 s)
byte_mark [] a e = cc
byte_mark (b ∷ rest) a e = cond-true _ _ _ (eq-eqb b a (mark_by_is (symbol_of b) b a rest (sym e)))

byte_line_end : (s : List ℕ) → Some line_end ≡ part_first s → byte 10 s ≡ Some (drop 1 s)
byte_line_end [] e = cc
byte_line_end (b ∷ rest) e = grind (arith, nat_tests)

-- the bytes behind a mark and behind a line end, by their places
pub mark_behind : (s : List ℕ) (at a x : ℕ) → a ≡ x → Some (mark a) ≡ part_first (drop at s) → accepted (drop (at + 1) s) ≡ formed (byte x (drop at s))
mark_behind s at a x q e = sym (ap (λ y. formed (byte y (drop at s))) (sym q) ∙ ap formed (byte_mark (drop at s) a e) ∙ ap accepted (drop-drop 1 at s))

pub line_end_behind : (s : List ℕ) (at : ℕ) → Some line_end ≡ part_first (drop at s) → accepted (drop (at + 1) s) ≡ formed (byte 10 (drop at s))
line_end_behind s at e = sym (ap formed (byte_line_end (drop at s) e) ∙ ap accepted (drop-drop 1 at s))
