-- A finite field on the codes 0 to order - 1: code 0 is zero and code 1 is one.
use Rattle.std.specs.Prelude.{◌≡◌, ℕ, ◌<◌, ◌≤◌, ◌≢◌}

pub record Arithmetic : Type 0 where
  pub order : ℕ
  pub sum : ℕ → ℕ → ℕ
  pub negative : ℕ → ℕ
  pub product : ℕ → ℕ → ℕ
  pub inverse : ℕ → ℕ

-- a code of the field
abbrev pub Code : Arithmetic → ℕ → Type 0
Code F a = a < F.order

pub record FieldLaws (F : Arithmetic) : Type 0 where
  pub least : 2 ≤ F.order
  pub most : F.order ≤ 65536
  -- every answer is a code
  pub sum_code : (a b : ℕ) → Code F (F.sum a b)
  pub negative_code : (a : ℕ) → Code F (F.negative a)
  pub product_code : (a b : ℕ) → Code F (F.product a b)
  pub inverse_code : (a : ℕ) → Code F (F.inverse a)
  -- the laws of a field, on codes
  pub sum_comm : (a b : ℕ) → Code F a → Code F b → F.sum a b ≡ F.sum b a
  pub sum_assoc : (a b c : ℕ) → Code F a → Code F b → Code F c → F.sum (F.sum a b) c ≡ F.sum a (F.sum b c)
  pub sum_zero : (a : ℕ) → Code F a → F.sum a 0 ≡ a
  pub product_comm : (a b : ℕ) → Code F a → Code F b → F.product a b ≡ F.product b a
  pub product_assoc : (a b c : ℕ) → Code F a → Code F b → Code F c → F.product (F.product a b) c ≡ F.product a (F.product b c)
  pub product_one : (a : ℕ) → Code F a → F.product a 1 ≡ a
  pub distributes : (a b c : ℕ) → Code F a → Code F b → Code F c → F.product a (F.sum b c) ≡ F.sum (F.product a b) (F.product a c)
  pub sum_negative : (a : ℕ) → Code F a → F.sum a (F.negative a) ≡ 0
  pub product_inverse : (a : ℕ) → Code F a → a ≢ 0 → F.product a (F.inverse a) ≡ 1
  pub inverse_zero : F.inverse 0 ≡ 0
  -- a function given what is no code answers 0
  pub sum_outside_left : (a b : ℕ) → F.order ≤ a → F.sum a b ≡ 0
  pub sum_outside_right : (a b : ℕ) → F.order ≤ b → F.sum a b ≡ 0
  pub negative_outside : (a : ℕ) → F.order ≤ a → F.negative a ≡ 0
  pub product_outside_left : (a b : ℕ) → F.order ≤ a → F.product a b ≡ 0
  pub product_outside_right : (a b : ℕ) → F.order ≤ b → F.product a b ≡ 0
  pub inverse_outside : (a : ℕ) → F.order ≤ a → F.inverse a ≡ 0

-- the same order and the same answers
pub record Alike (F G : Arithmetic) : Type 0 where
  pub orders : F.order ≡ G.order
  pub sums : (a b : ℕ) → F.sum a b ≡ G.sum a b
  pub negatives : (a : ℕ) → F.negative a ≡ G.negative a
  pub products : (a b : ℕ) → F.product a b ≡ G.product a b
  pub inverses : (a : ℕ) → F.inverse a ≡ G.inverse a
