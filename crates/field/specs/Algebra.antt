-- A field as operations on any type with laws that need no side conditions, and the maps that keep the operations.
use Rattle.std.specs.Prelude.{◌≡◌}

pub record Operations (E : Type 0) : Type 0 where
  pub zero : E
  pub one : E
  pub add : E → E → E
  pub mul : E → E → E
  pub neg : E → E
  pub inv : E → E

pub record Laws {E : Type 0} (k : Operations E) : Type 0 where
  pub add_comm : (x y : E) → k.add x y ≡ k.add y x
  pub add_assoc : (x y z : E) → k.add (k.add x y) z ≡ k.add x (k.add y z)
  pub add_zero : (x : E) → k.add x k.zero ≡ x
  pub add_neg : (x : E) → k.add x (k.neg x) ≡ k.zero
  pub mul_comm : (x y : E) → k.mul x y ≡ k.mul y x
  pub mul_assoc : (x y z : E) → k.mul (k.mul x y) z ≡ k.mul x (k.mul y z)
  pub mul_one : (x : E) → k.mul x k.one ≡ x
  pub mul_add : (x y z : E) → k.mul x (k.add y z) ≡ k.add (k.mul x y) (k.mul x z)
  pub mul_inv : (x : E) → ¬ (x ≡ k.zero) → k.mul x (k.inv x) ≡ k.one
  pub apart : ¬ (k.zero ≡ k.one)
  pub decide : (x y : E) → Dec (x ≡ y)

pub record Homomorphism {D E : Type 0} (k : Operations D) (l : Operations E) (φ : D → E) : Type 0 where
  pub zero : φ k.zero ≡ l.zero
  pub one : φ k.one ≡ l.one
  pub add : (x y : D) → φ (k.add x y) ≡ l.add (φ x) (φ y)
  pub mul : (x y : D) → φ (k.mul x y) ≡ l.mul (φ x) (φ y)
  pub neg : (x : D) → φ (k.neg x) ≡ l.neg (φ x)
  pub inv : (x : D) → φ (k.inv x) ≡ l.inv (φ x)
