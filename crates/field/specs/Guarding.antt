-- The laws of a guarded arithmetic, from laws that are shown on codes alone.
use Rattle.std.specs.Prelude.{◌≡◌, ℕ, ◌<◌, ◌≤◌, ◌&&◌, ◌≢◌, nat_lt}
use Rattle.std.proofs.Common.{sym, ap, ◌∙◌, arith, lt-ltb, le-ltb}
use Rattle.std.proofs.lemmas.Bool.{cond-true, cond-false, cond_both, and_from, and_left, and_right, and_parts, ltb-true}
use Rattle.field.specs.Arithmetic.{Arithmetic, FieldLaws}
use Rattle.field.specs.Guarded.{guard, guarded, guarded₂}

-- what is owed of an arithmetic on its codes alone
pub record CodeLaws (a : Arithmetic) : Type 0 where
  pub least : 2 ≤ a.order
  pub most : a.order ≤ 65536
  pub sum_code : (x y : ℕ) → x < a.order → y < a.order → a.sum x y < a.order
  pub negative_code : (x : ℕ) → x < a.order → a.negative x < a.order
  pub product_code : (x y : ℕ) → x < a.order → y < a.order → a.product x y < a.order
  pub inverse_code : (x : ℕ) → x < a.order → a.inverse x < a.order
  pub sum_comm : (x y : ℕ) → x < a.order → y < a.order → a.sum x y ≡ a.sum y x
  pub sum_assoc : (x y z : ℕ) → x < a.order → y < a.order → z < a.order → a.sum (a.sum x y) z ≡ a.sum x (a.sum y z)
  pub sum_zero : (x : ℕ) → x < a.order → a.sum x 0 ≡ x
  pub sum_negative : (x : ℕ) → x < a.order → a.sum x (a.negative x) ≡ 0
  pub product_comm : (x y : ℕ) → x < a.order → y < a.order → a.product x y ≡ a.product y x
  pub product_assoc : (x y z : ℕ) → x < a.order → y < a.order → z < a.order → a.product (a.product x y) z ≡ a.product x (a.product y z)
  pub product_one : (x : ℕ) → x < a.order → a.product x 1 ≡ x
  pub product_inverse : (x : ℕ) → x < a.order → (x ≢ 0) → a.product x (a.inverse x) ≡ 1
  pub distributes : (x y z : ℕ) → x < a.order → y < a.order → z < a.order → a.product x (a.sum y z) ≡ a.sum (a.product x y) (a.product x z)
  pub inverse_zero : a.inverse 0 ≡ 0

pub inside : (q : ℕ) (f : ℕ → ℕ) (x : ℕ) → x < q → guarded q f x ≡ f x
inside q f x h = cond-true _ _ _ (lt-ltb x q h)

pub outside : (q : ℕ) (f : ℕ → ℕ) (x : ℕ) → q ≤ x → guarded q f x ≡ 0
outside q f x h = cond-false _ _ _ (le-ltb x q h)

pub inside₂ : (q : ℕ) (f : ℕ → ℕ → ℕ) (x y : ℕ) → x < q → y < q → guarded₂ q f x y ≡ f x y
inside₂ q f x y h k = cond-true _ _ _ (and_from _ _ (lt-ltb x q h) (lt-ltb y q k))

pub outside_left : (q : ℕ) (f : ℕ → ℕ → ℕ) (x y : ℕ) → q ≤ x → guarded₂ q f x y ≡ 0
outside_left q f x y h = cond-false _ _ _ (and_left _ _ (le-ltb x q h))

pub outside_right : (q : ℕ) (f : ℕ → ℕ → ℕ) (x y : ℕ) → q ≤ y → guarded₂ q f x y ≡ 0
outside_right q f x y h = cond-false _ _ _ (and_right _ _ (le-ltb y q h))

code : (q : ℕ) (f : ℕ → ℕ) → 0 < q → ((x : ℕ) → x < q → f x < q) → (x : ℕ) → guarded q f x < q
code q f some each x = cond_both (nat_lt x q) (f x) 0 (λ r. r < q) (λ e. each x (ltb-true x q e)) (λ _. some)

code₂ : (q : ℕ) (f : ℕ → ℕ → ℕ) → 0 < q → ((x y : ℕ) → x < q → y < q → f x y < q) → (x y : ℕ) → guarded₂ q f x y < q
code₂ q f some each x y =
    cond_both (nat_lt x q && nat_lt y q) (f x y) 0 (λ r. r < q)
    (λ e. let both = and_parts _ _ e in each x y (ltb-true x q both.0) (ltb-true y q both.1))
    (λ _. some)

-- with both arguments codes, also those that are answers
module _ (q : ℕ) (f g : ℕ → ℕ → ℕ) (fc : (x y : ℕ) → x < q → y < q → f x y < q) where
  in_left : (x y z : ℕ) → x < q → y < q → z < q → guarded₂ q g (guarded₂ q f x y) z ≡ g (f x y) z
  in_left x y z h k l = ap (λ t. guarded₂ q g t z) (inside₂ q f x y h k) ∙ inside₂ q g (f x y) z (fc x y h k) l

  in_right : (x y z : ℕ) → x < q → y < q → z < q → guarded₂ q g x (guarded₂ q f y z) ≡ g x (f y z)
  in_right x y z h k l = ap (guarded₂ q g x) (inside₂ q f y z k l) ∙ inside₂ q g x (f y z) h (fc y z k l)

in_one : (q : ℕ) (g : ℕ → ℕ → ℕ) (f : ℕ → ℕ) → ((x : ℕ) → x < q → f x < q) → (x : ℕ) → x < q → guarded₂ q g x (guarded q f x) ≡ g x (f x)
in_one q g f fc x h = ap (guarded₂ q g x) (inside q f x h) ∙ inside₂ q g x (f x) h (fc x h)

pub guard_laws : (a : Arithmetic) → CodeLaws a → FieldLaws (guard a)
guard_laws a l =
    let q : ℕ = a.order in
    let two : 2 ≤ q = l.least in
    let some : 0 < q = omega arith in
    let one : 1 < q = omega arith in
    let s = a.sum in
    let p = a.product in
    record {
      least = l.least;
      most = l.most;
      sum_code = code₂ q s some l.sum_code;
      negative_code = code q a.negative some l.negative_code;
      product_code = code₂ q p some l.product_code;
      inverse_code = code q a.inverse some l.inverse_code;
      sum_comm = λ x y h k. inside₂ q s x y h k ∙ l.sum_comm x y h k ∙ sym (inside₂ q s y x k h);
      sum_assoc = λ x y z h k m. in_left q s s l.sum_code x y z h k m ∙ l.sum_assoc x y z h k m ∙ sym (in_right q s s l.sum_code x y z h k m);
      sum_zero = λ x h. inside₂ q s x 0 h some ∙ l.sum_zero x h;
      sum_negative = λ x h. in_one q s a.negative l.negative_code x h ∙ l.sum_negative x h;
      product_comm = λ x y h k. inside₂ q p x y h k ∙ l.product_comm x y h k ∙ sym (inside₂ q p y x k h);
      product_assoc = λ x y z h k m. in_left q p p l.product_code x y z h k m ∙ l.product_assoc x y z h k m ∙ sym (in_right q p p l.product_code x y z h k m);
      product_one = λ x h. inside₂ q p x 1 h one ∙ l.product_one x h;
      product_inverse = λ x h n. in_one q p a.inverse l.inverse_code x h ∙ l.product_inverse x h n;
      distributes = λ x y z h k m.
          in_right q s p l.sum_code x y z h k m ∙ l.distributes x y z h k m
          ∙ sym (ap (λ t. guarded₂ q s t (guarded₂ q p x z)) (inside₂ q p x y h k) ∙ ap (guarded₂ q s (p x y)) (inside₂ q p x z h m)
          ∙ inside₂ q s (p x y) (p x z) (l.product_code x y h k) (l.product_code x z h m));
      inverse_zero = inside q a.inverse 0 some ∙ l.inverse_zero;
      sum_outside_left = outside_left q s;
      sum_outside_right = outside_right q s;
      negative_outside = outside q a.negative;
      product_outside_left = outside_left q p;
      product_outside_right = outside_right q p;
      inverse_outside = outside q a.inverse;
    }
