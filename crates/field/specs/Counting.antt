-- Tests of the numbers below a bound: whether all pass, and the last that does.
use Rattle.std.specs.Prelude.{ℕ, zero, suc, Bool, true, cond, ◌&&◌}

-- every number below n passes
abbrev pub all : ℕ → (ℕ → Bool) → Bool
all zero t = true
all (suc n) t = t n && all n t

-- the last number below n that passes, or 0 where none does
abbrev pub last_below : ℕ → (ℕ → Bool) → ℕ
last_below zero t = 0
last_below (suc n) t = cond (t n) n (last_below n t)
