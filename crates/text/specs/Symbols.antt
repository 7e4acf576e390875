-- What each character is, by its code.
use Rattle.std.specs.Prelude.{ℕ, ◌-◌, cond, ◌==◌}
use Rattle.text.specs.declared.symbol.Symbol.{Symbol}
use Rattle.text.specs.declared.symbol.Symbol.TheVariants.{Survey, Sensor, Fence, End, Space, LineEnd, Digit, Other}
use Rattle.text.specs.Columns.{digit}

abbrev pub symbol_of : ℕ → Symbol
symbol_of c =
    cond (c == 83) Survey
    (cond (c == 78) Sensor
    (cond (c == 70) Fence
    (cond (c == 59) End
    (cond (c == 32) Space
    (cond (c == 10) LineEnd
    (cond (digit c) (Digit (c - 48)) Other))))))
