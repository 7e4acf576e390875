-- Which of the two answers a kind stands for.
use Rattle.std.specs.Prelude.{Bool, true, false, cond}
use Rattle.homology.specs.declared.kind.Kind.{Kind}
use Rattle.homology.specs.declared.kind.Kind.TheVariants.{Filling, Block}

-- is there a filling?
abbrev pub filled_of : Kind → Bool
filled_of Filling = true
filled_of Block = false

-- a filling if there is one, else a block
abbrev pub kind_of : Bool → Kind
kind_of filled = cond filled Filling Block
