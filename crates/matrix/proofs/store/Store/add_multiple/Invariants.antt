-- The rows up to this one are done.
use Rattle.std.proofs.Common.{◌≡◌, ◌-◌}
use Rattle.matrix.proofs.Multiples.{Adding}
use Rattle.matrix.proofs.store.Store.add_multiple.Given as goal

abbrev pub invariant-loop-done : goal.invariant-loop-done
invariant-loop-done g l =
    Adding (g.F.Field.arithmetic l.field) l.factor l.from l.to (g.Self.Store.terms l.initial.self) (g.Self.Grid.holds l.initial.self) (g.Self.Grid.holds l.self) l.done
    × (g.Self.Store.terms l.self ≡ g.Self.Store.terms l.initial.self)
    × (g.Self.Store.backing l.self ≡ g.Self.Store.backing l.initial.self)

abbrev pub decreases-loop-done : goal.decreases-loop-done
decreases-loop-done g l = (g.Self.Grid.holds l.initial.self).rows - l.done
