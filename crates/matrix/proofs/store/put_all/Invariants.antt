-- The puts before this one are made.
use Rattle.std.proofs.Common.{◌≡◌, drop}
use Rattle.matrix.proofs.Puts.{Leads}
use Rattle.matrix.proofs.store.put_all.Given as goal

abbrev pub invariant-loop-p : goal.invariant-loop-p
invariant-loop-p g l =
    Leads (g.S.Store.terms l.initial.store) (g.S.Grid.holds l.initial.store) l.puts (g.S.Grid.holds l.store) (drop l.p-index l.puts)
    × (g.S.Store.terms l.store ≡ g.S.Store.terms l.initial.store)
    × (g.S.Store.backing l.store ≡ g.S.Store.backing l.initial.store)
