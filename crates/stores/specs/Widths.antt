-- The bits of each width.
use Rattle.std.specs.Prelude.{ℕ}
use Rattle.stores.specs.declared.width.EntryWidth.{EntryWidth}
use Rattle.stores.specs.declared.width.EntryWidth.TheVariants.{One, Two, Four, Eight}

abbrev pub bits_of : EntryWidth → ℕ
bits_of One = 1
bits_of Two = 2
bits_of Four = 4
bits_of Eight = 8
