use Rattle.std.proofs.Common.{sym, subst}
use Rattle.library_simulation.specs.PinNames.{AreNamedApart}
use Rattle.library_simulation.proofs.PinLemmas.{own_pins_apart}
use Rattle.library_simulation.proofs.catalog.entry_of.Goals as goal

pub named_ports-requires : goal.named_ports-requires
named_ports-requires c = subst AreNamedApart (sym c.own_pins.ensures) (own_pins_apart c.in-Accepted.cell)
