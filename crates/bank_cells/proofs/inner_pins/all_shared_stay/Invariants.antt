use Rattle.std.proofs.Common.{◌≡◌, drop}
use Rattle.std.specs.List.{list_all}
use Rattle.bank_cells.specs.Runs.{shared_stays}
use Rattle.bank_cells.proofs.inner_pins.all_shared_stay.Given as goal

abbrev pub invariant-loop-item : goal.invariant-loop-item
invariant-loop-item l =
    list_all (shared_stays l.vectors) (drop l.item-index l.items) ≡ list_all (shared_stays l.vectors) l.items
