use Rattle.std.proofs.Common.{◌≡◌, drop, ◌++◌}
use Rattle.std.specs.Prelude.{flat_map}
use Rattle.bank_cells.specs.Expanded.{spaced}
use Rattle.bank_cells.proofs.timings.add_names.Given as goal

abbrev pub invariant-loop-name : goal.invariant-loop-name
invariant-loop-name l =
    l.text.items ++ flat_map spaced (drop l.name-index l.names) ≡ l.initial.text.items ++ flat_map spaced l.names
