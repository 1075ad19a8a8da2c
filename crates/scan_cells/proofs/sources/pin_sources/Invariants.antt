use Rattle.std.proofs.Common.{◌≡◌, ◌++◌, drop, length}
use Rattle.scan_cells.specs.Places.{pin_sources}
use Rattle.scan_cells.proofs.sources.pin_sources.Given as goal

abbrev pub invariant-loop-pin : goal.invariant-loop-pin
invariant-loop-pin l = record {
  whole : l.sources ++ pin_sources (drop l.pin-index l.pins) ≡ pin_sources l.pins;
  len : length l.sources ≡ l.pin-index;
}
