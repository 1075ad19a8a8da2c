use Rattle.std.proofs.Common.{◌≡◌, length, map, take}
use Rattle.scan_cells.specs.Weights.{weight_of}
use Rattle.scan_cells.proofs.points.weights_of.Given as goal

abbrev pub invariant-loop-source : goal.invariant-loop-source
invariant-loop-source l = record {
  whole : l.weights ≡ map (weight_of l.places) (take l.source-index l.support);
  len : length l.weights ≡ l.source-index;
}
