use Rattle.std.proofs.Common.{◌≡◌, ◌++◌, map, drop}
use Rattle.cell_attributes.specs.Building.{source_of}
use Rattle.cell_functions.proofs.sources.sources_at.Given as goal

abbrev pub invariant-loop-i : goal.invariant-loop-i
invariant-loop-i l = l.sources ++ map (source_of l.pins) (drop l.i-index l.numbers) ≡ map (source_of l.pins) l.numbers
