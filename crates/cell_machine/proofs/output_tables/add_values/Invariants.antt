use Rattle.std.proofs.Common.{◌≡◌, ◌+◌, ◌++◌, drop, length, map}
use Rattle.cell_machine.specs.CellTrace.{source_value}
use Rattle.cell_machine.proofs.output_tables.add_values.Given as goal

-- the values so far and those of the rest are all
abbrev pub invariant-loop-source : goal.invariant-loop-source
invariant-loop-source l = record {
  whole : l.values ++ map (source_value l.pins l.inputs l.states) (drop l.source-index l.sources)
      ≡ l.initial.values ++ map (source_value l.pins l.inputs l.states) l.sources;
  len : length l.values ≡ length l.initial.values + l.source-index;
}
