use Rattle.std.proofs.Common.{◌≡◌, ◌++◌, map, drop, length}
use Rattle.cell_machine.specs.CellData.{data_of}
use Rattle.module_terminals.specs.Terminals.{source_net}
use Rattle.module_terminals.proofs.terminals.output_nets.Given as goal

abbrev pub invariant-loop-source : goal.invariant-loop-source
invariant-loop-source l = record {
  whole :
      l.nets ++ map (source_net (data_of l.cell) l.model) (drop l.source-index l.source-items)
      ≡ map (source_net (data_of l.cell) l.model) l.source-items;
  len : length l.nets ≡ l.source-index;
}
