use Rattle.std.proofs.Common.{◌≡◌, map, drop, length}
use Rattle.cell_machine.specs.Names.{source_name}
use Rattle.cell_machine.specs.Values.{no_values, written}
use Rattle.cell_machine.specs.Supports.{StatesBelow}
use Rattle.cell_machine.proofs.evaluation.values_at.Given as goal

-- writing the rest gives what writing all gives
abbrev pub invariant-loop-i : goal.invariant-loop-i
invariant-loop-i l = record {
  rest : written l.values (map (source_name (length l.cell.pins)) (drop l.i l.sources)) (drop l.i l.point)
      ≡ written no_values (map (source_name (length l.cell.pins)) l.sources) l.point;
  states : StatesBelow (length l.cell.groups) (drop l.i l.sources);
}
