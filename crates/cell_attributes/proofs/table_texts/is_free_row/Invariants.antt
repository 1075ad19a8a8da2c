use Rattle.std.proofs.Common.{◌≡◌, drop}
use Rattle.std.specs.List.{list_all}
use Rattle.cell_machine.specs.CellRules.{is_free}
use Rattle.cell_attributes.proofs.table_texts.is_free_row.Given as goal

abbrev pub invariant-loop-symbol : goal.invariant-loop-symbol
invariant-loop-symbol l = list_all is_free (drop l.symbol-index l.row.current) ≡ list_all is_free l.row.current
