use Rattle.std.proofs.Common.{◌≡◌, drop}
use Rattle.std.specs.List.{list_all}
use Rattle.cell_machine.specs.CellRules.{is_free}
use Rattle.cell_attributes.proofs.table_texts.are_free_rows.Given as goal

abbrev pub invariant-loop-row : goal.invariant-loop-row
invariant-loop-row l = list_all (λ row. list_all is_free row.current) (drop l.row-index l.rows) ≡ list_all (λ row. list_all is_free row.current) l.rows
