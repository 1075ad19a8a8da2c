-- What is counted of one cell. This project's rules.
use Rattle.std.specs.Prelude.{ℕ, zero, suc, List, []}
use Rattle.cell_machine.specs.declared.changes.Change.{Change}
use Rattle.cell_machine.specs.CellData.{CellData}
use Rattle.cell_machine.specs.CellTrace.{inputs_of, cell_trace}
use Rattle.verilog_grammar.specs.specify_blocks.Generated.{module_of}
use Rattle.vital_models.specs.Generated.{entity_of}
use Rattle.model_traces.specs.ModuleTrace.{module_trace}
use Rattle.model_traces.specs.EntityTrace.{entity_trace}
use Rattle.selftest_cells.specs.Changes.{changes_of}
use Rattle.selftest_cells.specs.Damage.{damaged_module, damaged_entity}
use Rattle.selftest_runs.specs.declared.counts.Counts.{Counts}
use Rattle.caught_models.specs.Caught.{is_caught}
use Rattle.selftest_runs.specs.Counts.{known_in, one_if}

-- the changes of the cell with this number, where it has so many inputs: one without inputs is run on none
abbrev pub changes_by : ℕ → ℕ → List Change
changes_by number zero = []
changes_by number (suc inputs) = changes_of number (suc inputs)

-- the changes that a cell is run on
abbrev pub cell_changes : CellData → List Change
cell_changes cell = changes_by cell.number (inputs_of cell)

-- What is counted on some changes: how many output values of the cell after them are 0 or 1, and whether the damaged module and
-- the damaged entity are caught.
unfoldable pub counts_on : List Change → CellData → List ℕ → Counts
counts_on changes cell entity = record {
  known = known_in (cell_trace cell changes);
  verilog = one_if (is_caught (cell_trace cell changes) (module_trace (damaged_module (module_of cell)) changes));
  vital = one_if (is_caught (cell_trace cell changes) (entity_trace (damaged_entity (entity_of cell entity)) changes));
}

-- what is counted of a cell whose entity has this name
abbrev pub cell_counts : CellData → List ℕ → Counts
cell_counts cell entity = counts_on (cell_changes cell) cell entity
