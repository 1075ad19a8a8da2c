-- Laws of the entity of a cell.
use Rattle.std.specs.Prelude.{◌≡◌, ◌≢◌, ℕ, suc, ◌<◌, true, List, ◌∷◌, length, slice_index_or, slice_set, IsTrue}
use Rattle.trit_cubes.specs.declared.trits.Trit.{Trit}
use Rattle.trit_cubes.specs.declared.trits.Trit.TheVariants.{Zero, Unknown}
use Rattle.trit_cubes.specs.Resolution.{res}
use Rattle.bool_functions.specs.declared.tree.Node.{Node}
use Rattle.bool_functions.specs.Support.{support_of}
use Rattle.cell_machine.specs.declared.outputs.OutputPin.{OutputPin}
use Rattle.cell_machine.specs.Outputs.{output_at, condition_at}
use Rattle.cell_machine.specs.CellRules.{is_cell}
use Rattle.cell_machine.specs.Machine.{without, machine_step, forced}
use Rattle.cell_machine.specs.CellData.{CellData}
use Rattle.cell_machine.specs.CellTrace.{support_at, step_at}
use Rattle.vital_tables.specs.LookUps.{lookup_truth, lookup_state}
use Rattle.vital_tables.specs.Rows.{violated}
use Rattle.vital_models.specs.Generated.{has_violation, state_table, condition_table, output_table, entity_of}
use Rattle.vital_tables.specs.Sound.{IsSound}

-- What the state table of a group does, in every state. Without a violation it gives the machine's step at each change of one pin
-- of the support, and keeps the state where none changes, whatever the violation was before. With one it gives the value to which
-- the pins force the state, else X, whatever the columns were before.
pub record IsMachine (cell : CellData) (g : ℕ) : Type 0 where
  pub steps :
      (p : ℕ) (old : Trit) (inputs : List Trit) (violation state : Trit)
      → length inputs ≡ length (support_at cell g) → p < length inputs → old ≢ slice_index_or inputs p Unknown
      → lookup_state (state_table cell g).rows (violated (has_violation cell) violation (slice_set inputs p old))
      (violated (has_violation cell) Zero inputs) state
      ≡ machine_step (step_at cell g) p old (slice_index_or inputs p Unknown) (without p inputs) state
  pub keeps :
      (inputs : List Trit) (violation state : Trit)
      → length inputs ≡ length (support_at cell g)
      → lookup_state (state_table cell g).rows (violated (has_violation cell) violation inputs)
      (violated (has_violation cell) Zero inputs) state ≡ state
  pub forces :
      (before inputs : List Trit) (state : Trit)
      → has_violation cell ≡ true → length inputs ≡ length (support_at cell g) → length before ≡ suc (length inputs)
      → lookup_state (state_table cell g).rows before (Unknown ∷ inputs) state ≡ forced (step_at cell g) inputs

-- The state tables of a cell give the machine's steps.
abbrev pub StatesAreMachines : Type 0
StatesAreMachines = (cell : CellData) (g : ℕ) → IsMachine cell g

-- The truth tables of outputs and of conditions give the resolution of their values, for every list of trits.
abbrev pub OutputsResolve : Type 0
OutputsResolve =
    (cell : CellData) (output : OutputPin) (inputs : List Trit)
    → length inputs ≡ length output.support
    → lookup_truth (output_table cell output).rows inputs ≡ res (output_at (length cell.pins) cell.groups output) inputs

abbrev pub ConditionsResolve : Type 0
ConditionsResolve =
    (f : Node) (inputs : List Trit)
    → length inputs ≡ length (support_of f)
    → lookup_truth (condition_table f).rows inputs ≡ res (condition_at (support_of f) f) inputs

-- The entity of data that keep the rules of cells is sound, whatever its name is.
abbrev pub GeneratedIsSound : Type 0
GeneratedIsSound =
    (cell : CellData) (name : List ℕ)
    → IsTrue (is_cell cell.name cell.pins cell.groups cell.outputs cell.checks cell.arcs) → IsSound (entity_of cell name)
