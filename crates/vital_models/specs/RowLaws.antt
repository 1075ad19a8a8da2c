-- Laws of the rows that are written for a function and for a step.
use Rattle.std.specs.Prelude.{◌≡◌, ◌≢◌, ℕ, suc, ◌<◌, Bool, true, List, ◌∷◌, length, slice_index_or, slice_set}
use Rattle.trit_cubes.specs.declared.trits.Trit.{Trit}
use Rattle.trit_cubes.specs.declared.trits.Trit.TheVariants.{Zero, Unknown}
use Rattle.trit_cubes.specs.Resolution.{res}
use Rattle.cell_machine.specs.Machine.{Step, without, machine_step, forced}
use Rattle.vital_tables.specs.declared.table.VStateRow.{VStateRow}
use Rattle.vital_tables.specs.LookUps.{lookup_truth, lookup_state}
use Rattle.vital_tables.specs.Rows.{truth_rows, violated, state_rows, compact_rows}

-- The truth table of a function gives its resolution, for every list of trits.
abbrev pub TruthRowsResolve : Type 0
TruthRowsResolve =
    (n : ℕ) (f : List Bool → Trit) (inputs : List Trit)
    → length inputs ≡ n → lookup_truth (truth_rows n f) inputs ≡ res f inputs

-- What rows of a step do, in every state: without a violation they give the machine's step at each change of one pin, to the
-- value that it has among the inputs, and keep the state where no pin changes, whatever the violation was before; with one they
-- give the value to which the inputs force the state, else X, whatever the columns were before.
pub record AreMachine (rows : Bool → ℕ → Step → List VStateRow) : Type 0 where
  pub steps :
      (checks : Bool) (n : ℕ) (step : Step) (p : ℕ) (old : Trit) (inputs : List Trit) (violation state : Trit)
      → length inputs ≡ n → p < n → old ≢ slice_index_or inputs p Unknown
      → lookup_state (rows checks n step) (violated checks violation (slice_set inputs p old)) (violated checks Zero inputs) state
      ≡ machine_step step p old (slice_index_or inputs p Unknown) (without p inputs) state
  pub keeps :
      (checks : Bool) (n : ℕ) (step : Step) (inputs : List Trit) (violation state : Trit)
      → length inputs ≡ n
      → lookup_state (rows checks n step) (violated checks violation inputs) (violated checks Zero inputs) state ≡ state
  pub forces :
      (n : ℕ) (step : Step) (before inputs : List Trit) (state : Trit)
      → length inputs ≡ n → length before ≡ suc n
      → lookup_state (rows true n step) before (Unknown ∷ inputs) state ≡ forced step inputs

-- The rows of a step in plain form give the machine's steps.
abbrev pub StateRowsAreMachine : Type 0
StateRowsAreMachine = AreMachine state_rows

-- So do those in compact form.
abbrev pub CompactRowsAreMachine : Type 0
CompactRowsAreMachine = AreMachine compact_rows

-- Both forms of a step's state table give the same next state: at each change of one pin without a violation, where no pin
-- changes, and with a violation.
pub record FormsAgree : Type 0 where
  pub steps :
      (checks : Bool) (n : ℕ) (step : Step) (p : ℕ) (old : Trit) (inputs : List Trit) (violation state : Trit)
      → length inputs ≡ n → p < n → old ≢ slice_index_or inputs p Unknown
      → lookup_state (compact_rows checks n step) (violated checks violation (slice_set inputs p old))
      (violated checks Zero inputs) state
      ≡ lookup_state (state_rows checks n step) (violated checks violation (slice_set inputs p old)) (violated checks Zero inputs)
      state
  pub keeps :
      (checks : Bool) (n : ℕ) (step : Step) (inputs : List Trit) (violation state : Trit)
      → length inputs ≡ n
      → lookup_state (compact_rows checks n step) (violated checks violation inputs) (violated checks Zero inputs) state
      ≡ lookup_state (state_rows checks n step) (violated checks violation inputs) (violated checks Zero inputs) state
  pub forces :
      (n : ℕ) (step : Step) (before inputs : List Trit) (state : Trit)
      → length inputs ≡ n → length before ≡ suc n
      → lookup_state (compact_rows true n step) before (Unknown ∷ inputs) state
      ≡ lookup_state (state_rows true n step) before (Unknown ∷ inputs) state
