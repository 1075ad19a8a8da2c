-- The laws of the rows of steps, by the number of the changed pin.
use Rattle.std.proofs.Common.{◌≡◌, ℕ, suc, Bool, true, List, [], ◌∷◌, length, sym, ◌∙◌, arith}
use Rattle.trit_cubes.specs.declared.trits.Trit.{Trit}
use Rattle.trit_cubes.specs.declared.trits.Trit.TheVariants.{Zero, Unknown}
use Rattle.cell_machine.specs.Machine.{Step, forced}
use Rattle.vital_tables.specs.udp_tables.Edges.{edge_rows, compact_edge_rows}
use Rattle.cell_tables.proofs.ServingRows.{change-at}
use Rattle.vital_tables.specs.declared.table.VStateRow.{VStateRow}
use Rattle.vital_tables.specs.LookUps.{lookup_state}
use Rattle.vital_tables.specs.Rows.{violated, step_rows, state_rows, compact_rows, edge_row, keep_row}
use Rattle.vital_models.specs.RowLaws.{StateRowsAreMachine, CompactRowsAreMachine, FormsAgree}
use Rattle.vital_models.proofs.StateRows.{step_rows-change, step_rows-keep, step_rows-force}
use Rattle.vital_models.proofs.EdgeRows.{edge_rows-serve, compact_rows-serve}

pub force-at :
    (n : ℕ) (step : Step) (changes : ℕ → List VStateRow) (before inputs : List Trit) (s : Trit)
    → length inputs ≡ n → length before ≡ suc n
    → lookup_state (step_rows true n step changes) before (Unknown ∷ inputs) s ≡ forced step inputs
force-at n step changes [] inputs s f g = absurd (omega arith)
force-at n step changes (x ∷ olds) inputs s f g = step_rows-force n step changes x olds inputs s (omega arith) f

pub state_rows_are_machine-lem : StateRowsAreMachine
state_rows_are_machine-lem =
    record {
      steps = λ checks n step p old inputs x s long l apart.
          change-at (λ before after. lookup_state (state_rows checks n step) (violated checks x before) (violated checks Zero after) s)
          step n s
          (λ q a b others. step_rows-change checks n step (edge_rows (edge_row checks) step n) q a b others x s
          (edge_rows-serve checks n step)) p old inputs long l apart;
      keeps = λ checks n step inputs x s long. step_rows-keep checks n step (edge_rows (edge_row checks) step n) inputs x s long;
      forces = λ n step before inputs s f g. force-at n step (edge_rows (edge_row true) step n) before inputs s f g;
    }

-- the same in compact form
abbrev compact : Bool → ℕ → Step → ℕ → List VStateRow
compact checks n step = compact_edge_rows (edge_row checks) (keep_row checks) step n

pub compact_rows_are_machine-lem : CompactRowsAreMachine
compact_rows_are_machine-lem =
    record {
      steps = λ checks n step p old inputs x s long l apart.
          change-at (λ before after. lookup_state (compact_rows checks n step) (violated checks x before) (violated checks Zero after)
          s) step n s
          (λ q a b others. step_rows-change checks n step (compact checks n step) q a b others x s (compact_rows-serve checks n step))
          p old inputs long l apart;
      keeps = λ checks n step inputs x s long. step_rows-keep checks n step (compact checks n step) inputs x s long;
      forces = λ n step before inputs s f g. force-at n step (compact true n step) before inputs s f g;
    }

pub forms_agree-lem : FormsAgree
forms_agree-lem =
    record {
      steps = λ checks n step p old inputs x s long l apart.
          compact_rows_are_machine-lem.steps checks n step p old inputs x s long l apart
          ∙ sym (state_rows_are_machine-lem.steps checks n step p old inputs x s long l apart);
      keeps = λ checks n step inputs x s long.
          compact_rows_are_machine-lem.keeps checks n step inputs x s long
          ∙ sym (state_rows_are_machine-lem.keeps checks n step inputs x s long);
      forces = λ n step before inputs s f g.
          compact_rows_are_machine-lem.forces n step before inputs s f g
          ∙ sym (state_rows_are_machine-lem.forces n step before inputs s f g);
    }
