-- The laws of the rows of steps, by the number of the changed input.
use Rattle.std.proofs.Common.{◌≡◌, ◌≢◌, ℕ, ◌<◌, Bool, true, List, length, get_or, set, sym, ◌∙◌}
use Rattle.trit_cubes.specs.declared.trits.Trit.{Trit}
use Rattle.trit_cubes.specs.declared.trits.Trit.TheVariants.{Unknown}
use Rattle.cell_machine.specs.Machine.{Step, without, machine_step, forced}
use Rattle.udp_tables.specs.Edges.{edge_rows, compact_edge_rows}
use Rattle.udp_tables.specs.Sequential.{udp_next, noted, sequential_rows, edge_row, keep_row, compact_rows}
use Rattle.udp_tables.specs.Laws.{RowsAreMachine, NotifierForces, FormsAgree, FormsAgreeAtNotifier}
use Rattle.cell_tables.proofs.ServingRows.{change-at}
use Rattle.cell_tables.proofs.StepRows.{step_rows-change, step_rows-note}
use Rattle.cell_tables.proofs.EdgeRowLemmas.{edge_rows-serve, compact_rows-serve}

-- at a change of an input by its number
pub rows_are_machine-lem : RowsAreMachine
rows_are_machine-lem checks n step p old inputs note state long l apart =
    change-at (λ before after. udp_next (sequential_rows checks n step) (noted checks note before) (noted checks note after) state)
    step n state
    (λ q a b others. step_rows-change checks n step (edge_rows (edge_row checks) step n) q a b others note state
    (edge_rows-serve checks n step)) p old inputs long l apart

pub notifier_forces-lem : NotifierForces
notifier_forces-lem n step inputs old new state long apart =
    step_rows-note n step (edge_rows (edge_row true) step n) inputs old new state (edge_rows-serve true n step) long

-- the same of the rows in compact form
pub compact_are_machine-lem :
    (checks : Bool) (n : ℕ) (step : Step) (p : ℕ) (old : Trit) (inputs : List Trit) (note state : Trit)
    → length inputs ≡ n → p < n → old ≢ get_or inputs p Unknown
    → udp_next (compact_rows checks n step) (noted checks note (set inputs p old)) (noted checks note inputs) state
    ≡ machine_step step p old (get_or inputs p Unknown) (without p inputs) state
compact_are_machine-lem checks n step p old inputs note state long l apart =
    change-at (λ before after. udp_next (compact_rows checks n step) (noted checks note before) (noted checks note after) state) step
    n state
    (λ q a b others. step_rows-change checks n step (compact_edge_rows (edge_row checks) (keep_row checks) step n) q a b others note
    state (compact_rows-serve checks n step)) p old inputs long l apart

pub compact_force-lem :
    (n : ℕ) (step : Step) (inputs : List Trit) (old new state : Trit)
    → length inputs ≡ n → udp_next (compact_rows true n step) (noted true old inputs) (noted true new inputs) state ≡ forced step
    inputs
compact_force-lem n step inputs old new state long =
    step_rows-note n step (compact_edge_rows (edge_row true) (keep_row true) step n) inputs old new state
    (compact_rows-serve true n step) long

pub forms_agree-lem : FormsAgree
forms_agree-lem checks n step p old inputs note state long l apart =
    compact_are_machine-lem checks n step p old inputs note state long l apart
    ∙ sym (rows_are_machine-lem checks n step p old inputs note state long l apart)

pub forms_agree_at_notifier-lem : FormsAgreeAtNotifier
forms_agree_at_notifier-lem n step inputs old new state long apart =
    compact_force-lem n step inputs old new state long ∙ sym (notifier_forces-lem n step inputs old new state long apart)
