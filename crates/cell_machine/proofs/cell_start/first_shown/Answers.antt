use Rattle.std.proofs.Common.{◌≡◌, List, length, map, refl, subst}
use Rattle.std.specs.Prelude.{IfOk}
use Rattle.cell_machine.specs.declared.shown.Shown.{Shown}
use Rattle.cell_machine.specs.CellData.{data_of}
use Rattle.cell_machine.specs.Inputs.{input_number}
use Rattle.cell_machine.specs.ShownOutputs.{shown_first}
use Rattle.cell_machine.proofs.Standing.{start-shown}
use Rattle.cell_machine.proofs.cell_start.first_shown.Goals as goal

pub returns : goal.returns
returns c =
    let cell = c.args.cell.now in
    let values = c.in_ok-values.values in
    let made = c.in_ok-values.ensures in
    let first = map (shown_first cell.pins cell.groups values.inputs values.states) cell.outputs in
    let shown = rw (c.as_slice.ensures, c.as_slice-2.ensures) at c.show_start.ensures in
    subst (λ (all : List Shown). IfOk c.show_start.result (λ shown. shown ≡ all))
    (start-shown (data_of cell) (input_number cell.pins (length cell.pins)) values.inputs values.states first refl made.inputs made.states refl)
    shown
