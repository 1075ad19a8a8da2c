use Rattle.std.proofs.Common.{length, refl, sym, subst, ap, ◌∙◌}
use Rattle.cell_machine.specs.declared.cell_start.CellStart.{CellStart}
use Rattle.cell_machine.specs.CellData.{data_of}
use Rattle.cell_machine.specs.CellStarts.{IsCellStart}
use Rattle.cell_machine.specs.Inputs.{input_number}
use Rattle.cell_machine.proofs.Standing.{start-stands}
use Rattle.cell_machine.proofs.liberty_sim.LibertySim.start_by.Goals as goal

pub returns-clause-stands : goal.returns-clause-stands
returns-clause-stands c =
    let cell = c.args.cell.now in
    let values = c.in_ok-values.values in
    let made = c.in_ok-values.ensures in
    let same = c.in_ok-known.ensures in
    let known = subst (λ (k : CellStart). IsCellStart (data_of cell) k) (sym same) c.requires in
    let shown = c.in_ok-shown.ensures ∙ c.as_slice.ensures ∙ ap (λ (k : CellStart). k.shown) (c.get.ensures ∙ sym same) in
    start-stands (data_of cell) c.in_ok-known.known (input_number cell.pins (length cell.pins)) values.inputs values.times values.states
    values.reports c.in_ok-shown.shown values.kept known refl made.inputs made.times made.states made.reports shown made.kept
