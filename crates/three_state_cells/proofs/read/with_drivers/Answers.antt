use Rattle.std.proofs.Common.{◌≡◌, IfOk, sym, subst}
use Rattle.cell_reader.specs.CellTexts.{subject_of, IsCellOf}
use Rattle.cell_reader.specs.Refusals.{left_out_of}
use Rattle.cell_reader.specs.declared.read.ReadCell.{ReadCell}
use Rattle.cell_reader.proofs.Reading.{lift_ok}
use Rattle.core_groups.specs.Outputs.{outputs_shown}
use Rattle.three_state_cells.specs.CoreReadings.{AreDrivers}
use Rattle.three_state_cells.proofs.CoreDrivers.{read_driver}
use Rattle.three_state_cells.proofs.DataLemmas.{floating_as}
use Rattle.three_state_cells.proofs.read.with_drivers.Goals as goal

pub floating_cell-requires : goal.floating_cell-requires
floating_cell-requires c =
    let of_cell = subst (λ (read : ReadCell). IsCellOf (subject_of c.args.core.unit c.args.core.group.now) c.args.number c.args.core.group.now read.cell) (sym c.in_ok-read.ensures.held) c.requires.cell in
    let drivers = subst (λ made. IfOk made (AreDrivers c.args.core.unit c.args.core.group.now (outputs_shown c.args.core.pins.now))) c.in_ok-read.ensures.made c.core_drivers-drivers.ensures in
    read_driver c.args.core.unit c.args.number c.args.core.group.now c.args.core.pins.now c.in_ok-read.read c.in_ok-read.drivers c.requires.is_core of_cell drivers

pub returns : goal.returns
returns c =
    let of_cell = subst (λ (read : ReadCell). IsCellOf (subject_of c.args.core.unit c.args.core.group.now) c.args.number c.args.core.group.now read.cell) (sym c.in_ok-read.ensures.held) c.requires.cell in
    let lines = subst (λ (read : ReadCell). read.left_out ≡ left_out_of (subject_of c.args.core.unit c.args.core.group.now) c.args.core.group.now) (sym c.in_ok-read.ensures.held) c.requires.left_out in
    let drivers = subst (λ made. IfOk made (AreDrivers c.args.core.unit c.args.core.group.now (outputs_shown c.args.core.pins.now))) c.in_ok-read.ensures.made c.core_drivers-drivers.ensures in
    lift_ok c.floating_cell.result _ _
    (λ driven e. floating_as c.args.core.unit c.args.number c.args.core.group.now (outputs_shown c.args.core.pins.now) c.in_ok-read.read c.in_ok-read.drivers driven of_cell lines drivers e)
    c.floating_cell.ensures
