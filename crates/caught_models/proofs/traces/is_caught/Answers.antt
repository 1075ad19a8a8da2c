use Rattle.std.proofs.Common.{[], sym, ap, subst, is_some, ◌∙◌}
use Rattle.cell_machine.specs.CellData.{data_of}
use Rattle.cell_machine.specs.CellTrace.{cell_line}
use Rattle.cell_machine.specs.History.{IsProperFrom}
use Rattle.cell_machine.specs.Lines.{Machine}
use Rattle.stimulus.specs.DriveLines.{drive_machine, lines_along}
use Rattle.stimulus.proofs.DriveTraces.{drive_lines}
use Rattle.stimulus.specs.Differences.{first_difference}
use Rattle.caught_models.proofs.traces.is_caught.Goals as goal

pub are_unlike-requires-clause-inputs : goal.are_unlike-requires-clause-inputs
are_unlike-requires-clause-inputs g c = ap (λ (m : Machine). m.inputs) c.in_ok-liberty.ensures.machine ∙ c.requires.inputs

pub are_unlike-requires-clause-outputs : goal.are_unlike-requires-clause-outputs
are_unlike-requires-clause-outputs g c = ap (λ (m : Machine). m.outputs) c.in_ok-liberty.ensures.machine ∙ c.requires.outputs

pub are_unlike-requires-clause-proper : goal.are_unlike-requires-clause-proper
are_unlike-requires-clause-proper g c =
    subst (λ n. IsProperFrom n [] c.args.changes.now) (sym (ap (λ (m : Machine). m.inputs) c.in_ok-liberty.ensures.machine))
    c.requires.proper

pub returns : goal.returns
returns g c =
    let changes = c.args.changes.now in
    let line = (g.S.CellSim.machine c.args.model).line in
    c.are_unlike.ensures
    ∙ ap is_some
    ((λ i. first_difference (lines_along (drive_machine (c.in_ok-liberty.ensures.machine i)).line changes)
    (lines_along (drive_machine (g.S.CellSim.machine c.args.model)).line changes))
    ∙ (λ i. first_difference (drive_lines (cell_line (data_of c.args.cell.now)) changes i) (drive_lines line changes i)))
