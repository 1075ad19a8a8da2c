use Rattle.std.proofs.Common.{◌≡◌, length, ap, ◌∙◌}
use Rattle.trit_cubes.specs.Sets.{point_of}
use Rattle.cell_machine.specs.CellData.{data_of}
use Rattle.step_tables.specs.GroupPoints.{steps_between}
use Rattle.scan_cells.specs.Weights.{weighed}
use Rattle.scan_cells.proofs.WeightLemmas.{numbered}
use Rattle.scan_cells.proofs.point_steps.PointSteps.steps.Goals as goal

pub returns : goal.returns
returns c =
    let self = c.args.self.now in
    let before : point_of (length self.numbering.weights) c.number-before.result ≡ weighed self.numbering.weights c.args.before
    = ap (point_of (length self.numbering.weights)) c.number-before.ensures.is ∙ numbered self.numbering.weights c.args.before in
    let after : point_of (length self.numbering.weights) c.number-after.result ≡ weighed self.numbering.weights c.args.after
    = ap (point_of (length self.numbering.weights)) c.number-after.ensures.is ∙ numbered self.numbering.weights c.args.after in
    c.numbered_steps.ensures ∙ (λ i. steps_between (data_of self.table.cell.now) self.table.group (before i) (after i))
