use Rattle.std.proofs.Common.{◌^◌, ◌<◌, sym, ap, subst, ◌∙◌}
use Rattle.trit_cubes.specs.Sets.{point_of}
use Rattle.cell_machine.specs.CellData.{data_of}
use Rattle.step_tables.specs.GroupPoints.{steps_between}
use Rattle.scan_cells.proofs.point_steps.PointSteps.numbered_steps.Goals as goal

pub steps-requires-clause-before : goal.steps-requires-clause-before
steps-requires-clause-before c =
    let self = c.args.self.now in
    subst (λ n. c.args.before < 2 ^ n) (self.each ∙ sym self.table.are_places) c.requires.before

pub steps-requires-clause-after : goal.steps-requires-clause-after
steps-requires-clause-after c =
    let self = c.args.self.now in
    subst (λ n. c.args.after < 2 ^ n) (self.each ∙ sym self.table.are_places) c.requires.after

pub returns : goal.returns
returns c =
    let self = c.args.self.now in
    c.steps.ensures
    ∙ ap (λ n. steps_between (data_of self.table.cell.now) self.table.group (point_of n c.args.before) (point_of n c.args.after))
    (self.table.are_places ∙ sym self.each)
