use Rattle.std.proofs.Common.{◌<◌, List, length, sym, subst, ◌∙◌}
use Rattle.std.proofs.lemmas.Option.{slice_get-get_or}
use Rattle.cell_machine.specs.CellData.{data_of}
use Rattle.step_tables.specs.declared.group_points.GroupPoint.{GroupPoint}
use Rattle.step_tables.proofs.KeptLemmas.{points_tell}
use Rattle.step_tables.proofs.step_table.StepTable.moved.Goals as goal

pub returns : goal.returns
returns c =
    let self = c.args.self.now in
    let points : List GroupPoint = c.args.points.now in
    let from : c.args.before < length points = subst (λ n. c.args.before < n) (sym c.requires.points.all) c.requires.before in
    let to : c.args.after < length points = subst (λ n. c.args.after < n) (sym c.requires.points.all) c.requires.after in
    c.steps_from.ensures
    ∙ points_tell (data_of self.cell.now) self.group self.places c.args.before c.args.after points _ _ c.requires.points
    c.requires.before (slice_get-get_or points c.args.before _ from) (slice_get-get_or points c.args.after _ to)
