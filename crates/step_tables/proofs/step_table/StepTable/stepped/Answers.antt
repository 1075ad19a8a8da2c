use Rattle.std.proofs.Common.{length, ap, ◌∙◌}
use Rattle.trit_cubes.proofs.PointLemmas.{length-point_of}
use Rattle.step_tables.proofs.step_table.StepTable.stepped.Goals as goal

pub steps_between-requires-clause-before : goal.steps_between-requires-clause-before
steps_between-requires-clause-before c =
    ap length (c.as_slice.ensures ∙ c.point_of-before.ensures) ∙ length-point_of c.args.self.now.places c.args.before ∙ c.args.self.now.are_places

pub steps_between-requires-clause-after : goal.steps_between-requires-clause-after
steps_between-requires-clause-after c =
    ap length (c.as_slice-2.ensures ∙ c.point_of-after.ensures) ∙ length-point_of c.args.self.now.places c.args.after ∙ c.args.self.now.are_places
