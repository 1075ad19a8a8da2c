use Rattle.std.proofs.Common.{[], ◌∙◌}
use Rattle.cell_machine.specs.CellData.{data_of}
use Rattle.cell_tables.specs.Cubes.{cubes_of_group}
use Rattle.cell_tables.proofs.EachBelow.{below-more}
use Rattle.cell_tables.proofs.cell_cubes.groups_of.Goals as goal

pub loop-group-preserved : goal.loop-group-preserved
loop-group-preserved c =
    below-more (λ g. cubes_of_group (data_of c.args.cell.now) g) c.loop-group.group [] c.loop-group.cubes c.push.new.self
    c.in_ok-group_cubes.field-0 c.loop-group.invariant c.in_ok-push.ensures.ok
    (c.in_ok-group_cubes.ensures ∙ (λ i. cubes_of_group (data_of (c.of-steps.ensures.cell i)) (c.of-steps.ensures.group i)))
