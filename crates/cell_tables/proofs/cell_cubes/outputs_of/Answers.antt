use Rattle.std.proofs.Common.{[]}
use Rattle.cell_machine.specs.CellData.{data_of}
use Rattle.udp_tables.specs.declared.parts.Part.TheVariants as part
use Rattle.cell_tables.specs.Cubes.{cubes_of_part}
use Rattle.cell_tables.proofs.EachBelow.{below-more}
use Rattle.cell_tables.proofs.cell_cubes.outputs_of.Goals as goal

pub loop-i-preserved : goal.loop-i-preserved
loop-i-preserved c =
    below-more (λ i. cubes_of_part (data_of c.args.cell.now) (part.Output i)) c.loop-i.i [] c.loop-i.cubes c.push.new.self
    c.in_ok-output_cubes.field-0 c.loop-i.invariant c.in_ok-push.ensures.ok c.in_ok-output_cubes.ensures
