use Rattle.std.proofs.Common.{◌≡◌, ◌+◌, length, map, sym, ap, subst, ◌∙◌, arith}
use Rattle.trit_cubes.specs.Prime.{cubes_of}
use Rattle.trit_cubes.specs.Sets.{AreValuesOf}
use Rattle.cell_machine.specs.CellData.{data_of}
use Rattle.cell_machine.specs.CellTrace.{sources_at, output_value_at}
use Rattle.specify_blocks.proofs.OutputPins.{few_outputs}
use Rattle.module_terminals.specs.Terminals.{output_nets}
use Rattle.module_tables.specs.declared.differences.AuditPart.TheVariants as part
use Rattle.module_tables.specs.LookUps.{Drives}
use Rattle.module_tables.specs.Tables.{value_compared, cell_output, model_output, driven_value, first_difference}
use Rattle.module_tables.proofs.values.of_output.Goals as goal

pub overflow_add-output : goal.overflow_add-output
overflow_add-output c = omega (arith, c.requires.inside, few_outputs c.args.cell.now)

pub returns : goal.returns
returns c =
    let d = data_of c.args.cell.now in
    let m = c.args.model.now in
    let o = c.args.output in
    let f = output_value_at d o in
    let count = c.source_count-places.ensures.value in
    let nets : c.as_slice-fed_by.result.now ≡ output_nets d m o = c.as_slice-fed_by.ensures ∙ c.output_nets-nets.ensures in
    let values : AreValuesOf c.source_count-places.result f c.as_slice-values.result.now
    = subst (λ n. AreValuesOf n f c.as_slice-values.result.now) (sym count)
    (subst (AreValuesOf (length (sources_at d o)) f) (sym c.as_slice-values.ensures) c.output_values-table.ensures) in
    let drives : Drives c.of-levels.result (model_output d m o)
    = λ vs h. c.of-levels.ensures vs h ∙ (λ i. driven_value m (nets i) vs (c.output_net-net.ensures i)) in
    c.first_unlike.ensures f (model_output d m o) values drives
    ∙ ap (λ n. first_difference (map (value_compared part.Output (o + 1) (cell_output d o) (model_output d m o)) (cubes_of n))) count
