use Rattle.std.proofs.Common.{◌≡◌, length, ◌∙◌, subst, rules}
use Rattle.trit_cubes.specs.Sets.{AreValuesOf}
use Rattle.cell_machine.specs.CellData.{data_of}
use Rattle.cell_machine.specs.CellTrace.{sources_at, output_value_at}
use Rattle.module_tables.proofs.cell_values.output_values.Goals as goal

pub returns : goal.returns
returns c =
    let d = data_of c.args.cell.now in
    let f = output_value_at d c.args.output in
    let count : c.len-places.result ≡ length (sources_at d c.args.output) = search rules in
    let values = c.values_at.ensures f
    (record { at_point = λ p long t says. let wide : length p ≡ length (sources_at d c.args.output) = long ∙ count in search rules }) in
    subst (λ n. AreValuesOf n f c.values_at.result) count values
