use Rattle.std.proofs.Common.{not, map, ap, ◌∙◌}
use Rattle.trit_cubes.specs.Sets.{has}
use Rattle.trit_cubes.specs.Prime.{prime_list}
use Rattle.udp_tables.specs.Generated.{level_row}
use Rattle.cell_tables.specs.Cubes.{rows_of_function}
use Rattle.cell_tables.proofs.GenerationLemmas.{ones-table, zeros-table}
use Rattle.cell_tables.proofs.generation.function_rows.Goals as goal

pub returns : goal.returns
returns c =
    let n = c.args.names in
    let f = c.args.function.now in
    let values = c.in_ok-values.values.items in
    let ones = c.in_ok-cubes.ensures.ones ∙ ap (λ vs. prime_list n (has vs)) c.deref.ensures.value ∙ ones-table n f values c.in_ok-values.ensures.values in
    let zeros =
    c.in_ok-cubes.ensures.zeros ∙ ap (λ vs. prime_list n (has (map not vs))) c.deref.ensures.value ∙ zeros-table n f values c.in_ok-values.ensures.values in
    c.in_ok-rows.ensures
    ∙ (λ i. rows_of_function level_row (record { free = c.in_ok-cubes.ensures.free i; ones = ones i; zeros = zeros i }))
