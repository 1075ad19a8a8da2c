use Rattle.std.proofs.Common.{◌≡◌, ◌^◌, length, ◌∙◌, sym, ap, subst}
use Rattle.trit_cubes.specs.Sets.{AreValuesOf}
use Rattle.cell_machine.specs.CellData.{data_of}
use Rattle.cell_machine.specs.CellTrace.{sources_at, output_value_at}
use Rattle.cell_tables.specs.Cubes.{function_cubes}
use Rattle.cell_tables.proofs.GroupPlaces.{sources-counted}
use Rattle.cell_tables.proofs.part_cubes.output_cubes.Goals as goal

pub function_cubes-requires-clause-entries : goal.function_cubes-requires-clause-entries
function_cubes-requires-clause-entries c =
    ap length c.deref.ensures.value
    ∙ c.in_ok-values.ensures.entries
    ∙ ap (λ n. 2 ^ n) (sym (sources-counted (data_of c.args.cell.now) c.args.output _ _ c.len-places.ensures c.output_pin.ensures.is))

pub returns : goal.returns
returns c =
    let f = output_value_at (data_of c.args.cell.now) c.args.output in
    let places : c.len-places.result ≡ length (sources_at (data_of c.args.cell.now) c.args.output) =
    sources-counted (data_of c.args.cell.now) c.args.output _ _ c.len-places.ensures c.output_pin.ensures.is in
    let known : AreValuesOf c.len-places.result f c.in_ok-values.values.items
    = subst (λ k. AreValuesOf k f c.in_ok-values.values.items) (sym places) c.in_ok-values.ensures in
    c.in_ok-cubes.ensures f (subst (AreValuesOf c.len-places.result f) (sym c.deref.ensures.value) known)
    ∙ ap (λ k. function_cubes k f) places
