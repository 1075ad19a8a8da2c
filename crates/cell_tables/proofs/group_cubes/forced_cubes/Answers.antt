use Rattle.std.proofs.Common.{◌≡◌, ◌^◌, ◌∙◌, length, sym, ap, subst}
use Rattle.trit_cubes.specs.Sets.{AreValuesOf}
use Rattle.cell_machine.specs.Machine.{forced_at}
use Rattle.cell_machine.specs.CellData.{data_of}
use Rattle.cell_machine.specs.CellTrace.{step_at, support_at}
use Rattle.cell_tables.specs.Cubes.{function_cubes}
use Rattle.cell_tables.proofs.GroupPlaces.{pins-counted}
use Rattle.cell_tables.proofs.group_cubes.forced_cubes.Goals as goal

pub function_cubes-requires-clause-entries : goal.function_cubes-requires-clause-entries
function_cubes-requires-clause-entries c =
    ap length c.deref.ensures.value ∙ c.in_ok-values.ensures.entries
    ∙ ap (λ n. 2 ^ n) (sym (pins-counted (data_of c.args.steps.now.cell.now) c.args.steps.now.group _ _ c.len-places.ensures c.group.ensures.is))

pub returns : goal.returns
returns c =
    let cell = data_of c.args.steps.now.cell.now in
    let f = forced_at (step_at cell c.args.steps.now.group) in
    let pins : c.len-places.result ≡ length (support_at cell c.args.steps.now.group)
    = pins-counted cell c.args.steps.now.group _ _ c.len-places.ensures c.group.ensures.is in
    let known : AreValuesOf c.len-places.result f c.in_ok-values.values.items
    = subst (λ k. AreValuesOf k f c.in_ok-values.values.items) (sym pins) c.in_ok-values.ensures in
    c.in_ok-cubes.ensures f (subst (AreValuesOf c.len-places.result f) (sym c.deref.ensures.value) known)
    ∙ ap (λ k. function_cubes k f) pins
