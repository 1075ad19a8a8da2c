use Rattle.std.proofs.Common.{◌≡◌, suc, List, [], ◌∷◌, ◌++◌, length, slice_index_or, sym, ap, subst, ◌∙◌, arith}
use Rattle.std.proofs.lemmas.List.{length-append}
use Rattle.trit_cubes.specs.declared.trits.Trit.{Trit}
use Rattle.trit_cubes.specs.declared.trits.Trit.TheVariants as trit
use Rattle.trit_cubes.specs.Sets.{AreValuesOf}
use Rattle.trit_cubes.specs.Resolution.{res}
use Rattle.cell_machine.specs.Machine.{edge_value, without}
use Rattle.cell_machine.specs.CellData.{data_of}
use Rattle.cell_machine.specs.CellTrace.{support_at, step_at}
use Rattle.udp_tables.proofs.ColumnLemmas.{length-without}
use Rattle.module_tables.proofs.cell_values.step_value.Goals as goal

pub returns : goal.returns
returns c =
    let d = data_of c.args.cell.now in
    let g = c.args.group in
    let change = c.args.change in
    let p = change.place in
    let values : List Trit = change.values.now in
    let s = c.args.state in
    let are : c.as_slice.result.now ≡ change.old ∷ slice_index_or values p trit.Unknown ∷ without p values ++ s ∷ []
    = c.as_slice.ensures ∙ c.change_places-places.ensures in
    let wide : length c.as_slice.result.now ≡ suc (suc (length (support_at d g)))
    = omega (arith, ap length are, length-append (without p values) (s ∷ []), length-without p trit.Unknown values c.requires.place, c.requires.values) in
    c.tabled.ensures (edge_value (step_at d g) p)
    (subst (λ n. AreValuesOf n (edge_value (step_at d g) p) change.steps.now) (sym wide) c.requires.steps)
    ∙ ap (res (edge_value (step_at d g) p)) are
