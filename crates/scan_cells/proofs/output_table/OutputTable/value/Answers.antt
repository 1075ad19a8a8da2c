use Rattle.std.proofs.Common.{◌≡◌, ℕ, ◌^◌, List, length, get_or, sym, ap, subst, ◌∙◌, arith, ◌<◌}
use Rattle.std.proofs.lemmas.List.FromFn.{length-map-range_with_len, get_or-map-range_with_len}
use Rattle.trit_cubes.specs.declared.trits.Trit.{Trit}
use Rattle.trit_cubes.specs.declared.trits.Trit.TheVariants.{Zero}
use Rattle.trit_cubes.specs.Sets.{point_of}
use Rattle.cell_machine.specs.CellData.{data_of}
use Rattle.cell_machine.specs.CellTrace.{output_value_at}
use Rattle.scan_cells.proofs.WeightLemmas.{numbered}
use Rattle.scan_cells.proofs.output_table.OutputTable.value.Goals as goal

pub bounds-as_slice-number : goal.bounds-as_slice-number
bounds-as_slice-number c =
    let self = c.args.self.now in
    let f = λ (k : ℕ). output_value_at (data_of self.cell.now) self.output (point_of (length self.numbering.weights) k) in
    let long : length c.as_slice.result.now ≡ 2 ^ length self.numbering.weights
    = ap length (c.as_slice.ensures ∙ self.are_values) ∙ length-map-range_with_len f 0 (2 ^ length self.numbering.weights) in
    subst (λ n. c.number-number.result < n) (sym long) c.number-number.ensures.small

pub returns : goal.returns
returns c =
    let self = c.args.self.now in
    let weights = self.numbering.weights in
    let n = c.number-number.result in
    let value = output_value_at (data_of self.cell.now) self.output in
    ap (λ (xs : List Trit). get_or xs n Zero) (c.as_slice.ensures ∙ self.are_values)
    ∙ (get_or-map-range_with_len (λ (k : ℕ). value (point_of (length weights) k)) 0 (2 ^ length weights) n n Zero
    c.number-number.ensures.small (omega arith)
    ∙ ap value (ap (point_of (length weights)) c.number-number.ensures.is ∙ numbered weights c.args.point))
