use Rattle.std.proofs.Common.{◌≡◌, true, slice_index_or, sym, ◌∙◌, rules, arith}
use Rattle.std.proofs.lemmas.List.{get_or_default}
use Rattle.trit_cubes.specs.declared.trits.Trit.TheVariants as trit
use Rattle.row_selection.specs.Selection.{chosen}
use Rattle.row_selection.proofs.SelectionLemmas.{selected-decide}
use Rattle.row_selection.proofs.change_rows.ChangeRows.next_by.Goals as goal

pub returns : goal.returns
returns c =
    let self = c.args.self.now in
    let values = c.args.inputs.now in
    let whole : self.whole ≡ true = search rules in
    let new : slice_index_or values self.place trit.Zero ≡ slice_index_or values self.place trit.Unknown
    = get_or_default values self.place trit.Zero trit.Unknown (omega (arith, self.inside, c.requires.inputs)) in
    c.chosen.ensures
    ∙ (λ i. chosen (c.requires.word i) self.old (new i) c.args.state ((c.as_slice.ensures ∙ self.are_rows whole) i))
    ∙ selected-decide self.place self.old self.udp.now.rows values c.args.state (λ k d l. self.table k d l ∙ sym c.requires.inputs)
    (omega (arith, self.inside, c.requires.inputs)) (omega (arith, self.few, c.requires.inputs))
