use Rattle.std.proofs.Common.{◌∙◌, ap, refl}
use Rattle.trit_cubes.specs.declared.trits.Trit.TheVariants.{Unknown}
use Rattle.vital_tables.specs.LookUps.{row_next}
use Rattle.row_masks.specs.Masks.{by_number, first_row, matching}
use Rattle.row_masks.specs.LookUps.{state_passes}
use Rattle.row_masks.proofs.LookUpLemmas.{columns-are, state-decided}
use Rattle.row_masks.proofs.vital.masked_state.Goals as goal

pub first_match-requires-clause-olds : goal.first_match-requires-clause-olds
first_match-requires-clause-olds g c = columns-are state_passes c.args.table.now.rows c.requires.masks c.requires.olds

pub first_match-requires-clause-news : goal.first_match-requires-clause-news
first_match-requires-clause-news g c = columns-are state_passes c.args.table.now.rows c.requires.masks refl

pub returns : goal.returns
returns g c =
    let olds = g.C.ColumnValues.olds c.args.values.now in
    let news = g.C.ColumnValues.news c.args.values.now in
    c.given_by.ensures
    ∙ (λ i. by_number (row_next c.args.state) (c.as_slice.ensures i) Unknown ((c.first_match.ensures
    ∙ ap (λ m. first_row (matching m c.args.masks.now.columns olds news)) c.at.ensures) i))
    ∙ state-decided c.args.table.now.rows c.args.masks.now c.args.state olds news c.requires.rows c.requires.few c.requires.masks
    c.requires.olds
