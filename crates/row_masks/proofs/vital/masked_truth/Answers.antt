use Rattle.std.proofs.Common.{◌∙◌, ap, refl, length}
use Rattle.trit_cubes.specs.declared.trits.Trit.TheVariants.{Unknown}
use Rattle.vital_tables.specs.declared.table.TruthRow.{TruthRow}
use Rattle.row_masks.specs.Masks.{by_number}
use Rattle.row_masks.specs.LookUps.{truth_passes}
use Rattle.row_masks.proofs.LookUpLemmas.{columns-are, truth-decided}
use Rattle.row_masks.proofs.vital.masked_truth.Goals as goal

pub first_match-requires-clause-olds : goal.first_match-requires-clause-olds
first_match-requires-clause-olds g c = columns-are truth_passes c.args.table.now.rows c.requires.masks (ap length c.requires.still)

pub first_match-requires-clause-news : goal.first_match-requires-clause-news
first_match-requires-clause-news g c = columns-are truth_passes c.args.table.now.rows c.requires.masks refl

pub returns : goal.returns
returns g c =
    c.given_by.ensures
    ∙ (λ i. by_number (λ (row : TruthRow). row.result) (c.as_slice.ensures i) Unknown (c.first_match.ensures i))
    ∙ truth-decided c.args.table.now.rows c.args.masks.now _ _ c.requires.rows c.requires.few c.requires.masks c.requires.still
