use Rattle.std.proofs.Common.{◌∙◌, ap, length}
use Rattle.trit_cubes.specs.declared.trits.Trit.TheVariants.{Unknown}
use Rattle.udp_tables.specs.Sequential.{row_next}
use Rattle.row_masks.specs.Masks.{by_number}
use Rattle.row_masks.specs.LookUps.{udp_passes}
use Rattle.row_masks.proofs.LookUpLemmas.{columns-are, level-decided}
use Rattle.row_masks.proofs.primitives.masked_level.Goals as goal

pub first_match-requires-clause-olds : goal.first_match-requires-clause-olds
first_match-requires-clause-olds g c =
    columns-are udp_passes c.args.udp.now.rows c.requires.masks (ap length c.requires.still ∙ c.requires.news)

pub first_match-requires-clause-news : goal.first_match-requires-clause-news
first_match-requires-clause-news g c = columns-are udp_passes c.args.udp.now.rows c.requires.masks c.requires.news

pub returns : goal.returns
returns g c =
    let udp = c.args.udp.now in
    c.given_by.ensures
    ∙ (λ i. by_number (row_next Unknown) (c.as_slice.ensures i) Unknown (c.first_match.ensures i))
    ∙ level-decided udp.rows (length udp.inputs) c.args.masks.now _ _ c.requires.table.entries c.requires.few
    c.requires.masks c.requires.still c.requires.news
