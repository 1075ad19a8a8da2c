use Rattle.std.proofs.Common.{◌∙◌, length}
use Rattle.trit_cubes.specs.declared.trits.Trit.TheVariants.{Unknown}
use Rattle.udp_tables.specs.Sequential.{row_next}
use Rattle.row_masks.specs.Masks.{by_number}
use Rattle.row_masks.specs.LookUps.{udp_passes}
use Rattle.row_masks.proofs.LookUpLemmas.{columns-are, next-decided}
use Rattle.row_masks.proofs.primitives.masked_next.Goals as goal

pub returns : goal.returns
returns g c =
    let udp = c.args.udp.now in
    c.given_by.ensures
    ∙ (λ i. by_number (row_next c.args.state) (c.as_slice.ensures i) Unknown (c.decisive.ensures i))
    ∙ next-decided udp.rows (length udp.inputs) c.args.masks.now c.args.state _ _ c.requires.table c.requires.few
    c.requires.masks c.requires.olds c.requires.news

pub decisive-requires-clause-olds : goal.decisive-requires-clause-olds
decisive-requires-clause-olds g c = columns-are udp_passes c.args.udp.now.rows c.requires.masks c.requires.olds

pub decisive-requires-clause-news : goal.decisive-requires-clause-news
decisive-requires-clause-news g c = columns-are udp_passes c.args.udp.now.rows c.requires.masks c.requires.news
