use Rattle.std.specs.Prelude.{bit_or}
use Rattle.std.specs.List.{list_all}
use Rattle.std.proofs.lemmas.Bool.{and_from}
use Rattle.scan_cells.specs.Masks.{is_in}
use Rattle.scan_cells.proofs.MaskLemmas.{in_more, are_also}
use Rattle.scan_cells.proofs.masks.+support_mask.Goals as goal

pub returns : goal.returns
returns t c =
    let places = c.args.places.now in
    let here = c.source_mask.result in
    let there = c.support_mask.result in
    let first = c.in-Some.first.now in
    let rest = c.in-Some.rest.now in
    rw c.in-Some.ensures.cases.0
    (and_from (is_in places (bit_or here there) first) (list_all (is_in places (bit_or here there)) rest)
    (in_more places here there first c.source_mask.ensures) (are_also places rest here there c.support_mask.ensures))
