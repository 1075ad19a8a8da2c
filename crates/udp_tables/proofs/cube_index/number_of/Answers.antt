use Rattle.std.proofs.Common.{◌∙◌, ap, arith}
use Rattle.udp_tables.specs.Pairs.{number_of}
use Rattle.udp_tables.proofs.NumberLemmas.{with-own}
use Rattle.udp_tables.proofs.cube_index.number_of.Goals as goal

pub returns : goal.returns
returns c =
    c.number_with.ensures
    ∙ ap number_of (with-own c.place.result c.args.cube.now _ (omega (arith, c.len.ensures.value, c.requires)) c.place.ensures)
