use Rattle.std.proofs.Common.{◌∙◌}
use Rattle.udp_tables.proofs.NumberLemmas.{searched-any}
use Rattle.udp_tables.proofs.cube_index.has_number.Goals as goal

pub returns : goal.returns
returns c =
    λ up. c.is_ok.ensures.value
    ∙ searched-any c.args.numbers.now c.args.number c.binary_search.result c.binary_search.ensures.position up
