use Rattle.timing_arcs.proofs.SumLemmas.{tables-limit, bad_numbers-least}
use Rattle.timing_arcs.proofs.tables.Limit.of_tables.Goals as goal

pub returns-clause-time : goal.returns-clause-time
returns-clause-time c =
    let limit = tables-limit c.args.unit c.args.name.now c.args.group.now in cc (limit, c.add_tables.ensures, c.new-sum.ensures)

pub returns-clause-bad_at : goal.returns-clause-bad_at
returns-clause-bad_at c =
    let bad = bad_numbers-least c.args.unit c.args.name.now c.args.group.now in cc (bad, c.add_tables.ensures, c.new-sum.ensures, c.lesser.ensures, c.first_unless-empty_at.ensures, c.first_group.ensures)
