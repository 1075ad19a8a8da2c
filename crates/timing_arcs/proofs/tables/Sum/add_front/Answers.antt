use Rattle.std.proofs.Common.{sym, ◌∙◌}
use Rattle.timing_arcs.proofs.PlainEntries.{joined_number}
use Rattle.timing_arcs.proofs.tables.Sum.add_front.Goals as goal

pub returns-in-Some-clause-sum : goal.returns-in-Some-clause-sum
returns-in-Some-clause-sum c =
    joined_number c.args.unit c.args.at c.args.self.now c.add_number.new.self c.args.text.now c.in-Some.entry.length c.in-Some.entry.number
    c.in-Some.ensures.length c.in-Some.ensures.within (sym c.is_end.ensures ∙ c.if-is_end.false) c.in-Some.ensures.number c.add_number.ensures
