use Rattle.std.proofs.Common.{sym, ◌∙◌}
use Rattle.cell_cursor.proofs.Comings.{refused_here}
use Rattle.cell_cursor.proofs.statements.reach.Goals as goal

pub returns-in_default : goal.returns-in_default
returns-in_default c =
    refused_here c.args.place c.args.items.now.items c.come_from.new.items.items c.args.cursor.now c.come_from.new.cursor c.in-Err-Refused.field-0 c.in-Err-Refused.refusal c.in-Some.token c.args.end
    c.in-Err-Refused.ensures c.in-Err-Refused.field-0-is (sym c.peek.ensures ∙ c.in-Some.is) (sym c.is_settled.ensures ∙ c.if-is_settled.false)
