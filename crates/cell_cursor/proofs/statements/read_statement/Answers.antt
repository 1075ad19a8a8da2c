use Rattle.std.proofs.Common.{◌++◌, sym, ap, ◌∙◌}
use Rattle.cell_cursor.proofs.Comings.{open_statement}
use Rattle.cell_cursor.proofs.StatementSteps.{statement_ended_as}
use Rattle.cell_cursor.proofs.statements.read_statement.Goals as goal

pub returns-clause-ended : goal.returns-clause-ended
returns-clause-ended c = λ ended more.
    statement_ended_as c.args.items.now.items c.add.new.items.items c.args.cursor.now c.name.new.self c.in_ok-name.name c.in_ok-name.at c.in_ok-statement.statement c.whole_statement.new.cursor more
    c.in_ok-name.ensures.name c.in_ok-name.ensures.left c.in_ok-statement.ensures (sym c.has_ended-has_ended.ensures ∙ ended)
    (c.in_ok-add.ensures ∙ ap (λ l. c.args.items.now.items ++ l) c.item_of.ensures)

pub returns-clause-inner : goal.returns-clause-inner
returns-clause-inner c = λ not_ended.
    open_statement c.args.cursor.now c.name.new.self c.in_ok-name.name c.in_ok-name.at c.in_ok-statement.statement c.whole_statement.new.cursor
    c.in_ok-name.ensures.left c.in_ok-statement.ensures (sym c.has_ended-has_ended.ensures ∙ not_ended)
