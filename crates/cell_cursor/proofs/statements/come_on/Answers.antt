use Rattle.cell_cursor.proofs.Comings.{end_on}
use Rattle.cell_cursor.proofs.statements.come_on.Goals as goal

pub returns : goal.returns
returns c =
    end_on c.come_to_end.result c.args.items.now.items c.read_statements.new.items.items c.args.cursor.now c.read_statements.new.cursor c.expect.new.self
    c.in_ok-read_statements.ensures.added c.in_ok-expect.ensures (c.come_to_end.ensures.comes c.read_statements.new.items.items) c.come_to_end.ensures.behind
