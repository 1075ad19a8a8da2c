use Rattle.std.proofs.Common.{sym, subst}
use Rattle.cell_cursor.specs.Items.{Adds}
use Rattle.cell_cursor.proofs.Comings.{inside_now}
use Rattle.cell_cursor.proofs.statements.read_inside.Goals as goal

pub returns : goal.returns
returns c =
    subst (λ o. Adds o c.read_file_end.result c.read_statements.new.items.items c.expect.new.self)
    (sym (inside_now c.args.items.now.items c.read_statements.new.items.items c.args.cursor.now c.read_statements.new.cursor c.expect.new.self c.in_ok-_has_ended.ensures.added c.in_ok-expect.ensures))
    (c.read_file_end.ensures c.read_statements.new.items.items)
