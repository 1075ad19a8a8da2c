use Rattle.std.proofs.Common.{sym, subst}
use Rattle.grammar_rules.specs.Reading.{read}
use Rattle.cell_cursor.specs.declared.part.Place.{Place}
use Rattle.cell_cursor.specs.Items.{Adds, rest_at}
use Rattle.cell_cursor.proofs.statements.read_rest.Goals as goal

pub returns-in-Behind : goal.returns-in-Behind
returns-in-Behind c =
    subst (λ (p : Place). Adds (read (rest_at p c.args.items.now.items) c.args.cursor.now) c.read_file_end.result c.args.items.now.items c.args.cursor.now) (sym c.in-Behind.is)
    (c.read_file_end.ensures c.args.items.now.items)
