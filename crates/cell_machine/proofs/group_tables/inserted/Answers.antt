use Rattle.std.proofs.Common.{◌∙◌, append_assoc, [], ◌∷◌, take, drop}
use Rattle.cell_machine.proofs.Tables.{insert_parts}
use Rattle.cell_machine.proofs.group_tables.inserted.Goals as goal

pub returns : goal.returns
returns c =
    rw (c.append-2.ensures, c.push.ensures, c.append.ensures, c.new-whole.ensures, c.split_at.ensures.front, c.split_at.ensures.back)
    (append_assoc (take c.args.place c.args.point.now) (c.args.bit ∷ []) (drop c.args.place c.args.point.now)
    ∙ insert_parts c.args.place c.args.bit c.args.point.now c.requires.place)
