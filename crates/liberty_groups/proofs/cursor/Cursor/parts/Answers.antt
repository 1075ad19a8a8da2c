use Rattle.std.proofs.Common.{◌∙◌, sym, rules}
use Rattle.liberty_groups.proofs.Parts.{part_turn}
use Rattle.liberty_groups.proofs.cursor.Cursor.parts.Goals as goal

pub loop-turn-preserved : goal.loop-turn-preserved
loop-turn-preserved c =
    let ok = c.in_ok-add_part-in-Some.ensures in
    rw (ok.found, ok.left)
    (sym (part_turn c.args.place c.left-turn-end.result c.loop-turn._turn c.loop-turn.found c.loop-turn.self c.in-Some.token c.loop-turn-test.true (search rules) (search rules))
    ∙ c.loop-turn.invariant)
