use Rattle.verilog_udp_reader.proofs.Levels.{level_preserved}
use Rattle.verilog_udp_reader.proofs.row.more_entries.Goals as goal

pub loop-turn-preserved-in-Some : goal.loop-turn-preserved-in-Some
loop-turn-preserved-in-Some c =
    level_preserved c.args.sequential c.left-turn-end.result c.loop-turn._turn c.loop-turn.entries c.push.new.self c.loop-turn.cursor c.skip.new.self
    c.bytes-token.result.now c.level.result c.in-Some.level _ c.loop-turn-test.true c.bytes-token.ensures c.level.ensures c.in-Some.is c.skip.ensures
    c.in_ok-push.ensures c.loop-turn.invariant
