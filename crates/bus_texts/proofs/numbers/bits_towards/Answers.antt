use Rattle.bus_texts.proofs.LoopLemmas.{bits_step}
use Rattle.bus_texts.proofs.numbers.bits_towards.Goals as goal

pub loop-turn-preserved : goal.loop-turn-preserved
loop-turn-preserved c =
    bits_step c.args.to c.args.count c.loop-turn._turn c.loop-turn.bit c.next_bit-bit.result c.loop-turn.bits c.push.new.self _
    c.loop-turn-test.true c.in_ok-push.ensures.ok c.next_bit-bit.ensures c.loop-turn.invariant
