use Rattle.liberty_text.proofs.TextValues.{value_turn}
use Rattle.liberty_text.proofs.text.text_value.Goals as goal

pub loop-at-preserved : goal.loop-at-preserved
loop-at-preserved c =
    value_turn _ _ _ _ _ _ c.loop-at-test.true c.split_at.ensures.back c.in_ok-taken.ensures.value c.in_ok-taken.ensures.taken c.loop-at.invariant
