use Rattle.std.proofs.Common.{sym, ◌∙◌}
use Rattle.vhdl_drivers.proofs.NextBuffers.{passed}
use Rattle.vhdl_drivers.proofs.buffers.buffers.Goals as goal

pub loop-i-preserved : goal.loop-i-preserved
loop-i-preserved c =
    sym (passed c.args.count c.loop-i.i c.loop-i.cursor c.buffer.new.cursor c.in_ok-buffer.field-0 c.loop-i-test.true c.in_ok-buffer.ensures) ∙ c.loop-i.invariant
