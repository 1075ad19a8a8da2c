use Rattle.std.proofs.Common.{sym, ◌∙◌, ap, arith}
use Rattle.text_io.specs.declared.slots.Slot.TheVariants.{Output}
use Rattle.text_io.specs.Desk.{wrote}
use Rattle.text_io.proofs.Wrote.{wrote-nil, still_bound, wrote_more, WritesText-stopped, IsPrefix-take, take_part}
use Rattle.text_io.proofs.writing.write_whole.Goals as goal

pub returns-in_err-done-clause-text : goal.returns-in_err-done-clause-text
returns-in_err-done-clause-text g c =
    WritesText-stopped _ _ _ _ _ _ c.from_residual.ensures.0 (IsPrefix-take c.loop-done.done _) (c.in_err-done.ensures.err ∙ c.loop-done.invariant.written)

pub loop-done-init : goal.loop-done-init
loop-done-init g c = record { in_range = omega arith; written = sym (wrote-nil _ _); kept = omega arith }

pub write-requires : goal.write-requires
write-requires g c = still_bound _ _ _ _ (Output c.args.slot) c.loop-done.invariant.written c.requires

pub loop-done-preserved : goal.loop-done-preserved
loop-done-preserved g c = record {
  in_range = omega (arith, c.in_ok-done.ensures.at_most);
  written = wrote_more _ _ _ _ _ _ c.loop-done.invariant.written c.in_ok-done.ensures.ok ∙ ap (wrote (g.D.Desk.state c.args.desk.now) c.args.slot) (take_part c.loop-done.done c.in_ok-done.field-0 c.args.bytes.now);
  kept = omega (arith, c.in_ok-done.ensures.cause.kept, c.loop-done.invariant.kept);
}
