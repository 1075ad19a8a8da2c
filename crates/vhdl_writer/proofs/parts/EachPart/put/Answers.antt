use Rattle.std.proofs.Common.{arith}
use Rattle.text_io.specs.declared.slots.Slot.TheVariants.{Output}
use Rattle.text_io.proofs.LineLaws.{Gathers-nil, gathered_bound}
use Rattle.vhdl_writer.proofs.Turns.{put_turn, part_of_turn, put_turns}
use Rattle.vhdl_writer.proofs.parts.EachPart.put.Goals as goal

pub loop-index-init : goal.loop-index-init
loop-index-init g c = record { gathered = Gathers-nil _ _ _; kept = omega arith }

pub put-requires : goal.put-requires
put-requires g c = gathered_bound _ _ _ _ _ _ (Output c.args.slot) c.loop-index.invariant.gathered c.requires

pub loop-index-preserved : goal.loop-index-preserved
loop-index-preserved g c = record {
  gathered = put_turn (g.M.ItemText.text c.args.self.now.0) c.args.self.now.1.now c.loop-index.index c.item-item.result _ _ _ _ _ _ _ c.loop-index-test.true c.item-item.is c.loop-index.invariant.gathered c.in_ok-put.ensures.text.whole;
  kept = omega (arith, c.in_ok-put.ensures.cause.kept, c.loop-index.invariant.kept);
}

pub returns-in_err-put-clause-text : goal.returns-in_err-put-clause-text
returns-in_err-put-clause-text g c =
    part_of_turn (g.M.ItemText.text c.args.self.now.0) c.args.self.now.1.now c.loop-index.index c.item-item.result _ _ _ _ _ _ _ _ _ _ c.loop-index-test.true c.item-item.is c.loop-index.invariant.gathered c.in_err-put.ensures.text c.from_residual.ensures.0

pub returns : goal.returns
returns g c = record {
  text = record { whole = put_turns (g.M.ItemText.text c.args.self.now.0) c.args.self.now.1.now _ _ _ _ _ _ c.loop-index-test.false c.loop-index.invariant.gathered; part = tt };
  cause = record { later = omega (arith, c.loop-index.invariant.kept); kept = c.loop-index.invariant.kept; failed = tt };
}
