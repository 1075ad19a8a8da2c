use Rattle.std.proofs.Common.{arith}
use Rattle.text_io.specs.declared.slots.Slot.TheVariants.{Output}
use Rattle.text_io.proofs.LineLaws.{Gathers-nil, gathered_bound, put_item_as, part_of_put_item_as, put_items}
use Rattle.text_io.proofs.lists.EachPart.put.Goals as goal

pub loop-item-init : goal.loop-item-init
loop-item-init g c = record { gathered = Gathers-nil _ _ _; kept = omega arith }

pub put-requires : goal.put-requires
put-requires g c = gathered_bound _ _ _ _ _ _ (Output c.args.slot) c.loop-item.invariant.gathered c.requires

pub loop-item-preserved : goal.loop-item-preserved
loop-item-preserved g c = record {
  gathered = put_item_as (g.M.ItemText.text c.args.self.now.0) c.args.self.now.1.now c.loop-item.item-index _ _ _ _ _ _ _ _ c.loop-item-test.true c.item-item.is c.loop-item.invariant.gathered c.in_ok-put.ensures.text.whole;
  kept = omega (arith, c.in_ok-put.ensures.cause.kept, c.loop-item.invariant.kept);
}

pub returns-in_err-put-clause-text : goal.returns-in_err-put-clause-text
returns-in_err-put-clause-text g c =
    part_of_put_item_as (g.M.ItemText.text c.args.self.now.0) c.args.self.now.1.now c.loop-item.item-index _ _ _ _ _ _ _ _ _ _ _ c.loop-item-test.true c.item-item.is c.loop-item.invariant.gathered c.in_err-put.ensures.text c.from_residual.ensures.0

pub returns : goal.returns
returns g c = record {
  text = record { whole = put_items (g.M.ItemText.text c.args.self.now.0) c.args.self.now.1.now _ _ _ _ _ _ c.loop-item-test.false c.loop-item.invariant.gathered; part = tt };
  cause = record { later = omega (arith, c.loop-item.invariant.kept); kept = c.loop-item.invariant.kept; failed = tt };
}
