use Rattle.std.proofs.Common.{◌++◌, arith}
use Rattle.text_io.specs.declared.slots.Slot.TheVariants.{Output}
use Rattle.text_io.proofs.LineLaws.{Gathers-nil, gathered_bound, put_item_as, part_of_put_item_as, put_items}
use Rattle.driver_models.specs.Terminals.{all_numbered}
use Rattle.driver_texts.proofs.NamesByPlaces.{number_is, within, all_put}
use Rattle.driver_texts.proofs.numbered_names.NumberedNamesPart.put.Goals as goal

pub loop-index-init : goal.loop-index-init
loop-index-init g c = record { gathered = Gathers-nil _ _ _; kept = omega arith }

pub put-requires : goal.put-requires
put-requires g c = gathered_bound _ _ _ _ _ _ (Output c.args.slot) c.loop-index.invariant.gathered c.requires

pub loop-index-preserved : goal.loop-index-preserved
loop-index-preserved g c =
    let self = c.args.self.now in
    record {
      gathered = put_item_as (λ name. self.before.now ++ (name ++ self.behind.now)) (all_numbered self.word.now self.count) c.loop-index.index _ _ _ _ _ _ _ _ (within self.word.now self.count c.loop-index.index c.loop-index-test.true) (number_is self.word.now self.count c.loop-index.index c.loop-index-test.true) c.loop-index.invariant.gathered c.in_ok-put.ensures.text.whole;
      kept = omega (arith, c.in_ok-put.ensures.cause.kept, c.loop-index.invariant.kept);
    }

pub returns-in_err-put-clause-text : goal.returns-in_err-put-clause-text
returns-in_err-put-clause-text g c =
    let self = c.args.self.now in
    part_of_put_item_as (λ name. self.before.now ++ (name ++ self.behind.now)) (all_numbered self.word.now self.count) c.loop-index.index _ _ _ _ _ _ _ _ _ _ _ (within self.word.now self.count c.loop-index.index c.loop-index-test.true) (number_is self.word.now self.count c.loop-index.index c.loop-index-test.true) c.loop-index.invariant.gathered c.in_err-put.ensures.text c.from_residual.ensures.0

pub returns : goal.returns
returns g c =
    let self = c.args.self.now in
    record {
      text = record { whole = put_items (λ name. self.before.now ++ (name ++ self.behind.now)) (all_numbered self.word.now self.count) _ _ _ _ _ _ (all_put self.word.now self.count _ c.loop-index-test.false) c.loop-index.invariant.gathered; part = tt };
      cause = record { later = omega (arith, c.loop-index.invariant.kept); kept = c.loop-index.invariant.kept; failed = tt };
    }
