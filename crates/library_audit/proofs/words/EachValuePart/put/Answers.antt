use Rattle.std.proofs.Common.{refl, sym, arith}
use Rattle.std.proofs.lemmas.Option.{get_or_from_slice_get}
use Rattle.text_io.specs.declared.slots.Slot.TheVariants.{Output}
use Rattle.text_io.proofs.LineLaws.{Gathers-nil, gathered_bound, put_item_as, part_of_put_item_as, put_items}
use Rattle.library_audit.specs.Lines.{listed_value}
use Rattle.library_audit.proofs.words.EachValuePart.put.Goals as goal

pub loop-place-init : goal.loop-place-init
loop-place-init g c = record { gathered = Gathers-nil _ _ _; kept = refl }

pub put-requires : goal.put-requires
put-requires g c = gathered_bound _ _ _ _ _ _ (Output c.args.slot) c.loop-place.invariant.gathered c.requires

pub loop-place-preserved : goal.loop-place-preserved
loop-place-preserved g c =
    let values = c.args.self.now.0 in
    let within = rw c.len-place-end.ensures.value at c.loop-place-test.true in
    let is = sym (get_or_from_slice_get values c.loop-place.place c.place.result c.place.result c.place.ensures) in
    record {
      gathered = put_item_as listed_value values c.loop-place.place c.place.result _ _ _ _ _ _ _ within is c.loop-place.invariant.gathered (rw c.known_text.ensures at c.in_ok-put.ensures.text.whole);
      kept = omega (arith, c.in_ok-put.ensures.cause.kept, c.loop-place.invariant.kept);
    }

pub returns-in_err-put-clause-text : goal.returns-in_err-put-clause-text
returns-in_err-put-clause-text g c =
    let values = c.args.self.now.0 in
    let within = rw c.len-place-end.ensures.value at c.loop-place-test.true in
    let is = sym (get_or_from_slice_get values c.loop-place.place c.place.result c.place.result c.place.ensures) in
    part_of_put_item_as listed_value values c.loop-place.place c.place.result _ _ _ _ _ _ _ _ _ _ within is c.loop-place.invariant.gathered (rw c.known_text.ensures at c.in_err-put.ensures.text) c.from_residual.ensures.0

pub returns-clause-text : goal.returns-clause-text
returns-clause-text g c =
    let over = rw c.len-place-end.ensures.value at c.loop-place-test.false in
    record { whole = put_items listed_value c.args.self.now.0 _ _ _ _ _ _ over c.loop-place.invariant.gathered; part = tt }
