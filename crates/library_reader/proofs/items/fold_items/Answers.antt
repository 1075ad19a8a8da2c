use Rattle.std.proofs.Common.{refl, ap, ◌∙◌, arith}
use Rattle.text_io.specs.declared.slots.InSlot.TheVariants.{Library}
use Rattle.text_io.specs.declared.slots.Slot.TheVariants.{Input}
use Rattle.text_io.proofs.Took.{bound_still}
use Rattle.run_outcome.proofs.WrittenLaws.{still_bound_all}
use Rattle.cell_cursor.specs.Stands.{is_failed, is_failure}
use Rattle.library_reader.specs.Endings.{library_limit}
use Rattle.library_reader.proofs.Following.{room_kept, ends_on, stops_at_step, few_given}
use Rattle.library_reader.proofs.FoldLemmas.{folded_start, folded_next, folds_first, folds_seeking, folds_within, folds_all}
use Rattle.library_reader.proofs.FoldLemmas.{still_all_bound, written_all_bound}
use Rattle.library_reader.proofs.items.fold_items.Goals as goal

pub returns-in_err-cursor-clause-items : goal.returns-in_err-cursor-clause-items
returns-in_err-cursor-clause-items g c = folds_first _ _ library_limit _ _ _ c.from_residual.ensures.0

pub loop-turn-init : goal.loop-turn-init
loop-turn-init g c = record {
  folded = folded_start _ (g.F.CellFold.made c.args.fold.now) library_limit _ _ c.in_ok-cursor.cursor c.in_ok-cursor.ensures.limit c.in_ok-cursor.ensures.stands c.in_ok-cursor.ensures.going c.requires.fresh c.requires.start;
  library = c.requires.library;
  bound = c.requires.bound;
  room = rw c.requires.fresh (omega arith);
  kept = refl;
  unfailed = ap is_failed c.in_ok-cursor.ensures.going;
}

pub returns-in-Err-clause-items : goal.returns-in-Err-clause-items
returns-in-Err-clause-items g c =
    folds_seeking _ _ _ library_limit _ _ _ _ _ _ _ _ _ c.loop-turn.invariant.folded c.in-Err.ensures.moves refl

pub returns-in-Err-clause-cause : goal.returns-in-Err-clause-cause
returns-in-Err-clause-cause g c =
    stops_at_step _ _ _ _ _ c.loop-turn.invariant.kept c.loop-turn.invariant.unfailed c.in-Err.ensures.later
    (λ memory not. c.in-Err.ensures.clean (c.in-Err.ensures.unfailed (ap is_failure memory) not)) c.in-Err.ensures.failed

pub handle_item-requires-clause-bound : goal.handle_item-requires-clause-bound
handle_item-requires-clause-bound g c = still_all_bound g.W.ItemWriter.outputs _ _ _ c.in-Ok-Item.ensures.moves.takes.state c.loop-turn.invariant.bound

pub returns-in_err-handle_item-in-Ok-Item-clause-items : goal.returns-in_err-handle_item-in-Ok-Item-clause-items
returns-in_err-handle_item-in-Ok-Item-clause-items g c =
    let moves = rw c.in-Ok-Item.field-0-is at c.in-Ok-Item.ensures.moves in
    folds_within _ _ _ library_limit _ _ _ _ _ _ _ _ _ c.in-Ok-Item.item _ _ c.loop-turn.invariant.folded moves (ends_on _ _ _ _ _ moves c.in-Ok-Item.ensures.kept)
    c.in_err-handle_item-in-Ok-Item.ensures.text c.from_residual-in_err-handle_item-in-Ok-Item.ensures.0

pub returns-in-Ok-Ended-clause-items : goal.returns-in-Ok-Ended-clause-items
returns-in-Ok-Ended-clause-items g c =
    let moves = rw c.in-Ok-Ended.field-0-is at c.in-Ok-Ended.ensures.moves in
    folds_all _ _ library_limit _ _ _ _ _ _ _ c.in-Ok-Ended.end _ c.ending_by.ensures c.loop-turn.invariant.folded moves (ends_on _ _ _ _ _ moves c.in-Ok-Ended.ensures.kept)
    ((rw c.in-Ok-Ended.field-0-is at c.in-Ok-Ended.ensures.answered) refl)

pub returns-in-Ok-Ended-clause-cause : goal.returns-in-Ok-Ended-clause-cause
returns-in-Ok-Ended-clause-cause g c =
    let kept = c.in-Ok-Ended.ensures.clean (c.in-Ok-Ended.ensures.unfailed refl c.loop-turn.invariant.unfailed) ∙ c.loop-turn.invariant.kept in
    record { later = omega (arith, kept); kept = kept; failed = tt }

pub loop-turn-preserved : goal.loop-turn-preserved
loop-turn-preserved g c =
    let moves = rw c.in-Ok-Item.field-0-is at c.in-Ok-Item.ensures.moves in
    let taken = c.in-Ok-Item.ensures.moves.takes.state in
    let here = c.loop-turn.invariant in
    let unfailed = c.in-Ok-Item.ensures.unfailed refl here.unfailed in
    let done = c.in_ok-handle_item-in-Ok-Item.ensures in
    let ends = ends_on _ _ _ _ _ moves c.in-Ok-Item.ensures.kept in
    record {
      folded = folded_next _ _ _ library_limit _ _ _ _ _ _ _ _ _ c.in-Ok-Item.item here.folded moves ends done.text.whole done.made done.progress;
      library = still_bound_all _ _ _ (Input Library) done.text.whole (bound_still _ _ _ _ (Input Library) taken here.library);
      bound = written_all_bound g.W.ItemWriter.outputs _ _ _ done.text.whole (still_all_bound g.W.ItemWriter.outputs _ _ _ taken here.bound);
      room = room_kept c.loop-turn.progress c.handle_item.new.progress c.in-Ok-Item.item c.loop-turn._turn done.progress here.room;
      kept = done.cause.kept ∙ c.in-Ok-Item.ensures.clean unfailed ∙ here.kept;
      unfailed = unfailed;
    }

pub unreachable-requires : goal.unreachable-requires
unreachable-requires g c =
    let few = few_given library_limit _ _ _ _ _ c.loop-turn.invariant.folded.follows in
    omega (arith, few, c.loop-turn.invariant.folded.counted)
