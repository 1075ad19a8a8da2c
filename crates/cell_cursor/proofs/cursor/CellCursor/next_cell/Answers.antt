use Rattle.std.proofs.Common.{◌≡◌, ◌∙◌, ◌++◌, inl, inr, None, refl, ap, arith, rules}
use Rattle.std.specs.Option.{option_to_list}
use Rattle.text_io.specs.declared.slots.InSlot.TheVariants.{Library}
use Rattle.text_io.specs.declared.slots.Slot.TheVariants.{Input}
use Rattle.cell_cursor.specs.Stands.{is_going, is_failed}
use Rattle.cell_cursor.proofs.SeekingLemmas.{smaller, rose_since, no_answer, not_going, item_given}
use Rattle.cell_cursor.proofs.MovesLemmas.{moves_nothing, moves_through, moves_given, moves_answered}
use Rattle.cell_cursor.proofs.TakingLemmas.{bound_yet}
use Rattle.cell_cursor.proofs.cursor.CellCursor.next_cell.Goals as goal

pub loop-item-init : goal.loop-item-init
loop-item-init g c = record {
  moves = moves_nothing c.args.self.now _;
  later = omega arith;
  settled = λ a h. (h, refl);
  kept = λ h. refl;
  clean = λ _. refl;
  empty = λ h. inl h;
  failed = λ h. inl h;
}

pub go_on-requires-clause-bound : goal.go_on-requires-clause-bound
go_on-requires-clause-bound g c = bound_yet _ _ c.loop-item.invariant.moves.taken (Input Library) c.loop-item.invariant.moves.takes c.requires

pub loop-item-smaller : goal.loop-item-smaller
loop-item-smaller g c = smaller c.loop-item.self _ c.go_on.new.self refl refl refl (search rules) c.go_on.ensures.progress

pub loop-item-preserved : goal.loop-item-preserved
loop-item-preserved g c =
    let none : c.loop-item.self.answer ≡ None = search rules in
    let same : c.pop.new.self.items ≡ c.loop-item.self.waiting.items = search rules in
    record {
      moves = moves_through _ _ _ _ _ _ _ _ refl refl refl refl refl same (ap is_going none) c.loop-item.invariant.moves c.go_on.ensures.moves;
      later = omega (arith, c.loop-item.invariant.later, c.go_on.ensures.later);
      settled = λ a h. no_answer c.loop-item.self.answer a none (c.loop-item.invariant.settled a h).0.settled;
      kept = λ h. not_going _ _ none h (c.loop-item.invariant.kept h);
      clean = λ f. c.go_on.ensures.clean f ∙ c.loop-item.invariant.clean (ap is_failed none);
      empty = λ f. inr (c.go_on.ensures.empty f);
      failed = λ f. inr (rose_since _ _ _ (c.loop-item.invariant.clean (ap is_failed none)) (c.go_on.ensures.failed f));
    }

pub returns-in-Some-clause-answered : goal.returns-in-Some-clause-answered
returns-in-Some-clause-answered g c = λ none. absurd (item_given c.in-Some.item none)

pub returns-in-Some-answer-clause-answered : goal.returns-in-Some-answer-clause-answered
returns-in-Some-answer-clause-answered g c =
    λ none. (c.in-Some-answer.answer, record { none_waits = search rules; settled = search rules }, c.answered.ensures)

pub returns-in-Some-clause-moves : goal.returns-in-Some-clause-moves
returns-in-Some-clause-moves g c =
    moves_given c.args.self.now c.loop-item.self _ _ _ c.in-Some.item (c.pop.ensures.items ∙ ap (λ r. c.pop.new.self.items ++ option_to_list r) c.in-Some.is)
    refl refl refl refl refl c.loop-item.invariant.moves

pub returns-in-Some-answer-clause-moves : goal.returns-in-Some-answer-clause-moves
returns-in-Some-answer-clause-moves g c =
    let same : c.pop.new.self.items ≡ c.loop-item.self.waiting.items = search rules in
    moves_answered c.args.self.now c.loop-item.self _ _ _ c.in-Some-answer.answer c.answered.result c.answered.ensures refl refl refl refl refl same c.loop-item.invariant.moves
