use Rattle.std.proofs.Common.{◌<◌, ◌∙◌, List, ◌+◌, ap, sym, subst, map, drop, length}
use Rattle.std.specs.Prelude.{Option}
use Rattle.std.specs.List.{fold}
use Rattle.liberty_groups.specs.declared.tree.Value.{Value}
use Rattle.liberty_groups.specs.declared.tree.Group.{Group}
use Rattle.timing_arcs.specs.declared.subject.Subject.{Subject}
use Rattle.timing_arcs.specs.declared.timing_texts.TimingTexts.{TimingTexts}
use Rattle.timing_arcs.specs.GroupTexts.{cell_of}
use Rattle.cell_attributes.specs.Pins.{owner_as}
use Rattle.cell_timings.specs.declared.answers.TimingSoFar.{TimingSoFar}
use Rattle.cell_timings.specs.Held.{AreSharedTexts}
use Rattle.cell_timings.specs.CellTimings.{with_pin}
use Rattle.cell_timings.proofs.Told.{next_name, shared_there}
use Rattle.cell_timings.proofs.answers.TimingSoFar.add_group.Goals as goal

-- the texts stay those of the cell
pub add_pin-requires : goal.add_pin-requires
add_pin-requires c =
    subst (λ (texts : Option TimingTexts). AreSharedTexts c.loop-name.subject c.args.owner.now texts) (sym c.loop-name.invariant.same_texts)
    (shared_there c.args.subject.now c.loop-name.subject c.args.owner.now c.in_ok-texts.texts (sym c.loop-name.invariant.same_cell) c.in_ok-texts.ensures)

pub loop-name-preserved : goal.loop-name-preserved
loop-name-preserved c =
    let owner : Group = c.args.owner.now in
    let cell : Subject = cell_of c.args.subject.now in
    let rest : List Group = map (owner_as owner) (drop (c.loop-name._name-index + 1) owner.arguments) in
    let within : c.loop-name._name-index < length owner.arguments = subst (λ (names : List Value). c.loop-name._name-index < length names) c.as_slice-name-items.ensures c.loop-name-test.true in
    record {
      timing =
          ap (λ (before : TimingSoFar). fold (with_pin cell) before rest) (c.in_ok-add_pin.ensures.timing
          ∙ ap (λ (at : Subject). with_pin at c.loop-name.self owner) c.loop-name.invariant.same_cell)
          ∙ ap (fold (with_pin cell) c.loop-name.self) (next_name owner owner.arguments c.loop-name._name-index within)
          ∙ c.loop-name.invariant.timing;
      same_cell = c.in_ok-add_pin.ensures.cell ∙ c.loop-name.invariant.same_cell;
      same_texts = c.loop-name.invariant.same_texts;
    }
