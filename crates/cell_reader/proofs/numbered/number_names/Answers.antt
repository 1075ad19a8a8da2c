use Rattle.std.proofs.Common.{◌≤◌, ◌∙◌, length, map, sym, subst, ap}
use Rattle.std.specs.Prelude.{All}
use Rattle.cell_attributes.specs.Vocabulary.{vocabulary}
use Rattle.cell_attributes.specs.Building.{FitsReading}
use Rattle.cell_attributes.specs.Shown.{shown_state, shown_vocabulary}
use Rattle.cell_attributes.proofs.Turns.{count_shown}
use Rattle.cell_reader.specs.Parts.{subject_in}
use Rattle.cell_reader.proofs.PartCounts.{few_pins, few_states, number_count_of, readings_fit_here}
use Rattle.cell_reader.proofs.numbered.number_names.Goals as goal

pub cell_numbers-requires-clause-pins : goal.cell_numbers-requires-clause-pins
cell_numbers-requires-clause-pins c =
    subst (λ n. n ≤ 64) (sym (c.len-pins.ensures ∙ ap length c.requires.parts.of_cell))
    (few_pins (subject_in c.args.parts.now) c.args.parts.now.cell.now c.requires.unmet)

pub cell_numbers-requires-clause-states : goal.cell_numbers-requires-clause-states
cell_numbers-requires-clause-states c =
    subst (λ n. n ≤ 16)
    (sym (ap length c.deref.ensures.value ∙ (sym (count_shown shown_state c.args.parts.now.named.states.items) ∙ ap length c.requires.parts.of_names)))
    (few_states (subject_in c.args.parts.now) c.args.parts.now.cell.now c.requires.unmet)

pub state_groups-requires-clause-fit : goal.state_groups-requires-clause-fit
state_groups-requires-clause-fit c =
    let cell = c.args.parts.now.cell.now in
    subst (λ n. All (FitsReading n) c.as_slice.result.now)
    (sym
    (ap length (c.deref-2.ensures.value ∙ c.in_ok-numbers.ensures)
    ∙ number_count_of (map shown_state c.deref.result.now) c.len-pins.result cell (shown_vocabulary c.args.parts.now.named.vocabulary)
    c.requires.parts.of_vocabulary))
    (subst (λ rs. All (FitsReading (length (vocabulary cell).classes)) rs) (sym (c.as_slice.ensures ∙ c.requires.parts.of_readings))
    (readings_fit_here cell))
