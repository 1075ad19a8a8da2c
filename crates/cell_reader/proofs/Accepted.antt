-- The laws of accepted cells.
use Rattle.std.proofs.Common.{◌≡◌, ℕ, ◌≤◌, List, None, [], ◌∷◌, length, flat_map, arith, refl, ap, ◌∙◌, IsTrue, Bool, true, false}
use Rattle.std.specs.Prelude.{if◌then◌else◌}
use Rattle.liberty_groups.specs.declared.tree.Group.{Group}
use Rattle.cell_machine.specs.CellRules.{is_name}
use Rattle.cell_machine.proofs.RuleLemmas.{cell_of_rules}
use Rattle.timing_arcs.specs.declared.subject.Subject.{Subject}
use Rattle.cell_attributes.specs.Groups.{cell_name, state_groups}
use Rattle.cell_attributes.specs.Pins.{pins_of, owners_of}
use Rattle.cell_attributes.specs.Declarations.{declared_of, known_cell, clashes_after, bad_cell_name, bad_name_in}
use Rattle.cell_attributes.specs.Vocabulary.{vocabulary}
use Rattle.cell_attributes.specs.StateReadings.{state_reading}
use Rattle.cell_attributes.specs.Texts.{malformed_at, unknown_at}
use Rattle.cell_attributes.specs.TextFaults.{malformed_in, unknown_in}
use Rattle.cell_attributes.specs.CellLaws.{readings_of, texts_of, numbers_of, groups_of, outputs_of, CellMeetsNone}
use Rattle.cell_attributes.specs.Limits.{first_past, state_at, wide_output}
use Rattle.cell_reader.specs.Written.{wide_support_of}
use Rattle.cell_machine.specs.Delay.{least}
use Rattle.cell_timings.specs.PinTimings.{check_at_in, arc_at_in, wide_in}
use Rattle.cell_reader.specs.CellTexts.{subject_of}
use Rattle.cell_reader.specs.Refusals.{reasons_of, refusal_of, timing_answers, checks_of, arcs_of}
use Rattle.cell_reader.specs.Laws.{AcceptedMeetsNone, AcceptedPinsAreSound, AcceptedStatesAreFew, AcceptedCellsAreSound}
use Rattle.cell_attributes.proofs.Distinct.{nil_parts}
use Rattle.cell_attributes.proofs.PinRules.{within_limit, pins_are_sound}
use Rattle.cell_attributes.proofs.GroupCount.{group_count}
use Rattle.cell_reader.proofs.Refused.{all_unmet, least_none}
use Rattle.cell_reader.proofs.AllPlaces.{check_at_all, arc_at_all, wide_all}
use Rattle.cell_reader.proofs.Decides.{all_read, coupled_told_is, supports_told_are, wide_supports_told_are}
use Rattle.cell_reader.proofs.PartCounts.{IsWithinLimits, within_limits}
use Rattle.cell_timings.proofs.TimingRules.{timing_rules, arcs_apart}
use Rattle.cell_attributes.proofs.CellGroups.{groups_keep_rules}
use Rattle.cell_attributes.proofs.CellOutputs.{outputs_keep_rules}

pub accepted_meets_none : AcceptedMeetsNone
accepted_meets_none pins earlier cell h = all_unmet (reasons_of pins earlier cell) h

named : (b : Bool) (at : ℕ) → (if b then [] else at ∷ []) ≡ [] → IsTrue b
named true at h = refl
named false at h = absurd cc

accepted_limits : (pins : Subject) (earlier : List (List ℕ)) (cell : Group) → refusal_of pins earlier cell ≡ None
    → IsWithinLimits pins cell
accepted_limits pins earlier cell h = within_limits pins cell (accepted_meets_none pins earlier cell h).1.1.1.1.1.1.1.1.1.1.1.1.0

pub accepted_pins_are_sound : AcceptedPinsAreSound
accepted_pins_are_sound pins earlier cell h =
    let twice = (accepted_meets_none pins earlier cell h).1.1.1.1.1.0 in
    let within = accepted_limits pins earlier cell h in
    let cell_is_named = nil_parts (bad_cell_name cell) (flat_map bad_name_in (declared_of cell)) within.of_names in
    (named (is_name (cell_name cell)) cell.at cell_is_named.0, pins_are_sound earlier cell twice within.of_names within.of_pins)

pub accepted_states_are_few : AcceptedStatesAreFew
accepted_states_are_few pins earlier cell h =
    let few : length (flat_map state_at (state_groups cell)) ≤ 16 =
    within_limit 16 (flat_map state_at (state_groups cell)) (accepted_limits pins earlier cell h).of_states in
    let same : length (groups_of cell) ≡ length (flat_map state_at (state_groups cell)) =
    group_count (numbers_of cell) (state_reading (vocabulary cell) (length (pins_of cell))) (state_groups cell) in
    omega arith

-- Nothing refuses the states and the outputs of an accepted cell.
pub accepted_meets_none_here : (pins : Subject) (earlier : List (List ℕ)) (cell : Group) → refusal_of pins earlier cell ≡ None
    → CellMeetsNone cell
accepted_meets_none_here pins earlier cell h =
    let m = accepted_meets_none pins earlier cell h in
    let m5 = m.1.1.1.1.1 in
    let m6 = m5.1 in
    let m12 = m6.1.1.1.1.1.1 in
    let twice = nil_parts (known_cell earlier cell) (clashes_after [] (declared_of cell)) m5.0 in
    let bad_states = nil_parts (flat_map malformed_in (readings_of cell)) _ m6.0 in
    let bad_texts = nil_parts (flat_map malformed_at (texts_of cell)) _ bad_states.1 in
    let lost_states = nil_parts (flat_map unknown_in (readings_of cell)) _ m6.1.0 in
    let lost_texts = nil_parts (flat_map unknown_at (texts_of cell)) _ lost_states.1 in
    let within = accepted_limits pins earlier cell h in
    let wide = nil_parts (flat_map (wide_support_of (vocabulary cell) (length (pins_of cell))) (state_groups cell)) _ m12.1.0 in
    let wide_texts =
    nil_parts (flat_map (wide_output (vocabulary cell) (length (pins_of cell)) (groups_of cell) (numbers_of cell))
    (owners_of cell)) _ wide.1 in
    record {
      none_twice = twice.1;
      states_read = bad_states.0;
      states_known = lost_states.0;
      states_apart = coupled_told_is pins cell m6.1.0 ∙ m6.1.1.0;
      texts_read = bad_texts.0;
      texts_known = lost_texts.0;
      driven = m6.1.1.1.0;
      few_states = within.of_states;
      some_support = supports_told_are pins cell m6.1.0 m6.1.1.0 ∙ within.of_supports;
      narrow_support = wide_supports_told_are pins cell m6.1.0 m6.1.1.0 ∙ wide.0;
      narrow_outputs = wide_texts.0;
    }

-- Nothing refuses the timing of an accepted cell.
pub timing_limits :
    (pins : Subject) (earlier : List (List ℕ)) (cell : Group)
    → refusal_of pins earlier cell ≡ None
    → (first_past 256 (flat_map check_at_in (timing_answers pins cell)) ≡ [])
    × (first_past 1024 (flat_map arc_at_in (timing_answers pins cell)) ≡ [])
    × (flat_map wide_in (timing_answers pins cell) ≡ [])
timing_limits pins earlier cell h =
    let m = accepted_meets_none pins earlier cell h in
    let m6 = m.1.1.1.1.1.1 in
    let m12 = m6.1.1.1.1.1.1 in
    let read = all_read pins cell m6.0 m6.1.0 m6.1.1.1.1.0 m6.1.1.1.1.1.0 in
    let within = accepted_limits pins earlier cell h in
    let wide = nil_parts (flat_map (wide_support_of (vocabulary cell) (length (pins_of cell))) (state_groups cell)) _ m12.1.0 in
    let wide_texts =
    nil_parts (flat_map (wide_output (vocabulary cell) (length (pins_of cell)) (groups_of cell) (numbers_of cell))
    (owners_of cell)) _ wide.1 in (
      ap (first_past 256) (check_at_all pins (owners_of cell) read) ∙ within.of_checks,
      ap (first_past 1024) (arc_at_all pins (owners_of cell) read) ∙ within.of_arcs,
      least_none (flat_map wide_in (timing_answers pins cell)) (wide_all pins (owners_of cell) read ∙ ap least wide_texts.1),
    )

pub accepted_cells_are_sound : AcceptedCellsAreSound
accepted_cells_are_sound unit earlier cell h =
    let subject : Subject = subject_of unit cell in
    let here = accepted_meets_none_here subject earlier cell h in
    let sound = accepted_pins_are_sound subject earlier cell h in
    let timing = timing_limits subject earlier cell h in
    let rules = timing_rules subject (owners_of cell) timing.0 timing.1 timing.2 in (
      cell_of_rules (cell_name cell) (pins_of cell) (groups_of cell) (outputs_of cell) (checks_of subject cell)
          (arcs_of subject cell)
          (record {
            named = sound.0;
            of_pins = sound.1;
            of_groups = groups_keep_rules cell here;
            of_outputs = outputs_keep_rules cell here;
            of_checks = rules.0;
            of_arcs = rules.1;
          }),
      arcs_apart subject (owners_of cell),
    )
