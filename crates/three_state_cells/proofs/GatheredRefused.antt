-- Two cells that are alike but for the names of their pin groups, which one has together where the other has them apart, are read
-- alike.
use Rattle.std.proofs.Common.{◌≡◌, ℕ, List, [], ◌∷◌, ◌++◌, length, map, filter, Option, None, if◌then◌else◌, refl, sym, ap, ◌∙◌}
use Rattle.std.specs.Prelude.{flat_map, is_some}
use Rattle.std.proofs.lemmas.List.Folds.{flat_map-map}
use Rattle.liberty_text.specs.declared.time.Unit.{Unit}
use Rattle.liberty_groups.specs.declared.tree.Value.{Value}
use Rattle.liberty_groups.specs.declared.tree.Group.{Group}
use Rattle.bool_functions.specs.NameList.{number_of}
use Rattle.cell_machine.specs.declared.groups.StateGroup.{StateGroup}
use Rattle.cell_machine.specs.declared.outputs.OutputPin.{OutputPin}
use Rattle.cell_machine.specs.CellRules.{is_name}
use Rattle.cell_machine.specs.Delay.{least, lesser}
use Rattle.cell_machine.proofs.LeastLemmas.{least_append}
use Rattle.timing_arcs.specs.declared.subject.Subject.{Subject}
use Rattle.timing_arcs.specs.Timing.{malformed_at as malformed_timing, unknown_names_at as unknown_timing}
use Rattle.timing_arcs.specs.Timing.{numbers_at as number_timing, check_at_of}
use Rattle.cell_attributes.specs.declared.texts.Text.{Text}
use Rattle.cell_attributes.specs.declared.state_readings.StateReading.{StateReading}
use Rattle.cell_attributes.specs.Groups.{is_state, inner_groups, pin_groups, state_groups, first_argument}
use Rattle.cell_attributes.specs.Pins.{pin_as, pins_in, pins_of, owners_in, owners_of}
use Rattle.cell_attributes.specs.States.{states_in, states_of}
use Rattle.cell_attributes.specs.Scans.{direction_in, directions, three_state_in, three_states, bank_in, banks, left_out_in}
use Rattle.cell_attributes.specs.Scans.{left_out_states, clear_preset_in, clear_presets, no_function_in, no_functions}
use Rattle.cell_attributes.specs.Declarations.{Declared, declared_in, declared_of, clashes_after, duplicates, bad_name_in}
use Rattle.cell_attributes.specs.Vocabulary.{pin_entry, pin_entries}
use Rattle.cell_attributes.specs.Vocabulary.{vocabulary}
use Rattle.cell_attributes.specs.Texts.{malformed_at, unknown_at}
use Rattle.cell_attributes.specs.TextFaults.{malformed_in, unknown_in}
use Rattle.cell_attributes.specs.Outputs.{pin_text}
use Rattle.cell_attributes.specs.Building.{cell_numbers, groups_from, outputs_from}
use Rattle.cell_attributes.specs.CellLaws.{texts_of, outputs_of}
use Rattle.cell_attributes.specs.Limits.{first_past, place_of_group, state_at, wide_output}
use Rattle.cell_reader.specs.declared.refusal.Reason.{Reason}
use Rattle.cell_reader.specs.declared.refusal.Reason.TheVariants as reason
use Rattle.cell_reader.specs.declared.refusal.Refusal.{Refusal}
use Rattle.cell_reader.specs.declared.left_out.LeftOut.{LeftOut}
use Rattle.cell_reader.specs.PinTimings.{Answer, arc_at_of, checks_in, arcs_in, answers_from, places_from, left_out_from}
use Rattle.cell_reader.specs.CellTexts.{subject_with, subject_of}
use Rattle.cell_reader.specs.Written.{coupled_of, own_conditions_of, wide_conditions_of, no_support_of, wide_support_of}
use Rattle.cell_reader.specs.Refusals.{refused_or, timing_answers, timing_places, malformed, unknown_names, coupled}
use Rattle.cell_reader.specs.Refusals.{own_conditions, numbers, limits, udp_inputs, refusal_of, left_out_of}
use Rattle.three_state_cells.specs.DrivenCells.{DrivenData, plain_of, data_by}
use Rattle.three_state_cells.proofs.Single.{single, its_pin, its_entry, same_text, same_directions, same_three_states}
use Rattle.three_state_cells.proofs.Single.{same_left_out}
use Rattle.three_state_cells.proofs.Single.{same_no_function, same_wide_output, same_malformed, same_unknown, same_own, same_wide}
use Rattle.three_state_cells.proofs.Single.{same_numbers, same_check_at, same_arc_at}
use Rattle.three_state_cells.proofs.Lists.{apart, of_pins, by_name, least_same, states_apart, banks_apart}
use Rattle.three_state_cells.proofs.Lists.{declared_apart}
use Rattle.three_state_cells.proofs.Known.{Known, known, readings_by, words_by}
use Rattle.three_state_cells.proofs.Cells.{places_apart, answers_apart, left_out_apart, outputs_apart, offsets_apart, at_apart}

-- what the outputs of a cell hang on
abbrev numbers_by : Known → List ℕ
numbers_by k = cell_numbers (flat_map states_in k.states) (length k.pins) k.words

abbrev groups_by : Known → List StateGroup
groups_by k = groups_from (numbers_by k) k.states (readings_by k)

-- one reason after another
next :
    (r : Reason) (o p : Option ℕ) (later after : Option Refusal) → o ≡ p → later ≡ after
    → refused_or r o later ≡ refused_or r p after
next r o p later after e f = ap (λ o. refused_or r o later) e ∙ ap (refused_or r p) f

join_same : (xs ys zs ws : List ℕ) → least xs ≡ least zs → least ys ≡ least ws → least (xs ++ ys) ≡ least (zs ++ ws)
join_same xs ys zs ws e f =
    least_append xs ys ∙ (ap (λ o. lesser o (least ys)) e ∙ (ap (lesser (least zs)) f ∙ sym (least_append zs ws)))

module _
    (one other : Group) (arguments : one.arguments ≡ other.arguments) (place : one.at ≡ other.at)
    (all_apart : flat_map apart (inner_groups one.items) ≡ flat_map apart (inner_groups other.items)) where
  pub both : {A : Type 0} (f : List Group → A) → ((groups : List Group) → f (flat_map apart groups) ≡ f groups)
      → f (inner_groups one.items) ≡ f (inner_groups other.items)
  both f same = sym (same (inner_groups one.items)) ∙ (ap f all_apart ∙ same (inner_groups other.items))

  same_states : state_groups one ≡ state_groups other
  same_states = both (filter is_state) states_apart

  pub same_pins : pins_of one ≡ pins_of other
  same_pins = both (of_pins pins_in) (by_name pins_in pins_in pin_as its_pin (λ group. refl))

  same_entries : flat_map (pin_entries (states_of other)) (pin_groups one) ≡ flat_map (pin_entries (states_of other))
      (pin_groups other)
  same_entries =
      both (of_pins (pin_entries (states_of other)))
      (by_name (pin_entries (states_of other)) (pin_entries (states_of other)) (pin_entry (states_of other))
      (λ group value. its_entry group value (states_of other)) (λ group. refl))

  same_words : vocabulary one ≡ vocabulary other
  same_words =
      ap (λ states. words_by states (flat_map (pin_entries (flat_map states_in states)) (pin_groups one))) same_states
      ∙ ap (words_by (state_groups other)) same_entries

  same_known : known one ≡ known other
  same_known =
      ap (λ pins. record { pins = pins; states = state_groups one; words = vocabulary one }) same_pins
      ∙ (ap (λ states. record { pins = pins_of other; states = states; words = vocabulary one }) same_states
      ∙ ap (λ words. record { pins = pins_of other; states = state_groups other; words = words }) same_words)

  same_declared : declared_of one ≡ declared_of other
  same_declared = both (flat_map declared_in) declared_apart

  same_least : (x : Group → List ℕ) → ((group : Group) (value : Value) → x (single group value) ≡ x group)
      → least (flat_map x (pin_groups one)) ≡ least (flat_map x (pin_groups other))
  same_least x same = both (λ groups. least (of_pins x groups)) (least_same x same)

  same_places : (f : Subject → Group → List ℕ)
      → ((s : Subject) (group : Group) (value : Value) → f s (single group value) ≡ f s group) → (s : Subject)
      → timing_places f s one ≡ timing_places f s other
  same_places f same s = both (λ groups. places_from f s 0 (of_pins owners_in groups)) (places_apart f same s)

  same_answers : (s : Subject) → timing_answers s one ≡ timing_answers s other
  same_answers s = both (λ groups. answers_from s 0 (of_pins owners_in groups)) (answers_apart s)

  -- the texts of pins
  same_texts : (f : Text → List ℕ) → least (flat_map f (texts_of one)) ≡ least (flat_map f (texts_of other))
  same_texts f =
      ap (λ words. least (flat_map f (map (pin_text words) (pin_groups one)))) same_words
      ∙ (ap least (flat_map-map f (pin_text (vocabulary other)) (pin_groups one))
      ∙ (same_least (λ group. f (pin_text (vocabulary other) group))
      (λ group value. ap f (same_text group value (vocabulary other)))
      ∙ sym (ap least (flat_map-map f (pin_text (vocabulary other)) (pin_groups other)))))

  same_wrong :
      (in_states : StateReading → List ℕ) (in_pins : Text → List ℕ) (first second : List ℕ) → first ≡ second
      → least (flat_map in_states (readings_by (known one)) ++ (flat_map in_pins (texts_of one) ++ first))
      ≡ least (flat_map in_states (readings_by (known other)) ++ (flat_map in_pins (texts_of other) ++ second))
  same_wrong in_states in_pins first second e =
      join_same (flat_map in_states (readings_by (known one))) (flat_map in_pins (texts_of one) ++ first)
      (flat_map in_states (readings_by (known other))) (flat_map in_pins (texts_of other) ++ second)
      (ap (λ k. least (flat_map in_states (readings_by k))) same_known)
      (join_same (flat_map in_pins (texts_of one)) first (flat_map in_pins (texts_of other)) second (same_texts in_pins)
      (ap least e))

  same_duplicates : (earlier : List (List ℕ)) → duplicates earlier one ≡ duplicates earlier other
  same_duplicates earlier =
      ap (λ values. (if is_some (number_of earlier (first_argument values)) then one.at ∷ [] else [])
      ++ clashes_after [] (declared_of one)) arguments
      ∙ (ap (λ at. (if is_some (number_of earlier (first_argument other.arguments)) then at ∷ [] else [])
      ++ clashes_after [] (declared_of one)) place
      ∙ ap (λ declared. (if is_some (number_of earlier (first_argument other.arguments)) then other.at ∷ [] else [])
      ++ clashes_after [] declared) same_declared)

  -- the limits
  abbrev limits_as : List Value → ℕ → List Declared → List ℕ → Known → List ℕ → List ℕ → List ℕ
  limits_as values at declared owners k checks arcs =
      ((if is_name (first_argument values) then [] else at ∷ []) ++ flat_map bad_name_in declared)
      ++ (first_past 64 owners
      ++ (first_past 16 (flat_map state_at k.states)
      ++ (first_past 256 checks ++ (first_past 1024 arcs ++ flat_map (no_support_of k.words (length k.pins)) k.states))))

  same_limits : (s : Subject) → limits s one ≡ limits s other
  same_limits s =
      let checks : List ℕ = timing_places check_at_of s one in
      let arcs : List ℕ = timing_places arc_at_of s one in
      let owners : List ℕ = map place_of_group (owners_of one) in
      ap (λ values. limits_as values one.at (declared_of one) owners (known one) checks arcs) arguments
      ∙ (ap (λ at. limits_as other.arguments at (declared_of one) owners (known one) checks arcs) place
      ∙ (ap (λ declared. limits_as other.arguments other.at declared owners (known one) checks arcs) same_declared
      ∙ (ap (λ places. limits_as other.arguments other.at (declared_of other) places (known one) checks arcs)
      (both (λ groups. map place_of_group (of_pins owners_in groups)) at_apart)
      ∙ (ap (λ k. limits_as other.arguments other.at (declared_of other) (map place_of_group (owners_of other)) k checks arcs)
      same_known
      ∙ (ap (λ l. limits_as other.arguments other.at (declared_of other) (map place_of_group (owners_of other))
      (known other) l arcs) (same_places check_at_of (λ s group value. same_check_at group value s) s)
      ∙ ap (limits_as other.arguments other.at (declared_of other) (map place_of_group (owners_of other)) (known other)
      (timing_places check_at_of s other)) (same_places arc_at_of (λ s group value. same_arc_at group value s) s))))))

  abbrev widths_as : Known → List Group → List ℕ → List ℕ
  widths_as k owners wide =
      flat_map (wide_support_of k.words (length k.pins)) k.states
      ++ (flat_map (wide_output k.words (length k.pins) (groups_by k) (numbers_by k)) owners ++ wide)

  same_widths : (s : Subject) → udp_inputs s one ≡ udp_inputs s other
  same_widths s =
      let k : Known = known other in
      ap (λ k. widths_as k (owners_of one) (timing_places wide_conditions_of s one)) same_known
      ∙ (ap (λ l. flat_map (wide_support_of k.words (length k.pins)) k.states ++ (l ++ timing_places wide_conditions_of s one))
      (both (λ groups. flat_map (wide_output k.words (length k.pins) (groups_by k) (numbers_by k)) (of_pins owners_in groups))
      (offsets_apart (wide_output k.words (length k.pins) (groups_by k) (numbers_by k))
      (λ group value. same_wide_output group value k.words (length k.pins) (groups_by k) (numbers_by k))))
      ∙ ap (widths_as k (owners_of other)) (same_places wide_conditions_of (λ s group value. same_wide group value s) s))

  -- Why they are refused.
  pub refused_alike : (s : Subject) (earlier : List (List ℕ)) → refusal_of s earlier one ≡ refusal_of s earlier other
  refused_alike s earlier =
      next reason.Direction (least (directions one)) (least (directions other)) _ _ (same_least direction_in same_directions)
      (next reason.ThreeState (least (three_states one)) (least (three_states other)) _ _
      (same_least three_state_in same_three_states)
      (next reason.Bank (least (banks one)) (least (banks other)) _ _ (ap least (both (flat_map bank_in) banks_apart))
      (next reason.LeftOutState (least (left_out_states one)) (least (left_out_states other)) _ _ left_out
      (next reason.ClearPreset (least (clear_presets one)) (least (clear_presets other)) _ _
      (ap (λ states. least (flat_map clear_preset_in states)) same_states)
      (next reason.Duplicate (least (duplicates earlier one)) (least (duplicates earlier other)) _ _
      (ap least (same_duplicates earlier))
      (next reason.Malformed (least (malformed s one)) (least (malformed s other)) _ _ malformed_alike
      (next reason.UnknownName (least (unknown_names s one)) (least (unknown_names s other)) _ _ unknown_alike
      (next reason.Coupled (least (coupled one)) (least (coupled other)) _ _
      (ap (λ k. least (flat_map (coupled_of k.words (length k.pins)) k.states)) same_known)
      (next reason.NoFunction (least (no_functions one)) (least (no_functions other)) _ _
      (same_least no_function_in same_no_function)
      (next reason.OwnCondition (least (own_conditions s one)) (least (own_conditions s other)) _ _
      (ap least (same_places own_conditions_of (λ s group value. same_own group value s) s))
      (next reason.Number (least (numbers s one)) (least (numbers s other)) _ _
      (ap least (same_places number_timing (λ s group value. same_numbers group value s) s))
      (next reason.Limit (least (limits s one)) (least (limits s other)) _ _ (ap least (same_limits s))
      (next reason.UdpInputs (least (udp_inputs s one)) (least (udp_inputs s other)) None None
      (ap least (same_widths s)) refl)))))))))))))
    where
      left_out : least (left_out_states one) ≡ least (left_out_states other)
      left_out =
          join_same (flat_map left_out_in (pin_groups one)) (flat_map left_out_in (state_groups one))
          (flat_map left_out_in (pin_groups other)) (flat_map left_out_in (state_groups other))
          (same_least left_out_in same_left_out) (ap (λ states. least (flat_map left_out_in states)) same_states)

      malformed_alike : least (malformed s one) ≡ least (malformed s other)
      malformed_alike =
          same_wrong malformed_in malformed_at (timing_places malformed_timing s one) (timing_places malformed_timing s other)
          (same_places malformed_timing (λ s group value. same_malformed group value s) s)

      unknown_alike : least (unknown_names s one) ≡ least (unknown_names s other)
      unknown_alike =
          same_wrong unknown_in unknown_at (timing_places unknown_timing s one) (timing_places unknown_timing s other)
          (same_places unknown_timing (λ s group value. same_unknown group value s) s)

  -- What is read of them.
  abbrev data_as : Option Unit → ℕ → List Value → Known → List OutputPin → List Answer → List LeftOut → DrivenData
  data_as unit number values k outputs answers left_out =
      plain_of
      (record {
        name = first_argument values;
        number = number;
        pins = k.pins;
        groups = groups_by k;
        outputs = outputs;
        checks = flat_map checks_in answers;
        arcs = flat_map arcs_in answers;
      })
      left_out

  same_outputs : outputs_of one ≡ outputs_of other
  same_outputs =
      ap (λ k. outputs_from k.words (length k.pins) (groups_by k) (numbers_by k) 0 (owners_of one)) same_known
      ∙ both (λ groups. outputs_from (vocabulary other) (length (pins_of other)) (groups_by (known other))
      (numbers_by (known other)) 0 (of_pins owners_in groups))
      (outputs_apart (vocabulary other) (length (pins_of other)) (groups_by (known other)) (numbers_by (known other)))

  same_left_out_of : (s : Subject) → left_out_of s one ≡ left_out_of s other
  same_left_out_of s =
      ap (left_out_from 0 (owners_of one)) (same_answers s)
      ∙ both (λ groups. left_out_from 0 (of_pins owners_in groups) (timing_answers s other))
      (left_out_apart (timing_answers s other))

  pub same_subject : (unit : Option Unit) → subject_of unit one ≡ subject_of unit other
  same_subject unit = ap (subject_with unit) same_pins

  pub data_alike : (unit : Option Unit) (number : ℕ) → data_by unit number one [] ≡ data_by unit number other []
  data_alike unit number =
      let s : Subject = subject_of unit one in
      let t : Subject = subject_of unit other in
      ap (λ values. data_as unit number values (known one) (outputs_of one) (timing_answers s one) (left_out_of s one)) arguments
      ∙ (ap (λ k. data_as unit number other.arguments k (outputs_of one) (timing_answers s one) (left_out_of s one)) same_known
      ∙ (ap (λ outputs. data_as unit number other.arguments (known other) outputs (timing_answers s one) (left_out_of s one))
      same_outputs
      ∙ (ap (λ (u : Subject). data_as unit number other.arguments (known other) (outputs_of other) (timing_answers u one)
      (left_out_of u one)) (same_subject unit)
      ∙ (ap (λ answers. data_as unit number other.arguments (known other) (outputs_of other) answers (left_out_of t one))
      (same_answers t)
      ∙ ap (data_as unit number other.arguments (known other) (outputs_of other) (timing_answers t other))
      (same_left_out_of t)))))
