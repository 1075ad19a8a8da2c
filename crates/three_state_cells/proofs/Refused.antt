-- A cell with more pins than the limit is refused as it is trimmed, or for what is wrong in the timing of the trimmed pins.
use Rattle.std.proofs.Common.{◌≡◌, ℕ, ◌+◌, true, List, [], ◌∷◌, ◌++◌, length, map, filter, refl, sym, ap, ◌∙◌, arith}
use Rattle.std.proofs.Common.{if◌then◌else◌, Option, Some, None}
use Rattle.std.specs.Prelude.{flat_map, is_some}
use Rattle.std.proofs.lemmas.List.{map-append, append_assoc, length-map}
use Rattle.std.proofs.lemmas.List.Folds.{flat_map-map}
use Rattle.liberty_groups.specs.declared.tree.Item.{Item}
use Rattle.liberty_groups.specs.declared.tree.Item.TheOpen.{Group-F}
use Rattle.liberty_groups.specs.declared.tree.Item.TheViews.{out-roll-Group}
use Rattle.liberty_groups.specs.declared.tree.Group.{Group}
use Rattle.bool_functions.specs.NameList.{number_of}
use Rattle.cell_machine.specs.CellRules.{is_name}
use Rattle.cell_machine.specs.Delay.{least, lesser}
use Rattle.cell_machine.proofs.LeastLemmas.{lesser_assoc, least_append}
use Rattle.timing_arcs.specs.declared.subject.Subject.{Subject}
use Rattle.timing_arcs.specs.Timing.{malformed_at as malformed_timing, unknown_names_at as unknown_timing}
use Rattle.timing_arcs.specs.Timing.{numbers_at as number_timing, check_at_of}
use Rattle.cell_attributes.specs.declared.texts.Text.{Text}
use Rattle.cell_attributes.specs.declared.state_readings.StateReading.{StateReading}
use Rattle.cell_attributes.specs.Groups.{is_state, inner_groups, pin_groups, state_groups, first_argument}
use Rattle.cell_attributes.specs.Pins.{pins_in, pins_of, owners_in, owners_of}
use Rattle.cell_attributes.specs.States.{states_in, states_of}
use Rattle.cell_attributes.specs.Scans.{direction_in, directions, three_state_in, three_states, bank_in, banks, left_out_in}
use Rattle.cell_attributes.specs.Scans.{left_out_states, clear_preset_in, clear_presets, no_function_in, no_functions}
use Rattle.cell_attributes.specs.Declarations.{declared_in, declared_of, clashes_after, duplicates, bad_name_in, bad_names}
use Rattle.cell_attributes.specs.Vocabulary.{pin_entries}
use Rattle.cell_attributes.specs.Vocabulary.{vocabulary}
use Rattle.cell_attributes.specs.Texts.{malformed_at, unknown_at}
use Rattle.cell_attributes.specs.TextFaults.{malformed_in, unknown_in}
use Rattle.cell_attributes.specs.Outputs.{pin_text}
use Rattle.cell_attributes.specs.CellLaws.{texts_of}
use Rattle.cell_attributes.specs.Limits.{first_past, place_of_group, state_at}
use Rattle.cell_reader.specs.declared.refusal.Reason.TheVariants as reason
use Rattle.cell_reader.specs.declared.refusal.Refusal.{Refusal}
use Rattle.cell_reader.specs.PinTimings.{subject_at, arc_at_of, places_from}
use Rattle.cell_reader.specs.Written.{coupled_of, own_conditions_of, no_support_of}
use Rattle.cell_reader.specs.Refusals.{refused_or, timing_places, wrong_texts, malformed, unknown_names, coupled}
use Rattle.cell_reader.specs.Refusals.{own_conditions, numbers, limits, udp_inputs, reasons_of, refusal_of}
use Rattle.three_state_cells.specs.Refusals.{first_of_two}
use Rattle.cell_reader.proofs.Refused.{least_none, all_unmet}
use Rattle.cell_reader.proofs.PartCounts.{within_limits}
use Rattle.three_state_cells.proofs.Lists.{of_pins}
use Rattle.three_state_cells.specs.Trimmed.{trimmed_pin, trimmed_items, trimmed, wrong_with}
use Rattle.three_state_cells.proofs.Untimed.{again, same_at, same_directions, same_three_states, same_left_out, same_no_function}
use Rattle.three_state_cells.proofs.Untimed.{same_text}
use Rattle.three_state_cells.proofs.Untimed.{same_pins, same_entries}
use Rattle.three_state_cells.proofs.Groups.{trimmed_groups, no_more, inner_trimmed, same_of, same_pins_told, same_least_told}
use Rattle.three_state_cells.proofs.Groups.{same_states, same_banks}
use Rattle.three_state_cells.proofs.Groups.{same_declared_names}
use Rattle.three_state_cells.proofs.Owners.{trimmed_owners, next_pins, owners_trimmed, front_stays}
use Rattle.three_state_cells.proofs.Places.{commuted, dropped, IsPart, malformed_part, unknown_part, own_part, numbers_part}
use Rattle.three_state_cells.proofs.Places.{places_least}
use Rattle.three_state_cells.proofs.Places.{by_kinds, wrong_by_kinds}
use Rattle.three_state_cells.proofs.Limits.{are_above, past, AreBehind, past_all}
use Rattle.three_state_cells.proofs.Reasons.{all_joined}
use Rattle.three_state_cells.proofs.Known.{known, readings_by, words_by}
use Rattle.three_state_cells.specs.PinAttributes.{untimed}

-- part by part
least_parts : (xs ys zs : List ℕ) (a b : Option ℕ) → least zs ≡ lesser a b
    → least (xs ++ (ys ++ zs)) ≡ lesser (lesser (least xs) (lesser (least ys) a)) b
least_parts xs ys zs a b e =
    least_append xs (ys ++ zs)
    ∙ (ap (lesser (least xs)) (least_append ys zs ∙ (ap (lesser (least ys)) e ∙ sym (lesser_assoc (least ys) a b)))
    ∙ sym (lesser_assoc (least xs) (lesser (least ys) a) b))

zero_more : (n : ℕ) → 0 + n ≡ n
zero_more n = omega arith

swapped : (a b c : Option ℕ) → lesser a (lesser b c) ≡ lesser b (lesser a c)
swapped a b c = sym (lesser_assoc a b c) ∙ (ap (λ o. lesser o c) (commuted a b) ∙ lesser_assoc b a c)

absorbed : (a b : Option ℕ) → lesser a b ≡ lesser (lesser a b) a
absorbed a b = sym (commuted (lesser a b) a ∙ (sym (lesser_assoc a a b) ∙ ap (λ o. lesser o b) (again a)))

in_pairs : (at : ℕ) (s c a p : Option ℕ)
    → lesser (Some at) (lesser s (lesser c (lesser a p)))
    ≡ lesser (lesser (Some at) c) (lesser (lesser (Some at) a) (lesser s p))
in_pairs at s c a p =
    let rest : Option ℕ = lesser a (lesser s p) in
    ap (lesser (Some at)) (swapped s c (lesser a p) ∙ ap (lesser c) (swapped s a p))
    ∙ (sym (lesser_assoc (Some at) c rest)
    ∙ (ap (λ o. lesser o rest) (absorbed (Some at) c)
    ∙ (lesser_assoc (lesser (Some at) c) (Some at) rest
    ∙ ap (lesser (lesser (Some at) c)) (sym (lesser_assoc (Some at) a (lesser s p))))))

pub places_join : (f : Subject → Group → List ℕ) (s : Subject) (front back : List Group) (pin : ℕ)
    → places_from f s pin (front ++ back) ≡ places_from f s pin front ++ places_from f s (pin + length front) back
places_join f s [] back pin = ap (λ p. places_from f s p back) (sym (no_more pin))
places_join f s (owner ∷ front) back pin =
    ap (λ l. f (subject_at s pin) owner ++ l)
    (places_join f s front back (pin + 1)
    ∙ ap (λ p. places_from f s (pin + 1) front ++ places_from f s p back) (next_pins pin owner front))
    ∙ sym (append_assoc (f (subject_at s pin) owner) (places_from f s (pin + 1) front)
    (places_from f s (pin + length (owner ∷ front)) back))

module _ (cell : Group) where
  abbrev pub shape : Group-F Item Group
  shape = record { name = cell.name; arguments = cell.arguments; items = trimmed_items 0 cell.items; at = cell.at }

  arguments : (trimmed cell).arguments ≡ cell.arguments
  arguments = ap (λ (one : Group-F Item Group). one.arguments) (out-roll-Group shape)

  place : (trimmed cell).at ≡ cell.at
  place = ap (λ (one : Group-F Item Group). one.at) (out-roll-Group shape)

  groups : inner_groups (trimmed cell).items ≡ trimmed_groups 0 (inner_groups cell.items)
  groups = ap (λ (one : Group-F Item Group). inner_groups one.items) (out-roll-Group shape) ∙ inner_trimmed 0 cell.items

  told : {A : Type 0} (f : Group → List A) → ((group : Group) → f (untimed group) ≡ f group)
      → flat_map f (pin_groups (trimmed cell)) ≡ flat_map f (pin_groups cell)
  told f same = ap (of_pins f) groups ∙ same_pins_told f (λ group e. same group) 0 (inner_groups cell.items)

  least_told : (f : Group → List ℕ) → ((group : Group) → least (f (untimed group)) ≡ least (f group))
      → least (flat_map f (pin_groups (trimmed cell))) ≡ least (flat_map f (pin_groups cell))
  least_told f same = ap (λ l. least (of_pins f l)) groups ∙ same_least_told f same 0 (inner_groups cell.items)

  states : state_groups (trimmed cell) ≡ state_groups cell
  states = ap (filter is_state) groups ∙ same_states 0 (inner_groups cell.items)

  pub pins : pins_of (trimmed cell) ≡ pins_of cell
  pins = told pins_in same_pins

  pub owners : owners_of (trimmed cell) ≡ trimmed_owners 0 (owners_of cell)
  owners = ap (of_pins owners_in) groups ∙ owners_trimmed 0 (inner_groups cell.items)

  declared : declared_of (trimmed cell) ≡ declared_of cell
  declared = ap (flat_map declared_in) groups ∙ same_declared_names 0 (inner_groups cell.items)

  words : vocabulary (trimmed cell) ≡ vocabulary cell
  words =
      ap (λ states. words_by states (flat_map (pin_entries (flat_map states_in states)) (pin_groups (trimmed cell)))) states
      ∙ ap (words_by (state_groups cell)) (told (pin_entries (states_of cell)) (λ group. same_entries group (states_of cell)))

  same_known : known (trimmed cell) ≡ known cell
  same_known = λ i. record { pins = pins i; states = states i; words = words i }

  all_banks : banks (trimmed cell) ≡ banks cell
  all_banks = ap (flat_map bank_in) groups ∙ same_banks 0 (inner_groups cell.items)

  same_left_out_states : least (left_out_states (trimmed cell)) ≡ least (left_out_states cell)
  same_left_out_states =
      least_append (flat_map left_out_in (pin_groups (trimmed cell))) (flat_map left_out_in (state_groups (trimmed cell)))
      ∙ ((λ i. lesser (least_told left_out_in same_left_out i) (least (flat_map left_out_in (states i))))
      ∙ sym (least_append (flat_map left_out_in (pin_groups cell)) (flat_map left_out_in (state_groups cell))))

  same_texts : (f : Text → List ℕ) → flat_map f (texts_of (trimmed cell)) ≡ flat_map f (texts_of cell)
  same_texts f =
      ap (λ words. flat_map f (map (pin_text words) (pin_groups (trimmed cell)))) words
      ∙ (flat_map-map f (pin_text (vocabulary cell)) (pin_groups (trimmed cell))
      ∙ (told (λ group. f (pin_text (vocabulary cell) group)) (λ group. ap f (same_text group (vocabulary cell)))
      ∙ sym (flat_map-map f (pin_text (vocabulary cell)) (pin_groups cell))))

  same_duplicates : (earlier : List (List ℕ)) → duplicates earlier (trimmed cell) ≡ duplicates earlier cell
  same_duplicates earlier =
      λ i. (if is_some (number_of earlier (first_argument (arguments i))) then place i ∷ [] else [])
      ++ clashes_after [] (declared i)

  -- what is wrong in timing
  timing_least : (f : Subject → Group → List ℕ) → IsPart f → (s : Subject)
      → least (timing_places f s cell)
      ≡ lesser (least (timing_places f s (trimmed cell))) (least (dropped f s 0 (owners_of cell)))
  timing_least f part s =
      places_least f part s 0 (owners_of cell)
      ∙ ap (λ l. lesser (least (places_from f s 0 l)) (least (dropped f s 0 (owners_of cell)))) (sym owners)

  wrong_least : (in_states : StateReading → List ℕ) (in_pins : Text → List ℕ) (f : Subject → Group → List ℕ) → IsPart f
      → (s : Subject)
      → least (wrong_texts in_states in_pins (timing_places f s cell) cell)
      ≡ lesser (least (wrong_texts in_states in_pins (timing_places f s (trimmed cell)) (trimmed cell)))
      (least (dropped f s 0 (owners_of cell)))
  wrong_least in_states in_pins f part s =
      let in_groups : List ℕ = flat_map in_states (readings_by (known cell)) in
      let in_texts : List ℕ = flat_map in_pins (texts_of cell) in
      let trimmed_timing : List ℕ = timing_places f s (trimmed cell) in
      let rest : Option ℕ = least (dropped f s 0 (owners_of cell)) in
      least_parts in_groups in_texts (timing_places f s cell) (least trimmed_timing) rest (timing_least f part s)
      ∙ ap (λ o. lesser o rest)
      (sym
      ((λ i. least (flat_map in_states (readings_by (same_known i)) ++ (same_texts in_pins i ++ trimmed_timing)))
      ∙ (least_append in_groups (in_texts ++ trimmed_timing)
      ∙ ap (lesser (least in_groups)) (least_append in_texts trimmed_timing))))

  -- where a limit is passed
  module _ (front : List Group) (first : Group) (back : List Group) (split : owners_of cell ≡ front ++ first ∷ back)
      (count : length front ≡ 64) (s : Subject) where
    abbrev back_trimmed : List Group
    back_trimmed = trimmed_owners 64 (first ∷ back)

    split_trimmed : owners_of (trimmed cell) ≡ front ++ trimmed_owners 64 (first ∷ back)
    split_trimmed =
        owners
        ∙ (ap (trimmed_owners 0) split
        ∙ (front_stays front (first ∷ back) 0 (omega (arith, count))
        ∙ ap (λ n. front ++ trimmed_owners n (first ∷ back)) (zero_more (length front) ∙ count)))

    first_place : first_past 64 (map place_of_group (owners_of cell)) ≡ first.at ∷ []
    first_place =
        ap (λ l. first_past 64 (map place_of_group l)) split
        ∙ (ap (first_past 64) (map-append place_of_group front (first ∷ back))
        ∙ (ap (λ n. first_past n (map place_of_group front ++ first.at ∷ map place_of_group back))
        (sym (length-map front place_of_group ∙ count))
        ∙ past_all (map place_of_group front) first.at (map place_of_group back)))

    trimmed_place : (trimmed_pin 64 first).at ≡ first.at
    trimmed_place = same_of (λ (group : Group). group.at) (λ group e. same_at group) 64 first

    first_place_trimmed : first_past 64 (map place_of_group (owners_of (trimmed cell))) ≡ first.at ∷ []
    first_place_trimmed =
        ap (λ l. first_past 64 (map place_of_group l)) split_trimmed
        ∙ (ap (first_past 64) (map-append place_of_group front back_trimmed)
        ∙ (ap (λ n. first_past n (map place_of_group front
        ++ (trimmed_pin 64 first).at ∷ map place_of_group (trimmed_owners 65 back)))
        (sym (length-map front place_of_group ∙ count))
        ∙ (past_all (map place_of_group front) (trimmed_pin 64 first).at (map place_of_group (trimmed_owners 65 back))
        ∙ ap (λ at. at ∷ []) trimmed_place)))

    -- the checks or arcs of pins behind the limit don't decide
    module _ (behind : AreBehind first.at s (first ∷ back)) (trimmed_behind : AreBehind first.at s back_trimmed) where
      past_same : (n : ℕ) (f : Subject → Group → List ℕ)
          → ((pin : ℕ) → are_above first.at (places_from f s pin (first ∷ back)) ≡ true)
          → ((pin : ℕ) → are_above first.at (places_from f s pin back_trimmed) ≡ true)
          → lesser (Some first.at) (least (first_past n (timing_places f s cell)))
          ≡ lesser (Some first.at) (least (first_past n (timing_places f s (trimmed cell))))
      past_same n f whole small =
          let early : List ℕ = places_from f s 0 front in
          let decides : Option ℕ → Option ℕ = lesser (Some first.at) in
          ap (λ l. decides (least (first_past n (places_from f s 0 l)))) split
          ∙ (ap (λ l. decides (least (first_past n l))) (places_join f s front (first ∷ back) 0)
          ∙ (past first.at n early (places_from f s (0 + length front) (first ∷ back))
          (whole (0 + length front))
          ∙ (sym (past first.at n early (places_from f s (0 + length front) back_trimmed)
          (small (0 + length front)))
          ∙ (sym (ap (λ l. decides (least (first_past n l))) (places_join f s front back_trimmed 0))
          ∙ sym (ap (λ l. decides (least (first_past n (places_from f s 0 l)))) split_trimmed)))))

      abbrev names_before : Group → Option ℕ
      names_before group = least (bad_names group)

      -- a limit that is passed, by its parts
      by_parts : (names : List ℕ) (at : ℕ) (states checks arcs supports : List ℕ)
          → least (names ++ ((at ∷ []) ++ (states ++ (checks ++ (arcs ++ supports)))))
          ≡ lesser (least names) (lesser (lesser (Some at) (least checks)) (lesser (lesser (Some at) (least arcs))
          (lesser (least states) (least supports))))
      by_parts names at states checks arcs supports =
          least_append names ((at ∷ []) ++ (states ++ (checks ++ (arcs ++ supports))))
          ∙ ap (lesser (least names))
          (ap (lesser (Some at))
          (least_append states (checks ++ (arcs ++ supports))
          ∙ ap (lesser (least states)) (least_append checks (arcs ++ supports)
          ∙ ap (lesser (least checks)) (least_append arcs supports)))
          ∙ in_pairs at (least states) (least checks) (least arcs) (least supports))

      limit_least : least (limits s cell) ≡ least (limits s (trimmed cell))
      limit_least =
          let states_past : List ℕ = first_past 16 (flat_map state_at (state_groups cell)) in
          let supports : List ℕ = flat_map (no_support_of (vocabulary cell) (length (pins_of cell))) (state_groups cell) in
          let checks : List ℕ = first_past 256 (timing_places check_at_of s cell) in
          let arcs : List ℕ = first_past 1024 (timing_places arc_at_of s cell) in
          let checks_left : List ℕ = first_past 256 (timing_places check_at_of s (trimmed cell)) in
          let arcs_left : List ℕ = first_past 1024 (timing_places arc_at_of s (trimmed cell)) in
          ap (λ l. least (bad_names cell ++ (l ++ (states_past ++ (checks ++ (arcs ++ supports)))))) first_place
          ∙ (by_parts (bad_names cell) first.at states_past checks arcs supports
          ∙ ((λ i. lesser (least (bad_names cell)) (lesser (past_same 256 check_at_of behind.checks trimmed_behind.checks i)
          (lesser (past_same 1024 arc_at_of behind.arcs trimmed_behind.arcs i) (lesser (least states_past) (least supports)))))
          ∙ (sym (by_parts (bad_names cell) first.at states_past checks_left arcs_left supports)
          ∙ (sym (ap (λ l. least (bad_names cell ++ (l ++ (states_past ++ (checks_left ++ (arcs_left ++ supports))))))
          first_place_trimmed)
          ∙ sym (λ i. least (((if is_name (first_argument (arguments i)) then [] else place i ∷ [])
          ++ flat_map bad_name_in (declared i))
          ++ (first_past 64 (map place_of_group (owners_of (trimmed cell)))
          ++ (first_past 16 (flat_map state_at (states i)) ++ (checks_left ++ (arcs_left
          ++ flat_map (no_support_of (words i) (length (pins i))) (states i)))))))))))

      -- there is one
      passed : (o : Option ℕ) → least (limits s (trimmed cell)) ≡ o → (at : ℕ) × (least (limits s (trimmed cell)) ≡ Some at)
      passed (Some at) e = (at, e)
      passed None e =
          let none : first.at ∷ [] ≡ [] =
          sym first_place_trimmed
          ∙ (within_limits s (trimmed cell) (least_none (limits s (trimmed cell)) e)).of_pins in
          absurd cc

      refused_at : (at : ℕ) → least (limits s (trimmed cell)) ≡ Some at → (earlier : List (List ℕ))
          → refusal_of s earlier cell
          ≡ first_of_two (refusal_of s earlier (trimmed cell)) (wrong_with s None 0 (owners_of cell))
      refused_at at e earlier =
          let small : Group = trimmed cell in
          let dropped_malformed : Option ℕ = least (dropped malformed_timing s 0 (owners_of cell)) in
          let dropped_unknown : Option ℕ = least (dropped unknown_timing s 0 (owners_of cell)) in
          let dropped_own : Option ℕ = least (dropped own_conditions_of s 0 (owners_of cell)) in
          let dropped_numbers : Option ℕ = least (dropped number_timing s 0 (owners_of cell)) in
          let wide : Option Refusal = refused_or reason.UdpInputs (least (udp_inputs s cell)) None in
          let wide_small : Option Refusal = refused_or reason.UdpInputs (least (udp_inputs s small)) None in
          let limit : least (limits s cell) ≡ Some at = limit_least ∙ e in
          let wrong : wrong_with s None 0 (owners_of cell)
          ≡ by_kinds dropped_malformed dropped_unknown dropped_own dropped_numbers =
          wrong_by_kinds s None None None None 0 (owners_of cell) in
          let texts : least (malformed s cell) ≡ lesser (least (malformed s small)) dropped_malformed =
          wrong_least malformed_in malformed_at malformed_timing malformed_part s in
          let names : least (unknown_names s cell) ≡ lesser (least (unknown_names s small)) dropped_unknown =
          wrong_least unknown_in unknown_at unknown_timing unknown_part s in
          (λ i. refused_or reason.Direction (least (sym (told direction_in same_directions) i))
          (refused_or reason.ThreeState (sym (least_told three_state_in same_three_states) i)
          (refused_or reason.Bank (least (sym all_banks i))
          (refused_or reason.LeftOutState
          (sym same_left_out_states i)
          (refused_or reason.ClearPreset (least (flat_map clear_preset_in (sym states i)))
          (refused_or reason.Duplicate (least (sym (same_duplicates earlier) i))
          (refused_or reason.Malformed (texts i)
          (refused_or reason.UnknownName (names i)
          (refused_or reason.Coupled
          (least (flat_map (coupled_of (sym words i) (length (sym pins i))) (sym states i)))
          (refused_or reason.NoFunction (least (sym (told no_function_in same_no_function) i))
          (refused_or reason.OwnCondition (timing_least own_conditions_of own_part s i)
          (refused_or reason.Number (timing_least number_timing numbers_part s i)
          (refused_or reason.Limit (limit i) wide)))))))))))))
          ∙ (all_joined (least (malformed s small)) (least (unknown_names s small)) (least (coupled small))
          (least (no_functions small)) (least (own_conditions s small)) (least (numbers s small)) dropped_malformed
          dropped_unknown dropped_own dropped_numbers at (least (directions small)) (least (three_states small))
          (least (banks small)) (least (left_out_states small)) (least (clear_presets small)) (least (duplicates earlier small))
          ∙ (λ i. first_of_two
          (refused_or reason.Direction (least (directions small))
          (refused_or reason.ThreeState (least (three_states small))
          (refused_or reason.Bank (least (banks small))
          (refused_or reason.LeftOutState (least (left_out_states small))
          (refused_or reason.ClearPreset (least (clear_presets small))
          (refused_or reason.Duplicate (least (duplicates earlier small))
          (refused_or reason.Malformed (least (malformed s small))
          (refused_or reason.UnknownName (least (unknown_names s small))
          (refused_or reason.Coupled (least (coupled small))
          (refused_or reason.NoFunction (least (no_functions small))
          (refused_or reason.OwnCondition (least (own_conditions s small))
          (refused_or reason.Number (least (numbers s small))
          (refused_or reason.Limit (sym e i) wide_small)))))))))))))
          (sym wrong i)))

      pub refused : (earlier : List (List ℕ))
          → refusal_of s earlier cell
          ≡ first_of_two (refusal_of s earlier (trimmed cell)) (wrong_with s None 0 (owners_of cell))
      refused =
          let found = passed (least (limits s (trimmed cell))) refl in refused_at found.0 found.1

      -- a trimmed cell is no cell
      pub unaccepted : (earlier : List (List ℕ)) → refusal_of s earlier (trimmed cell) ≡ None → ⊥
      unaccepted earlier h =
          let unmet = all_unmet (reasons_of s earlier (trimmed cell)) h in
          let none : first.at ∷ [] ≡ [] =
          sym first_place_trimmed
          ∙ (within_limits s (trimmed cell) unmet.1.1.1.1.1.1.1.1.1.1.1.1.0).of_pins in
          absurd cc
