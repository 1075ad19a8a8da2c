-- How many pins, states and names a cell has that no reason but the last refuses.
use Rattle.std.proofs.Common.{◌≡◌, ℕ, zero, suc, ◌+◌, ◌<◌, ◌≤◌, List, [], ◌∷◌, length, map, refl, sym, ◌∙◌, ap, subst, arith}
use Rattle.std.proofs.Common.{None, length-append}
use Rattle.std.specs.Prelude.{flat_map, All, slice_index_or}
use Rattle.std.specs.List.{AllByRecursion}
use Rattle.std.proofs.lemmas.List.{length-map}
use Rattle.liberty_groups.specs.declared.tree.Group.{Group}
use Rattle.timing_arcs.specs.declared.subject.Subject.{Subject}
use Rattle.timing_arcs.specs.Timing.{check_at_of}
use Rattle.cell_attributes.specs.declared.vocabulary.Class.{Class}
use Rattle.cell_attributes.specs.Groups.{pin_groups, state_groups}
use Rattle.cell_attributes.specs.Pins.{pins_of, owners_of}
use Rattle.cell_attributes.specs.States.{StateName, states_in, states_of}
use Rattle.cell_attributes.specs.Declarations.{bad_names}
use Rattle.cell_attributes.specs.Vocabulary.{Vocabulary, vocabulary, vocabulary_of, Entry}
use Rattle.cell_attributes.specs.StateReadings.{state_reading}
use Rattle.cell_attributes.specs.Building.{FitsReading, numbers_from, cell_numbers}
use Rattle.cell_attributes.specs.CellLaws.{readings_of, numbers_of, groups_of}
use Rattle.cell_attributes.specs.Limits.{first_past, place_of_group, place_of_state, state_at}
use Rattle.cell_attributes.proofs.Distinct.{nil_parts}
use Rattle.cell_attributes.proofs.PinRules.{within_limit, owners_count}
use Rattle.cell_attributes.proofs.Fits.{readings_fit}
use Rattle.cell_attributes.proofs.GroupCount.{group_count}
use Rattle.cell_attributes.proofs.Turns.{count_shown}
use Rattle.cell_timings.specs.PinTimings.{arc_at_of}
use Rattle.cell_reader.specs.Written.{no_support_of}
use Rattle.cell_reader.specs.Refusals.{limits, timing_places, middle_reasons, first_refusal}
use Rattle.cell_reader.proofs.Refused.{all_unmet}

-- No limit of a cell is passed, whose timing is read for these pins.
pub record IsWithinLimits (pins : Subject) (cell : Group) : Type 0 where
  pub of_names : bad_names cell ≡ []
  pub of_pins : first_past 64 (map place_of_group (owners_of cell)) ≡ []
  pub of_states : first_past 16 (flat_map state_at (state_groups cell)) ≡ []
  pub of_checks : first_past 256 (timing_places check_at_of pins cell) ≡ []
  pub of_arcs : first_past 1024 (timing_places arc_at_of pins cell) ≡ []
  pub of_supports : flat_map (no_support_of (vocabulary cell) (length (pins_of cell))) (state_groups cell) ≡ []

pub within_limits : (pins : Subject) (cell : Group) → limits pins cell ≡ [] → IsWithinLimits pins cell
within_limits pins cell h =
    let names = nil_parts (bad_names cell) _ h in
    let counts = nil_parts (first_past 64 (map place_of_group (owners_of cell))) _ names.1 in
    let states = nil_parts (first_past 16 (flat_map state_at (state_groups cell))) _ counts.1 in
    let checks = nil_parts (first_past 256 (timing_places check_at_of pins cell)) _ states.1 in
    let arcs = nil_parts (first_past 1024 (timing_places arc_at_of pins cell)) _ checks.1 in
    record {
      of_names = names.0;
      of_pins = counts.0;
      of_states = states.0;
      of_checks = checks.0;
      of_arcs = arcs.0;
      of_supports =
          arcs.1;
    }

met_within : (subject : Subject) (cell : Group) → first_refusal (middle_reasons subject cell) ≡ None → IsWithinLimits subject cell
met_within subject cell h = within_limits subject cell (all_unmet (middle_reasons subject cell) h).1.1.1.1.1.1.0

pub few_pins : (subject : Subject) (cell : Group) → first_refusal (middle_reasons subject cell) ≡ None
    → length (pins_of cell) ≤ 64
few_pins subject cell h =
    let offsets : length (map place_of_group (owners_of cell)) ≤ 64 =
    within_limit 64 (map place_of_group (owners_of cell)) (met_within subject cell h).of_pins in
    let count : length (owners_of cell) ≤ 64 = simp length-map at offsets in
    let owners : length (owners_of cell) ≡ length (pins_of cell) = owners_count (pin_groups cell) in
    omega arith

state_count : (groups : List Group) → length (flat_map states_in groups) ≡ length (flat_map state_at groups)
state_count [] = refl
state_count (group ∷ groups) =
    length-append (states_in group) (flat_map states_in groups)
    ∙ (ap (λ n. n + length (flat_map states_in groups)) (sym (count_shown (place_of_state group) (states_in group)))
    ∙ (ap (λ n. length (state_at group) + n) (state_count groups)
    ∙ sym (length-append (state_at group) (flat_map state_at groups))))

states_within :
    (subject : Subject) (cell : Group)
    → first_refusal (middle_reasons subject cell) ≡ None → length (flat_map state_at (state_groups cell)) ≤ 16
states_within subject cell h = within_limit 16 (flat_map state_at (state_groups cell)) (met_within subject cell h).of_states

pub few_states : (subject : Subject) (cell : Group) → first_refusal (middle_reasons subject cell) ≡ None
    → length (states_of cell) ≤ 16
few_states subject cell h = subst (λ n. n ≤ 16) (sym (state_count (state_groups cell))) (states_within subject cell h)

pub few_groups : (subject : Subject) (cell : Group) → first_refusal (middle_reasons subject cell) ≡ None
    → length (groups_of cell) ≤ 16
few_groups subject cell h =
    subst (λ n. n ≤ 16)
    (sym (group_count (numbers_of cell) (state_reading (vocabulary cell) (length (pins_of cell))) (state_groups cell)))
    (states_within subject cell h)

number_each :
    (states : List StateName) (pins : ℕ) (classes : List Class) (i : ℕ) (targets : List (List ℕ))
    → length (numbers_from states pins classes i targets) ≡ length targets
number_each states pins classes i [] = refl
number_each states pins classes i (target ∷ targets) = ap suc (number_each states pins classes (i + 1) targets)

-- each name has a number
pub number_count :
    (states : List StateName) (pins : ℕ) (cell : Group)
    → length (cell_numbers states pins (vocabulary cell)) ≡ length (vocabulary cell).classes
number_count states pins cell =
    let entries : List Entry = vocabulary_of (states_of cell) (pin_groups cell) in
    number_each states pins (vocabulary cell).classes 0 (vocabulary cell).targets
    ∙ (count_shown (λ (e : Entry). e.target) entries ∙ sym (count_shown (λ (e : Entry). e.class) entries))

pub number_count_of :
    (states : List StateName) (pins : ℕ) (cell : Group) (v : Vocabulary)
    → v ≡ vocabulary cell → length (cell_numbers states pins v) ≡ length (vocabulary cell).classes
number_count_of states pins cell v e =
    subst (λ w. length (cell_numbers states pins w) ≡ length (vocabulary cell).classes) (sym e) (number_count states pins cell)

all_each :
    {X : Type 0} (P : X → Type 0) (xs : List X)
    → AllByRecursion P xs → (k : ℕ) (d : X) → k < length xs → P (slice_index_or xs k d)
all_each P [] h k d within = absurd (omega arith)
all_each P (x ∷ xs) h zero d within = h.0
all_each P (x ∷ xs) h (suc k) d within = all_each P xs h.1 k d (omega arith)

-- the numbers of the names of all texts of the states are there
pub readings_fit_here : (cell : Group) → All (FitsReading (length (vocabulary cell).classes)) (readings_of cell)
readings_fit_here cell =
    all_each (FitsReading (length (vocabulary cell).classes)) (readings_of cell)
    (readings_fit (vocabulary cell) (length (pins_of cell)) (state_groups cell))
