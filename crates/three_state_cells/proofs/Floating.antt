-- Two cells that are alike but for the names of their pin groups are read alike, also where their outputs may float.
use Rattle.std.proofs.Common.{◌≡◌, ℕ, ◌+◌, ◌-◌, List, [], ◌∷◌, ◌++◌, length, map, filter, codes, Option, refl, sym, ap, ◌∙◌}
use Rattle.std.proofs.Common.{arith}
use Rattle.std.specs.Prelude.{count_by, slice_get}
use Rattle.liberty_text.specs.declared.time.Unit.{Unit}
use Rattle.liberty_groups.specs.declared.tree.Group.{Group}
use Rattle.cell_machine.specs.declared.pins.Pin.{Pin}
use Rattle.cell_machine.specs.Inputs.{is_input_at}
use Rattle.timing_arcs.specs.declared.subject.Subject.{Subject}
use Rattle.cell_attributes.specs.Groups.{is_pin, inner_groups, pin_groups}
use Rattle.cell_attributes.specs.Pins.{owners_in}
use Rattle.cell_reader.specs.PinTimings.{subject_at, arcs_in, type_text}
use Rattle.cell_reader.specs.CellTexts.{subject_of}
use Rattle.cell_reader.specs.Refusals.{refusal_of}
use Rattle.core_groups.specs.Outputs.{ThreeStateOutput, three_state_outputs, outputs_from as floating_from}
use Rattle.core_groups.specs.CoreGroups.{enable_pin_of, enable_pins, core_group}
use Rattle.three_state_cells.specs.Timing.{is_output_at, output_number, driven_of, path_of, paths_from, driver_of, places_in}
use Rattle.three_state_cells.specs.Timing.{all_left_out, in_pin_order}
use Rattle.three_state_cells.specs.DrivenCells.{core_name, floating_of, data_by, driven_data}
use Rattle.three_state_cells.specs.Refusals.{first_of_two, driver_refusal, floating_refusal, refusal_by, driven_refusal}
use Rattle.three_state_cells.specs.Laws.{enable_outputs}
use Rattle.three_state_cells.proofs.CorePins.{core_pins_are}
use Rattle.three_state_cells.specs.Gathering.{IsReadAs}
use Rattle.three_state_cells.proofs.Single.{timings_in, same_items, same_attribute, same_driver_answer}
use Rattle.three_state_cells.proofs.Lists.{apart_in, of_pins}
use Rattle.three_state_cells.proofs.Cells.{Floating, alone, whole, output_by, floats_apart}
use Rattle.three_state_cells.proofs.GatheredRefused.{both, same_pins, same_subject, refused_alike, data_alike}
use Rattle.three_state_cells.specs.Trimmed.{in_core}
use Rattle.three_state_cells.proofs.Cores.{core_arguments, core_at, core_apart}
use Rattle.three_state_cells.proofs.Delays.{refusal_apart}

-- Whatever is made of three-state outputs is the same of each alone.
abbrev each_alone : List Floating → List ThreeStateOutput
each_alone outputs = map (output_by alone) outputs

abbrev as_whole : List Floating → List ThreeStateOutput
as_whole outputs = map (output_by whole) outputs

same_length : (outputs : List Floating) → length (each_alone outputs) ≡ length (as_whole outputs)
same_length [] = refl
same_length (one ∷ outputs) =
    let rest : length (each_alone outputs) ≡ length (as_whole outputs) = same_length outputs in omega (arith, rest)

same_enables : (number : ℕ) (outputs : List Floating)
    → enable_pins number (each_alone outputs) ≡ enable_pins number (as_whole outputs)
same_enables number [] = refl
same_enables number (one ∷ outputs) = λ i.
    enable_pin_of number (same_attribute one.owner.group one.owner.name (codes "three_state") i)
    ++ same_enables (number + 1) outputs i

same_drives : (pins : List Pin) (outputs : List Floating)
    → driven_of pins (each_alone outputs) ≡ driven_of pins (as_whole outputs)
same_drives pins [] = refl
same_drives pins (one ∷ outputs) = ap (λ drives. output_number pins one.pin ∷ drives) (same_drives pins outputs)

same_paths : (core : Subject) (drive : ℕ) (outputs : List Floating)
    → paths_from core drive (each_alone outputs) ≡ paths_from core drive (as_whole outputs)
same_paths core drive [] = refl
same_paths core drive (one ∷ outputs) = λ i.
    map (path_of core.pins drive) (arcs_in (same_driver_answer one.owner.group one.owner.name (subject_at core one.pin) i))
    ++ same_paths core (drive + 1) outputs i

same_driver : (core : Subject) (outputs : List Floating)
    → driver_of core (each_alone outputs) ≡ driver_of core (as_whole outputs)
unfolding driver_of
same_driver core outputs = λ i. record {
  inputs = count_by is_input_at core.pins;
  outputs = count_by is_output_at core.pins - same_length outputs i;
  drives = same_drives core.pins outputs i;
  paths = same_paths core 0 outputs i;
}

same_left_out : (core : Subject) (outputs : List Floating)
    → all_left_out core (each_alone outputs) ≡ all_left_out core (as_whole outputs)
same_left_out core [] = refl
same_left_out core (one ∷ outputs) = λ i.
    map
    (λ at. record {
      pin = one.pin;
      kind = type_text (slice_get (timings_in (same_items one.owner.group one.owner.name i)) at);
    })
    (places_in (same_driver_answer one.owner.group one.owner.name (subject_at core one.pin) i))
    ++ same_left_out core outputs i

-- Either both cells have three-state outputs, or none of them.
refusal_either :
    (unit : Option Unit) (earlier : List (List ℕ)) (one other : Group) (xs ys : List ThreeStateOutput) → length xs ≡ length ys
    → refusal_of (subject_of unit one) earlier one ≡ refusal_of (subject_of unit other) earlier other
    → floating_refusal unit earlier (core_group one) (pin_groups one)
    ≡ floating_refusal unit earlier (core_group other) (pin_groups other)
    → refusal_by unit earlier one xs ≡ refusal_by unit earlier other ys
refusal_either unit earlier one other [] [] e plain floating = plain
refusal_either unit earlier one other (x ∷ xs) (y ∷ ys) e plain floating = floating
refusal_either unit earlier one other [] (y ∷ ys) e plain floating = absurd (omega (arith, e))
refusal_either unit earlier one other (x ∷ xs) [] e plain floating = absurd (omega (arith, e))

data_either :
    (unit : Option Unit) (number : ℕ) (one other : Group) (xs ys : List ThreeStateOutput) → length xs ≡ length ys
    → data_by unit number one [] ≡ data_by unit number other []
    → floating_of unit number (core_group one) xs ≡ floating_of unit number (core_group other) ys
    → data_by unit number one xs ≡ data_by unit number other ys
data_either unit number one other [] [] e plain floating = plain
data_either unit number one other (x ∷ xs) (y ∷ ys) e plain floating = floating
data_either unit number one other [] (y ∷ ys) e plain floating = absurd (omega (arith, e))
data_either unit number one other (x ∷ xs) [] e plain floating = absurd (omega (arith, e))

module _
    (one other : Group) (arguments : one.arguments ≡ other.arguments) (place : one.at ≡ other.at)
    (all_apart : apart_in one.items ≡ apart_in other.items) where
  of_outputs : {A : Type 0} (f : List ThreeStateOutput → A)
      → ((outputs : List Floating) → f (each_alone outputs) ≡ f (as_whole outputs))
      → f (three_state_outputs one) ≡ f (three_state_outputs other)
  of_outputs f same =
      both one other arguments place all_apart (λ groups. f (floating_from 0 (of_pins owners_in groups))) (floats_apart f same)

  -- their cores
  abbrev core : Group
  core = core_group one

  abbrev other_core : Group
  other_core = core_group other

  of_arguments : core.arguments ≡ other_core.arguments
  of_arguments = core_arguments one ∙ (arguments ∙ sym (core_arguments other))

  of_place : core.at ≡ other_core.at
  of_place = core_at one ∙ (place ∙ sym (core_at other))

  of_apart : apart_in core.items ≡ apart_in other_core.items
  of_apart =
      core_apart one
      ∙ ((λ i. map in_core (all_apart i) ++ apart_in (of_outputs (enable_pins 0) (same_enables 0) i)) ∙ sym (core_apart other))

  of_subject : (unit : Option Unit) → subject_of unit core ≡ subject_of unit other_core
  of_subject = same_subject core other_core of_arguments of_place of_apart

  of_delays : (unit : Option Unit)
      → driver_refusal (subject_of unit core) (pin_groups one) ≡ driver_refusal (subject_of unit other_core) (pin_groups other)
  of_delays unit =
      sym (refusal_apart (subject_of unit core) (inner_groups one.items) (enable_outputs 0 (three_state_outputs one))
      (core_pins_are one))
      ∙ (ap (λ groups. driver_refusal (subject_of unit core) (filter is_pin groups)) all_apart
      ∙ (refusal_apart (subject_of unit core) (inner_groups other.items) (enable_outputs 0 (three_state_outputs other))
      (same_pins core other_core of_arguments of_place of_apart ∙ core_pins_are other)
      ∙ ap (λ s. driver_refusal s (pin_groups other)) (of_subject unit)))

  of_refusal : (unit : Option Unit) (earlier : List (List ℕ))
      → floating_refusal unit earlier core (pin_groups one) ≡ floating_refusal unit earlier other_core (pin_groups other)
  unfolding floating_refusal
  of_refusal unit earlier =
      let refused : refusal_of (subject_of unit core) earlier core ≡ refusal_of (subject_of unit other_core) earlier other_core =
      ap (λ s. refusal_of s earlier core) (of_subject unit)
      ∙ refused_alike core other_core of_arguments of_place of_apart (subject_of unit other_core) earlier in
      λ i. first_of_two (refused i) (of_delays unit i)

  of_data : (unit : Option Unit) (number : ℕ)
      → floating_of unit number core (three_state_outputs one) ≡ floating_of unit number other_core (three_state_outputs other)
  unfolding floating_of
  of_data unit number =
      let plain : data_by unit number core [] ≡ data_by unit number other_core [] =
      data_alike core other_core of_arguments of_place of_apart unit number in
      let driver : driver_of (subject_of unit core) (three_state_outputs one)
      ≡ driver_of (subject_of unit other_core) (three_state_outputs other) =
      ap (λ s. driver_of s (three_state_outputs one)) (of_subject unit)
      ∙ of_outputs (driver_of (subject_of unit other_core)) (same_driver (subject_of unit other_core)) in
      let lines : all_left_out (subject_of unit core) (three_state_outputs one)
      ≡ all_left_out (subject_of unit other_core) (three_state_outputs other) =
      ap (λ s. all_left_out s (three_state_outputs one)) (of_subject unit)
      ∙ of_outputs (all_left_out (subject_of unit other_core)) (same_left_out (subject_of unit other_core)) in
      λ i. record {
        core = record (plain i).core { name = core_name number };
        name = (plain i).name;
        driver = driver i;
        left_out = in_pin_order 0 (plain i).core.pins (plain i).left_out (lines i);
      }

  pub read_alike : IsReadAs one other
  unfolding driven_refusal driven_data
  read_alike = record {
    same_refusal = λ unit earlier.
        refusal_either unit earlier one other (three_state_outputs one) (three_state_outputs other)
        (of_outputs (λ outputs. length outputs) same_length)
        (ap (λ s. refusal_of s earlier one) (same_subject one other arguments place all_apart unit)
        ∙ refused_alike one other arguments place all_apart (subject_of unit other) earlier)
        (of_refusal unit earlier);
    same_data = λ unit number.
        data_either unit number one other (three_state_outputs one) (three_state_outputs other)
        (of_outputs (λ outputs. length outputs) same_length)
        (data_alike one other arguments place all_apart unit number)
        (of_data unit number);
  }
