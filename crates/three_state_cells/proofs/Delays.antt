-- What is wrong in the delays of three-state outputs is the same of pin groups and of each of their names apart.
use Rattle.std.proofs.Common.{◌≡◌, ℕ, ◌+◌, Bool, true, false, not, ◌&&◌, ◌==◌, List, [], ◌∷◌, ◌++◌, length, map, filter, refl}
use Rattle.std.proofs.Common.{Option, Some, None, if◌then◌else◌, codes, sym, ap, ◌∙◌, arith, append_assoc, length-append}
use Rattle.std.specs.Prelude.{flat_map, slice_get, unwrap_or}
use Rattle.std.specs.Option.{option_map}
use Rattle.std.specs.List.{list_all}
use Rattle.std.proofs.Math.Seq.{get_or-append_seam}
use Rattle.std.proofs.lemmas.Bool.{and_parts, and_from}
use Rattle.std.proofs.lemmas.List.{length-map}
use Rattle.std.proofs.lemmas.Option.{slice_get_read}
use Rattle.liberty_groups.specs.declared.tree.Value.{Value}
use Rattle.liberty_groups.specs.declared.tree.Group.{Group}
use Rattle.cell_machine.specs.declared.pins.Direction.{Direction}
use Rattle.cell_machine.specs.declared.pins.Direction.TheVariants.{Input}
use Rattle.cell_machine.specs.declared.pins.Pin.{Pin}
use Rattle.timing_arcs.specs.declared.subject.Subject.{Subject}
use Rattle.cell_attributes.specs.Groups.{is_called, is_pin}
use Rattle.cell_attributes.specs.Pins.{direction_of, pin_as, pins_in}
use Rattle.cell_reader.specs.declared.refusal.Refusal.{Refusal}
use Rattle.cell_reader.specs.PinTimings.{subject_at}
use Rattle.core_groups.specs.Outputs.{is_three_state}
use Rattle.three_state_cells.specs.Refusals.{decides, first_of_two, wrong_group, refusal_with, driver_refusal}
use Rattle.three_state_cells.proofs.Single.{single, its_name, same_floating, same_wrong_delays_of}
use Rattle.three_state_cells.proofs.Lists.{apart, of_pins, split, pins_split}
use Rattle.three_state_cells.proofs.GatheredPlaces.{direction_at, same_wrong_delays}

-- Of a refusal and another one that is told twice the same decides as where it is told once.
either : (b : Bool) (one : Refusal) → Some (if b then one else one) ≡ Some one
either true one = refl
either false one = refl

first_again : (one other : Refusal) (b : Bool) → decides one other ≡ b
    → first_of_two (Some (if b then one else other)) (Some other) ≡ Some (if b then one else other)
first_again one other true e = ap (λ b. Some (if b then one else other)) e
first_again one other false e = either (decides other other) other

told_again : (found wrong : Option Refusal) → first_of_two (first_of_two found wrong) wrong ≡ first_of_two found wrong
told_again None None = refl
told_again None (Some wrong) = either (decides wrong wrong) wrong
told_again (Some found) None = refl
told_again (Some found) (Some wrong) = first_again found wrong (decides found wrong) refl

-- the pin between some pins and others
between : (before : List Pin) (pin : Pin) (after : List Pin) → slice_get (before ++ pin ∷ after) (length before) ≡ Some pin
between before pin after =
    let all : length (before ++ pin ∷ after) ≡ length before + length (pin ∷ after) = length-append before (pin ∷ after) in
    slice_get_read (before ++ pin ∷ after) (length (before ++ pin ∷ after)) (length before) pin refl (omega (arith, all))
    (sym (get_or-append_seam before pin after pin))

module _ (core : Subject) where
  -- It hangs on the direction of the pin, and not on the name.
  wrong_single : (place : ℕ) (group : Group) (value : Value) → is_pin group ≡ true
      → wrong_group (subject_at core place) (single group value) ≡ wrong_group (subject_at core place) group
  wrong_single place group value is = λ i.
      if same_floating group value is i then same_wrong_delays_of group value (subject_at core place) i else None

  wrong_elsewhere : (one other : ℕ) (group : Group) → direction_at core one ≡ direction_at core other
      → wrong_group (subject_at core one) group ≡ wrong_group (subject_at core other) group
  wrong_elsewhere one other group same =
      ap (λ wrong. if is_three_state group then wrong else None) (same_wrong_delays core one other same group)

  abbrev direction_in : Group → Option Direction
  direction_in group = Some (unwrap_or (direction_of group) Input)

  directed : (before : List Pin) (group : Group) (value : Value) (after : List Pin) → core.pins ≡ before ++ pin_as group value ∷ after
      → direction_at core (length before) ≡ direction_in group
  directed before group value after e =
      ap (λ pins. option_map (λ (pin : Pin). pin.direction) (slice_get pins (length before))) e
      ∙ ap (option_map (λ (pin : Pin). pin.direction)) (between before (pin_as group value) after)

  -- further names of a group
  more_names :
      (group : Group) → is_pin group ≡ true → (first : ℕ) → direction_at core first ≡ direction_in group
      → (values : List Value) (before after : List Pin)
      → core.pins ≡ before ++ (map (pin_as group) values ++ after)
      → (rest : List Group) (found : Option Refusal)
      → refusal_with core (first_of_two found (wrong_group (subject_at core first) group)) (length before)
      (map (single group) values ++ rest)
      ≡ refusal_with core (first_of_two found (wrong_group (subject_at core first) group)) (length before + length values) rest
  more_names group is first at [] before after e rest found =
      let none : length before ≡ length before + 0 = omega arith in
      ap (λ place. refusal_with core (first_of_two found (wrong_group (subject_at core first) group)) place rest) none
  more_names group is first at (value ∷ values) before after e rest found =
      let wrong : Option Refusal = wrong_group (subject_at core first) group in
      let here : List Pin = before ++ pin_as group value ∷ [] in
      let told : wrong_group (subject_at core (length before)) (single group value) ≡ wrong =
      wrong_single (length before) group value is
      ∙ wrong_elsewhere (length before) first group (directed before group value (map (pin_as group) values ++ after) e ∙ sym at) in
      let joined : length here ≡ length before + length (pin_as group value ∷ []) = length-append before (pin_as group value ∷ []) in
      let next : length before + length (value ∷ []) ≡ length here = omega (arith, joined) in
      let last : length here + length values ≡ length before + length (value ∷ values) = omega (arith, joined) in
      ap (λ o. refusal_with core (first_of_two (first_of_two found wrong) o)
      (length before + length (single group value).arguments) (map (single group) values ++ rest)) told
      ∙ (ap (λ o. refusal_with core o (length before + length (single group value).arguments) (map (single group) values ++ rest))
      (told_again found wrong)
      ∙ (ap (λ l. refusal_with core (first_of_two found wrong) (length before + length l) (map (single group) values ++ rest))
      (its_name group value)
      ∙ (ap (λ place. refusal_with core (first_of_two found wrong) place (map (single group) values ++ rest)) next
      ∙ (more_names group is first at values here after
      (e ∙ sym (append_assoc before (pin_as group value ∷ []) (map (pin_as group) values ++ after))) rest found
      ∙ ap (λ place. refusal_with core (first_of_two found wrong) place rest) last))))

  -- all names of a group, of which there are some
  all_names :
      (group : Group) → is_pin group ≡ true → (values : List Value) → group.arguments ≡ values → (before after : List Pin)
      → core.pins ≡ before ++ (map (pin_as group) values ++ after)
      → (rest : List Group) (found : Option Refusal)
      → refusal_with core found (length before) (map (single group) values ++ rest)
      ≡ refusal_with core (first_of_two found (wrong_group (subject_at core (length before)) group))
      (length before + length values) rest
  all_names group is [] f before after e rest found =
      let none : false ≡ true =
      sym (ap (λ (l : List Value). is_called (codes "pin") group && not (length l == 0)) f ∙ never (is_called (codes "pin") group)) ∙ is in
      absurd cc
    where
      never : (b : Bool) → (b && not (length {A = Value} [] == 0)) ≡ false
      never true = refl
      never false = refl
  all_names group is (value ∷ values) f before after e rest found =
      let wrong : Option Refusal = wrong_group (subject_at core (length before)) group in
      let here : List Pin = before ++ pin_as group value ∷ [] in
      let joined : length here ≡ length before + length (pin_as group value ∷ []) = length-append before (pin_as group value ∷ []) in
      let next : length before + length (value ∷ []) ≡ length here = omega (arith, joined) in
      let last : length here + length values ≡ length before + length (value ∷ values) = omega (arith, joined) in
      ap (λ o. refusal_with core (first_of_two found o) (length before + length (single group value).arguments)
      (map (single group) values ++ rest)) (wrong_single (length before) group value is)
      ∙ (ap (λ l. refusal_with core (first_of_two found wrong) (length before + length l) (map (single group) values ++ rest))
      (its_name group value)
      ∙ (ap (λ place. refusal_with core (first_of_two found wrong) place (map (single group) values ++ rest)) next
      ∙ (more_names group is (length before) (directed before group value (map (pin_as group) values ++ after) e) values here after
      (e ∙ sym (append_assoc before (pin_as group value ∷ []) (map (pin_as group) values ++ after))) rest found
      ∙ ap (λ place. refusal_with core (first_of_two found wrong) place rest) last)))

  all_groups :
      (groups : List Group) → list_all is_pin groups ≡ true → (before after : List Pin)
      → core.pins ≡ before ++ (flat_map pins_in groups ++ after) → (found : Option Refusal)
      → refusal_with core found (length before) (flat_map split groups) ≡ refusal_with core found (length before) groups
  all_groups [] are before after e found = refl
  all_groups (group ∷ groups) are before after e found =
      let parts = and_parts (is_pin group) (list_all is_pin groups) are in
      let wrong : Option Refusal = wrong_group (subject_at core (length before)) group in
      let here : List Pin = before ++ pins_in group in
      let joined : length here ≡ length before + length (pins_in group) = length-append before (pins_in group) in
      let each : length (pins_in group) ≡ length group.arguments = length-map group.arguments (pin_as group) in
      let next : length before + length group.arguments ≡ length here = omega (arith, joined, each) in
      let one : core.pins ≡ before ++ (pins_in group ++ (flat_map pins_in groups ++ after)) =
      e ∙ ap (λ pins. before ++ pins) (append_assoc (pins_in group) (flat_map pins_in groups) after) in
      all_names group parts.0 group.arguments refl before (flat_map pins_in groups ++ after) one (flat_map split groups) found
      ∙ (ap (λ place. refusal_with core (first_of_two found wrong) place (flat_map split groups)) next
      ∙ (all_groups groups parts.1 here after
      (one ∙ sym (append_assoc before (pins_in group) (flat_map pins_in groups ++ after))) (first_of_two found wrong)
      ∙ sym (ap (λ place. refusal_with core (first_of_two found wrong) place groups) next)))

  all_pins : (groups : List Group) → list_all is_pin (filter is_pin groups) ≡ true
  all_pins [] = refl
  all_pins (group ∷ groups) = by (is_pin group) refl (all_pins groups)
    where
      by : (b : Bool) → is_pin group ≡ b → list_all is_pin (filter is_pin groups) ≡ true
          → list_all is_pin (if b then group ∷ filter is_pin groups else filter is_pin groups) ≡ true
      by true e rest = and_from (is_pin group) (list_all is_pin (filter is_pin groups)) e rest
      by false e rest = rest

  pub refusal_apart :
      (groups : List Group) (after : List Pin) → core.pins ≡ of_pins pins_in groups ++ after
      → driver_refusal core (filter is_pin (flat_map apart groups)) ≡ driver_refusal core (filter is_pin groups)
  refusal_apart groups after e =
      ap (driver_refusal core) (pins_split groups) ∙ all_groups (filter is_pin groups) (all_pins groups) [] after e None
