-- What is wrong in the delays of an output hangs on the direction of its pin, and on no other thing of the place where it stands.
use Rattle.std.proofs.Common.{◌≡◌, ℕ, Bool, false, not, ◌&&◌, List, [], ◌∷◌, ◌++◌, map, codes, Option, Some, None, refl, sym, ap}
use Rattle.std.proofs.Common.{◌∙◌, if◌then◌else◌}
use Rattle.std.specs.Prelude.{flat_map, slice_get, Result, Ok, Err}
use Rattle.std.specs.Option.{option_map, option_map_or}
use Rattle.std.specs.List.{list_any}
use Rattle.bool_functions.specs.declared.tree.Node.{Node}
use Rattle.bool_functions.specs.declared.faults.FunctionFault.{FunctionFault}
use Rattle.bool_functions.specs.declared.faults.FunctionFault.TheVariants as wrong
use Rattle.bool_functions.specs.FunctionText.{reading_of}
use Rattle.bool_functions.proofs.NameLists.{list_any-map}
use Rattle.liberty_groups.specs.declared.tree.Group.{Group}
use Rattle.liberty_groups.specs.Attributes.{Attribute, attribute_of, place_of}
use Rattle.cell_machine.specs.declared.pins.Direction.{Direction}
use Rattle.cell_machine.specs.declared.pins.Pin.{Pin}
use Rattle.cell_machine.specs.CellRules.{is_input}
use Rattle.timing_arcs.specs.declared.condition.Condition.TheVariants.{Always}
use Rattle.timing_arcs.specs.declared.subject.Subject.{Subject}
use Rattle.timing_arcs.specs.declared.timing_type.TimingType.{TimingType}
use Rattle.timing_arcs.specs.declared.timing_type.TimingType.TheVariants as types
use Rattle.timing_arcs.specs.TimingTypes.{type_of, rise_table, fall_table, stands_under, has_table, is_used}
use Rattle.timing_arcs.specs.RelatedPins.{related_by, related_of, is_driven, is_unknown, is_read}
use Rattle.timing_arcs.specs.Conditions.{condition_as, condition_in, condition_of, has_unknown}
use Rattle.timing_arcs.specs.Tables.{bad_numbers_at}
use Rattle.timing_arcs.specs.Timing.{timing_groups, unknown_in, bad_numbers_in, limit_attribute, bad_attribute, unknown_names_at}
use Rattle.timing_arcs.specs.Timing.{numbers_at}
use Rattle.cell_reader.specs.declared.refusal.Reason.TheVariants as reason
use Rattle.cell_reader.specs.PinTimings.{subject_at}
use Rattle.cell_reader.specs.Refusals.{met, first_refusal}
use Rattle.core_groups.specs.DriverGroups.{driver_pin}
use Rattle.three_state_cells.specs.Refusals.{wrong_delays}

-- the direction of the pin with this number
abbrev pub direction_at : Subject → ℕ → Option Direction
direction_at s p = option_map (λ (pin : Pin). pin.direction) (slice_get s.pins p)

told_of : (test : Direction → Bool) (o : Option Pin)
    → option_map_or (λ (pin : Pin). test pin.direction) o false
    ≡ option_map_or test (option_map (λ (pin : Pin). pin.direction) o) false
told_of test None = refl
told_of test (Some pin) = refl

module _ (s : Subject) (p q : ℕ) (same : direction_at s p ≡ direction_at s q) where
  directed : (test : Direction → Bool)
      → option_map_or (λ (pin : Pin). test pin.direction) (slice_get s.pins p) false
      ≡ option_map_or (λ (pin : Pin). test pin.direction) (slice_get s.pins q) false
  directed test =
      told_of test (slice_get s.pins p)
      ∙ (ap (λ d. option_map_or test d false) same ∙ sym (told_of test (slice_get s.pins q)))

  used : (group : Group) → is_used (subject_at s p) group ≡ is_used (subject_at s q) group
  unfolding is_used
  used group = ap (λ b. b && has_table group) (directed (stands_under (type_of group)))

  -- Which of the pins that a group is related to are none or are driven is told without their numbers.
  kinds_as_type : (group : Group) (t : TimingType)
      → map {B = Bool × Bool} (λ one. (is_unknown one, is_driven one)) (related_by (subject_at s p) group t)
      ≡ map {B = Bool × Bool} (λ one. (is_unknown one, is_driven one)) (related_by (subject_at s q) group t)
  kinds_as_type group types.Delay = refl
  kinds_as_type group (types.Setup edge) = refl
  kinds_as_type group (types.Hold edge) = refl
  kinds_as_type group (types.Recovery edge) = refl
  kinds_as_type group (types.Removal edge) = refl
  kinds_as_type group types.Width = refl
  kinds_as_type group types.Period = refl
  kinds_as_type group types.Other = refl

  some_kind : (test : Bool → Bool → Bool) (group : Group)
      → list_any (λ one. test (is_unknown one) (is_driven one)) (related_of (subject_at s p) group)
      ≡ list_any (λ one. test (is_unknown one) (is_driven one)) (related_of (subject_at s q) group)
  unfolding related_of
  some_kind test group =
      sym (list_any-map {Y = Bool × Bool} (λ one. (is_unknown one, is_driven one)) (λ (kind : Bool × Bool). test kind.0 kind.1)
      (related_by (subject_at s p) group (type_of group)))
      ∙ (ap (list_any (λ (kind : Bool × Bool). test kind.0 kind.1)) (kinds_as_type group (type_of group))
      ∙ list_any-map {Y = Bool × Bool} (λ one. (is_unknown one, is_driven one)) (λ (kind : Bool × Bool). test kind.0 kind.1)
      (related_by (subject_at s q) group (type_of group)))

  read : (group : Group) → is_read (subject_at s p) group ≡ is_read (subject_at s q) group
  read group = λ i. used group i && some_kind (λ unknown driven. not driven) group i

  condition_by : (r : Result Node FunctionFault) → condition_as (subject_at s p) r ≡ condition_as (subject_at s q) r
  condition_by (Ok f) = refl
  condition_by (Err wrong.TooLong) = refl
  condition_by (Err (wrong.Malformed at)) = refl
  condition_by (Err (wrong.UnknownName at)) = refl
  condition_by (Err wrong.Memory) = refl

  condition_as_text : (o : Option Attribute)
      → option_map_or (λ (a : Attribute). condition_as (subject_at s p) (reading_of s.names a.text)) o Always
      ≡ option_map_or (λ (a : Attribute). condition_as (subject_at s q) (reading_of s.names a.text)) o Always
  condition_as_text None = refl
  condition_as_text (Some a) = condition_by (reading_of s.names a.text)

  condition : (group : Group) → condition_of (subject_at s p) group ≡ condition_of (subject_at s q) group
  unfolding condition_of condition_in
  condition group = condition_as_text (attribute_of group (codes "when"))

  unknown : (group : Group) → unknown_in (subject_at s p) group ≡ unknown_in (subject_at s q) group
  unknown group = λ i.
      (if used group i && some_kind (λ unknown driven. unknown) group i then place_of (attribute_of group (codes "related_pin")) else [])
      ++ (if read group i && has_unknown (condition group i) then place_of (attribute_of group (codes "when")) else [])

  numbers : (group : Group) → bad_numbers_in (subject_at s p) group ≡ bad_numbers_in (subject_at s q) group
  numbers group = λ i.
      if read group i
      then bad_numbers_at s.unit (rise_table (type_of group)) group ++ bad_numbers_at s.unit (fall_table (type_of group)) group
      else []

  limit : (pin : Group) (name : List ℕ) → limit_attribute (subject_at s p) pin name ≡ limit_attribute (subject_at s q) pin name
  limit pin name = ap (λ b. if b then attribute_of pin name else None) (directed is_input)

  all_unknown : (pin : Group) → unknown_names_at (subject_at s p) pin ≡ unknown_names_at (subject_at s q) pin
  all_unknown pin = λ i. flat_map (λ group. unknown group i) (timing_groups pin)

  all_numbers : (pin : Group) → numbers_at (subject_at s p) pin ≡ numbers_at (subject_at s q) pin
  all_numbers pin = λ i.
      flat_map (λ group. numbers group i) (timing_groups pin)
      ++ (bad_attribute (subject_at s q) (limit pin (codes "min_pulse_width_high") i)
      ++ (bad_attribute (subject_at s q) (limit pin (codes "min_pulse_width_low") i)
      ++ bad_attribute (subject_at s q) (limit pin (codes "min_period") i)))

  pub same_wrong_delays : (group : Group) → wrong_delays (subject_at s p) group ≡ wrong_delays (subject_at s q) group
  same_wrong_delays group = λ i.
      first_refusal
      (met reason.UnknownName (all_unknown (driver_pin group) i) ∷ met reason.Number (all_numbers (driver_pin group) i) ∷ [])
