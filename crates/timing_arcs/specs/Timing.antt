-- The timing of one pin: what its timing groups, its pulse widths and its period make (Liberty Reference Manual, `timing`
-- group, `min_pulse_width_high`, `min_pulse_width_low` and `min_period`).
use Rattle.std.specs.Prelude.{ℕ, ◌+◌, ◌&&◌, List, [], ◌∷◌, ◌++◌, map, filter, flat_map, take, codes, Option, Some, None, is_none}
use Rattle.std.specs.Prelude.{unwrap_or, Result, Ok, Err, if◌then◌else◌}
use Rattle.std.specs.Option.{option_map_or}
use Rattle.std.specs.List.{list_any}
use Rattle.liberty_groups.specs.declared.tree.Item.{Item, out-Item}
use Rattle.liberty_groups.specs.declared.tree.Group.{Group}
use Rattle.cell_machine.specs.declared.checks.CheckKind.{CheckKind}
use Rattle.cell_machine.specs.declared.checks.CheckKind.TheVariants as kind
use Rattle.cell_machine.specs.declared.checks.Edge.{Edge}
use Rattle.cell_machine.specs.declared.checks.Edge.TheVariants.{Any, Rise, Fall}
use Rattle.cell_machine.specs.declared.checks.Check.{Check}
use Rattle.cell_machine.specs.CellRules.{is_input_pin}
use Rattle.timing_arcs.specs.declared.fault.TimingFault.{TimingFault}
use Rattle.timing_arcs.specs.declared.fault.TimingFault.TheVariants as fault
use Rattle.timing_arcs.specs.declared.subject.Subject.{Subject}
use Rattle.timing_arcs.specs.declared.subject.PinTiming.{PinTiming}
use Rattle.timing_arcs.specs.declared.subject.Room.{Room}
use Rattle.liberty_groups.specs.Attributes.{Attribute, attribute_of, group_named, groups_named, place_of}
use Rattle.cell_machine.specs.Delay.{least}
use Rattle.timing_arcs.specs.Times.{time_of}
use Rattle.timing_arcs.specs.TimingTypes.{type_of, rise_table, fall_table, is_used}
use Rattle.timing_arcs.specs.RelatedPins.{related_of, inputs_of, is_unknown, is_read, is_left_out}
use Rattle.timing_arcs.specs.Conditions.{condition_of, is_malformed, has_unknown, names_one, is_wide}
use Rattle.timing_arcs.specs.Tables.{bad_numbers_at}
use Rattle.timing_arcs.specs.Making.{event, check, has_limit, checks_in, arcs_in}
use Rattle.timing_arcs.specs.Merging.{Placed, merged, merged_at}

-- The timing groups of a pin, in order.
abbrev pub timing_groups : Group → List Group
timing_groups pin = groups_named (codes "timing") pin.items

-- What a text of a group is wrong, by the offset of its statement. A condition that is not read is not judged.

-- A condition that does not read.
abbrev pub malformed_in : Subject → Group → List ℕ
malformed_in subject group =
    if is_read subject group && is_malformed (condition_of subject group) then place_of (attribute_of group (codes "when"))
    else []

-- A related pin that is no pin.
abbrev pub unknown_related_in : Subject → Group → List ℕ
unknown_related_in subject group =
    if is_used subject group && list_any is_unknown (related_of subject group)
    then place_of (attribute_of group (codes "related_pin")) else []

-- A condition with a name that is no input pin.
abbrev pub unknown_condition_in : Subject → Group → List ℕ
unknown_condition_in subject group =
    if is_read subject group && has_unknown (condition_of subject group) then place_of (attribute_of group (codes "when")) else []

abbrev pub unknown_in : Subject → Group → List ℕ
unknown_in subject group = unknown_related_in subject group ++ unknown_condition_in subject group

-- A condition that names the pin of a check or a pin that the group is related to.
abbrev pub own_in : Subject → Group → List ℕ
own_in subject group =
    if is_read subject group && names_one (subject.place ∷ inputs_of subject group) (condition_of subject group)
    then place_of (attribute_of group (codes "when")) else []

-- A condition with more names than the limit.
abbrev pub wide_in : Subject → Group → List ℕ
wide_in subject group =
    if is_read subject group && is_wide (condition_of subject group) then place_of (attribute_of group (codes "when")) else []

-- What is wrong in the tables that a group uses.
abbrev pub bad_numbers_in : Subject → Group → List ℕ
bad_numbers_in subject group =
    if is_read subject group
    then bad_numbers_at subject.unit (rise_table (type_of group)) group
    ++ bad_numbers_at subject.unit (fall_table (type_of group)) group
    else []

-- The three attributes of an input pin that give the limit of a check: the least width of a high pulse, that of a low
-- pulse, and the least period. Those of another pin are not read.
abbrev pub limit_attribute : Subject → Group → List ℕ → Option Attribute
limit_attribute subject pin name = if is_input_pin subject.pins subject.place then attribute_of pin name else None

abbrev pub pulse_high : Subject → Group → Option Attribute
pulse_high subject pin = limit_attribute subject pin (codes "min_pulse_width_high")

abbrev pub pulse_low : Subject → Group → Option Attribute
pulse_low subject pin = limit_attribute subject pin (codes "min_pulse_width_low")

abbrev pub least_period : Subject → Group → Option Attribute
least_period subject pin = limit_attribute subject pin (codes "min_period")

-- The check of this kind that an attribute makes, between these events of the pin. It has no condition.
abbrev pub attribute_check : Subject → CheckKind → Edge → Edge → Attribute → List Check
attribute_check subject k first second attribute =
    filter has_limit (check k (event subject.place first) (event subject.place second)
    (unwrap_or (time_of subject.unit attribute.text) 0) None ∷ [])

abbrev pub attribute_checks : Subject → CheckKind → Edge → Edge → Option Attribute → List Check
attribute_checks subject k first second attribute = option_map_or (attribute_check subject k first second) attribute []

-- An attribute that is no time.
abbrev pub bad_attribute : Subject → Option Attribute → List ℕ
bad_attribute subject attribute =
    option_map_or (λ (a : Attribute). if is_none (time_of subject.unit a.text) then a.at ∷ [] else []) attribute []

-- These at the offset.
abbrev pub at_each : {A : Type 0} → ℕ → List A → List ℕ
at_each at xs = map (λ x. at) xs

-- The checks of the pin: of its timing groups in order, then the high pulse, the low pulse and the period.
abbrev pub checks_of : Subject → Group → List Check
checks_of subject pin =
    flat_map (checks_in subject) (timing_groups pin)
    ++ (attribute_checks subject kind.Width Rise Fall (pulse_high subject pin)
    ++ (attribute_checks subject kind.Width Fall Rise (pulse_low subject pin)
    ++ attribute_checks subject kind.Period Any Any (least_period subject pin)))

-- For each check the offset of the group or attribute that made it.
abbrev pub attribute_check_at : Subject → CheckKind → Edge → Edge → Option Attribute → List ℕ
attribute_check_at subject k first second attribute =
    option_map_or (λ (a : Attribute). at_each a.at (attribute_check subject k first second a)) attribute []

abbrev pub check_at_of : Subject → Group → List ℕ
check_at_of subject pin =
    flat_map (λ (group : Group). at_each group.at (checks_in subject group)) (timing_groups pin)
    ++ (attribute_check_at subject kind.Width Rise Fall (pulse_high subject pin)
    ++ (attribute_check_at subject kind.Width Fall Rise (pulse_low subject pin)
    ++ attribute_check_at subject kind.Period Any Any (least_period subject pin)))

-- The arcs that the pin's timing groups make, in order, each with the offset of its group.
abbrev pub placed_arcs_in : Subject → Group → List Placed
placed_arcs_in subject group = map (λ arc. record { arc = arc; at = group.at }) (arcs_in subject group)

abbrev pub placed_arcs : Subject → Group → List Placed
placed_arcs subject pin = flat_map (placed_arcs_in subject) (timing_groups pin)

-- The places of the left-out timing groups among the pin's statements, where the first has this place.
abbrev pub left_out_at : Subject → ℕ → Option Group → List ℕ
left_out_at subject place None = []
left_out_at subject place (Some group) = if is_left_out subject group then place ∷ [] else []

abbrev pub left_out_from : Subject → ℕ → List Item → List ℕ
left_out_from subject place [] = []
left_out_from subject place (item ∷ items) =
    left_out_at subject place (group_named (codes "timing") (out-Item item)) ++ left_out_from subject (place + 1) items

-- The offsets of what is wrong in the pin's timing, kind by kind.
abbrev pub malformed_at : Subject → Group → List ℕ
malformed_at subject pin = flat_map (malformed_in subject) (timing_groups pin)

abbrev pub unknown_names_at : Subject → Group → List ℕ
unknown_names_at subject pin = flat_map (unknown_in subject) (timing_groups pin)

abbrev pub own_conditions_at : Subject → Group → List ℕ
own_conditions_at subject pin = flat_map (own_in subject) (timing_groups pin)

abbrev pub numbers_at : Subject → Group → List ℕ
numbers_at subject pin =
    flat_map (bad_numbers_in subject) (timing_groups pin)
    ++ (bad_attribute subject (pulse_high subject pin)
    ++ (bad_attribute subject (pulse_low subject pin) ++ bad_attribute subject (least_period subject pin)))

-- The conditions that are read and have more names than the limit.
abbrev pub wide_at : Subject → Group → List ℕ
wide_at subject pin = flat_map (wide_in subject) (timing_groups pin)

-- The timing of the pin.
abbrev pub timing_of : Subject → Group → PinTiming
timing_of subject pin = record {
  checks = checks_of subject pin;
  arcs = merged (placed_arcs subject pin);
  left_out = left_out_from subject 0 pin.items;
  check_at = check_at_of subject pin;
  arc_at = merged_at (placed_arcs subject pin);
  wide = least (wide_at subject pin);
}

-- What was read, unless something is wrong: the first kind that there is decides, and of it the least offset.
abbrev pub unless_at : {A : Type 0} → (ℕ → TimingFault) → Option ℕ → Result A TimingFault → Result A TimingFault
unless_at wrong None answer = answer
unless_at wrong (Some at) answer = Err (wrong at)

-- What reading the timing of the pin answers.
abbrev pub reading_answer : Subject → Group → Result PinTiming TimingFault
reading_answer subject pin =
    unless_at fault.Malformed (least (malformed_at subject pin))
    (unless_at fault.UnknownName (least (unknown_names_at subject pin))
    (unless_at fault.OwnCondition (least (own_conditions_at subject pin))
    (unless_at fault.Number (least (numbers_at subject pin)) (Ok (timing_of subject pin)))))

-- What is held of a timing: its first checks and arcs, and its left-out groups where they are listed.
abbrev pub held : Room → PinTiming → PinTiming
held room timing = record timing {
  checks = take room.checks timing.checks;
  check_at = take room.checks timing.check_at;
  arcs = take room.arcs timing.arcs;
  arc_at = take room.arcs timing.arc_at;
  left_out = (if room.left_out then timing.left_out else []);
}

abbrev pub held_answer : Room → Result PinTiming TimingFault → Result PinTiming TimingFault
held_answer room (Ok timing) = Ok (held room timing)
held_answer room (Err wrong) = Err wrong
