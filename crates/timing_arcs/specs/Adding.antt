-- How the timing of a pin is put together, one statement after another.
use Rattle.std.specs.Prelude.{ℕ, ◌+◌, max, ◌==◌, nat_lt, List, [], ◌∷◌, ◌++◌, length, map, fold, codes, Option, Some, None}
use Rattle.std.specs.Prelude.{Result, Ok, if◌then◌else◌}
use Rattle.std.specs.List.{list_any}
use Rattle.liberty_groups.specs.declared.tree.Item.{Item, out-Item}
use Rattle.liberty_groups.specs.declared.tree.Group.{Group}
use Rattle.cell_machine.specs.declared.checks.CheckKind.{CheckKind}
use Rattle.cell_machine.specs.declared.checks.CheckKind.TheVariants as kind
use Rattle.cell_machine.specs.declared.checks.Edge.{Edge}
use Rattle.cell_machine.specs.declared.checks.Edge.TheVariants.{Any, Rise, Fall}
use Rattle.cell_machine.specs.declared.checks.Check.{Check}
use Rattle.cell_machine.specs.declared.arcs.Arc.{Arc}
use Rattle.timing_arcs.specs.declared.fault.TimingFault.{TimingFault}
use Rattle.timing_arcs.specs.declared.fault.TimingFault.TheVariants as fault
use Rattle.timing_arcs.specs.declared.found.Found.{Found}
use Rattle.timing_arcs.specs.declared.offsets.Offsets.{Offsets}
use Rattle.timing_arcs.specs.declared.subject.Subject.{Subject}
use Rattle.timing_arcs.specs.declared.subject.PinTiming.{PinTiming}
use Rattle.timing_arcs.specs.declared.subject.Room.{Room}
use Rattle.liberty_groups.specs.Attributes.{Attribute, group_named}
use Rattle.cell_machine.specs.Delay.{lesser}
use Rattle.timing_arcs.specs.Times.{time_of}
use Rattle.timing_arcs.specs.RelatedPins.{inputs_of, is_left_out}
use Rattle.timing_arcs.specs.Making.{check, event, checks_from, arcs_from, is_made}
use Rattle.timing_arcs.specs.Merging.{same_path}
use Rattle.timing_arcs.specs.Readings.{joined, no_offsets, offsets_in}
use Rattle.timing_arcs.specs.Timing.{pulse_high, pulse_low, least_period, unless_at}

-- an arc, with the greater rise and fall of it and a new one, where both have the same ends and the same condition
abbrev pub joined_with : Arc → Arc → Arc
joined_with arc kept =
    if same_path arc kept then record kept { rise = max kept.rise arc.rise; fall = max kept.fall arc.fall } else kept

-- a list that holds so many at most, with one more at its end where it holds fewer
abbrev pub pushed : {A : Type 0} → ℕ → List A → A → List A
pushed room xs x = if nat_lt (length xs) room then xs ++ x ∷ [] else xs

-- what was found so far, with a check that was made at this offset, if it has a limit
abbrev pub with_check : ℕ → Found → Check → Found
with_check at found k =
    if k.limit == 0
    then found
    else record found { checks = pushed found.room.checks found.checks k; check_at = pushed found.room.checks found.check_at at }

-- with an arc of its own that was made at this offset
abbrev pub with_own : ℕ → Found → Arc → Found
with_own at found arc =
    record found { arcs = pushed found.room.arcs found.arcs arc; arc_at = pushed found.room.arcs found.arc_at at }

-- with the place of a left-out group, where they are listed
abbrev pub with_left_out : Found → ℕ → Found
with_left_out found place = if found.room.left_out then record found { left_out = found.left_out ++ place ∷ [] } else found

-- with an arc that was made at this offset
abbrev pub with_placed : ℕ → Found → Arc → Found
with_placed at found arc =
    if list_any (same_path arc) found.arcs
    then record found { arcs = map (joined_with arc) found.arcs }
    else with_own at (record found { arcs = map (joined_with arc) found.arcs }) arc

-- with all of these
abbrev pub with_checks : ℕ → Found → List Check → Found
with_checks at found checks = fold (with_check at) found checks

abbrev pub with_arcs : ℕ → Found → List Arc → Found
with_arcs at found arcs = fold (with_placed at) found arcs

-- with what a group makes with a pin that it is related to, and with all of them
abbrev pub with_related : Subject → Group → Found → ℕ → Found
with_related subject group found related =
    with_arcs group.at (with_checks group.at found (checks_from subject group related)) (arcs_from subject group related)

abbrev pub with_inputs : Subject → Group → Found → List ℕ → Found
with_inputs subject group found inputs = fold (with_related subject group) found inputs

-- with what is noted in a group at this place, and whether it is left out
abbrev pub with_noted : Subject → ℕ → Found → Group → Found
with_noted subject place found group =
    let joint : Found = record found { offsets = joined found.offsets (offsets_in subject group) } in
    if is_left_out subject group then with_left_out joint place else joint

-- with a group at this place, if there is one
abbrev pub with_group : Subject → ℕ → Found → Group → Found
with_group subject place found group =
    if is_made subject group
    then with_inputs subject group (with_noted subject place found group) (inputs_of subject group)
    else with_noted subject place found group

abbrev pub with_optional : Subject → ℕ → Found → Option Group → Found
with_optional subject place found None = found
with_optional subject place found (Some group) = with_group subject place found group

-- with the timing groups among these statements, of which the first has this place
abbrev pub with_items : Subject → ℕ → Found → List Item → Found
with_items subject place found [] = found
with_items subject place found (item ∷ items) =
    with_items subject (place + 1) (with_optional subject place found (group_named (codes "timing") (out-Item item))) items

-- with a number that is no time
abbrev pub with_number : Found → ℕ → Found
with_number found at = record found { offsets = record (found.offsets) { number = lesser found.offsets.number (Some at) } }

-- with a check of this kind between these events of the pin, that has this limit, or none that is a time
abbrev pub with_limit : Subject → CheckKind → Edge → Edge → Found → ℕ → Option ℕ → Found
with_limit subject k first second found at None = with_number found at
with_limit subject k first second found at (Some limit) =
    with_check at found (check k (event subject.place first) (event subject.place second) limit None)

abbrev pub with_attribute : Subject → CheckKind → Edge → Edge → Found → Option Attribute → Found
with_attribute subject k first second found None = found
with_attribute subject k first second found (Some attribute) =
    with_limit subject k first second found attribute.at (time_of subject.unit attribute.text)

-- nothing
abbrev pub nothing_found : Room → Found
nothing_found room = record {
  room = room;
  checks = [];
  check_at = [];
  offsets =
      no_offsets;
  arcs = [];
  arc_at = [];
  left_out = [];
}

-- what is found of a pin
abbrev pub found_of : Room → Subject → Group → Found
found_of room subject pin =
    with_attribute subject kind.Period Any Any
    (with_attribute subject kind.Width Fall Rise
    (with_attribute subject kind.Width Rise Fall (with_items subject 0 (nothing_found room) pin.items) (pulse_high subject pin))
    (pulse_low subject pin))
    (least_period subject pin)

-- the timing that was found
abbrev pub timing_found : Found → PinTiming
timing_found found = record {
  checks = found.checks;
  arcs = found.arcs;
  left_out = found.left_out;
  check_at = found.check_at;
  arc_at = found.arc_at;
  wide = found.offsets.wide;
}

-- what was read, unless something is wrong
abbrev pub unless_wrong : {A : Type 0} → Offsets → A → Result A TimingFault
unless_wrong offsets read =
    unless_at fault.Malformed offsets.malformed
    (unless_at fault.UnknownName offsets.unknown_name
    (unless_at fault.OwnCondition offsets.own_condition (unless_at fault.Number offsets.number (Ok read))))

-- the answer on what was found
abbrev pub answer_found : Found → Result PinTiming TimingFault
answer_found found = unless_wrong found.offsets (timing_found found)
