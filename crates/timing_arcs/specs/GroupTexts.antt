-- What the texts of a timing group say in a cell, whichever of its pins the group stands under, and what that gives under
-- one of them (Liberty Reference Manual, `timing` group).
use Rattle.std.specs.Prelude.{ℕ, ◌+◌, Bool, true, false, not, ◌&&◌, ◌||◌, ◌==◌, nat_lt, List, [], ◌∷◌, ◌++◌, length, map, fold}
use Rattle.std.specs.Prelude.{codes, slice_get, Option, Some, None, if◌then◌else◌}
use Rattle.std.specs.Option.{option_map_or}
use Rattle.std.specs.List.{list_any, filter_map}
use Rattle.liberty_groups.specs.declared.tree.Item.{Item, out-Item}
use Rattle.liberty_groups.specs.declared.tree.Group.{Group}
use Rattle.cell_machine.specs.declared.pins.Pin.{Pin}
use Rattle.cell_machine.specs.Names.{has}
use Rattle.timing_arcs.specs.declared.found.Found.{Found}
use Rattle.timing_arcs.specs.declared.offsets.Offsets.{Offsets}
use Rattle.timing_arcs.specs.declared.timing_type.TimingType.{TimingType}
use Rattle.timing_arcs.specs.declared.timing_type.TimingType.TheVariants.{Delay, Setup, Hold, Recovery, Removal, Width, Period}
use Rattle.timing_arcs.specs.declared.timing_type.TimingType.TheVariants.{Other}
use Rattle.timing_arcs.specs.declared.condition.Condition.TheVariants.{Always}
use Rattle.timing_arcs.specs.declared.related.Related.{Related}
use Rattle.timing_arcs.specs.declared.related.RelatedText.{RelatedText}
use Rattle.timing_arcs.specs.declared.when_text.WhenText.{WhenText}
use Rattle.timing_arcs.specs.declared.group_text.GroupText.{GroupText}
use Rattle.timing_arcs.specs.declared.subject.Subject.{Subject}
use Rattle.liberty_groups.specs.Attributes.{Attribute, attribute_of, group_named, place_of}
use Rattle.cell_machine.specs.Delay.{lesser, least}
use Rattle.timing_arcs.specs.TimingTypes.{type_of, stands_under, rise_table, fall_table, has_table}
use Rattle.timing_arcs.specs.RelatedPins.{related_as, related_words, is_driven, is_unknown, input_of}
use Rattle.timing_arcs.specs.Conditions.{condition_in, tree_of, may_hold, is_malformed, has_unknown, named_pins}
use Rattle.timing_arcs.specs.Tables.{bad_numbers_at}
use Rattle.timing_arcs.specs.Making.{checks_with, arcs_with, rise_of, fall_of}
use Rattle.timing_arcs.specs.Readings.{where_so, joined, no_offsets}
use Rattle.timing_arcs.specs.Adding.{with_checks, with_arcs, with_left_out}

-- What the names in `related_pin` are.
abbrev pub named_related : Subject → Group → List Related
named_related subject group = map (related_as subject) (related_words group)

abbrev pub related_text : Subject → Group → RelatedText
related_text subject group = record {
  at = least (place_of (attribute_of group (codes "related_pin")));
  is_empty = length (named_related subject group) == 0;
  has_driven = list_any is_driven (named_related subject group);
  has_undriven = list_any (λ related. not (is_driven related)) (named_related subject group);
  has_unknown = list_any is_unknown (named_related subject group);
  inputs = filter_map input_of (named_related subject group);
}

-- What `when` says.
abbrev pub when_as : Subject → Option Attribute → WhenText
when_as subject None = record { at = None; condition = Always; named = [] }
when_as subject (Some attribute) = record {
  at = Some (attribute.at);
  condition = condition_in subject attribute.text;
  named = named_pins (condition_in subject attribute.text);
}

abbrev pub when_text : Subject → Group → WhenText
when_text subject group = when_as subject (attribute_of group (codes "when"))

-- What the texts of a timing group at this place among the statements say.
abbrev pub group_text : Subject → ℕ → Group → GroupText
group_text subject place group = record {
  place = place;
  at = group.at;
  timing_type = type_of group;
  has_table = has_table group;
  related = related_text subject group;
  when = when_text subject group;
  names_related = list_any (has ((related_text subject group).inputs)) ((when_text subject group).named);
  rise = rise_of subject group;
  fall = fall_of subject group;
  number_at =
      lesser (least (bad_numbers_at subject.unit (rise_table (type_of group)) group))
      (least (bad_numbers_at subject.unit (fall_table (type_of group)) group));
}

-- What those of the timing groups among these statements say, of which the first has this place.
abbrev pub optional_text : Subject → ℕ → Option Group → List GroupText
optional_text subject place None = []
optional_text subject place (Some group) = group_text subject place group ∷ []

abbrev pub texts_from : Subject → ℕ → List Item → List GroupText
texts_from subject place [] = []
texts_from subject place (item ∷ items) =
    optional_text subject place (group_named (codes "timing") (out-Item item)) ++ texts_from subject (place + 1) items

-- The cell of a pin, whichever it is.
abbrev pub cell_of : Subject → Subject
cell_of subject = record subject { place = 0 }

-- What the timing groups of a pin group say.
abbrev pub pin_texts : Subject → Group → List GroupText
pin_texts subject pin = texts_from (cell_of subject) 0 pin.items

-- Whether a group of this type relates its pin to that pin alone, whatever its `related_pin` says.
abbrev pub is_of_one_pin : TimingType → Bool
is_of_one_pin Width = true
is_of_one_pin Period = true
is_of_one_pin Delay = false
is_of_one_pin (Setup edge) = false
is_of_one_pin (Hold edge) = false
is_of_one_pin (Recovery edge) = false
is_of_one_pin (Removal edge) = false
is_of_one_pin Other = false

-- Whether groups of this type stand under the pin with this number.
abbrev pub stands_at : TimingType → List Pin → ℕ → Bool
stands_at t pins place = option_map_or (λ (pin : Pin). stands_under t pin.direction) (slice_get pins place) false

-- Whether the group is used, read, listed as left out, and made something of, under a pin.
abbrev pub used_under : Subject → GroupText → Bool
used_under subject text = stands_at text.timing_type subject.pins subject.place && text.has_table

abbrev pub read_under : Subject → GroupText → Bool
read_under subject text = used_under subject text && (is_of_one_pin text.timing_type || text.related.has_undriven)

abbrev pub left_out_under : Subject → GroupText → Bool
left_out_under subject text =
    not (used_under subject text)
    || (not (is_of_one_pin text.timing_type) && (text.related.is_empty || text.related.has_driven))

abbrev pub made_under : Subject → GroupText → Bool
made_under subject text = read_under subject text && may_hold text.when.condition

-- Whether a related pin names nothing, and whether the condition names the pin or a related one.
abbrev pub unknown_under : Subject → GroupText → Bool
unknown_under subject text = used_under subject text && (not (is_of_one_pin text.timing_type) && text.related.has_unknown)

abbrev pub names_pin : List ℕ → ℕ → Bool
names_pin named pin = list_any (λ n. pin == n) named

abbrev pub own_under : Subject → GroupText → Bool
own_under subject text =
    names_pin text.when.named subject.place || (not (is_of_one_pin text.timing_type) && text.names_related)

-- What is noted in the condition and the tables of a group that is read, and in any group.
abbrev pub read_offsets : Subject → GroupText → Offsets
read_offsets subject text = record {
  malformed = where_so (is_malformed text.when.condition) text.when.at;
  unknown_name = where_so (has_unknown text.when.condition) text.when.at;
  own_condition = where_so (own_under subject text) text.when.at;
  number = text.number_at;
  wide = where_so (nat_lt 10 (length text.when.named)) text.when.at;
}

abbrev pub offsets_under : Subject → GroupText → Offsets
offsets_under subject text =
    joined (record no_offsets { unknown_name = where_so (unknown_under subject text) text.related.at })
    (if read_under subject text then read_offsets subject text else no_offsets)

-- The input pins that the group relates a pin to.
abbrev pub inputs_under : Subject → GroupText → List ℕ
inputs_under subject text = if is_of_one_pin text.timing_type then subject.place ∷ [] else text.related.inputs

-- What was found so far, with what the group makes with a pin that it is related to, and with all of them.
abbrev pub with_made : Subject → GroupText → Found → ℕ → Found
with_made subject text found related =
    with_arcs text.at
    (with_checks text.at found (checks_with text.timing_type subject.place related text.rise text.fall
    (tree_of text.when.condition)))
    (arcs_with text.timing_type subject.place related text.rise text.fall (tree_of text.when.condition))

abbrev pub with_all_made : Subject → GroupText → Found → List ℕ → Found
with_all_made subject text found inputs = fold (with_made subject text) found inputs

-- with what is noted in it
abbrev pub with_text_noted : Subject → Found → GroupText → Found
with_text_noted subject found text =
    let joint : Found = record found { offsets = joined found.offsets (offsets_under subject text) } in
    if left_out_under subject text then with_left_out joint text.place else joint

-- with the group, and with several
abbrev pub with_text : Subject → Found → GroupText → Found
with_text subject found text =
    if made_under subject text
    then with_all_made subject text (with_text_noted subject found text) (inputs_under subject text)
    else with_text_noted subject found text

abbrev pub with_texts : Subject → Found → List GroupText → Found
with_texts subject found texts = fold (with_text subject) found texts

-- Whether nothing that a group of this type makes is held any more.
abbrev pub checks_full : Found → Bool
checks_full found = not (nat_lt (length found.checks) found.room.checks || nat_lt (length found.check_at) found.room.checks)

abbrev pub arcs_full : Found → Bool
arcs_full found =
    length found.arcs == 0 && not (nat_lt (length found.arcs) found.room.arcs || nat_lt (length found.arc_at) found.room.arcs)

abbrev pub is_full : Found → TimingType → Bool
is_full found Delay = arcs_full found
is_full found (Setup edge) = checks_full found
is_full found (Hold edge) = checks_full found
is_full found (Recovery edge) = checks_full found
is_full found (Removal edge) = checks_full found
is_full found Width = checks_full found
is_full found Period = checks_full found
is_full found Other = checks_full found
