-- What the texts of timing groups give under a pin is what the groups give.
use Rattle.std.proofs.Common.{◌≡◌, ℕ, ◌+◌, Bool, true, false, not, ◌&&◌, ◌||◌, ◌==◌, List, [], ◌∷◌, ◌++◌, length, refl, sym, ap}
use Rattle.std.proofs.Common.{◌∙◌}
use Rattle.std.specs.Prelude.{Option, Some, None, Result, Ok, Err, codes, fold, nat_lt, if◌then◌else◌}
use Rattle.std.specs.Option.{option_map, option_map_or}
use Rattle.std.specs.List.{list_any, filter_map}
use Rattle.std.proofs.Math.Bool.{or_self_left as or-same}
use Rattle.bool_functions.specs.declared.tree.Node.{Node}
use Rattle.bool_functions.specs.declared.faults.FunctionFault.{FunctionFault}
use Rattle.bool_functions.specs.declared.faults.FunctionFault.TheVariants as function_fault
use Rattle.bool_functions.specs.FunctionText.{reading_of}
use Rattle.liberty_groups.specs.declared.tree.Item.{Item, out-Item}
use Rattle.liberty_groups.specs.declared.tree.Group.{Group}
use Rattle.cell_machine.specs.declared.checks.CheckKind.{CheckKind}
use Rattle.cell_machine.specs.declared.checks.CheckKind.TheVariants as kind
use Rattle.cell_machine.specs.declared.checks.Edge.{Edge}
use Rattle.cell_machine.specs.declared.checks.Edge.TheVariants.{Any, Rise, Fall}
use Rattle.cell_machine.specs.CellRules.{is_input_pin}
use Rattle.cell_machine.specs.Names.{has}
use Rattle.timing_arcs.specs.declared.fault.TimingFault.{TimingFault}
use Rattle.timing_arcs.specs.declared.found.Found.{Found}
use Rattle.timing_arcs.specs.declared.offsets.Offsets.{Offsets}
use Rattle.timing_arcs.specs.declared.condition.Condition.{Condition}
use Rattle.timing_arcs.specs.declared.condition.Condition.TheVariants.{Always}
use Rattle.timing_arcs.specs.declared.group_text.GroupText.{GroupText}
use Rattle.timing_arcs.specs.declared.subject.Subject.{Subject}
use Rattle.timing_arcs.specs.declared.subject.PinTiming.{PinTiming}
use Rattle.timing_arcs.specs.declared.subject.Room.{Room}
use Rattle.timing_arcs.specs.declared.timing_texts.TimingTexts.{TimingTexts}
use Rattle.timing_arcs.specs.declared.timing_type.TimingType.{TimingType}
use Rattle.timing_arcs.specs.declared.timing_type.TimingType.TheVariants.{Width, Period}
use Rattle.liberty_groups.specs.Attributes.{Attribute, attribute_of, group_named, place_of}
use Rattle.cell_machine.specs.Delay.{lesser, least}
use Rattle.timing_arcs.specs.TimingTypes.{type_of, rise_table, fall_table, is_used}
use Rattle.timing_arcs.specs.RelatedPins.{related_by, related_of, inputs_of, is_driven, is_unknown, input_of, is_read}
use Rattle.timing_arcs.specs.RelatedPins.{is_left_out}
use Rattle.timing_arcs.specs.Conditions.{condition_as, condition_in, condition_of, tree_of, may_hold, is_malformed, has_unknown}
use Rattle.timing_arcs.specs.Conditions.{named_pins, names_one, is_wide}
use Rattle.timing_arcs.specs.Making.{checks_with, arcs_with, is_made, rise_of, fall_of}
use Rattle.timing_arcs.specs.Readings.{where_so, joined, no_offsets, offsets_in}
use Rattle.timing_arcs.specs.Tables.{bad_numbers_at}
use Rattle.timing_arcs.specs.Timing.{unknown_related_in, unknown_condition_in, limit_attribute, reading_answer, held_answer}
use Rattle.timing_arcs.specs.Adding.{with_checks, with_arcs, with_left_out, with_inputs, with_noted, with_group, with_optional}
use Rattle.timing_arcs.specs.Adding.{with_items, with_attribute, nothing_found, found_of, answer_found}
use Rattle.timing_arcs.specs.GroupTexts.{named_related, related_text, when_as, when_text, group_text, optional_text, texts_from}
use Rattle.timing_arcs.specs.GroupTexts.{cell_of, pin_texts, is_of_one_pin, used_under, read_under, left_out_under, made_under}
use Rattle.timing_arcs.specs.GroupTexts.{unknown_under, names_pin, own_under, read_offsets, offsets_under, inputs_under}
use Rattle.timing_arcs.specs.GroupTexts.{with_all_made, with_text_noted, with_text, with_texts}
use Rattle.timing_arcs.specs.PinLimits.{limit_as, pin_limit, pin_limits, limit_under, with_pin_limit, with_pin_limits}
use Rattle.timing_arcs.specs.TimingTexts.{AreTexts}
use Rattle.timing_arcs.proofs.OffsetLemmas.{least_if}
use Rattle.cell_machine.proofs.LeastLemmas.{least_append}
use Rattle.timing_arcs.proofs.FoundLemmas.{answer-is}

-- The texts do not tell which pin of the cell it is.

reading_anywhere : (subject : Subject) (reading : Result Node FunctionFault)
    → condition_as (cell_of subject) reading ≡ condition_as subject reading
reading_anywhere subject (Ok f) = refl
reading_anywhere subject (Err function_fault.TooLong) = refl
reading_anywhere subject (Err (function_fault.Malformed at)) = refl
reading_anywhere subject (Err (function_fault.UnknownName at)) = refl
reading_anywhere subject (Err function_fault.Memory) = refl

condition_anywhere : (subject : Subject) (text : List ℕ) → condition_in (cell_of subject) text ≡ condition_in subject text
unfolding condition_in
condition_anywhere subject text = reading_anywhere subject (reading_of subject.names text)

when_anywhere : (subject : Subject) (o : Option Attribute) → when_as (cell_of subject) o ≡ when_as subject o
when_anywhere subject None = refl
when_anywhere subject (Some attribute) = λ i. record {
  at = Some (attribute.at);
  condition = condition_anywhere subject attribute.text i;
  named = named_pins (condition_anywhere subject attribute.text i);
}

text_anywhere : (subject : Subject) (place : ℕ) (group : Group)
    → group_text (cell_of subject) place group ≡ group_text subject place group
text_anywhere subject place group =
    let when = when_anywhere subject (attribute_of group (codes "when")) in
    λ i. record (group_text subject place group) {
      when = when i;
      names_related = list_any (has ((related_text subject group).inputs)) ((when i).named);
    }

optional_anywhere : (subject : Subject) (place : ℕ) (o : Option Group)
    → optional_text (cell_of subject) place o ≡ optional_text subject place o
optional_anywhere subject place None = refl
optional_anywhere subject place (Some group) = ap (λ text. text ∷ []) (text_anywhere subject place group)

texts_anywhere : (subject : Subject) (place : ℕ) (items : List Item)
    → texts_from (cell_of subject) place items ≡ texts_from subject place items
texts_anywhere subject place [] = refl
texts_anywhere subject place (item ∷ items) =
    let o : Option Group = group_named (codes "timing") (out-Item item) in
    ap (λ texts. texts ++ texts_from (cell_of subject) (place + 1) items) (optional_anywhere subject place o)
    ∙ ap (λ texts. optional_text subject place o ++ texts) (texts_anywhere subject (place + 1) items)

pub texts_of_pin : (subject : Subject) (pin : Group) → pin_texts subject pin ≡ texts_from subject 0 pin.items
texts_of_pin subject pin = texts_anywhere subject 0 pin.items

-- The condition is that of `when`.

when_condition : (subject : Subject) (o : Option Attribute)
    → (when_as subject o).condition ≡ option_map_or (λ (attribute : Attribute). condition_in subject attribute.text) o Always
when_condition subject None = refl
when_condition subject (Some attribute) = refl

condition_same : (subject : Subject) (group : Group) → (when_text subject group).condition ≡ condition_of subject group
unfolding condition_of
condition_same subject group = when_condition subject (attribute_of group (codes "when"))

when_named : (subject : Subject) (o : Option Attribute) → (when_as subject o).named ≡ named_pins ((when_as subject o).condition)
when_named subject None = refl
when_named subject (Some attribute) = refl

named_same : (subject : Subject) (group : Group) → (when_text subject group).named ≡ named_pins (condition_of subject group)
named_same subject group = when_named subject (attribute_of group (codes "when")) ∙ ap named_pins (condition_same subject group)

when_at : (subject : Subject) (o : Option Attribute) → (when_as subject o).at ≡ least (place_of o)
when_at subject None = refl
when_at subject (Some attribute) = refl

-- What a group is related to, by its type.

undriven : (subject : Subject) (group : Group) (t : TimingType) →
    list_any (λ related. not (is_driven related))
    (related_by subject group t) ≡ (is_of_one_pin t
    || list_any (λ related. not (is_driven related)) (named_related subject group))
undriven subject group Width = refl
undriven subject group Period = refl
undriven subject group _ = refl

left : (subject : Subject) (group : Group) (t : TimingType) →
    (length (related_by subject group t) == 0 || list_any is_driven (related_by subject group t)) ≡ (not (is_of_one_pin t)
    && (length (named_related subject group) == 0 || list_any is_driven (named_related subject group)))
left subject group Width = refl
left subject group Period = refl
left subject group _ = refl

unknown : (subject : Subject) (group : Group) (t : TimingType) →
    list_any is_unknown (related_by subject group t) ≡ (not (is_of_one_pin t)
    && list_any is_unknown (named_related subject group))
unknown subject group Width = refl
unknown subject group Period = refl
unknown subject group _ = refl

inputs : (subject : Subject) (group : Group) (t : TimingType) →
    filter_map input_of (related_by subject group t) ≡ (if is_of_one_pin t then subject.place ∷ []
    else filter_map input_of (named_related subject group))
inputs subject group Width = refl
inputs subject group Period = refl
inputs subject group _ = refl

used_same : (subject : Subject) (place : ℕ) (group : Group)
    → used_under subject (group_text subject place group) ≡ is_used subject group
unfolding is_used
used_same subject place group = refl

read_same : (subject : Subject) (place : ℕ) (group : Group)
    → read_under subject (group_text subject place group) ≡ is_read subject group
unfolding related_of
read_same subject place group =
    ap (λ b. b && (is_of_one_pin (type_of group) || list_any (λ related. not (is_driven related)) (named_related subject group)))
    (used_same subject place group)
    ∙ ap (λ b. is_used subject group && b) (sym (undriven subject group (type_of group)))

left_out_same : (subject : Subject) (place : ℕ) (group : Group)
    → left_out_under subject (group_text subject place group) ≡ is_left_out subject group
unfolding related_of
left_out_same subject place group =
    ap (λ b. not b || (not (is_of_one_pin (type_of group))
    && (length (named_related subject group) == 0 || list_any is_driven (named_related subject group))))
    (used_same subject place group)
    ∙ ap (λ b. not (is_used subject group) || b) (sym (left subject group (type_of group)))

unknown_same : (subject : Subject) (place : ℕ) (group : Group)
    → unknown_under subject (group_text subject place group) ≡ (is_used subject group
    && list_any is_unknown (related_of subject group))
unfolding related_of
unknown_same subject place group =
    ap (λ b. b && (not (is_of_one_pin (type_of group)) && list_any is_unknown (named_related subject group)))
    (used_same subject place group)
    ∙ ap (λ b. is_used subject group && b) (sym (unknown subject group (type_of group)))

inputs_same : (subject : Subject) (place : ℕ) (group : Group)
    → inputs_under subject (group_text subject place group) ≡ inputs_of subject group
unfolding related_of
inputs_same subject place group = sym (inputs subject group (type_of group))

made_same : (subject : Subject) (place : ℕ) (group : Group)
    → made_under subject (group_text subject place group) ≡ is_made subject group
made_same subject place group =
    ap (λ b. b && may_hold ((when_text subject group).condition)) (read_same subject place group)
    ∙ ap (λ (c : Condition). is_read subject group && may_hold c) (condition_same subject group)

-- Whether a condition names the pin or a related one.

any-or : {A : Type 0} (f g : A → Bool) (xs : List A) → list_any (λ x. f x || g x) xs ≡ (list_any f xs || list_any g xs)
any-or f g [] = refl
any-or f g (x ∷ xs) = ap (λ b. (f x || g x) || b) (any-or f g xs) ∙ regroup (f x) (g x) (list_any f xs) (list_any g xs)
  where
    regroup : (a b c d : Bool) → ((a || b) || (c || d)) ≡ ((a || c) || (b || d))
    regroup true b c d = refl
    regroup false true true d = refl
    regroup false true false d = refl
    regroup false false c d = refl

one_more : (pin : ℕ) (inputs named : List ℕ)
    → list_any (has (pin ∷ inputs)) named ≡ (names_pin named pin || list_any (has inputs) named)
one_more pin inputs named = any-or (λ n. pin == n) (has inputs) named

none_named : (named : List ℕ) → list_any (has []) named ≡ false
none_named [] = refl
none_named (n ∷ named) = none_named named

own : (pin : ℕ) (one : Bool) (inputs named : List ℕ) →
    list_any (has (pin ∷ (if one then pin ∷ [] else inputs)))
    named ≡ (names_pin named pin || (not one && list_any (has inputs) named))
own pin true inputs named =
    one_more pin (pin ∷ []) named
    ∙ ap (λ b. names_pin named pin || b) (one_more pin [] named)
    ∙ or-same (names_pin named pin) (list_any (has []) named)
    ∙ ap (λ b. names_pin named pin || b) (none_named named)
own pin false inputs named = one_more pin inputs named

own_same : (subject : Subject) (place : ℕ) (group : Group)
    → own_under subject (group_text subject place group) ≡ names_one (subject.place ∷ inputs_of subject group)
    (condition_of subject group)
own_same subject place group =
    sym (own subject.place (is_of_one_pin (type_of group)) ((related_text subject group).inputs)
    ((when_text subject group).named))
    ∙ ap (λ (named : List ℕ). list_any (has (subject.place ∷ inputs_under subject (group_text subject place group))) named)
    (named_same subject group)
    ∙ ap (λ (pins : List ℕ). names_one (subject.place ∷ pins) (condition_of subject group)) (inputs_same subject place group)

-- What is noted.

-- an offset that is noted where a group is read and something is so
noted : (read so : Bool) (xs : List ℕ) → least (if read && so then xs else []) ≡ (if read then where_so so (least xs) else None)
noted true so xs = least_if so xs
noted false so xs = refl

condition_noted : (subject : Subject) (group : Group) (test : Condition → Bool) →
    (if is_read subject group then where_so (test ((when_text subject group).condition)) ((when_text subject group).at) else None)
    ≡ least (if is_read subject group && test (condition_of subject group) then place_of (attribute_of group (codes "when"))
    else [])
condition_noted subject group test =
    ap (λ (c : Condition). if is_read subject group then where_so (test c) ((when_text subject group).at) else None)
    (condition_same subject group)
    ∙ ap (λ (at : Option ℕ). if is_read subject group then where_so (test (condition_of subject group)) at else None)
    (when_at subject (attribute_of group (codes "when")))
    ∙ sym (noted (is_read subject group) (test (condition_of subject group)) (place_of (attribute_of group (codes "when"))))

wide_noted : (subject : Subject) (group : Group) →
    (if is_read subject group then where_so (nat_lt 10 (length ((when_text subject group).named))) ((when_text subject group).at)
    else None)
    ≡ least (if is_read subject group && is_wide (condition_of subject group) then place_of (attribute_of group (codes "when"))
    else [])
wide_noted subject group =
    ap (λ (named : List ℕ). if is_read subject group then where_so (nat_lt 10 (length named)) ((when_text subject group).at)
    else None) (when_named subject (attribute_of group (codes "when")))
    ∙ condition_noted subject group is_wide

own_noted : (subject : Subject) (place : ℕ) (group : Group) →
    (if is_read subject group then where_so (own_under subject (group_text subject place group)) ((when_text subject group).at)
    else None)
    ≡ least (if is_read subject group && names_one (subject.place ∷ inputs_of subject group) (condition_of subject group)
    then place_of (attribute_of group (codes "when")) else [])
own_noted subject place group =
    ap (λ b. if is_read subject group then where_so b ((when_text subject group).at) else None) (own_same subject place group)
    ∙ ap (λ (at : Option ℕ). if is_read subject group
    then where_so (names_one (subject.place ∷ inputs_of subject group) (condition_of subject group)) at else None)
    (when_at subject (attribute_of group (codes "when")))
    ∙ sym (noted (is_read subject group) (names_one (subject.place ∷ inputs_of subject group) (condition_of subject group))
    (place_of (attribute_of group (codes "when"))))

number_noted : (read : Bool) (xs ys : List ℕ)
    → (if read then lesser (least xs) (least ys) else None) ≡ least (if read then xs ++ ys else [])
number_noted true xs ys = sym (least_append xs ys)
number_noted false xs ys = refl

unknown_noted : (subject : Subject) (place : ℕ) (group : Group) →
    lesser (where_so (unknown_under subject (group_text subject place group)) ((related_text subject group).at))
    (if is_read subject group then where_so (has_unknown ((when_text subject group).condition)) ((when_text subject group).at)
    else None)
    ≡ least (unknown_related_in subject group ++ unknown_condition_in subject group)
unknown_noted subject place group =
    let at : List ℕ = place_of (attribute_of group (codes "related_pin")) in
    let names : Bool = is_used subject group && list_any is_unknown (related_of subject group) in
    ap (λ (b : Bool). lesser (where_so b (least at))
    (if is_read subject group then where_so (has_unknown ((when_text subject group).condition)) ((when_text subject group).at)
    else None)) (unknown_same subject place group)
    ∙ ap (lesser (where_so names (least at))) (condition_noted subject group has_unknown)
    ∙ ap (λ (o : Option ℕ). lesser o (least (unknown_condition_in subject group))) (sym (least_if names at))
    ∙ sym (least_append (unknown_related_in subject group) (unknown_condition_in subject group))

-- the offsets of a group that is read, or not
offsets_as : (read : Bool) (u m k o n w : Option ℕ) →
    joined (record no_offsets { unknown_name = u })
    (if read then record { malformed = m; unknown_name = k; own_condition = o; number = n; wide = w } else no_offsets)
    ≡ record {
      malformed = (if read then m else None);
      unknown_name = lesser u (if read then k else None);
      own_condition =
          (if read then o else None);
      number = (if read then n else None);
      wide = (if read then w else None);
    }
offsets_as true u m k o n w = refl
offsets_as false u m k o n w = refl

offsets_same : (subject : Subject) (place : ℕ) (group : Group)
    → offsets_under subject (group_text subject place group) ≡ offsets_in subject group
offsets_same subject place group =
    let text : GroupText = group_text subject place group in
    let related : Offsets = record no_offsets { unknown_name = where_so (unknown_under subject text) text.related.at } in
    let of_read : Offsets = read_offsets subject text in
    ap (λ b. joined related (if b then of_read else no_offsets)) (read_same subject place group)
    ∙ offsets_as (is_read subject group) related.unknown_name of_read.malformed of_read.unknown_name of_read.own_condition
    of_read.number of_read.wide
    ∙ (λ i. record {
      malformed = condition_noted subject group is_malformed i;
      unknown_name = unknown_noted subject place group i;
      own_condition = own_noted subject place group i;
      number =
          number_noted (is_read subject group) (bad_numbers_at subject.unit (rise_table (type_of group)) group)
          (bad_numbers_at subject.unit (fall_table (type_of group)) group) i;
      wide = wide_noted subject group i;
    })

-- What a group gives.

noted_same : (subject : Subject) (place : ℕ) (found : Found) (group : Group)
    → with_text_noted subject found (group_text subject place group) ≡ with_noted subject place found group
noted_same subject place found group =
    let text : GroupText = group_text subject place group in
    ap (λ (o : Offsets). if left_out_under subject text
    then with_left_out (record found { offsets = joined found.offsets o }) place
    else record found { offsets = joined found.offsets o }) (offsets_same subject place group)
    ∙ ap (λ b. if b then with_left_out (record found { offsets = joined found.offsets (offsets_in subject group) }) place
    else record found { offsets = joined found.offsets (offsets_in subject group) }) (left_out_same subject place group)

-- what a group makes under this condition
abbrev made_if : Subject → Group → Condition → Found → List ℕ → Found
made_if subject group c found inputs =
    fold (λ found related. with_arcs group.at
    (with_checks group.at found (checks_with (type_of group) subject.place related (rise_of subject group) (fall_of subject group)
    (tree_of c)))
    (arcs_with (type_of group) subject.place related (rise_of subject group) (fall_of subject group) (tree_of c))) found inputs

all_made_same : (subject : Subject) (place : ℕ) (found : Found) (group : Group) (inputs : List ℕ)
    → with_all_made subject (group_text subject place group) found inputs ≡ with_inputs subject group found inputs
all_made_same subject place found group inputs =
    ap (λ (c : Condition). made_if subject group c found inputs) (condition_same subject group)

pub with_its_text : (subject : Subject) (place : ℕ) (found : Found) (group : Group)
    → with_text subject found (group_text subject place group) ≡ with_group subject place found group
with_its_text subject place found group =
    let text : GroupText = group_text subject place group in
    ap (λ b. if b then with_all_made subject text (with_text_noted subject found text) (inputs_under subject text)
    else with_text_noted subject found text) (made_same subject place group)
    ∙ ap (λ (f : Found). if is_made subject group then with_all_made subject text f (inputs_under subject text) else f)
    (noted_same subject place found group)
    ∙ ap (λ (pins : List ℕ). if is_made subject group then with_all_made subject text (with_noted subject place found group) pins
    else with_noted subject place found group) (inputs_same subject place group)
    ∙ ap (λ (f : Found). if is_made subject group then f else with_noted subject place found group)
    (all_made_same subject place (with_noted subject place found group) group (inputs_of subject group))

-- What all groups give.

optional_same : (subject : Subject) (place : ℕ) (found : Found) (o : Option Group)
    → with_texts subject found (optional_text subject place o) ≡ with_optional subject place found o
optional_same subject place found None = refl
optional_same subject place found (Some group) = with_its_text subject place found group

one_by_one : (subject : Subject) (found : Found) (xs ys : List GroupText)
    → with_texts subject found (xs ++ ys) ≡ with_texts subject (with_texts subject found xs) ys
one_by_one subject found [] ys = refl
one_by_one subject found (x ∷ xs) ys = one_by_one subject (with_text subject found x) xs ys

items_same : (subject : Subject) (place : ℕ) (found : Found) (items : List Item)
    → with_texts subject found (texts_from subject place items) ≡ with_items subject place found items
items_same subject place found [] = refl
items_same subject place found (item ∷ items) =
    let o : Option Group = group_named (codes "timing") (out-Item item) in
    one_by_one subject found (optional_text subject place o) (texts_from subject (place + 1) items)
    ∙ ap (λ f. with_texts subject f (texts_from subject (place + 1) items)) (optional_same subject place found o)
    ∙ items_same subject (place + 1) (with_optional subject place found o) items

-- What the limits of a pin group give.

limit_choice : (subject : Subject) (k : CheckKind) (first second : Edge) (found : Found) (is_input : Bool) (o : Option Attribute)
    →
    with_pin_limit subject k first second found (if is_input then option_map (limit_as subject.unit) o else None) ≡ with_attribute
    subject k first second found (if is_input then o else None)
limit_choice subject k first second found true None = refl
limit_choice subject k first second found true (Some attribute) = refl
limit_choice subject k first second found false o = refl

limit_same : (subject : Subject) (pin : Group) (name : List ℕ) (k : CheckKind) (first second : Edge) (found : Found) →
    with_pin_limit subject k first second found (limit_under subject (pin_limit subject.unit pin name)) ≡ with_attribute subject k
    first second found (limit_attribute subject pin name)
limit_same subject pin name k first second found =
    limit_choice subject k first second found (is_input_pin subject.pins subject.place) (attribute_of pin name)

limits_same : (room : Room) (subject : Subject) (pin : Group)
    → with_pin_limits subject (with_items subject 0 (nothing_found room) pin.items) (pin_limits subject pin) ≡ found_of room
    subject pin
limits_same room subject pin =
    let all : Found = with_items subject 0 (nothing_found room) pin.items in
    let limits = pin_limits subject pin in
    ap (λ f. with_pin_limit subject kind.Period Any Any
    (with_pin_limit subject kind.Width Fall Rise f (limit_under subject limits.low)) (limit_under subject limits.period))
    (limit_same subject pin (codes "min_pulse_width_high") kind.Width Rise Fall all)
    ∙ ap (λ f. with_pin_limit subject kind.Period Any Any f (limit_under subject limits.period))
    (limit_same subject pin (codes "min_pulse_width_low") kind.Width Fall Rise _)
    ∙ limit_same subject pin (codes "min_period") kind.Period Any Any _

-- What is found of the groups and then of the limits answers for the pin.
pub answers : (room : Room) (subject : Subject) (pin : Group) (answer : Result PinTiming TimingFault) (none all found : Found) →
    none ≡ nothing_found room → all ≡ with_items subject 0 none pin.items
    → found ≡ with_pin_limits subject all (pin_limits subject pin) → answer ≡ answer_found found
    → answer ≡ held_answer room (reading_answer subject pin)
answers room subject pin answer none all found en ea ef e =
    e
    ∙ ap answer_found
    (ef
    ∙ ap (λ f. with_pin_limits subject f (pin_limits subject pin)) (ea ∙ ap (λ f. with_items subject 0 f pin.items) en)
    ∙ limits_same room subject pin)
    ∙ answer-is room subject pin

-- The same from the texts.
pub text_answers : (room : Room) (subject : Subject) (texts : TimingTexts) (answer : Result PinTiming TimingFault)
    (none all found : Found) → AreTexts subject texts →
    none ≡ nothing_found room → all ≡ with_texts subject none texts.groups → found ≡ with_pin_limits subject all texts.limits
    → answer ≡ answer_found found
    → answer ≡ held_answer room (reading_answer subject texts.pin.now)
text_answers room subject texts answer none all found h en ea ef e =
    answers room subject texts.pin.now answer none all found en
    (ea
    ∙ ap (with_texts subject none) (h.of_groups ∙ texts_of_pin subject texts.pin.now)
    ∙ items_same subject 0 none (texts.pin.now).items)
    (ef ∙ ap (with_pin_limits subject all) h.of_limits) e
