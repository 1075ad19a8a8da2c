-- What is held of the statements of a cell that were handed on one after another.
use Rattle.std.proofs.Common.{◌≡◌, ℕ, ◌+◌, ◌-◌, ◌^◌, ◌<◌, ◌≤◌, min, Bool, true, false, not, ◌&&◌, ◌||◌, List, [], ◌∷◌, ◌++◌}
use Rattle.std.proofs.Common.{length, map}
use Rattle.std.proofs.Common.{filter, refl, sym, ap, ◌∙◌, arith, append-nil, codes, if◌then◌else◌, Option, Some, None}
use Rattle.std.specs.Prelude.{flat_map, nat_le}
use Rattle.std.specs.List.{fold, cons_option}
use Rattle.std.proofs.Math.Bool.{and-false as no_and}
use Rattle.std.proofs.lemmas.Bool.{and_parts, and_from, or_parts, leb-true, leb-false, le-leb, lt-leb, not-true as not_true}
use Rattle.std.proofs.lemmas.List.{append_assoc, length-append, length-map}
use Rattle.liberty_groups.specs.declared.tree.Value.{Value}
use Rattle.liberty_groups.specs.declared.tree.Item.{Item, roll-Item, out-Item}
use Rattle.liberty_groups.specs.declared.tree.Item.TheOpen.{Item-F}
use Rattle.liberty_groups.specs.declared.tree.Item.TheOpen as layer
use Rattle.liberty_groups.specs.declared.tree.Item.TheVariants as made
use Rattle.liberty_groups.specs.declared.tree.Item.TheViews.{roll-out-Item, rolls-Simple, rolls-Complex, rolls-Inner}
use Rattle.liberty_groups.specs.declared.tree.Group.{Group}
use Rattle.timing_arcs.specs.declared.subject.Subject.{Subject}
use Rattle.timing_arcs.specs.Timing.{unknown_in, bad_numbers_in, bad_attribute, reading_answer}
use Rattle.cell_machine.specs.CellRules.{is_input_pin}
use Rattle.liberty_groups.specs.Attributes.{Attribute, attributes_named, last_or}
use Rattle.cell_attributes.specs.Groups.{is_pin, inner_of, inner_groups}
use Rattle.cell_attributes.specs.Pins.{owner_as, owners_in}
use Rattle.cell_reader.specs.declared.refusal.Refusal.{Refusal}
use Rattle.cell_reader.specs.PinTimings.{subject_at}
use Rattle.core_groups.specs.Outputs.{is_three_state}
use Rattle.core_groups.specs.CoreGroups.{core_pin}
use Rattle.core_groups.specs.DriverGroups.{driver_item}
use Rattle.cell_reader.specs.declared.refusal.Reason.TheVariants as reason
use Rattle.cell_reader.specs.Refusals.{met, first_refusal}
use Rattle.three_state_cells.specs.Refusals.{first_of_two, refusal_with, wrong_group as wrong_outputs}
use Rattle.three_state_cells.specs.Refusals.{wrong_delays as delays_told}
use Rattle.three_state_cells.specs.PinAttributes.{untimed}
use Rattle.three_state_cells.specs.Trimmed.{has_one, all_behind, is_trimmed, is_trimmed_item, is_timed, has_apart, has_apart_in}
use Rattle.three_state_cells.specs.Trimmed.{loses, keeps_order, keeps_order_in}
use Rattle.three_state_cells.specs.Trimmed.{all_keep_order, pins_in_item, trimmed_item, trimmed_items, owners_among, timing_told}
use Rattle.three_state_cells.specs.Trimmed.{wrong_pin, wrong_with, in_core}
use Rattle.three_state_cells.specs.Sinks.{nothing_trimmed, after_trimmed, wrong_group, wrong_item, wrong_delays, after_wrong}
use Rattle.three_state_cells.proofs.Groups.{no_more}
use Rattle.three_state_cells.proofs.Single.{timings_in, wrong_in, driver_items}
use Rattle.three_state_cells.proofs.Unused.{no_unknown_in, no_numbers_in, quiet_timings, quiet_drivers, no_attributes}
use Rattle.three_state_cells.proofs.Owners.{next_pins, several_stay}
use Rattle.three_state_cells.proofs.CoreOwners.{owners_as_core, core_untimed, core_names, no_output}
use Rattle.three_state_cells.specs.declared.trimmed_items.TrimmedItems.{TrimmedItems}
use Rattle.three_state_cells.specs.declared.wrong_timings.WrongTimings.{WrongTimings}

-- Whether a pin stands behind the limit is told by a count up to the limit.
capped : (pin : ℕ) → nat_le 64 (min pin 64) ≡ nat_le 64 pin
capped pin = by (nat_le 64 pin) refl
  where
    by : (b : Bool) → nat_le 64 pin ≡ b → nat_le 64 (min pin 64) ≡ b
    by true e = let h : 64 ≤ pin = leb-true 64 pin e in le-leb 64 (min pin 64) (omega arith)
    by false e = let h : pin < 64 = leb-false 64 pin e in lt-leb 64 (min pin 64) (omega arith)

is_trimmed_capped : (pin : ℕ) (group : Group) → is_trimmed (min pin 64) group ≡ is_trimmed pin group
is_trimmed_capped pin group = ap (λ b. b && (is_pin group && has_one group.arguments)) (capped pin)

item_capped : (pin : ℕ) (y : Item-F Item Group) → trimmed_item (min pin 64) y ≡ trimmed_item pin y
item_capped pin (layer.Simple name value at) = refl
item_capped pin (layer.Complex name arguments at) = refl
item_capped pin (layer.Inner group) = ap (λ b. made.Inner (if b then untimed group else group)) (is_trimmed_capped pin group)

is_item_capped : (pin : ℕ) (y : Item-F Item Group) → is_trimmed_item (min pin 64) y ≡ is_trimmed_item pin y
is_item_capped pin (layer.Simple name value at) = refl
is_item_capped pin (layer.Complex name arguments at) = refl
is_item_capped pin (layer.Inner group) = is_trimmed_capped pin group

order_capped : (pin : ℕ) (y : Item-F Item Group) → keeps_order_in (min pin 64) y ≡ keeps_order_in pin y
order_capped pin (layer.Simple name value at) = refl
order_capped pin (layer.Complex name arguments at) = refl
order_capped pin (layer.Inner group) = ap (λ b. not b || all_behind group.at group) (is_trimmed_capped pin group)

apart_capped : (pin : ℕ) (y : Item-F Item Group) → has_apart_in (min pin 64) y ≡ has_apart_in pin y
apart_capped pin (layer.Simple name value at) = refl
apart_capped pin (layer.Complex name arguments at) = refl
apart_capped pin (layer.Inner group) =
    ap (λ b. (b && is_timed group) || (is_three_state group && is_timed group)) (is_trimmed_capped pin group)

count_capped : (pin n : ℕ) → min (min pin 64 + n) 64 ≡ min (pin + n) 64
count_capped pin n = omega arith

abbrev no_attribute : Option Attribute
no_attribute = None

-- What is held with a count of all pins, after one more statement, and the same with the count up to the limit.
abbrev after : TrimmedItems → Item → TrimmedItems
after one item = record {
  items = one.items ++ trimmed_item one.pins (out-Item item) ∷ [];
  pins = one.pins + pins_in_item (out-Item item);
  is_whole = one.is_whole && not (is_trimmed_item one.pins (out-Item item));
  is_ordered = one.is_ordered && keeps_order_in one.pins (out-Item item);
  has_apart = one.has_apart || has_apart_in one.pins (out-Item item);
}

abbrev limited : TrimmedItems → TrimmedItems
limited one = record one { pins = min one.pins 64 }

one_more : (one : TrimmedItems) (item : Item) → after_trimmed (limited one) item ≡ limited (after one item)
one_more one item =
    λ i. record {
      items = one.items ++ item_capped one.pins (out-Item item) i ∷ [];
      pins = count_capped one.pins (pins_in_item (out-Item item)) i;
      is_whole = one.is_whole && not (is_item_capped one.pins (out-Item item) i);
      is_ordered = one.is_ordered && order_capped one.pins (out-Item item) i;
      has_apart = one.has_apart || apart_capped one.pins (out-Item item) i;
    }

all_limited : (one : TrimmedItems) (items : List Item) → fold after_trimmed (limited one) items ≡ limited (fold after one items)
all_limited one [] = refl
all_limited one (item ∷ items) =
    ap (λ held. fold after_trimmed held items) (one_more one item) ∙ all_limited (after one item) items

trimmed_from : (one : TrimmedItems) (items : List Item) → (fold after one items).items ≡ one.items ++ trimmed_items one.pins items
trimmed_from one [] = sym (append-nil one.items)
trimmed_from one (item ∷ items) =
    trimmed_from (after one item) items
    ∙ append_assoc one.items (trimmed_item one.pins (out-Item item) ∷ [])
    (trimmed_items (one.pins + pins_in_item (out-Item item)) items)

pub all_trimmed : (items : List Item) → (fold after_trimmed nothing_trimmed items).items ≡ trimmed_items 0 items
all_trimmed items =
    ap (λ (held : TrimmedItems). held.items) (all_limited nothing_trimmed items) ∙ trimmed_from nothing_trimmed items

-- Where nothing is lost, all stays.
stays_as : (pin : ℕ) (y : Item-F Item Group) → is_trimmed_item pin y ≡ false → trimmed_item pin y ≡ roll-Item y
stays_as pin (layer.Simple name value at) e = sym (rolls-Simple name value at)
stays_as pin (layer.Complex name arguments at) e = sym (rolls-Complex name arguments at)
stays_as pin (layer.Inner group) e = ap (λ b. made.Inner (if b then untimed group else group)) e ∙ sym (rolls-Inner group)

whole_from : (one : TrimmedItems) (items : List Item) → (fold after one items).is_whole ≡ true
    → (one.is_whole ≡ true) × (trimmed_items one.pins items ≡ items)
whole_from one [] h = (h, refl)
whole_from one (item ∷ items) h =
    let rest = whole_from (after one item) items h in
    let parts = and_parts one.is_whole (not (is_trimmed_item one.pins (out-Item item))) rest.0 in
    let stays : trimmed_item one.pins (out-Item item) ≡ item =
    stays_as one.pins (out-Item item) (not_true (is_trimmed_item one.pins (out-Item item)) parts.1) ∙ roll-out-Item item in
    (parts.0, λ i. stays i ∷ rest.1 i)

pub all_whole : (items : List Item) → (fold after_trimmed nothing_trimmed items).is_whole ≡ true → trimmed_items 0 items ≡ items
all_whole items h =
    (whole_from nothing_trimmed items
    (sym (ap (λ (held : TrimmedItems). held.is_whole) (all_limited nothing_trimmed items)) ∙ h)).1

-- What is wrong in the timing that the pins of a core lost, and in the delays of its three-state outputs.
pub first_alone : (found : Option Refusal) → first_of_two found None ≡ found
first_alone None = refl
first_alone (Some told) = refl

never_wrong : (s : Subject) (group : Group) → has_one group.arguments ≡ false → (pin : ℕ) → wrong_pin s pin group ≡ None
never_wrong s group e pin =
    ap (λ b. if b && is_timed group then timing_told (reading_answer (subject_at s pin) group) else None)
    (several_stay group e pin)

several_wrong : (s : Subject) (group : Group) → has_one group.arguments ≡ false → (found : Option Refusal) (pin : ℕ)
    (values : List Value) (owners : List Group)
    → wrong_with s found pin (map (owner_as group) values ++ owners) ≡ wrong_with s found (pin + length values) owners
several_wrong s group e found pin [] owners = ap (λ p. wrong_with s found p owners) (sym (no_more pin))
several_wrong s group e found pin (value ∷ values) owners =
    ap (λ wrong. wrong_with s (first_of_two found wrong) (pin + 1) (map (owner_as group) values ++ owners))
    (never_wrong s group e pin)
    ∙ (ap (λ f. wrong_with s f (pin + 1) (map (owner_as group) values ++ owners)) (first_alone found)
    ∙ (several_wrong s group e found (pin + 1) values owners
    ∙ ap (λ p. wrong_with s found p owners) (next_pins pin value values)))

wrong_of_group : (s : Subject) (group : Group) (found : Option Refusal) (pin : ℕ) (values : List Value) (owners : List Group)
    → group.arguments ≡ values
    → wrong_with s found pin (map (owner_as group) values ++ owners)
    ≡ wrong_with s (first_of_two found (wrong_pin s pin group)) (pin + length values) owners
wrong_of_group s group found pin (value ∷ []) owners e = refl
wrong_of_group s group found pin [] owners e =
    several_wrong s group (ap has_one e) found pin [] owners
    ∙ ap (λ f. wrong_with s f (pin + 0) owners)
    (sym (ap (first_of_two found) (never_wrong s group (ap has_one e) pin) ∙ first_alone found))
wrong_of_group s group found pin (value ∷ other ∷ more) owners e =
    several_wrong s group (ap has_one e) found pin (value ∷ other ∷ more) owners
    ∙ ap (λ f. wrong_with s f (pin + length (value ∷ other ∷ more)) owners)
    (sym (ap (first_of_two found) (never_wrong s group (ap has_one e) pin) ∙ first_alone found))

abbrev state : Subject → Option Refusal → Option Refusal → ℕ → WrongTimings
state s found delays pin = record { subject = subject_at s pin; found = found; delays = delays }

abbrev groups_owners : List Group → List Group
groups_owners groups = flat_map owners_in (filter is_pin groups)

fits : (n m : ℕ) → n + m < 2 ^ 64 → min n (2 ^ 64 - 1) ≡ n
fits n m h = omega arith

-- a group of three-state outputs has no timing in the core
wrong_in_core : (s : Subject) (pin : ℕ) (group : Group) → wrong_pin s pin (in_core group) ≡ wrong_group (subject_at s pin) group
wrong_in_core s pin group = by (is_three_state group)
  where
    by : (b : Bool) → wrong_pin s pin (if b then core_pin group else group)
        ≡ (if b then None else wrong_pin s pin group)
    by true =
        ap (λ b. if b then timing_told (reading_answer (subject_at s pin) (core_pin group)) else None)
        (ap (λ b. is_trimmed pin (core_pin group) && b) (core_untimed group) ∙ no_and (is_trimmed pin (core_pin group)))
    by false = refl

-- no pin, no timing
no_pin : (pin : ℕ) (group : Group) → is_pin group ≡ false → is_trimmed pin group ≡ false
no_pin pin group e = ap (λ b. nat_le 64 pin && (b && has_one group.arguments)) e ∙ no_and (nat_le 64 pin)

not_in_core : (s : Subject) (pin : ℕ) (group : Group) → is_trimmed pin group ≡ false → wrong_group (subject_at s pin) group ≡ None
not_in_core s pin group e = by (is_three_state group)
  where
    by : (b : Bool) → (if b then None else wrong_pin s pin group) ≡ None
    by true = refl
    by false = ap (λ b. if b && is_timed group then timing_told (reading_answer (subject_at s pin) group) else None) e

-- one more statement
told_of : (s : Subject) (found : Option Refusal) (pin : ℕ) (y : Item-F Item Group) (groups : List Group)
    → wrong_with s found pin (map in_core (groups_owners (cons_option (inner_of y) groups)))
    ≡ wrong_with s (first_of_two found (wrong_item (subject_at s pin) y)) (pin + pins_in_item y)
    (map in_core (groups_owners groups))
told_of s found pin (layer.Simple name value at) groups =
    λ i. wrong_with s (sym (first_alone found) i) (sym (no_more pin) i) (map in_core (groups_owners groups))
told_of s found pin (layer.Complex name arguments at) groups =
    λ i. wrong_with s (sym (first_alone found) i) (sym (no_more pin) i) (map in_core (groups_owners groups))
told_of s found pin (layer.Inner group) groups = by (is_pin group) refl
  where
    by : (b : Bool) → is_pin group ≡ b
        → wrong_with s found pin
        (map in_core (flat_map owners_in (if b then group ∷ filter is_pin groups else filter is_pin groups)))
        ≡ wrong_with s (first_of_two found (wrong_group (subject_at s pin) group))
        (pin + (if b then length group.arguments else 0)) (map in_core (groups_owners groups))
    by true e =
        ap (wrong_with s found pin) (owners_as_core group group.arguments (groups_owners groups))
        ∙ (wrong_of_group s (in_core group) found pin group.arguments (map in_core (groups_owners groups)) (core_names group)
        ∙ ap (λ wrong. wrong_with s (first_of_two found wrong) (pin + length group.arguments) (map in_core (groups_owners groups)))
        (wrong_in_core s pin group))
    by false e =
        let none : wrong_group (subject_at s pin) group ≡ None = not_in_core s pin group (no_pin pin group e) in
        λ i. wrong_with s (sym (ap (first_of_two found) none ∙ first_alone found) i) (sym (no_more pin) i)
        (map in_core (groups_owners groups))

delays_of : (s : Subject) (found : Option Refusal) (pin : ℕ) (y : Item-F Item Group) (groups : List Group)
    → refusal_with s found pin (filter is_pin (cons_option (inner_of y) groups))
    ≡ refusal_with s (first_of_two found (wrong_delays (subject_at s pin) y)) (pin + pins_in_item y) (filter is_pin groups)
delays_of s found pin (layer.Simple name value at) groups =
    λ i. refusal_with s (sym (first_alone found) i) (sym (no_more pin) i) (filter is_pin groups)
delays_of s found pin (layer.Complex name arguments at) groups =
    λ i. refusal_with s (sym (first_alone found) i) (sym (no_more pin) i) (filter is_pin groups)
delays_of s found pin (layer.Inner group) groups = by (is_pin group) refl
  where
    by : (b : Bool) → is_pin group ≡ b
        → refusal_with s found pin (if b then group ∷ filter is_pin groups else filter is_pin groups)
        ≡ refusal_with s (first_of_two found (wrong_outputs (subject_at s pin) group))
        (pin + (if b then length group.arguments else 0)) (filter is_pin groups)
    by true e = refl
    by false e =
        let none : wrong_outputs (subject_at s pin) group ≡ None =
        ap (λ b. if b then delays_told (subject_at s pin) group else None) (no_output group e) in
        λ i. refusal_with s (sym (ap (first_of_two found) none ∙ first_alone found) i) (sym (no_more pin) i)
        (filter is_pin groups)

step : (pin : ℕ) (y : Item-F Item Group) (groups : List Group)
    → pin + length (groups_owners (cons_option (inner_of y) groups)) < 2 ^ 64
    → (min (pin + pins_in_item y) (2 ^ 64 - 1) ≡ pin + pins_in_item y)
    × ((pin + pins_in_item y) + length (groups_owners groups) < 2 ^ 64)
step pin (layer.Simple name value at) groups h =
    let few : (pin + 0) + length (groups_owners groups) < 2 ^ 64 = omega arith in
    (fits (pin + 0) (length (groups_owners groups)) few, few)
step pin (layer.Complex name arguments at) groups h =
    let few : (pin + 0) + length (groups_owners groups) < 2 ^ 64 = omega arith in
    (fits (pin + 0) (length (groups_owners groups)) few, few)
step pin (layer.Inner group) groups h = by (is_pin group) h
  where
    by : (b : Bool)
        → pin + length (flat_map owners_in (if b then group ∷ filter is_pin groups else filter is_pin groups)) < 2 ^ 64
        → (min (pin + (if b then length group.arguments else 0)) (2 ^ 64 - 1) ≡ pin + (if b then length group.arguments else 0))
        × ((pin + (if b then length group.arguments else 0)) + length (groups_owners groups) < 2 ^ 64)
    by true h =
        let all : length (owners_in group ++ groups_owners groups) ≡ length group.arguments + length (groups_owners groups) =
        length-append (owners_in group) (groups_owners groups)
        ∙ ap (λ n. n + length (groups_owners groups)) (length-map group.arguments (owner_as group)) in
        let few : (pin + length group.arguments) + length (groups_owners groups) < 2 ^ 64 = omega (arith, all) in
        (fits (pin + length group.arguments) (length (groups_owners groups)) few, few)
    by false h =
        let few : (pin + 0) + length (groups_owners groups) < 2 ^ 64 = omega arith in
        (fits (pin + 0) (length (groups_owners groups)) few, few)

wrong_from : (s : Subject) (found delays : Option Refusal) (pin : ℕ) (items : List Item)
    → pin + length (owners_among items) < 2 ^ 64
    → ((fold after_wrong (state s found delays pin) items).found ≡ wrong_with s found pin (map in_core (owners_among items)))
    × ((fold after_wrong (state s found delays pin) items).delays ≡ refusal_with s delays pin (filter is_pin (inner_groups items)))
wrong_from s found delays pin [] h = (refl, refl)
wrong_from s found delays pin (item ∷ items) h =
    let here = step pin (out-Item item) (inner_groups items) h in
    let wrong : Option Refusal = first_of_two found (wrong_item (subject_at s pin) (out-Item item)) in
    let more : Option Refusal = first_of_two delays (wrong_delays (subject_at s pin) (out-Item item)) in
    let rest = wrong_from s wrong more (pin + pins_in_item (out-Item item)) items here.1 in (
      ap (λ n. (fold after_wrong (state s wrong more n) items).found) here.0
          ∙ (rest.0 ∙ sym (told_of s found pin (out-Item item) (inner_groups items))),
      ap (λ n. (fold after_wrong (state s wrong more n) items).delays) here.0
          ∙ (rest.1 ∙ sym (delays_of s delays pin (out-Item item) (inner_groups items))),
    )

pub all_wrong : (s : Subject) (items : List Item) → s.place ≡ 0 → length (owners_among items) < 2 ^ 64
    → ((fold after_wrong (record { subject = s; found = None; delays = None }) items).found
    ≡ wrong_with s None 0 (map in_core (owners_among items)))
    × ((fold after_wrong (record { subject = s; found = None; delays = None }) items).delays
    ≡ refusal_with s None 0 (filter is_pin (inner_groups items)))
all_wrong s items e h =
    let told = wrong_from s None None 0 items (omega arith) in (
      ap (λ n. (fold after_wrong (state s None None n) items).found) e ∙ told.0,
      ap (λ n. (fold after_wrong (state s None None n) items).delays) e ∙ told.1,
    )

-- The pins of which none stands out of order.
several_ordered : (group : Group) → has_one group.arguments ≡ false → (pin : ℕ) (values : List Value) (owners : List Group)
    → all_keep_order (pin + length values) owners ≡ true → all_keep_order pin (map (owner_as group) values ++ owners) ≡ true
several_ordered group e pin [] owners h = ap (λ p. all_keep_order p owners) (sym (no_more pin)) ∙ h
several_ordered group e pin (value ∷ values) owners h =
    and_from (keeps_order pin group) (all_keep_order (pin + 1) (map (owner_as group) values ++ owners))
    (ap (λ b. not b || all_behind group.at group) (several_stay group e pin))
    (several_ordered group e (pin + 1) values owners (ap (λ p. all_keep_order p owners) (next_pins pin value values) ∙ h))

group_ordered : (pin : ℕ) (group : Group) (values : List Value) (owners : List Group) → group.arguments ≡ values
    → keeps_order pin group ≡ true → all_keep_order (pin + length values) owners ≡ true
    → all_keep_order pin (map (owner_as group) values ++ owners) ≡ true
group_ordered pin group (value ∷ []) owners e k h = and_from (keeps_order pin group) (all_keep_order (pin + 1) owners) k h
group_ordered pin group [] owners e k h = several_ordered group (ap has_one e) pin [] owners h
group_ordered pin group (value ∷ other ∷ more) owners e k h =
    several_ordered group (ap has_one e) pin (value ∷ other ∷ more) owners h

order_of : (pin : ℕ) (y : Item-F Item Group) (groups : List Group) → keeps_order_in pin y ≡ true
    → all_keep_order (pin + pins_in_item y) (groups_owners groups) ≡ true
    → all_keep_order pin (groups_owners (cons_option (inner_of y) groups)) ≡ true
order_of pin (layer.Simple name value at) groups k h =
    ap (λ p. all_keep_order p (groups_owners groups)) (sym (no_more pin)) ∙ h
order_of pin (layer.Complex name arguments at) groups k h =
    ap (λ p. all_keep_order p (groups_owners groups)) (sym (no_more pin)) ∙ h
order_of pin (layer.Inner group) groups k h = by (is_pin group) h
  where
    by : (b : Bool) → all_keep_order (pin + (if b then length group.arguments else 0)) (groups_owners groups) ≡ true
        → all_keep_order pin (flat_map owners_in (if b then group ∷ filter is_pin groups else filter is_pin groups)) ≡ true
    by true h = group_ordered pin group group.arguments (groups_owners groups) refl k h
    by false h = ap (λ p. all_keep_order p (groups_owners groups)) (sym (no_more pin)) ∙ h

ordered_from : (one : TrimmedItems) (items : List Item) → (fold after one items).is_ordered ≡ true
    → (one.is_ordered ≡ true) × (all_keep_order one.pins (owners_among items) ≡ true)
ordered_from one [] h = (h, refl)
ordered_from one (item ∷ items) h =
    let rest = ordered_from (after one item) items h in
    let parts = and_parts one.is_ordered (keeps_order_in one.pins (out-Item item)) rest.0 in
    (parts.0, order_of one.pins (out-Item item) (inner_groups items) parts.1 rest.1)

pub all_ordered : (items : List Item) → (fold after_trimmed nothing_trimmed items).is_ordered ≡ true
    → all_keep_order 0 (owners_among items) ≡ true
all_ordered items h =
    (ordered_from nothing_trimmed items
    (sym (ap (λ (held : TrimmedItems). held.is_ordered) (all_limited nothing_trimmed items)) ∙ h)).1

-- Where no timing is read apart, nothing is wrong in any.
no_limit : (b : Bool) → (if b then no_attribute else no_attribute) ≡ no_attribute
no_limit true = refl
no_limit false = refl

untimed_delays : (s : Subject) (group : Group) → is_timed group ≡ false → delays_told s group ≡ None
untimed_delays s group e =
    let items : List Item = map driver_item (timings_in group.items) in
    let quiet = quiet_drivers group.items e in
    ap (wrong_in s) (driver_items group)
    ∙ (λ i. first_refusal (met reason.UnknownName (quiet_timings (unknown_in s) (no_unknown_in s) items quiet i)
    ∷ met reason.Number (quiet_timings (bad_numbers_in s) (no_numbers_in s) items quiet i
    ++ (bad_attribute s (limit (codes "min_pulse_width_high") i)
    ++ (bad_attribute s (limit (codes "min_pulse_width_low") i) ++ bad_attribute s (limit (codes "min_period") i)))) ∷ []))
  where
    limit : (name : List ℕ)
        → (if is_input_pin s.pins s.place then last_or None (attributes_named name (map driver_item (timings_in group.items)))
        else None) ≡ no_attribute
    limit name =
        ap (λ l. if is_input_pin s.pins s.place then last_or None l else None) (no_attributes name (timings_in group.items))
        ∙ no_limit (is_input_pin s.pins s.place)

quiet_group : (s : Subject) (pin : ℕ) (group : Group) → has_apart pin group ≡ false
    → (wrong_group (subject_at s pin) group ≡ None) × (wrong_outputs (subject_at s pin) group ≡ None)
quiet_group s pin group h =
    let parts = or_parts (loses pin group) (is_three_state group && is_timed group) h in
    by (is_three_state group) parts.0 parts.1
  where
    by : (b : Bool) → loses pin group ≡ false → (b && is_timed group) ≡ false
        → ((if b then None else wrong_pin s pin group) ≡ None)
        × ((if b then delays_told (subject_at s pin) group else None) ≡ None)
    by true e k = (refl, untimed_delays (subject_at s pin) group k)
    by false e k = (ap (λ b. if b then timing_told (reading_answer (subject_at s pin) group) else None) e, refl)

quiet : (s : Subject) (pin : ℕ) (y : Item-F Item Group) → has_apart_in pin y ≡ false
    → (wrong_item (subject_at s pin) y ≡ None) × (wrong_delays (subject_at s pin) y ≡ None)
quiet s pin (layer.Simple name value at) h = (refl, refl)
quiet s pin (layer.Complex name arguments at) h = (refl, refl)
quiet s pin (layer.Inner group) h = quiet_group s pin group h

quiet_from : (s : Subject) (one : TrimmedItems) (items : List Item) → (fold after one items).has_apart ≡ false
    → (one.has_apart ≡ false) × ((wrong_with s None one.pins (map in_core (owners_among items)) ≡ None)
    × (refusal_with s None one.pins (filter is_pin (inner_groups items)) ≡ None))
quiet_from s one [] h = (h, (refl, refl))
quiet_from s one (item ∷ items) h =
    let next : ℕ = one.pins + pins_in_item (out-Item item) in
    let rest = quiet_from s (after one item) items h in
    let parts = or_parts one.has_apart (has_apart_in one.pins (out-Item item)) rest.0 in
    let none = quiet s one.pins (out-Item item) parts.1 in (
      parts.0,
      (
        told_of s None one.pins (out-Item item) (inner_groups items)
            ∙ (ap (λ wrong. wrong_with s wrong next (map in_core (owners_among items))) none.0 ∙ rest.1.0),
        delays_of s None one.pins (out-Item item) (inner_groups items)
            ∙ (ap (λ wrong. refusal_with s wrong next (filter is_pin (inner_groups items))) none.1 ∙ rest.1.1),
      ),
    )

pub all_quiet : (s : Subject) (items : List Item) → (fold after_trimmed nothing_trimmed items).has_apart ≡ false
    → (wrong_with s None 0 (map in_core (owners_among items)) ≡ None)
    × (refusal_with s None 0 (filter is_pin (inner_groups items)) ≡ None)
all_quiet s items h =
    (quiet_from s nothing_trimmed items
    (sym (ap (λ (held : TrimmedItems). held.has_apart) (all_limited nothing_trimmed items)) ∙ h)).1
