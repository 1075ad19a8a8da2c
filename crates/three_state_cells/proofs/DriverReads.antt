-- What is read of the delays of three-state outputs: no condition, so that nothing is wrong in one.
use Rattle.std.proofs.Common.{◌≡◌, ℕ, Bool, true, false, List, [], ◌∷◌, refl, sym, ◌∙◌, ap, subst, map, filter, codes, Option}
use Rattle.std.proofs.Common.{Some, None}
use Rattle.std.specs.Prelude.{flat_map, bytes_eq, if◌then◌else◌, Ok, Err}
use Rattle.std.specs.List.{cons_option, list_all}
use Rattle.std.proofs.lemmas.Bool.{and_from}
use Rattle.std.proofs.lemmas.List.Folds.{list_all-append}
use Rattle.std.proofs.lemmas.Slice.Eq.{bytes_eq-Decides}
use Rattle.liberty_groups.specs.declared.tree.Item.{Item, out-Item}
use Rattle.liberty_groups.specs.declared.tree.Item.TheOpen.{Item-F, Group-F}
use Rattle.liberty_groups.specs.declared.tree.Item.TheOpen as layer
use Rattle.liberty_groups.specs.declared.tree.Item.TheViews.{outs-Inner, out-roll-Group}
use Rattle.liberty_groups.specs.declared.tree.Group.{Group}
use Rattle.liberty_groups.specs.Attributes.{Attribute, simple_named, group_named, attributes_named, groups_named, last_or}
use Rattle.liberty_groups.specs.Attributes.{attribute_of}
use Rattle.timing_arcs.specs.declared.subject.Subject.{Subject}
use Rattle.timing_arcs.specs.declared.subject.PinTiming.{PinTiming}
use Rattle.timing_arcs.specs.declared.subject.Room.{Room}
use Rattle.timing_arcs.specs.declared.fault.TimingFault.TheVariants as fault
use Rattle.timing_arcs.specs.Timing.{timing_groups, malformed_in, own_in, malformed_at, own_conditions_at, unknown_names_at}
use Rattle.timing_arcs.specs.Timing.{numbers_at, unless_at, timing_of, reading_answer, held_answer}
use Rattle.cell_machine.specs.Delay.{least}
use Rattle.cell_reader.specs.declared.refusal.Reason.TheVariants as reason
use Rattle.cell_reader.specs.PinTimings.{Answer}
use Rattle.cell_reader.specs.Refusals.{refused_or}
use Rattle.core_groups.specs.DriverGroups.{has_type, is_no_type, read_items, driver_timing, driver_item, driver_pin}
use Rattle.core_groups.proofs.Statements.{not_false, attributes_kept}
use Rattle.three_state_cells.specs.Refusals.{wrong_told, wrong_delays}

-- A statement of the type is none of the condition.

type_is_no_when : (name : List ℕ) → bytes_eq name (codes "timing_type") ≡ true → bytes_eq name (codes "when") ≡ false
type_is_no_when name h = rw ((bytes_eq-Decides name (codes "timing_type")).0 h) refl

typed_is_no_when : (one : Item-F Item Group) → is_no_type one ≡ false → simple_named (codes "when") one ≡ None
typed_is_no_when (layer.Simple name value at) h =
    rw (type_is_no_when name (not_false (bytes_eq name (codes "timing_type")) h)) refl
typed_is_no_when (layer.Complex name arguments at) h = refl
typed_is_no_when (layer.Inner group) h = refl

-- the conditions among all statements but those of the type
untyped_when : (items : List Item)
    → attributes_named (codes "when") (filter (λ item. is_no_type (out-Item item)) items) ≡ attributes_named (codes "when") items
untyped_when items = attributes_kept (codes "when") is_no_type typed_is_no_when items

-- No timing group has a condition as it is read.

read_when : (group : Group) → last_or None (attributes_named (codes "when") (read_items group)) ≡ None
read_when group = by (has_type (codes "three_state_disable") group) (attribute_of group (codes "when")) refl refl
  where
    typed : (b : Bool) → has_type (codes "three_state_enable") group ≡ b → attribute_of group (codes "when") ≡ None
        → last_or None (attributes_named (codes "when") (if b then filter (λ item. is_no_type (out-Item item)) group.items
        else group.items)) ≡ None
    typed true e h = rw (untyped_when group.items) h
    typed false e h = h

    by : (disables : Bool) (when : Option Attribute) → has_type (codes "three_state_disable") group ≡ disables
        → attribute_of group (codes "when") ≡ when
        → last_or None (attributes_named (codes "when") (read_items group)) ≡ None
    by true when e h = rw e refl
    by false (Some attribute) e h = rw e (rw h refl)
    by false None e h = rw e (rw h (typed (has_type (codes "three_state_enable") group) refl h))

no_condition : (group : Group) → attribute_of (driver_timing group) (codes "when") ≡ None
no_condition group =
    ap (λ (one : Group-F Item Group). last_or None (attributes_named (codes "when") one.items))
    (out-roll-Group (record { name = group.name; arguments = group.arguments; items = read_items group; at = group.at }))
    ∙ read_when group

named_condition :
    (group found : Group) (b : Bool) → (if b then Some (driver_timing group) else None) ≡ Some found
    → attribute_of found (codes "when") ≡ None
named_condition group found true e =
    let same : driver_timing group ≡ found = cc in
    subst (λ (one : Group). attribute_of one (codes "when") ≡ None) same (no_condition group)
named_condition group found false e = absurd cc

found_condition :
    (group found : Group) → group_named (codes "timing") (out-Item (driver_item group)) ≡ Some found
    → attribute_of found (codes "when") ≡ None
found_condition group found e =
    named_condition group found (bytes_eq (driver_timing group).name (codes "timing"))
    (sym (ap (group_named (codes "timing")) (outs-Inner (driver_timing group))) ∙ e)

told_behind :
    (told : Group → List ℕ) (one : Option Group) (rest : List Group)
    → ((group : Group) → one ≡ Some group → told group ≡ []) → flat_map told rest ≡ [] → flat_map told (cons_option one rest) ≡ []
told_behind told None rest h k = k
told_behind told (Some group) rest h k = rw (h group refl) k

-- what is told of conditions is nothing
pub none_among :
    (told : Group → List ℕ) → ((group : Group) → attribute_of group (codes "when") ≡ None → told group ≡ [])
    → (groups : List Group) → flat_map told (groups_named (codes "timing") (map driver_item groups)) ≡ []
none_among told none [] = refl
none_among told none (group ∷ groups) =
    told_behind told (group_named (codes "timing") (out-Item (driver_item group)))
    (groups_named (codes "timing") (map driver_item groups))
    (λ found e. none found (found_condition group found e)) (none_among told none groups)

-- what holds of all that such a group tells holds of all that is told
told_all :
    {B : Type 0} (test : B → Bool) (told : Group → List B) (one : Option Group) (rest : List Group)
    → ((group : Group) → one ≡ Some group → list_all test (told group) ≡ true) → list_all test (flat_map told rest) ≡ true
    → list_all test (flat_map told (cons_option one rest)) ≡ true
told_all test told None rest h k = k
told_all test told (Some group) rest h k =
    list_all-append test (told group) (flat_map told rest)
    ∙ and_from (list_all test (told group)) (list_all test (flat_map told rest)) (h group refl) k

pub all_among :
    {B : Type 0} (test : B → Bool) (told : Group → List B)
    → ((group : Group) → attribute_of group (codes "when") ≡ None → list_all test (told group) ≡ true)
    → (groups : List Group) → list_all test (flat_map told (groups_named (codes "timing") (map driver_item groups))) ≡ true
all_among test told all [] = refl
all_among test told all (group ∷ groups) =
    told_all test told (group_named (codes "timing") (out-Item (driver_item group)))
    (groups_named (codes "timing") (map driver_item groups))
    (λ found e. all found (found_condition group found e)) (all_among test told all groups)

abbrev nothing : List ℕ
nothing = []

pub either_empty : (b : Bool) → (if b then nothing else nothing) ≡ nothing
either_empty true = refl
either_empty false = refl

malformed_none : (subject : Subject) (group : Group) → attribute_of group (codes "when") ≡ None → malformed_in subject group ≡ []
malformed_none subject group h = rw h (either_empty _)

own_none : (subject : Subject) (group : Group) → attribute_of group (codes "when") ≡ None → own_in subject group ≡ []
own_none subject group h = rw h (either_empty _)

pub timings_of : (pin : Group) → timing_groups (driver_pin pin) ≡ groups_named (codes "timing")
    (map driver_item (timing_groups pin))
unfolding driver_pin
timings_of pin =
    ap (λ (g : Group-F Item Group). groups_named (codes "timing") g.items)
    (out-roll-Group (record {
      name = pin.name;
      arguments = pin.arguments;
      items = map driver_item (timing_groups pin);
      at =
          pin.at;
    }))

pub driver_malformed : (subject : Subject) (pin : Group) → malformed_at subject (driver_pin pin) ≡ []
driver_malformed subject pin = rw (timings_of pin)
    (none_among (malformed_in subject) (malformed_none subject) (timing_groups pin))

pub driver_own : (subject : Subject) (pin : Group) → own_conditions_at subject (driver_pin pin) ≡ []
driver_own subject pin = rw (timings_of pin) (none_among (own_in subject) (own_none subject) (timing_groups pin))

-- What an answer tells of what is wrong: a name or a number.

told_by :
    (unknown number : Option ℕ) (timing : PinTiming)
    → wrong_told (unless_at fault.UnknownName unknown (unless_at fault.Number number (Ok timing)))
    ≡ refused_or reason.UnknownName unknown (refused_or reason.Number number None)
told_by None None timing = refl
told_by None (Some at) timing = refl
told_by (Some at) number timing = refl

pub wrong_delays_told : (subject : Subject) (pin : Group)
    → wrong_told (reading_answer subject (driver_pin pin)) ≡ wrong_delays subject pin
wrong_delays_told subject pin =
    rw (driver_malformed subject pin)
    (rw (driver_own subject pin)
    (told_by (least (unknown_names_at subject (driver_pin pin))) (least (numbers_at subject (driver_pin pin)))
    (timing_of subject (driver_pin pin))))

held_told : (room : Room) (answer : Answer) → wrong_told (held_answer room answer) ≡ wrong_told answer
held_told room (Ok timing) = refl
held_told room (Err (fault.Malformed at)) = refl
held_told room (Err (fault.UnknownName at)) = refl
held_told room (Err (fault.OwnCondition at)) = refl
held_told room (Err (fault.Number at)) = refl

pub told_is_wrong :
    (room : Room) (subject : Subject) (pin driver : Group) (answer : Answer)
    → driver ≡ driver_pin pin → answer ≡ held_answer room (reading_answer subject driver)
    → wrong_told answer ≡ wrong_delays subject pin
told_is_wrong room subject pin driver answer d e =
    ap wrong_told e
    ∙ (held_told room (reading_answer subject driver)
    ∙ (ap (λ (g : Group). wrong_told (reading_answer subject g)) d ∙ wrong_delays_told subject pin))
