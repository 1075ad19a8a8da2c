-- A three-state output has no more arcs than its core has pins: none has a condition, so that no two start at one pin.
use Rattle.std.proofs.Common.{◌≡◌, ℕ, zero, suc, ◌<◌, ◌≤◌, Bool, true, false, ◌&&◌, List, [], ◌∷◌, length, refl, sym, ◌∙◌, ap}
use Rattle.std.proofs.Common.{subst, arith, map, codes, Option, Some, None, is_none, slice_get, nat_eq, eqb}
use Rattle.std.specs.Prelude.{flat_map, if◌then◌else◌, Ok, Err}
use Rattle.std.specs.List.{list_all, list_any, IsDistinct, AllByRecursion}
use Rattle.std.proofs.lemmas.Bool.{and_parts, and_from, ne_eqb, eqb-true}
use Rattle.std.proofs.lemmas.List.{length-map, take_all}
use Rattle.std.proofs.lemmas.List.Folds.{list_all-append}
use Rattle.std.proofs.lemmas.Map.Steps.{length-le_from_distinct_below}
use Rattle.liberty_groups.specs.declared.tree.Group.{Group}
use Rattle.liberty_groups.specs.Attributes.{attribute_of}
use Rattle.bool_functions.specs.declared.tree.Node.{Node}
use Rattle.cell_machine.specs.declared.pins.Pin.{Pin}
use Rattle.cell_machine.specs.declared.arcs.Arc.{Arc}
use Rattle.cell_machine.specs.CellRules.{is_input_pin, is_arc, AreApart}
use Rattle.cell_machine.specs.Delay.{least}
use Rattle.cell_machine.proofs.CellFacts.{input-below}
use Rattle.timing_arcs.specs.declared.subject.Subject.{Subject}
use Rattle.timing_arcs.specs.declared.subject.PinTiming.{PinTiming}
use Rattle.timing_arcs.specs.declared.subject.Room.{Room}
use Rattle.timing_arcs.specs.declared.fault.TimingFault.{TimingFault}
use Rattle.timing_arcs.specs.declared.fault.TimingFault.TheVariants as fault
use Rattle.timing_arcs.specs.declared.timing_type.TimingType.{TimingType}
use Rattle.timing_arcs.specs.declared.timing_type.TimingType.TheVariants.{Delay, Setup, Hold, Recovery, Removal, Width, Period}
use Rattle.timing_arcs.specs.declared.timing_type.TimingType.TheVariants.{Other}
use Rattle.timing_arcs.specs.TimingTypes.{type_of}
use Rattle.timing_arcs.specs.RelatedPins.{inputs_of}
use Rattle.timing_arcs.specs.Conditions.{condition_of}
use Rattle.timing_arcs.specs.Making.{arcs_with, arcs_from, arcs_in, is_made, rise_of, fall_of}
use Rattle.timing_arcs.specs.Merging.{Placed, same_path, firsts_after, firsts, merged_into}
use Rattle.timing_arcs.specs.Timing.{timing_groups, placed_arcs_in, placed_arcs, wide_in, wide_at, malformed_at, unknown_names_at}
use Rattle.timing_arcs.specs.Timing.{own_conditions_at, numbers_at, unless_at, timing_of, reading_answer, held_answer}
use Rattle.timing_arcs.proofs.LawLemmas.{arcs_are_sound, arcs_end_here, arcs_are_apart}
use Rattle.cell_reader.specs.PinTimings.{Answer, arcs_in as arcs_answered}
use Rattle.core_groups.specs.DriverGroups.{driver_pin}
use Rattle.three_state_cells.specs.Timing.{places_in}
use Rattle.three_state_cells.proofs.DriverReads.{all_among, none_among, timings_of, either_empty}

-- No arc has a condition.

abbrev is_free : Arc → Bool
is_free arc = is_none arc.condition

abbrev is_free_placed : Placed → Bool
is_free_placed p = is_free p.arc

typed_free : (t : TimingType) (pin related rise fall : ℕ) → list_all is_free (arcs_with t pin related rise fall None) ≡ true
typed_free Delay pin related rise fall = refl
typed_free (Setup edge) pin related rise fall = refl
typed_free (Hold edge) pin related rise fall = refl
typed_free (Recovery edge) pin related rise fall = refl
typed_free (Removal edge) pin related rise fall = refl
typed_free Width pin related rise fall = refl
typed_free Period pin related rise fall = refl
typed_free Other pin related rise fall = refl

from_free : (subject : Subject) (group : Group) (related : ℕ) → attribute_of group (codes "when") ≡ None
    → list_all is_free (arcs_from subject group related) ≡ true
unfolding condition_of
from_free subject group related h =
    rw h (typed_free (type_of group) subject.place related (rise_of subject group) (fall_of subject group))

all_flat : {A B : Type 0} (test : B → Bool) (f : A → List B) → ((x : A) → list_all test (f x) ≡ true) → (xs : List A)
    → list_all test (flat_map f xs) ≡ true
all_flat test f each [] = refl
all_flat test f each (x ∷ xs) =
    list_all-append test (f x) (flat_map f xs) ∙ and_from (list_all test (f x)) (list_all test (flat_map f xs)) (each x)
    (all_flat test f each xs)

if_free : (b : Bool) (arcs : List Arc) → list_all is_free arcs ≡ true → list_all is_free (if b then arcs else []) ≡ true
if_free true arcs h = h
if_free false arcs h = refl

group_free : (subject : Subject) (group : Group) → attribute_of group (codes "when") ≡ None
    → list_all is_free (arcs_in subject group) ≡ true
group_free subject group h =
    if_free (is_made subject group) (flat_map (arcs_from subject group) (inputs_of subject group))
    (all_flat is_free (arcs_from subject group) (λ related. from_free subject group related h) (inputs_of subject group))

placed_free : (at : ℕ) (arcs : List Arc) → list_all is_free arcs ≡ true
    → list_all is_free_placed (map (λ arc. record { arc = arc; at = at }) arcs) ≡ true
placed_free at [] h = refl
placed_free at (arc ∷ arcs) h =
    let parts = and_parts (is_free arc) (list_all is_free arcs) h in
    and_from (is_free arc) _ parts.0 (placed_free at arcs parts.1)

driver_free : (subject : Subject) (pin : Group) → list_all is_free_placed (placed_arcs subject (driver_pin pin)) ≡ true
driver_free subject pin =
    rw (timings_of pin)
    (all_among is_free_placed (placed_arcs_in subject)
    (λ group h. placed_free group.at (arcs_in subject group) (group_free subject group h))
    (timing_groups pin))

firsts_free : (earlier : List Arc) (made : List Placed) → list_all is_free_placed made ≡ true
    → list_all is_free_placed (firsts_after earlier made) ≡ true
firsts_free earlier [] h = refl
firsts_free earlier (p ∷ made) h =
    by (list_any (same_path p.arc) earlier) refl (and_parts (is_free_placed p) (list_all is_free_placed made) h).0
    (firsts_free earlier made (and_parts (is_free_placed p) (list_all is_free_placed made) h).1)
    (firsts_free (p.arc ∷ earlier) made (and_parts (is_free_placed p) (list_all is_free_placed made) h).1)
  where
    by : (b : Bool) → list_any (same_path p.arc) earlier ≡ b → is_free_placed p ≡ true
        → list_all is_free_placed (firsts_after earlier made) ≡ true
        → list_all is_free_placed (firsts_after (p.arc ∷ earlier) made) ≡ true
        → list_all is_free_placed (firsts_after earlier (p ∷ made)) ≡ true
    by true e one without with = rw e without
    by false e one without with = rw e
        (and_from (is_free_placed p) (list_all is_free_placed (firsts_after (p.arc ∷ earlier) made)) one with)

merged_free : (made ps : List Placed) → list_all is_free_placed ps ≡ true
    → list_all is_free (map (λ (p : Placed). merged_into made p.arc) ps) ≡ true
merged_free made [] h = refl
merged_free made (p ∷ ps) h =
    let parts = and_parts (is_free_placed p) (list_all is_free_placed ps) h in
    and_from (is_free_placed p) (list_all is_free (map (λ (q : Placed). merged_into made q.arc) ps)) parts.0
    (merged_free made ps parts.1)

-- What is known of a timing that is read.

ok_behind : (wrong : ℕ → TimingFault) (at : Option ℕ) (answer : Answer) (timing : PinTiming)
    → unless_at wrong at answer ≡ Ok timing → answer ≡ Ok timing
ok_behind wrong None answer timing e = e
ok_behind wrong (Some at) answer timing e = absurd cc

timing_read : (subject : Subject) (pin : Group) (timing : PinTiming) → reading_answer subject pin ≡ Ok timing
    → timing_of subject pin ≡ timing
timing_read subject pin timing e =
    let last : Ok (timing_of subject pin) ≡ Ok timing =
    ok_behind fault.Number (least (numbers_at subject pin)) _ timing
    (ok_behind fault.OwnCondition (least (own_conditions_at subject pin)) _ timing
    (ok_behind fault.UnknownName (least (unknown_names_at subject pin)) _ timing
    (ok_behind fault.Malformed (least (malformed_at subject pin)) _ timing e))) in
    cc

wide_none : (subject : Subject) (group : Group) → attribute_of group (codes "when") ≡ None → wide_in subject group ≡ []
wide_none subject group h = rw h (either_empty _)

no_wide : (subject : Subject) (pin : Group) → wide_at subject (driver_pin pin) ≡ []
no_wide subject pin = rw (timings_of pin) (none_among (wide_in subject) (wide_none subject) (timing_groups pin))

-- Arcs with the same end and without conditions start at pins of their own.

abbrev is_plain_to : ℕ → Arc → Bool
is_plain_to place arc = nat_eq arc.to place && is_free arc

free_is_none : (o : Option Node) → is_none o ≡ true → o ≡ None
free_is_none None h = refl
free_is_none (Some f) h = absurd cc

plain_at : (place : ℕ) (arcs : List Arc) (k : ℕ) (arc : Arc) → list_all (is_plain_to place) arcs ≡ true
    → slice_get arcs k ≡ Some arc → is_plain_to place arc ≡ true
plain_at place [] k arc h e = absurd cc
plain_at place (one ∷ arcs) zero arc h e =
    let same : one ≡ arc = cc in
    subst (λ (a : Arc). is_plain_to place a ≡ true) same
    (and_parts (is_plain_to place one) (list_all (is_plain_to place) arcs) h).0
plain_at place (one ∷ arcs) (suc k) arc h e =
    plain_at place arcs k arc (and_parts (is_plain_to place one) (list_all (is_plain_to place) arcs) h).1 e

both_plain : (place : ℕ) (one other : Arc) → is_plain_to place one ≡ true → is_plain_to place other ≡ true → (one.to ≡ other.to)
    × (one.condition ≡ other.condition)
both_plain place one other h k =
    let first = and_parts (nat_eq one.to place) (is_free one) h in
    let second = and_parts (nat_eq other.to place) (is_free other) k in (
      eqb-true one.to place first.0 ∙ sym (eqb-true other.to place second.0),
      free_is_none one.condition first.1 ∙ sym (free_is_none other.condition second.1),
    )

abbrev from_of : Arc → ℕ
from_of arc = arc.from

unlike_others :
    (from : ℕ) (arcs : List Arc) → ((k : ℕ) (arc : Arc) → slice_get arcs k ≡ Some arc → from ≡ arc.from → ⊥)
    → AllByRecursion (λ (other : ℕ). eqb from other ≡ false) (map from_of arcs)
unlike_others from [] h = tt
unlike_others from (arc ∷ arcs) h =
    (ne_eqb from arc.from (h 0 arc refl), unlike_others from arcs (λ k other e. h (suc k) other e))

distinct_starts : (place : ℕ) (arcs : List Arc) → AreApart arcs → list_all (is_plain_to place) arcs ≡ true
    → IsDistinct eqb (map from_of arcs)
unfolding IsDistinct
distinct_starts place [] apart h = tt
distinct_starts place (one ∷ arcs) apart h =
    let parts = and_parts (is_plain_to place one) (list_all (is_plain_to place) arcs) h in (
      unlike_others one.from arcs
          (λ k arc e same.
          let plain = both_plain place one arc parts.0 (plain_at place arcs k arc parts.1 e) in
          apart 0 (suc k) one arc (omega arith) refl e same plain.0 plain.1),
      distinct_starts place arcs (λ i j a b l e f. apart (suc i) (suc j) a b (omega arith) e f) parts.1,
    )

plain_arcs : (place : ℕ) (arcs : List Arc) → list_all (λ (arc : Arc). nat_eq arc.to place) arcs ≡ true
    → list_all is_free arcs ≡ true → list_all (is_plain_to place) arcs ≡ true
plain_arcs place [] h k = refl
plain_arcs place (arc ∷ arcs) h k =
    let ends = and_parts (nat_eq arc.to place) (list_all (λ (a : Arc). nat_eq a.to place) arcs) h in
    let free = and_parts (is_free arc) (list_all is_free arcs) k in
    and_from (is_plain_to place arc) (list_all (is_plain_to place) arcs)
    (and_from (nat_eq arc.to place) (is_free arc) ends.0 free.0)
    (plain_arcs place arcs ends.1 free.1)

below_pins : (pins : List Pin) (arcs : List Arc) → list_all (is_arc pins) arcs ≡ true → (q : ℕ)
    → list_any (eqb q) (map from_of arcs) ≡ true → q < length pins
below_pins pins [] h q e = absurd cc
below_pins pins (arc ∷ arcs) h q e =
    let parts = and_parts (is_arc pins arc) (list_all (is_arc pins) arcs) h in
    by (eqb q arc.from) refl (and_parts (is_input_pin pins arc.from) _ parts.0).0 (below_pins pins arcs parts.1 q)
  where
    by : (b : Bool) → eqb q arc.from ≡ b → is_input_pin pins arc.from ≡ true
        → (list_any (eqb q) (map from_of arcs) ≡ true → q < length pins) → q < length pins
    by true same input later = subst (λ (n : ℕ). n < length pins) (sym (eqb-true q arc.from same))
        (input-below pins arc.from input)
    by false other input later = later (rw other at e)

narrow : (subject : Subject) (pin : Group) (timing : PinTiming) → reading_answer subject (driver_pin pin) ≡ Ok timing
    → timing.wide ≡ None
narrow subject pin timing e = sym (ap (λ (t : PinTiming). t.wide) (timing_read subject (driver_pin pin) timing e))
    ∙ ap least (no_wide subject pin)

-- the arcs of a three-state output keep the rules of arcs
pub driver_arcs_are_sound :
    (subject : Subject) (pin : Group) (answer : Answer) → reading_answer subject (driver_pin pin) ≡ answer
    → list_all (is_arc subject.pins) (arcs_answered answer) ≡ true
driver_arcs_are_sound subject pin (Ok timing) e = arcs_are_sound subject (driver_pin pin) timing e (narrow subject pin timing e)
driver_arcs_are_sound subject pin (Err wrong) e = refl

few_arcs : (subject : Subject) (pin : Group) (timing : PinTiming) → reading_answer subject (driver_pin pin) ≡ Ok timing
    → length timing.arcs ≤ length subject.pins
few_arcs subject pin timing e =
    let is : timing_of subject (driver_pin pin) ≡ timing = timing_read subject (driver_pin pin) timing e in
    let free : list_all is_free timing.arcs ≡ true =
    subst (λ (t : PinTiming). list_all is_free t.arcs ≡ true) is
    (merged_free (placed_arcs subject (driver_pin pin)) (firsts (placed_arcs subject (driver_pin pin)))
    (firsts_free [] (placed_arcs subject (driver_pin pin)) (driver_free subject pin))) in
    let plain = plain_arcs subject.place timing.arcs (arcs_end_here subject (driver_pin pin) timing e) free in
    let count : length (map from_of timing.arcs) ≤ length subject.pins =
    length-le_from_distinct_below (map from_of timing.arcs) (length subject.pins)
    (distinct_starts subject.place timing.arcs (arcs_are_apart subject (driver_pin pin) timing e) plain)
    (below_pins subject.pins timing.arcs (arcs_are_sound subject (driver_pin pin) timing e (narrow subject pin timing e))) in
    simp length-map at count

-- there are at most as many as pins
pub driver_arcs_are_few :
    (subject : Subject) (pin : Group) (answer : Answer) → reading_answer subject (driver_pin pin) ≡ answer
    → length (arcs_answered answer) ≤ length subject.pins
driver_arcs_are_few subject pin (Ok timing) e = few_arcs subject pin timing e
driver_arcs_are_few subject pin (Err wrong) e = omega arith

-- All arcs and all left-out groups are held.

arcs_held_by :
    (subject : Subject) (pin : Group) (room : Room) (answer : Answer) → reading_answer subject (driver_pin pin) ≡ answer
    → room.arcs ≡ length subject.pins
    → arcs_answered (held_answer room answer) ≡ arcs_answered answer
arcs_held_by subject pin room (Ok timing) e same =
    let few : length timing.arcs ≤ length subject.pins = few_arcs subject pin timing e in
    take_all room.arcs timing.arcs (omega arith)
arcs_held_by subject pin room (Err wrong) e same = refl

pub arcs_are_held :
    (subject : Subject) (pin driver : Group) (room : Room) (answer : Answer) → room.arcs ≡ length subject.pins
    → driver ≡ driver_pin pin
    → answer ≡ held_answer room (reading_answer subject driver)
    → arcs_answered answer ≡ arcs_answered (reading_answer subject (driver_pin pin))
arcs_are_held subject pin driver room answer same d e =
    ap arcs_answered (e ∙ ap (λ (g : Group). held_answer room (reading_answer subject g)) d)
    ∙ arcs_held_by subject pin room (reading_answer subject (driver_pin pin)) refl same

places_held_by : (room : Room) (answer : Answer) → room.left_out ≡ true → places_in (held_answer room answer) ≡ places_in answer
places_held_by room (Ok timing) h = rw h refl
places_held_by room (Err wrong) h = refl

pub places_are_held :
    (subject : Subject) (pin driver : Group) (room : Room) (answer : Answer) → room.left_out ≡ true → driver ≡ driver_pin pin
    → answer ≡ held_answer room (reading_answer subject driver)
    → places_in answer ≡ places_in (reading_answer subject (driver_pin pin))
places_are_held subject pin driver room answer h d e =
    ap places_in (e ∙ ap (λ (g : Group). held_answer room (reading_answer subject g)) d)
    ∙ places_held_by room (reading_answer subject (driver_pin pin)) h
