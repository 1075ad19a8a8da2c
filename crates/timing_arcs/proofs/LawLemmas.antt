-- The laws of the timing that is read.
use Rattle.std.proofs.Common.{◌≡◌, ℕ, zero, suc, ◌+◌, ◌<◌, ◌≤◌, Bool, true, false, not, ◌&&◌, ◌||◌, List, [], ◌∷◌, ◌++◌, map}
use Rattle.std.proofs.Common.{length, nat_eq, nat_le, nat_lt, refl, sym, ap, ◌∙◌, subst, arith}
use Rattle.std.specs.Prelude.{Option, Some, None, Result, Ok, codes, filter, flat_map, unwrap_or, slice_get, if◌then◌else◌}
use Rattle.std.specs.List.{list_all, list_any}
use Rattle.std.proofs.lemmas.Bool.{cases_Bool, and_parts, lt-ltb as below-test, and_from as both}
use Rattle.std.proofs.lemmas.Bool.Decides.{nat_tests}
use Rattle.std.proofs.lemmas.List.{length-map, length-append}
use Rattle.std.proofs.Math.Logic.{inl, inr}
use Rattle.liberty_groups.specs.declared.tree.Item.{Item, out-Item}
use Rattle.liberty_groups.specs.declared.tree.Group.{Group}
use Rattle.cell_machine.specs.declared.checks.CheckKind.{CheckKind}
use Rattle.cell_machine.specs.declared.checks.CheckKind.TheVariants as kind
use Rattle.cell_machine.specs.declared.checks.Edge.{Edge}
use Rattle.cell_machine.specs.declared.checks.Edge.TheVariants.{Any, Rise, Fall}
use Rattle.cell_machine.specs.declared.checks.Check.{Check}
use Rattle.cell_machine.specs.declared.arcs.Arc.{Arc}
use Rattle.cell_machine.specs.declared.pins.Pin.{Pin}
use Rattle.cell_machine.specs.CellRules.{longest_time, is_input_pin, is_output_pin, is_condition, has_events, is_check, is_arc}
use Rattle.cell_machine.specs.CellRules.{AreApart}
use Rattle.timing_arcs.specs.declared.fault.TimingFault.{TimingFault}
use Rattle.timing_arcs.specs.declared.fault.TimingFault.TheVariants as fault
use Rattle.timing_arcs.specs.declared.subject.Subject.{Subject}
use Rattle.timing_arcs.specs.declared.subject.PinTiming.{PinTiming}
use Rattle.timing_arcs.specs.declared.timing_type.TimingType.{TimingType}
use Rattle.timing_arcs.specs.declared.timing_type.TimingType.TheVariants.{Delay, Setup, Hold, Recovery, Removal, Width, Period}
use Rattle.timing_arcs.specs.declared.timing_type.TimingType.TheVariants.{Other}
use Rattle.liberty_groups.specs.Attributes.{Attribute, attribute_of, group_named}
use Rattle.cell_machine.specs.Delay.{lesser, least}
use Rattle.timing_arcs.specs.Times.{time_of}
use Rattle.timing_arcs.specs.TimingTypes.{type_of}
use Rattle.timing_arcs.specs.RelatedPins.{inputs_of, is_left_out}
use Rattle.timing_arcs.specs.Tables.{greatest}
use Rattle.timing_arcs.specs.Making.{event, check, has_limit, is_made, checks_in, arcs_from, arcs_in, arcs_with, rise_of, fall_of}
use Rattle.timing_arcs.specs.Merging.{same_path, Placed, firsts_after, firsts, merged_into, merged, merged_at}
use Rattle.timing_arcs.specs.Timing.{timing_groups, malformed_at, unknown_names_at, own_in, own_conditions_at, wide_in, wide_at}
use Rattle.timing_arcs.specs.Timing.{numbers_at, limit_attribute, pulse_high, pulse_low, least_period, attribute_check}
use Rattle.timing_arcs.specs.Timing.{attribute_checks, attribute_check_at, at_each, placed_arcs_in, placed_arcs, left_out_at}
use Rattle.timing_arcs.specs.Timing.{left_out_from, checks_of, check_at_of, timing_of, unless_at, reading_answer}
use Rattle.timing_arcs.specs.Laws.{ChecksAreSound, ArcsAreSound, ArcsEndHere, ArcsAreApart, IsPlaced, TimingsArePlaced}
use Rattle.timing_arcs.proofs.AllLemmas.{all-append, all-filter, all-flat_map, all-map, all-weaker}
use Rattle.timing_arcs.proofs.MergingLemmas.{path-equal}
use Rattle.timing_arcs.proofs.SoundLemmas.{time_of-within, group-checks, group-arcs, check-kept, has-same}

-- Where the answer is a timing nothing is wrong.
no_fault : (wrong : ℕ → TimingFault) (o : Option ℕ) (answer : Result PinTiming TimingFault) (t : PinTiming)
    → unless_at wrong o answer ≡ Ok t → (o ≡ None) × (answer ≡ Ok t)
no_fault wrong None answer t e = (refl, e)
no_fault wrong (Some at) answer t e = absurd cc

lesser-some : (x : ℕ) (o : Option ℕ) → lesser (Some x) o ≡ None → ⊥
lesser-some x None h = absurd cc
lesser-some x (Some y) h = absurd cc

none-least : (xs : List ℕ) → least xs ≡ None → xs ≡ []
none-least [] h = refl
none-least (x ∷ xs) h = absurd (lesser-some x (least xs) h)

record IsRead (subject : Subject) (pin : Group) (t : PinTiming) : Type 0 where
  own : own_conditions_at subject pin ≡ []
  timing : timing_of subject pin ≡ t

read : (subject : Subject) (pin : Group) (t : PinTiming) → reading_answer subject pin ≡ Ok t → IsRead subject pin t
read subject pin t e =
    let (malformed, e1) = no_fault fault.Malformed (least (malformed_at subject pin)) _ t e in
    let (unknown, e2) = no_fault fault.UnknownName (least (unknown_names_at subject pin)) _ t e1 in
    let (own, e3) = no_fault fault.OwnCondition (least (own_conditions_at subject pin)) _ t e2 in
    let (number, e4) = no_fault fault.Number (least (numbers_at subject pin)) (Ok (timing_of subject pin)) t e3 in record {
      own = none-least (own_conditions_at subject pin) own;
      timing = let is : Ok (timing_of subject pin) ≡ Ok t = e4 in cc;
    }

both_empty : {A : Type 0} (xs ys : List A) → xs ++ ys ≡ [] → (xs ≡ []) × (ys ≡ [])
both_empty [] ys h = (refl, h)
both_empty (x ∷ xs) ys h = absurd cc

all-checks : (subject : Subject) (groups : List Group) → flat_map (own_in subject) groups ≡ []
    → flat_map (wide_in subject) groups ≡ [] → list_all (is_check subject.pins) (flat_map (checks_in subject) groups) ≡ true
all-checks subject [] own wide = refl
all-checks subject (group ∷ groups) own wide =
    let o = both_empty (own_in subject group) (flat_map (own_in subject) groups) own in
    let w = both_empty (wide_in subject group) (flat_map (wide_in subject) groups) wide in
    all-append (is_check subject.pins) (checks_in subject group) (flat_map (checks_in subject) groups)
    (group-checks subject group o.0 w.0) (all-checks subject groups o.1 w.1)

-- the checks of attributes
limit-within : (o : Option ℕ) → ((t : ℕ) → o ≡ Some t → t ≤ longest_time) → unwrap_or o 0 ≤ longest_time
limit-within None f = omega arith
limit-within (Some t) f = f t refl

-- checks of this kind between these events of the pin keep the rules on events
abbrev HaveEvents : Subject → CheckKind → Edge → Edge → Type 0
HaveEvents subject k first second =
    (limit : ℕ) → has_events (check k (event subject.place first) (event subject.place second) limit None) k ≡ true

attribute-sound : (subject : Subject) (k : CheckKind) (first second : Edge) (attribute : Attribute)
    → HaveEvents subject k first second → is_input_pin subject.pins subject.place ≡ true
    → list_all (is_check subject.pins) (attribute_check subject k first second attribute) ≡ true
attribute-sound subject k first second attribute events input =
    let limit : ℕ = unwrap_or (time_of subject.unit attribute.text) 0 in
    let made : Check = check k (event subject.place first) (event subject.place second) limit None in
    all-filter (is_check subject.pins) has_limit (made ∷ [])
    (both _ _ (check-kept subject.pins made input input (events limit)
    (limit-within (time_of subject.unit attribute.text) (time_of-within subject.unit attribute.text)) refl) refl)

attributes-of : (subject : Subject) (k : CheckKind) (first second : Edge) (o : Option Attribute)
    → HaveEvents subject k first second → is_input_pin subject.pins subject.place ≡ true
    → list_all (is_check subject.pins) (attribute_checks subject k first second o) ≡ true
attributes-of subject k first second None events input = refl
attributes-of subject k first second (Some attribute) events input = attribute-sound subject k first second attribute events input

attributes-sound : (subject : Subject) (k : CheckKind) (first second : Edge) (pin : Group) (name : List ℕ)
    → HaveEvents subject k first second
    → list_all (is_check subject.pins) (attribute_checks subject k first second (limit_attribute subject pin name)) ≡ true
attributes-sound subject k first second pin name events =
    elim (cases_Bool (is_input_pin subject.pins subject.place)) [
      | inl input ↦ rw input (attributes-of subject k first second (attribute_of pin name) events input)
      | inr other ↦ rw other refl
    ]

checks-sound : (subject : Subject) (pin : Group) → own_conditions_at subject pin ≡ [] → wide_at subject pin ≡ []
    → list_all (is_check subject.pins) (checks_of subject pin) ≡ true
checks-sound subject pin own wide =
    let is : List Check → Type 0 = λ ks. list_all (is_check subject.pins) ks ≡ true in
    let high : is (attribute_checks subject kind.Width Rise Fall (pulse_high subject pin)) =
    attributes-sound subject kind.Width Rise Fall pin (codes "min_pulse_width_high")
    (λ limit. both _ _ (has-same subject.place) refl) in
    let low : is (attribute_checks subject kind.Width Fall Rise (pulse_low subject pin)) =
    attributes-sound subject kind.Width Fall Rise pin (codes "min_pulse_width_low")
    (λ limit. both _ _ (has-same subject.place) refl) in
    let period : is (attribute_checks subject kind.Period Any Any (least_period subject pin)) =
    attributes-sound subject kind.Period Any Any pin (codes "min_period") (λ limit. both _ _ (has-same subject.place) refl) in
    all-append (is_check subject.pins) (flat_map (checks_in subject) (timing_groups pin)) _
    (all-checks subject (timing_groups pin) own wide)
    (all-append (is_check subject.pins) (attribute_checks subject kind.Width Rise Fall (pulse_high subject pin)) _ high
    (all-append (is_check subject.pins) (attribute_checks subject kind.Width Fall Rise (pulse_low subject pin)) _ low period))

pub checks_are_sound : ChecksAreSound
checks_are_sound subject pin t e narrow =
    let is = read subject pin t e in
    let wide : least (wide_at subject pin) ≡ None = ap (λ (s : PinTiming). s.wide) is.timing ∙ narrow in
    subst (λ (s : PinTiming). list_all (is_check subject.pins) s.checks ≡ true) is.timing
    (checks-sound subject pin is.own (none-least (wide_at subject pin) wide))

-- Arcs before they are merged, and after.
abbrev arc_is : (Arc → Bool) → Placed → Bool
arc_is t p = t p.arc

all-placed : (t : Arc → Bool) (subject : Subject) (groups : List Group)
    → ((group : Group) → list_all t (arcs_in subject group) ≡ true)
    → list_all (arc_is t) (flat_map (placed_arcs_in subject) groups) ≡ true
all-placed t subject [] f = refl
all-placed t subject (group ∷ groups) f =
    all-append (arc_is t) (placed_arcs_in subject group) (flat_map (placed_arcs_in subject) groups)
    (all-map (arc_is t) (λ arc. record { arc = arc; at = group.at }) (arcs_in subject group) (f group))
    (all-placed t subject groups f)

all-arcs : (subject : Subject) (groups : List Group) → flat_map (own_in subject) groups ≡ []
    → flat_map (wide_in subject) groups ≡ []
    → list_all (arc_is (is_arc subject.pins)) (flat_map (placed_arcs_in subject) groups) ≡ true
all-arcs subject [] own wide = refl
all-arcs subject (group ∷ groups) own wide =
    let o = both_empty (own_in subject group) (flat_map (own_in subject) groups) own in
    let w = both_empty (wide_in subject group) (flat_map (wide_in subject) groups) wide in
    all-append (arc_is (is_arc subject.pins)) (placed_arcs_in subject group) (flat_map (placed_arcs_in subject) groups)
    (all-map (arc_is (is_arc subject.pins)) (λ arc. record { arc = arc; at = group.at }) (arcs_in subject group)
    (group-arcs subject group o.0 w.0))
    (all-arcs subject groups o.1 w.1)

all-firsts : (t : Placed → Bool) (earlier : List Arc) (made : List Placed) → list_all t made ≡ true
    → list_all t (firsts_after earlier made) ≡ true
all-firsts t earlier [] h = refl
all-firsts t earlier (p ∷ made) h =
    let parts = and_parts (t p) (list_all t made) h in
    elim (cases_Bool (list_any (same_path p.arc) earlier)) [
      | inl there ↦ rw there (all-firsts t earlier made parts.1)
      | inr new ↦ rw new (both _ _ parts.0 (all-firsts t (p.arc ∷ earlier) made parts.1))
    ]

-- what all arcs are, and merging does not change, the merged ones are
all-merged : (t : Arc → Bool) (made : List Placed) → ((arc : Arc) → t arc ≡ true → t (merged_into made arc) ≡ true)
    → list_all (arc_is t) made ≡ true → list_all t (merged made) ≡ true
all-merged t made f h =
    all-map t (λ (p : Placed). merged_into made p.arc) (firsts made)
    (all-weaker (arc_is t) (λ (p : Placed). t (merged_into made p.arc)) (firsts made) (λ p is. f p.arc is)
    (all-firsts (arc_is t) [] made h))

abbrev short_rise : Arc → Bool
short_rise arc = nat_le arc.rise longest_time

abbrev short_fall : Arc → Bool
short_fall arc = nat_le arc.fall longest_time

greatest-short : (f : Arc → ℕ) (t : Placed → Bool) (made : List Placed)
    → list_all (λ (p : Placed). nat_le (f p.arc) longest_time) made ≡ true
    → greatest (map (λ (p : Placed). f p.arc) (filter t made)) ≤ longest_time
greatest-short f t [] h = omega arith
greatest-short f t (p ∷ made) h =
    let parts = and_parts (nat_le (f p.arc) longest_time) (list_all (λ (p : Placed). nat_le (f p.arc) longest_time) made) h in
    let others = greatest-short f t made parts.1 in
    let here : f p.arc ≤ longest_time = let e = parts.0 in grind (arith, nat_tests) in
    elim (cases_Bool (t p)) [
      | inl passes ↦ rw passes (omega arith)
      | inr fails ↦ rw fails others
    ]

short-test : (n : ℕ) → n ≤ longest_time → nat_le n longest_time ≡ true
short-test n h = grind (arith, nat_tests)

-- the parts of the rules of an arc
record ArcParts (pins : List Pin) (arc : Arc) : Type 0 where
  from : is_input_pin pins arc.from ≡ true
  to : is_output_pin pins arc.to ≡ true
  rise : nat_le arc.rise longest_time ≡ true
  fall : nat_le arc.fall longest_time ≡ true
  condition : is_condition pins (arc.from ∷ []) arc.condition ≡ true

arc_parts : (pins : List Pin) (arc : Arc) → is_arc pins arc ≡ true → ArcParts pins arc
arc_parts pins arc h =
    let a = and_parts (is_input_pin pins arc.from) _ h in
    let b = and_parts (is_output_pin pins arc.to) _ a.1 in
    let c = and_parts (nat_le arc.rise longest_time) _ b.1 in
    let d = and_parts (nat_le arc.fall longest_time) (is_condition pins (arc.from ∷ []) arc.condition) c.1 in
    record { from = a.0; to = b.0; rise = c.0; fall = d.0; condition = d.1 }

merged-sound : (pins : List Pin) (made : List Placed) → list_all (arc_is (is_arc pins)) made ≡ true
    → list_all (is_arc pins) (merged made) ≡ true
merged-sound pins made h =
    let rises = all-weaker (arc_is (is_arc pins)) (arc_is short_rise) made (λ p is. (arc_parts pins p.arc is).rise) h in
    let falls = all-weaker (arc_is (is_arc pins)) (arc_is short_fall) made (λ p is. (arc_parts pins p.arc is).fall) h in
    all-merged (is_arc pins) made (λ arc is.
    let parts = arc_parts pins arc is in
    let test : Placed → Bool = λ (p : Placed). same_path p.arc arc in
    both _ _ parts.from (both _ _ parts.to (both _ _
    (short-test _ (greatest-short (λ arc. arc.rise) test made rises))
    (both _ _ (short-test _ (greatest-short (λ arc. arc.fall) test made falls)) parts.condition)))) h

pub arcs_are_sound : ArcsAreSound
arcs_are_sound subject pin t e narrow =
    let is = read subject pin t e in
    let wide : least (wide_at subject pin) ≡ None = ap (λ (s : PinTiming). s.wide) is.timing ∙ narrow in
    subst (λ (s : PinTiming). list_all (is_arc subject.pins) s.arcs ≡ true) is.timing
    (merged-sound subject.pins (placed_arcs subject pin)
    (all-arcs subject (timing_groups pin) is.own (none-least (wide_at subject pin) wide)))

-- They end at the pin.
abbrev ends_at : ℕ → Arc → Bool
ends_at place arc = nat_eq arc.to place

typed-ends : (place : ℕ) (t : TimingType) (p rise fall : ℕ) (c : Option _)
    → list_all (ends_at place) (arcs_with t place p rise fall c) ≡ true
typed-ends place Delay p rise fall c = both _ _ (has-same place) refl
typed-ends place (Setup edge) p rise fall c = refl
typed-ends place (Hold edge) p rise fall c = refl
typed-ends place (Recovery edge) p rise fall c = refl
typed-ends place (Removal edge) p rise fall c = refl
typed-ends place Width p rise fall c = refl
typed-ends place Period p rise fall c = refl
typed-ends place Other p rise fall c = refl

all-of : {A : Type 0} (xs : List A) → list_all (λ x. true) xs ≡ true
all-of [] = refl
all-of (x ∷ xs) = all-of xs

group-ends : (subject : Subject) (group : Group) → list_all (ends_at subject.place) (arcs_in subject group) ≡ true
group-ends subject group =
    elim (cases_Bool (is_made subject group)) [
      | inl made ↦
          rw made
          (all-flat_map (ends_at subject.place) (arcs_from subject group) (λ p. true) (inputs_of subject group)
          (λ p h. typed-ends subject.place (type_of group) p (rise_of subject group) (fall_of subject group) _)
          (all-of (inputs_of subject group)))
      | inr not_made ↦ rw not_made refl
    ]

pub arcs_end_here : ArcsEndHere
arcs_end_here subject pin t e =
    let is = read subject pin t e in
    subst (λ (s : PinTiming). list_all (ends_at subject.place) s.arcs ≡ true) is.timing
    (all-merged (ends_at subject.place) (placed_arcs subject pin) (λ arc h. h)
    (all-placed (ends_at subject.place) subject (timing_groups pin) (group-ends subject)))

-- No two have the same path.
abbrev unlike : Arc → Arc → Bool
unlike a b = not (same_path b a)

abbrev apart : List Arc → Bool
apart [] = true
apart (a ∷ arcs) = list_all (unlike a) arcs && apart arcs

abbrev arc_of : Placed → Arc
arc_of p = p.arc

neither : (a b : Bool) → not (a || b) ≡ true → (not a ≡ true) × (not b ≡ true)
neither true b h = absurd cc
neither false b h = (refl, h)

-- what holds of the first with each path, where it holds of one more that is like none before it
each-first :
    (P : List Arc → List Placed → Type 0) → ((earlier : List Arc) → P earlier [])
    → ((earlier : List Arc) (p : Placed) (ps : List Placed) → list_any (same_path p.arc) earlier ≡ false → P (p.arc ∷ earlier) ps
    → P earlier (p ∷ ps))
    → (earlier : List Arc) (made : List Placed) → P earlier (firsts_after earlier made)
each-first P none one earlier [] = none earlier
each-first P none one earlier (p ∷ made) =
    elim (cases_Bool (list_any (same_path p.arc) earlier)) [
      | inl there ↦ rw there (each-first P none one earlier made)
      | inr new ↦ rw new (one earlier p (firsts_after (p.arc ∷ earlier) made) new (each-first P none one (p.arc ∷ earlier) made))
    ]

-- they are like none before them, and no two of them are alike
abbrev AreNew : List Arc → List Placed → Type 0
AreNew earlier ps = (list_all (λ (p : Placed). not (list_any (same_path p.arc) earlier)) ps ≡ true)
    × (apart (map arc_of ps) ≡ true)

one-new : (earlier : List Arc) (p : Placed) (ps : List Placed) → list_any (same_path p.arc) earlier ≡ false
    → AreNew (p.arc ∷ earlier) ps → AreNew earlier (p ∷ ps)
one-new earlier p ps new (none, alone) = (
  both _ _ (ap not new)
      (all-weaker (λ (q : Placed). not (list_any (same_path q.arc) (p.arc ∷ earlier)))
      (λ (q : Placed). not (list_any (same_path q.arc) earlier)) ps
      (λ q h. (neither (same_path q.arc p.arc) (list_any (same_path q.arc) earlier) h).1) none),
  both _ _
      (all-map (unlike p.arc) arc_of ps
      (all-weaker (λ (q : Placed). not (list_any (same_path q.arc) (p.arc ∷ earlier))) (λ (q : Placed). unlike p.arc q.arc) ps
      (λ q h. (neither (same_path q.arc p.arc) (list_any (same_path q.arc) earlier) h).0) none))
      alone,
)

firsts-apart : (earlier : List Arc) (made : List Placed) → apart (map arc_of (firsts_after earlier made)) ≡ true
firsts-apart earlier made = (each-first AreNew (λ earlier. (refl, refl)) one-new earlier made).1

unlike-merged : (made : List Placed) (a : Arc) (ps : List Placed) → list_all (unlike a) (map arc_of ps) ≡ true
    → list_all (unlike (merged_into made a)) (map (λ (p : Placed). merged_into made p.arc) ps) ≡ true
unlike-merged made a [] h = refl
unlike-merged made a (p ∷ ps) h = let parts = and_parts (unlike a p.arc) (list_all (unlike a) (map arc_of ps)) h
    in both _ _ parts.0 (unlike-merged made a ps parts.1)

apart-merged : (made : List Placed) (ps : List Placed) → apart (map arc_of ps) ≡ true
    → apart (map (λ (p : Placed). merged_into made p.arc) ps) ≡ true
apart-merged made [] h = refl
apart-merged made (p ∷ ps) h =
    let parts = and_parts (list_all (unlike p.arc) (map arc_of ps)) (apart (map arc_of ps)) h in
    both _ _ (unlike-merged made p.arc ps parts.0) (apart-merged made ps parts.1)

all-get : {A : Type 0} (t : A → Bool) (xs : List A) (i : ℕ) (x : A) → list_all t xs ≡ true → slice_get xs i ≡ Some x → t x ≡ true
all-get t [] i x h e = absurd cc
all-get t (y ∷ xs) zero x h e = let same : y ≡ x = cc in subst (λ z. t z ≡ true) same (and_parts (t y) (list_all t xs) h).0
all-get t (y ∷ xs) (suc i) x h e = all-get t xs i x (and_parts (t y) (list_all t xs) h).1 e

apart-get : (arcs : List Arc) (i j : ℕ) (a b : Arc) → apart arcs ≡ true → i < j → slice_get arcs i ≡ Some a
    → slice_get arcs j ≡ Some b → unlike a b ≡ true
apart-get [] i j a b h l e f = absurd cc
apart-get (x ∷ arcs) i zero a b h l e f = absurd (omega arith)
apart-get (x ∷ arcs) zero (suc j) a b h l e f =
    let same : x ≡ a = cc in
    subst (λ (y : Arc). unlike y b ≡ true) same
    (all-get (unlike x) arcs j b (and_parts (list_all (unlike x) arcs) (apart arcs) h).0 f)
apart-get (x ∷ arcs) (suc i) (suc j) a b h l e f =
    apart-get arcs i j a b (and_parts (list_all (unlike x) arcs) (apart arcs) h).1 (omega arith) e f

all-apart-arcs : (arcs : List Arc) → apart arcs ≡ true → AreApart arcs
all-apart-arcs arcs h i j a b l e f from to condition =
    let differ : unlike a b ≡ true = apart-get arcs i j a b h l e f in
    let like : same_path b a ≡ true = path-equal b a (sym from) (sym to) (sym condition) in
    let clash : false ≡ true = ap not (sym like) ∙ differ in absurd cc

pub arcs_are_apart : ArcsAreApart
arcs_are_apart subject pin t e =
    let is = read subject pin t e in
    subst (λ (s : PinTiming). AreApart s.arcs) is.timing
    (all-apart-arcs (merged (placed_arcs subject pin))
    (apart-merged (placed_arcs subject pin) (firsts (placed_arcs subject pin)) (firsts-apart [] (placed_arcs subject pin))))

-- The offsets, and the places of the groups that are left out.
groups-lengths : (subject : Subject) (groups : List Group)
    → length (flat_map (λ (group : Group). at_each group.at (checks_in subject group)) groups) ≡ length
    (flat_map (checks_in subject) groups)
groups-lengths subject [] = refl
groups-lengths subject (group ∷ groups) =
    let others = groups-lengths subject groups in
    length-append (at_each group.at (checks_in subject group))
    (flat_map (λ (group : Group). at_each group.at (checks_in subject group)) groups)
    ∙ ap (λ n. n + length (flat_map (λ (group : Group). at_each group.at (checks_in subject group)) groups))
    (length-map (checks_in subject group) (λ x. group.at))
    ∙ ap (λ n. length (checks_in subject group) + n) others
    ∙ sym (length-append (checks_in subject group) (flat_map (checks_in subject) groups))

attribute-lengths : (subject : Subject) (k : CheckKind) (first second : Edge) (o : Option Attribute)
    → length (attribute_check_at subject k first second o) ≡ length (attribute_checks subject k first second o)
attribute-lengths subject k first second None = refl
attribute-lengths subject k first second (Some attribute) =
    length-map (attribute_check subject k first second attribute) (λ x. attribute.at)

lengths-append : {A : Type 0} (ns ms : List ℕ) (xs ys : List A) → length ns ≡ length xs → length ms ≡ length ys
    → length (ns ++ ms) ≡ length (xs ++ ys)
lengths-append ns ms xs ys h k = length-append ns ms ∙ ap (λ n. n + length ms) h ∙ ap (λ n. length xs + n) k
    ∙ sym (length-append xs ys)

checks-lengths : (subject : Subject) (pin : Group) → length (check_at_of subject pin) ≡ length (checks_of subject pin)
checks-lengths subject pin =
    lengths-append _ _ (flat_map (checks_in subject) (timing_groups pin)) _ (groups-lengths subject (timing_groups pin))
    (lengths-append _ _ (attribute_checks subject kind.Width Rise Fall (pulse_high subject pin)) _
    (attribute-lengths subject kind.Width Rise Fall (pulse_high subject pin))
    (lengths-append _ _ (attribute_checks subject kind.Width Fall Rise (pulse_low subject pin))
    (attribute_checks subject kind.Period Any Any (least_period subject pin))
    (attribute-lengths subject kind.Width Fall Rise (pulse_low subject pin))
    (attribute-lengths subject kind.Period Any Any (least_period subject pin))))

arcs-lengths : (made : List Placed) → length (merged_at made) ≡ length (merged made)
arcs-lengths made = length-map (firsts made) (λ (p : Placed). p.at)
    ∙ sym (length-map (firsts made) (λ (p : Placed). merged_into made p.arc))

place-below : (subject : Subject) (place top : ℕ) (o : Option Group) → place < top
    → list_all (λ n. nat_lt n top) (left_out_at subject place o) ≡ true
place-below subject place top None h = refl
place-below subject place top (Some group) h =
    elim (is_left_out subject group) as (λ b. list_all (λ n. nat_lt n top) (if b then place ∷ [] else []) ≡ true) [
      | true ↦ both _ _ (below-test place top h) refl
      | false ↦ refl
    ]

places-below : (subject : Subject) (place top : ℕ) (items : List Item) → place + length items ≤ top
    → list_all (λ n. nat_lt n top) (left_out_from subject place items) ≡ true
places-below subject place top [] h = refl
places-below subject place top (item ∷ items) h =
    all-append (λ n. nat_lt n top) (left_out_at subject place (group_named (codes "timing") (out-Item item)))
    (left_out_from subject (place + 1) items)
    (place-below subject place top (group_named (codes "timing") (out-Item item)) (omega arith))
    (places-below subject (place + 1) top items (omega arith))

pub timings_are_placed : TimingsArePlaced
timings_are_placed subject pin t e =
    let is = read subject pin t e in
    subst (λ (s : PinTiming). IsPlaced pin s) is.timing record {
      checks = checks-lengths subject pin;
      arcs = arcs-lengths (placed_arcs subject pin);
      left_out = places-below subject 0 (length pin.items) pin.items (omega arith);
    }
