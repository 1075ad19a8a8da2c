-- What is put together statement by statement is what the definition says of all statements.
use Rattle.std.proofs.Common.{◌≡◌, ℕ, zero, suc, ◌+◌, ◌<◌, ◌≤◌, Bool, true, false, ◌==◌, nat_lt, List, [], ◌∷◌, ◌++◌, map, take}
use Rattle.std.proofs.Common.{length, refl, sym, ap, ◌∙◌, append_assoc, append-nil, length-append, arith}
use Rattle.std.specs.Prelude.{Option, Some, None, filter, flat_map, codes, Result, Ok, if◌then◌else◌}
use Rattle.std.specs.List.{list_any, cons_option}
use Rattle.std.proofs.lemmas.Bool.{cases_Bool}
use Rattle.std.proofs.lemmas.Bool.Decides.{nat_tests}
use Rattle.std.proofs.lemmas.List.{map-append, length-map, length-take-le, take-append-le, take-map, take_all}
use Rattle.std.proofs.lemmas.List.Elements.{filter-append}
use Rattle.std.proofs.Math.Logic.{inl, inr}
use Rattle.liberty_groups.specs.declared.tree.Item.{Item, out-Item}
use Rattle.liberty_groups.specs.declared.tree.Group.{Group}
use Rattle.cell_machine.specs.declared.checks.CheckKind.{CheckKind}
use Rattle.cell_machine.specs.declared.checks.CheckKind.TheVariants as kind
use Rattle.cell_machine.specs.declared.checks.Edge.{Edge}
use Rattle.cell_machine.specs.declared.checks.Edge.TheVariants.{Any, Rise, Fall}
use Rattle.cell_machine.specs.declared.checks.Check.{Check}
use Rattle.cell_machine.specs.declared.arcs.Arc.{Arc}
use Rattle.timing_arcs.specs.declared.found.Found.{Found}
use Rattle.timing_arcs.specs.declared.subject.Subject.{Subject}
use Rattle.timing_arcs.specs.declared.subject.PinTiming.{PinTiming}
use Rattle.timing_arcs.specs.declared.subject.Room.{Room}
use Rattle.timing_arcs.specs.declared.fault.TimingFault.{TimingFault}
use Rattle.timing_arcs.specs.declared.fault.TimingFault.TheVariants as fault
use Rattle.liberty_groups.specs.Attributes.{Attribute, group_named, groups_named}
use Rattle.cell_machine.specs.Delay.{least}
use Rattle.timing_arcs.specs.Times.{time_of}
use Rattle.timing_arcs.specs.RelatedPins.{inputs_of, is_left_out}
use Rattle.timing_arcs.specs.Making.{check, event, has_limit, checks_from, arcs_from, is_made, checks_in}
use Rattle.timing_arcs.specs.Merging.{Placed, same_path, firsts, merged_into, merged, merged_at}
use Rattle.timing_arcs.specs.Timing.{timing_groups, malformed_in, unknown_in, own_in, wide_in, bad_numbers_in, pulse_high}
use Rattle.timing_arcs.specs.Timing.{pulse_low, least_period, attribute_checks, attribute_check_at, bad_attribute, at_each}
use Rattle.timing_arcs.specs.Timing.{placed_arcs_in, left_out_at, left_out_from, checks_of, check_at_of, malformed_at}
use Rattle.timing_arcs.specs.Timing.{unknown_names_at, own_conditions_at, numbers_at, timing_of, unless_at, reading_answer}
use Rattle.timing_arcs.specs.Timing.{held_answer}
use Rattle.timing_arcs.specs.Adding.{joined_with, pushed, with_left_out, with_placed, with_checks, with_arcs, with_inputs}
use Rattle.timing_arcs.specs.Adding.{with_noted, with_group, with_optional, with_items, with_limit, with_attribute, nothing_found}
use Rattle.timing_arcs.specs.Adding.{found_of, answer_found}
use Rattle.timing_arcs.specs.Readings.{joined, offsets_in}
use Rattle.cell_machine.proofs.LeastLemmas.{least_append}
use Rattle.timing_arcs.proofs.MergingLemmas.{merged-append, merged_at-append}

-- what is found, part by part, before arcs are merged and of offsets the least are taken
record Parts : Type 0 where
  checks : List Check
  check_at : List ℕ
  placed : List Placed
  left_out : List ℕ
  malformed : List ℕ
  unknown : List ℕ
  own : List ℕ
  numbers : List ℕ
  wide : List ℕ

-- and after that, as far as there is room
abbrev shows : Room → Parts → Found
shows room p = record {
  room = room;
  checks = take room.checks p.checks;
  check_at = take room.checks p.check_at;
  arcs = take room.arcs (merged p.placed);
  arc_at = take room.arcs (merged_at p.placed);
  left_out = (if room.left_out then p.left_out else []);
  offsets = record {
    malformed = least p.malformed;
    unknown_name = least p.unknown;
    own_condition = least p.own;
    number =
        least p.numbers;
    wide = least p.wide;
  };
}

abbrev add : Parts → Parts → Parts
add p q = record {
  checks = p.checks ++ q.checks;
  check_at = p.check_at ++ q.check_at;
  placed = p.placed ++ q.placed;
  left_out = p.left_out ++ q.left_out;
  malformed = p.malformed ++ q.malformed;
  unknown = p.unknown ++ q.unknown;
  own = p.own ++ q.own;
  numbers = p.numbers ++ q.numbers;
  wide = p.wide ++ q.wide;
}

abbrev no_parts : Parts
no_parts = record {
  checks = [];
  check_at = [];
  placed = [];
  left_out = [];
  malformed = [];
  unknown = [];
  own = [];
  numbers =
      [];
  wide = [];
}

add-none : (p : Parts) → add p no_parts ≡ p
add-none p = λ i. record {
  checks = append-nil p.checks i;
  check_at = append-nil p.check_at i;
  placed = append-nil p.placed i;
  left_out = append-nil p.left_out i;
  malformed = append-nil p.malformed i;
  unknown = append-nil p.unknown i;
  own = append-nil p.own i;
  numbers = append-nil p.numbers i;
  wide = append-nil p.wide i;
}

add-assoc : (p q r : Parts) → add (add p q) r ≡ add p (add q r)
add-assoc p q r = λ i. record {
  checks = append_assoc p.checks q.checks r.checks i;
  check_at = append_assoc p.check_at q.check_at r.check_at i;
  placed = append_assoc p.placed q.placed r.placed i;
  left_out = append_assoc p.left_out q.left_out r.left_out i;
  malformed = append_assoc p.malformed q.malformed r.malformed i;
  unknown = append_assoc p.unknown q.unknown r.unknown i;
  own = append_assoc p.own q.own r.own i;
  numbers = append_assoc p.numbers q.numbers r.numbers i;
  wide = append_assoc p.wide q.wide r.wide i;
}

-- with more checks, and with more arcs
abbrev more_checks : Parts → List Check → List ℕ → Parts
more_checks p ks ats = record p { checks = p.checks ++ ks; check_at = p.check_at ++ ats }

abbrev more_arcs : Parts → List Placed → Parts
more_arcs p ps = record p { placed = p.placed ++ ps }

abbrev placed_at : ℕ → List Arc → List Placed
placed_at at arcs = map (λ arc. record { arc = arc; at = at }) arcs

-- what is held with one more is what is held of one more
push-take : {A : Type 0} (n : ℕ) (xs : List A) (x : A) → pushed n (take n xs) x ≡ take n (xs ++ x ∷ [])
push-take n xs x =
    elim (cases_Bool (nat_lt (length xs) n)) [
      | inl short ↦
          let below : length xs < n = grind (arith, nat_tests) in
          let whole : take n xs ≡ xs = take_all n xs (omega arith) in
          let more : length (xs ++ x ∷ []) ≤ n = simp length-append (omega arith) in
          rw whole (rw short (sym (take_all n (xs ++ x ∷ []) more)))
      | inr long ↦
          let above : n ≤ length xs = grind (arith, nat_tests) in
          let count : length (take n xs) ≡ n = length-take-le n xs above in
          let full : nat_lt (length (take n xs)) n ≡ false = rw count (grind (arith, nat_tests)) in
          rw full (sym (take-append-le n xs (x ∷ []) above))
    ]

push-full : {A : Type 0} (n : ℕ) (xs : List A) (x : A) → n ≤ length xs → pushed n (take n xs) x ≡ take n xs
push-full n xs x h = push-take n xs x ∙ take-append-le n xs (x ∷ []) h

with_checks-shows : (room : Room) (at : ℕ) (p : Parts) (ks : List Check)
    → with_checks at (shows room p) ks ≡ shows room (more_checks p (filter has_limit ks) (at_each at (filter has_limit ks)))
with_checks-shows room at p [] = ap (shows room)
    (sym (λ i. record p { checks = append-nil p.checks i; check_at = append-nil p.check_at i }))
with_checks-shows room at p (k ∷ ks) =
    elim (cases_Bool (k.limit == 0)) [
      | inl no_limit ↦ rw no_limit (with_checks-shows room at p ks)
      | inr some ↦
          rw some
          (ap (λ found. with_checks at found ks)
          (λ i. record (shows room p) {
            checks = push-take room.checks p.checks k i;
            check_at =
                push-take room.checks p.check_at at i;
          })
          ∙ with_checks-shows room at (more_checks p (k ∷ []) (at ∷ [])) ks
          ∙ ap (shows room) (λ i. record p {
            checks = append_assoc p.checks (k ∷ []) (filter has_limit ks) i;
            check_at =
                append_assoc p.check_at (at ∷ []) (at_each at (filter has_limit ks)) i;
          }))
    ]

any-take : {A : Type 0} (t : A → Bool) (n : ℕ) (xs : List A) → list_any t (take n xs) ≡ true → list_any t xs ≡ true
any-take t zero xs h = absurd cc
any-take t (suc n) [] h = absurd cc
any-take t (suc n) (x ∷ xs) h =
    elim (cases_Bool (t x)) [
      | inl is ↦ rw is refl
      | inr isnt ↦ rw isnt (any-take t n xs (rw isnt at h))
    ]

-- where some are beyond those that are held, those are full
beyond : {A : Type 0} (t : A → Bool) (n : ℕ) (xs : List A) → list_any t (take n xs) ≡ false → list_any t xs ≡ true → n ≤ length xs
beyond t n xs none some =
    elim (cases_Bool (nat_lt (length xs) n)) [
      | inl short ↦
          let whole : take n xs ≡ xs = take_all n xs (let below : length xs < n = grind (arith, nat_tests) in omega arith) in
          let clash : false ≡ true = sym none ∙ ap (list_any t) whole ∙ some in absurd cc
      | inr long ↦ grind (arith, nat_tests)
    ]

as_many : (made : List Placed) → length (merged_at made) ≡ length (merged made)
as_many made = length-map (firsts made) (λ (p : Placed). p.at)
    ∙ sym (length-map (firsts made) (λ (p : Placed). merged_into made p.arc))

-- one more arc, as far as there is room
arcs-one : (n : ℕ) (made : List Placed) (q : Placed) → list_any (same_path q.arc) (take n (merged made)) ≡ false
    → pushed n (map (joined_with q.arc) (take n (merged made))) q.arc ≡ take n (merged (made ++ q ∷ []))
arcs-one n made q none =
    let joint : List Arc = map (joined_with q.arc) (merged made) in
    let moved : map (joined_with q.arc) (take n (merged made)) ≡ take n joint = sym (take-map (joined_with q.arc) n (merged made))
    in
    elim (cases_Bool (list_any (same_path q.arc) (merged made))) [
      | inl there ↦
          let full : n ≤ length (merged made) = beyond (same_path q.arc) n (merged made) none there in
          let count : length joint ≡ length (merged made) = length-map (merged made) (joined_with q.arc) in
          let long : n ≤ length joint = omega arith in
          ap (λ arcs. pushed n arcs q.arc) moved ∙ push-full n joint q.arc long ∙ ap (take n) (rw there at (merged-append made q))
      | inr new ↦ ap (λ arcs. pushed n arcs q.arc) moved ∙ push-take n joint q.arc
          ∙ ap (take n) (rw new at (merged-append made q))
    ]

ats-one : (n : ℕ) (made : List Placed) (q : Placed) → list_any (same_path q.arc) (take n (merged made)) ≡ false
    → pushed n (take n (merged_at made)) q.at ≡ take n (merged_at (made ++ q ∷ []))
ats-one n made q none =
    elim (cases_Bool (list_any (same_path q.arc) (merged made))) [
      | inl there ↦
          let full : n ≤ length (merged made) = beyond (same_path q.arc) n (merged made) none there in
          let count : length (merged_at made) ≡ length (merged made) = as_many made in
          push-full n (merged_at made) q.at (omega arith) ∙ ap (take n) (rw there at (merged_at-append made q))
      | inr new ↦ push-take n (merged_at made) q.at ∙ ap (take n) (rw new at (merged_at-append made q))
    ]

with_placed-shows : (room : Room) (at : ℕ) (p : Parts) (arc : Arc)
    → with_placed at (shows room p) arc ≡ shows room (more_arcs p (record { arc = arc; at = at } ∷ []))
with_placed-shows room at p arc =
    let q : Placed = record { arc = arc; at = at } in
    elim (cases_Bool (list_any (same_path arc) (take room.arcs (merged p.placed)))) [
      | inl there ↦
          let whole : list_any (same_path arc) (merged p.placed) ≡ true =
          any-take (same_path arc) room.arcs (merged p.placed) there in
          let kept : map (joined_with arc) (merged p.placed) ≡ merged (p.placed ++ q ∷ []) =
          rw whole at (merged-append p.placed q) in
          let same : merged_at p.placed ≡ merged_at (p.placed ++ q ∷ []) = rw whole at (merged_at-append p.placed q) in
          let arcs = sym (take-map (joined_with arc) room.arcs (merged p.placed)) ∙ ap (take room.arcs) kept in
          rw there (λ i. record (shows room p) { arcs = arcs i; arc_at = take room.arcs (same i) })
      | inr new ↦
          let arcs = arcs-one room.arcs p.placed q new in
          let ats = ats-one room.arcs p.placed q new in
          rw new (λ i. record (shows room p) { arcs = arcs i; arc_at = ats i })
    ]

with_arcs-shows : (room : Room) (at : ℕ) (p : Parts) (arcs : List Arc)
    → with_arcs at (shows room p) arcs ≡ shows room (more_arcs p (placed_at at arcs))
with_arcs-shows room at p [] = ap (shows room) (sym (λ i. record p { placed = append-nil p.placed i }))
with_arcs-shows room at p (arc ∷ arcs) =
    ap (λ found. with_arcs at found arcs) (with_placed-shows room at p arc)
    ∙ with_arcs-shows room at (more_arcs p (record { arc = arc; at = at } ∷ [])) arcs
    ∙ ap (shows room) (λ i. record p {
      placed =
          append_assoc p.placed (record { arc = arc; at = at } ∷ []) (placed_at at arcs) i;
    })

-- with checks, of which those with a limit count, and with arcs
abbrev more_made : ℕ → Parts → List Check → List Arc → Parts
more_made at p ks arcs = more_arcs (more_checks p (filter has_limit ks) (at_each at (filter has_limit ks))) (placed_at at arcs)

with_inputs-shows : (room : Room) (subject : Subject) (group : Group) (p : Parts) (inputs : List ℕ) →
    with_inputs subject group (shows room p) inputs ≡ shows room
    (more_made group.at p (flat_map (checks_from subject group) inputs) (flat_map (arcs_from subject group) inputs))
with_inputs-shows room subject group p [] =
    ap (shows room) (sym (λ i. record p {
      checks = append-nil p.checks i;
      check_at = append-nil p.check_at i;
      placed =
          append-nil p.placed i;
    }))
with_inputs-shows room subject group p (related ∷ inputs) =
    let ks : List Check = checks_from subject group related in
    let arcs : List Arc = arcs_from subject group related in
    let more : List Check = flat_map (checks_from subject group) inputs in
    let others : List Arc = flat_map (arcs_from subject group) inputs in
    let limited : filter has_limit (ks ++ more) ≡ filter has_limit ks ++ filter has_limit more = filter-append has_limit ks more
    in
    let ats : at_each group.at (filter has_limit (ks ++ more)) ≡ at_each group.at (filter has_limit ks)
    ++ at_each group.at (filter has_limit more) =
    ap (at_each group.at) limited ∙ map-append (λ x. group.at) (filter has_limit ks) (filter has_limit more) in
    let places : placed_at group.at (arcs ++ others) ≡ placed_at group.at arcs ++ placed_at group.at others =
    map-append (λ arc. record { arc = arc; at = group.at }) arcs others in
    ap (λ found. with_inputs subject group (with_arcs group.at found arcs) inputs) (with_checks-shows room group.at p ks)
    ∙ ap (λ found. with_inputs subject group found inputs)
    (with_arcs-shows room group.at (more_checks p (filter has_limit ks) (at_each group.at (filter has_limit ks))) arcs)
    ∙ with_inputs-shows room subject group (more_made group.at p ks arcs) inputs
    ∙ ap (shows room) (λ i. record p {
      checks = (append_assoc p.checks (filter has_limit ks) (filter has_limit more)
          ∙ ap (λ (xs : List Check). p.checks ++ xs) (sym limited)) i;
      check_at = (append_assoc p.check_at (at_each group.at (filter has_limit ks)) (at_each group.at (filter has_limit more))
          ∙ ap (λ (xs : List ℕ). p.check_at ++ xs) (sym ats)) i;
      placed = (append_assoc p.placed (placed_at group.at arcs) (placed_at group.at others)
          ∙ ap (λ (xs : List Placed). p.placed ++ xs) (sym places)) i;
    })

-- what groups give, where these are the places of those that are left out
abbrev parts_of : Subject → List Group → List ℕ → Parts
parts_of subject groups left = record {
  checks = flat_map (checks_in subject) groups;
  check_at = flat_map (λ (group : Group). at_each group.at (checks_in subject group)) groups;
  placed = flat_map (placed_arcs_in subject) groups;
  left_out = left;
  malformed = flat_map (malformed_in subject) groups;
  unknown = flat_map (unknown_in subject) groups;
  own = flat_map (own_in subject) groups;
  numbers = flat_map (bad_numbers_in subject) groups;
  wide = flat_map (wide_in subject) groups;
}

-- what is noted in a group
abbrev noted : Subject → ℕ → Parts → Group → Parts
noted subject place p group = record p {
  left_out = p.left_out ++ left_out_at subject place (Some group);
  malformed = p.malformed ++ malformed_in subject group;
  unknown = p.unknown ++ unknown_in subject group;
  own = p.own ++ own_in subject group;
  numbers = p.numbers ++ bad_numbers_in subject group;
  wide = p.wide ++ wide_in subject group;
}

-- a left-out group in a list that is held or not
left-held : (left keep : Bool) (found : Found) (place : ℕ) (places : List ℕ) → found.room.left_out ≡ keep
    → found.left_out ≡ (if keep then places else []) →
    (if left then with_left_out found place else found) ≡ record found {
      left_out =
          (if keep then places ++ (if left then place ∷ [] else []) else []);
    }
left-held true true found place places e h =
    ap (λ b. if b then record found { left_out = found.left_out ++ place ∷ [] } else found) e
    ∙ (λ i. record found { left_out = ap (λ (ps : List ℕ). ps ++ place ∷ []) h i })
left-held true false found place places e h =
    ap (λ b. if b then record found { left_out = found.left_out ++ place ∷ [] } else found) e
    ∙ (λ i. record found { left_out = h i })
left-held false true found place places e h = λ i. record found { left_out = (h ∙ sym (append-nil places)) i }
left-held false false found place places e h = λ i. record found { left_out = h i }

with_noted-shows : (room : Room) (subject : Subject) (place : ℕ) (p : Parts) (group : Group)
    → with_noted subject place (shows room p) group ≡ shows room (noted subject place p group)
with_noted-shows room subject place p group =
    left-held (is_left_out subject group) room.left_out
    (record (shows room p) { offsets = joined ((shows room p).offsets) (offsets_in subject group) }) place p.left_out refl
    refl
    ∙ (λ i. record (shows room (noted subject place p group)) {
      offsets = record {
        malformed = sym (least_append p.malformed (malformed_in subject group)) i;
        unknown_name = sym (least_append p.unknown (unknown_in subject group)) i;
        own_condition = sym (least_append p.own (own_in subject group)) i;
        number = sym (least_append p.numbers (bad_numbers_in subject group)) i;
        wide = sym (least_append p.wide (wide_in subject group)) i;
      };
    })

-- what one group gives
abbrev group_parts : Subject → ℕ → Group → Parts
group_parts subject place group = record {
  checks = checks_in subject group;
  check_at = at_each group.at (checks_in subject group);
  placed = placed_arcs_in subject group;
  left_out = left_out_at subject place (Some group);
  malformed = malformed_in subject group;
  unknown = unknown_in subject group;
  own = own_in subject group;
  numbers = bad_numbers_in subject group;
  wide = wide_in subject group;
}

with_group-shows : (room : Room) (subject : Subject) (place : ℕ) (p : Parts) (group : Group)
    → with_group subject place (shows room p) group ≡ shows room (add p (group_parts subject place group))
with_group-shows room subject place p group =
    elim (cases_Bool (is_made subject group)) [
      | inl made ↦
          rw made
          (ap (λ found. with_inputs subject group found (inputs_of subject group)) (with_noted-shows room subject place p group)
          ∙ with_inputs-shows room subject group (noted subject place p group) (inputs_of subject group))
      | inr not_made ↦
          rw not_made
          (with_noted-shows room subject place p group
          ∙ ap (shows room) (sym (λ i. record (noted subject place p group) {
            checks = append-nil p.checks i;
            check_at =
                append-nil p.check_at i;
            placed = append-nil p.placed i;
          })))
    ]

-- a group that is there or not, before others
abbrev optional_parts : Subject → ℕ → Option Group → Parts
optional_parts subject place None = no_parts
optional_parts subject place (Some group) = group_parts subject place group

with_optional-shows : (room : Room) (subject : Subject) (place : ℕ) (p : Parts) (o : Option Group)
    → with_optional subject place (shows room p) o ≡ shows room (add p (optional_parts subject place o))
with_optional-shows room subject place p None = ap (shows room) (sym (add-none p))
with_optional-shows room subject place p (Some group) = with_group-shows room subject place p group

step-parts : (subject : Subject) (place : ℕ) (o : Option Group) (groups : List Group) (left : List ℕ) →
    add (optional_parts subject place o) (parts_of subject groups left) ≡ parts_of subject (cons_option o groups)
    (left_out_at subject place o ++ left)
step-parts subject place None groups left = refl
step-parts subject place (Some group) groups left = refl

with_items-shows : (room : Room) (subject : Subject) (place : ℕ) (p : Parts) (items : List Item) →
    with_items subject place (shows room p) items ≡ shows room
    (add p (parts_of subject (groups_named (codes "timing") items) (left_out_from subject place items)))
with_items-shows room subject place p [] = ap (shows room) (sym (add-none p))
with_items-shows room subject place p (item ∷ items) =
    let o : Option Group = group_named (codes "timing") (out-Item item) in
    ap (λ found. with_items subject (place + 1) found items) (with_optional-shows room subject place p o)
    ∙ with_items-shows room subject (place + 1) (add p (optional_parts subject place o)) items
    ∙ ap (shows room) (add-assoc p (optional_parts subject place o)
    (parts_of subject (groups_named (codes "timing") items) (left_out_from subject (place + 1) items)))
    ∙ ap (λ q. shows room (add p q))
    (step-parts subject place o (groups_named (codes "timing") items) (left_out_from subject (place + 1) items))

-- with the check of an attribute
abbrev more_attribute : Subject → CheckKind → Edge → Edge → Parts → Option Attribute → Parts
more_attribute subject k first second p attribute = record p {
  checks = p.checks ++ attribute_checks subject k first second attribute;
  check_at = p.check_at ++ attribute_check_at subject k first second attribute;
  numbers = p.numbers ++ bad_attribute subject attribute;
}

attribute-time : (room : Room) (subject : Subject) (k : CheckKind) (first second : Edge) (p : Parts) (attribute : Attribute)
    (time : Option ℕ) → time_of subject.unit attribute.text ≡ time →
    with_limit subject k first second (shows room p) attribute.at time ≡ shows room
    (more_attribute subject k first second p (Some attribute))
attribute-time room subject k first second p attribute None e =
    rw e
    (λ i. record (shows room p) {
      checks = take room.checks (sym (append-nil p.checks) i);
      check_at = take room.checks (sym (append-nil p.check_at) i);
      offsets = record ((shows room p).offsets) { number = sym (least_append p.numbers (attribute.at ∷ [])) i };
    })
attribute-time room subject k first second p attribute (Some time) e =
    let made : List Check = check k (event subject.place first) (event subject.place second) time None ∷ [] in
    rw e
    (with_checks-shows room attribute.at p made
    ∙ ap (shows room) (sym (λ i. record (more_checks p (filter has_limit made) (at_each attribute.at (filter has_limit made)))
    { numbers = append-nil p.numbers i })))

with_attribute-shows : (room : Room) (subject : Subject) (k : CheckKind) (first second : Edge) (p : Parts)
    (attribute : Option Attribute) →
    with_attribute subject k first second (shows room p) attribute ≡ shows room
    (more_attribute subject k first second p attribute)
with_attribute-shows room subject k first second p None =
    ap (shows room) (sym (λ i. record p {
      checks = append-nil p.checks i;
      check_at = append-nil p.check_at i;
      numbers =
          append-nil p.numbers i;
    }))
with_attribute-shows room subject k first second p (Some attribute) =
    attribute-time room subject k first second p attribute (time_of subject.unit attribute.text) refl

append-three : {A : Type 0} (xs ys zs us : List A) → xs ++ ys ++ zs ++ us ≡ xs ++ (ys ++ (zs ++ us))
append-three xs ys zs us = append_assoc (xs ++ ys) zs us ∙ append_assoc xs ys (zs ++ us)

-- all that is found of a pin
abbrev pin_parts : Subject → Group → Parts
pin_parts subject pin = record (parts_of subject (timing_groups pin) (left_out_from subject 0 pin.items)) {
  checks = checks_of subject pin;
  check_at = check_at_of subject pin;
  numbers = numbers_at subject pin;
}

take-nil : {A : Type 0} (n : ℕ) → take {A = A} n [] ≡ []
take-nil zero = refl
take-nil (suc n) = refl

either-nil : {A : Type 0} (b : Bool) → let none : List A = [] in none ≡ (if b then none else none)
either-nil true = refl
either-nil false = refl

nothing-shows : (room : Room) → nothing_found room ≡ shows room no_parts
nothing-shows room = λ i. record (nothing_found room) {
  checks = sym (take-nil room.checks) i;
  check_at = sym (take-nil room.checks) i;
  arcs = sym (take-nil room.arcs) i;
  arc_at = sym (take-nil room.arcs) i;
  left_out = either-nil room.left_out i;
}

found_of-shows : (room : Room) (subject : Subject) (pin : Group) → found_of room subject pin ≡ shows room (pin_parts subject pin)
found_of-shows room subject pin =
    let p : Parts = parts_of subject (timing_groups pin) (left_out_from subject 0 pin.items) in
    let high : Option Attribute = pulse_high subject pin in
    let low : Option Attribute = pulse_low subject pin in
    let period : Option Attribute = least_period subject pin in
    let p1 : Parts = more_attribute subject kind.Width Rise Fall p high in
    let p2 : Parts = more_attribute subject kind.Width Fall Rise p1 low in
    ap (λ found. with_attribute subject kind.Period Any Any
    (with_attribute subject kind.Width Fall Rise (with_attribute subject kind.Width Rise Fall found high) low) period)
    (ap (λ found. with_items subject 0 found pin.items) (nothing-shows room) ∙ with_items-shows room subject 0 no_parts pin.items)
    ∙ ap (λ found. with_attribute subject kind.Period Any Any (with_attribute subject kind.Width Fall Rise found low) period)
    (with_attribute-shows room subject kind.Width Rise Fall p high)
    ∙ ap (λ found. with_attribute subject kind.Period Any Any found period)
    (with_attribute-shows room subject kind.Width Fall Rise p1 low)
    ∙ with_attribute-shows room subject kind.Period Any Any p2 period
    ∙ ap (shows room) (λ i. record p {
      checks = append-three p.checks (attribute_checks subject kind.Width Rise Fall high)
          (attribute_checks subject kind.Width Fall Rise low) (attribute_checks subject kind.Period Any Any period) i;
      check_at = append-three p.check_at (attribute_check_at subject kind.Width Rise Fall high)
          (attribute_check_at subject kind.Width Fall Rise low) (attribute_check_at subject kind.Period Any Any period) i;
      numbers = append-three p.numbers (bad_attribute subject high) (bad_attribute subject low) (bad_attribute subject period) i;
    })

held-unless : (room : Room) (wrong : ℕ → TimingFault) (o : Option ℕ) (answer : Result PinTiming TimingFault)
    → unless_at wrong o (held_answer room answer) ≡ held_answer room (unless_at wrong o answer)
held-unless room wrong None answer = refl
held-unless room wrong (Some at) answer = refl

-- the answer on what is found of a pin is what is held of that of the definition
pub answer-is : (room : Room) (subject : Subject) (pin : Group)
    → answer_found (found_of room subject pin) ≡ held_answer room (reading_answer subject pin)
answer-is room subject pin =
    let malformed : Option ℕ = least (malformed_at subject pin) in
    let unknown : Option ℕ = least (unknown_names_at subject pin) in
    let own : Option ℕ = least (own_conditions_at subject pin) in
    let number : Option ℕ = least (numbers_at subject pin) in
    let timing : Result PinTiming TimingFault = Ok (timing_of subject pin) in
    ap answer_found (found_of-shows room subject pin)
    ∙ ap (λ answer. unless_at fault.Malformed malformed
    (unless_at fault.UnknownName unknown (unless_at fault.OwnCondition own answer)))
    (held-unless room fault.Number number timing)
    ∙ ap (λ answer. unless_at fault.Malformed malformed (unless_at fault.UnknownName unknown answer))
    (held-unless room fault.OwnCondition own _)
    ∙ ap (λ answer. unless_at fault.Malformed malformed answer) (held-unless room fault.UnknownName unknown _)
    ∙ held-unless room fault.Malformed malformed _
