-- What is held of the timing of a cell's pins decides as all of it does.
use Rattle.std.proofs.Common.{◌≡◌, ℕ, zero, suc, ◌+◌, ◌-◌, ◌≤◌, min, nat_le, List, [], ◌∷◌, ◌++◌, take, length, refl, sym, ◌∙◌}
use Rattle.std.proofs.Common.{ap, arith, true, Ok, Err}
use Rattle.std.specs.Prelude.{flat_map, slice_get}
use Rattle.std.specs.Option.{option_map_or}
use Rattle.std.proofs.lemmas.Bool.Decides.{nat_tests}
use Rattle.std.proofs.lemmas.List.{length-take, take_all}
use Rattle.liberty_groups.specs.declared.tree.Group.{Group}
use Rattle.cell_machine.specs.Delay.{least}
use Rattle.timing_arcs.specs.declared.subject.Subject.{Subject}
use Rattle.timing_arcs.specs.declared.subject.Room.{Room}
use Rattle.timing_arcs.specs.declared.subject.PinTiming.{PinTiming}
use Rattle.timing_arcs.specs.declared.fault.TimingFault.{TimingFault}
use Rattle.timing_arcs.specs.Timing.{reading_answer, held_answer}
use Rattle.cell_attributes.specs.Limits.{first_past}
use Rattle.cell_attributes.proofs.PinRules.{within_limit}
use Rattle.cell_timings.specs.PinTimings.{Answer, subject_at, answers_from, malformed_timing, unknown_timing, own_timing}
use Rattle.cell_timings.specs.PinTimings.{number_timing, checks_in, arcs_in, check_at_in, arc_at_in, wide_in, left_out_in}
use Rattle.cell_timings.specs.PinTimings.{left_out_from}
use Rattle.cell_timings.specs.Held.{cell_room, left_room, held_from}
use Rattle.cell_timings.specs.CellTimings.{timing_held, IsHeld}
use Rattle.cell_timings.proofs.TimingRules.{check_count, arc_count, check_counts, arc_counts}

-- what no room changes of a timing
same_of : {A : Type 0} (f : Answer → List A)
    → ((room : Room) (timing : PinTiming) → f (held_answer room (Ok timing)) ≡ f (Ok timing))
    → (room : Room) (subject : Subject) (pin : ℕ) (owners : List Group)
    → flat_map f (held_from room subject pin owners) ≡ flat_map f (answers_from subject pin owners)
same_of f h room subject pin [] = refl
same_of f h room subject pin (owner ∷ owners) =
    let answer : Answer = reading_answer (subject_at subject pin) owner in
    ap (λ xs. xs ++ flat_map f (held_from (left_room room (held_answer room answer)) subject (pin + 1) owners)) (here answer)
    ∙ ap (λ xs. f answer ++ xs) (same_of f h (left_room room (held_answer room answer)) subject (pin + 1) owners)
  where
    here : (answer : Answer) → f (held_answer room answer) ≡ f answer
    here (Ok timing) = h room timing
    here (Err e) = refl

take-nil : {A : Type 0} (n : ℕ) → take {A = A} n [] ≡ []
take-nil zero = refl
take-nil (suc n) = refl

-- the first so many of two lists
take-both : {A : Type 0} (n : ℕ) (xs ys : List A) → take n (xs ++ ys) ≡ take n xs ++ take (n - length xs) ys
take-both n [] ys =
    let e : n - 0 ≡ n = omega arith in
    sym (ap (λ zs. zs ++ take (n - 0) ys) (take-nil n) ∙ ap (λ k. take k ys) e)
take-both zero (x ∷ xs) ys = let e : 0 - suc (length xs) ≡ 0 = omega arith in sym (ap (λ k. take k ys) e)
take-both (suc n) (x ∷ xs) ys =
    let e : suc n - suc (length xs) ≡ n - length xs = omega arith in
    ap (λ zs. x ∷ zs) (take-both n xs ys ∙ sym (ap (λ k. take n xs ++ take k ys) e))

-- what is left of the room counts by what there is, or by what is held of it
less : (n k : ℕ) → n - min n k ≡ n - k
less n k = omega arith

-- lists that are cut to the room for checks, or to that for arcs
cut_at : {A : Type 0} (f : Answer → List A) (size : Room → ℕ)
    → ((room : Room) (timing : PinTiming) → f (held_answer room (Ok timing)) ≡ take (size room) (f (Ok timing)))
    → ((e : TimingFault) → f (Err e) ≡ []) → (room : Room) (answer : Answer)
    → f (held_answer room answer) ≡ take (size room) (f answer)
cut_at f size cut none room (Ok timing) = cut room timing
cut_at f size cut none room (Err e) = none e ∙ sym (ap (take (size room)) (none e) ∙ take-nil (size room))

checks_cut : (room : Room) (answer : Answer) → checks_in (held_answer room answer) ≡ take room.checks (checks_in answer)
checks_cut = cut_at checks_in (λ (room : Room). room.checks) (λ r t. refl) (λ e. refl)

arcs_cut : (room : Room) (answer : Answer) → arcs_in (held_answer room answer) ≡ take room.arcs (arcs_in answer)
arcs_cut = cut_at arcs_in (λ (room : Room). room.arcs) (λ r t. refl) (λ e. refl)

check_at_cut : (room : Room) (answer : Answer) → check_at_in (held_answer room answer) ≡ take room.checks (check_at_in answer)
check_at_cut = cut_at check_at_in (λ (room : Room). room.checks) (λ r t. refl) (λ e. refl)

arc_at_cut : (room : Room) (answer : Answer) → arc_at_in (held_answer room answer) ≡ take room.arcs (arc_at_in answer)
arc_at_cut = cut_at arc_at_in (λ (room : Room). room.arcs) (λ r t. refl) (λ e. refl)

cut_of :
    {A B : Type 0} (f : Answer → List A) (g : Answer → List B) (size : Room → ℕ)
    → ((room : Room) (answer : Answer) → f (held_answer room answer) ≡ take (size room) (f answer))
    → ((room : Room) (answer : Answer) → g (held_answer room answer) ≡ take (size room) (g answer))
    → ((room : Room) (answer : Answer) → size (left_room room answer) ≡ size room - length (g answer))
    → ((subject : Subject) (owner : Group)
    → length (f (reading_answer subject owner)) ≡ length (g (reading_answer subject owner)))
    → (room : Room) (subject : Subject) (pin : ℕ) (owners : List Group)
    → flat_map f (held_from room subject pin owners) ≡ take (size room) (flat_map f (answers_from subject pin owners))
cut_of f g size cut also left counts room subject pin [] = sym (take-nil (size room))
cut_of f g size cut also left counts room subject pin (owner ∷ owners) =
    let answer : Answer = reading_answer (subject_at subject pin) owner in
    let next : Room = left_room room (held_answer room answer) in
    let later = flat_map f (answers_from subject (pin + 1) owners) in
    let held_count : length (g (held_answer room answer)) ≡ min (size room) (length (g answer)) =
    ap length (also room answer) ∙ length-take (size room) (g answer) in
    let rest : size next ≡ size room - length (f answer) =
    left room (held_answer room answer)
    ∙ ap (λ n. size room - n) held_count
    ∙ less (size room) (length (g answer))
    ∙ ap (λ n. size room - n) (sym (counts (subject_at subject pin) owner)) in
    ap (λ xs. xs ++ flat_map f (held_from next subject (pin + 1) owners)) (cut room answer)
    ∙ ap (λ xs. take (size room) (f answer) ++ xs) (cut_of f g size cut also left counts next subject (pin + 1) owners
    ∙ ap (λ n. take n later) rest)
    ∙ sym (take-both (size room) (f answer) later)

checks_at : (subject : Subject) (owner : Group)
    → length (check_at_in (reading_answer subject owner)) ≡ length (checks_in (reading_answer subject owner))
checks_at subject owner = check_count subject owner (reading_answer subject owner) refl

arcs_at : (subject : Subject) (owner : Group)
    → length (arc_at_in (reading_answer subject owner)) ≡ length (arcs_in (reading_answer subject owner))
arcs_at subject owner = arc_count subject owner (reading_answer subject owner) refl

-- the first past a limit is among one more than the limit
get-take : {A : Type 0} (n : ℕ) (xs : List A) → slice_get (take (suc n) xs) n ≡ slice_get xs n
get-take n [] = refl
get-take zero (x ∷ xs) = refl
get-take (suc n) (x ∷ xs) = get-take n xs

past_same : (n : ℕ) (xs : List ℕ) → first_past n (take (suc n) xs) ≡ first_past n xs
past_same n xs = ap (λ o. option_map_or (λ at. at ∷ []) o []) (get-take n xs)

left_out_same : (room : Room) (answer : Answer) (pin : ℕ) (owner : Group) → room.left_out ≡ true
    → left_out_in pin owner (held_answer room answer) ≡ left_out_in pin owner answer
left_out_same room (Ok timing) pin owner h = rw h refl
left_out_same room (Err e) pin owner h = refl

left_outs_same : (room : Room) (subject : Subject) (pin at : ℕ) (owners : List Group) → room.left_out ≡ true
    → left_out_from pin owners (held_from room subject at owners) ≡ left_out_from pin owners (answers_from subject at owners)
left_outs_same room subject pin at [] h = refl
left_outs_same room subject pin at (owner ∷ owners) h =
    let answer : Answer = reading_answer (subject_at subject at) owner in
    ap (λ xs. xs ++ left_out_from (pin + 1) owners (held_from (left_room room (held_answer room answer)) subject (at + 1) owners))
    (left_out_same room answer pin owner h)
    ∙ ap (λ xs. left_out_in pin owner answer ++ xs)
    (left_outs_same (left_room room (held_answer room answer)) subject (pin + 1) (at + 1) owners h)

few : (n : ℕ) → n ≤ 64 → nat_le n 64 ≡ true
few n h = grind (arith, nat_tests)

pub is_held : (subject : Subject) (owners : List Group)
    → IsHeld subject owners (timing_held (cell_room (length owners)) subject owners)
is_held subject owners =
    let room : Room = cell_room (length owners) in
    let answers : List Answer = answers_from subject 0 owners in
    let check_at : flat_map check_at_in (held_from room subject 0 owners) ≡ take 257 (flat_map check_at_in answers) =
    cut_of check_at_in checks_in (λ (r : Room). r.checks) check_at_cut checks_cut (λ r a. refl) checks_at room subject 0 owners in
    let arc_at : flat_map arc_at_in (held_from room subject 0 owners) ≡ take 1025 (flat_map arc_at_in answers) =
    cut_of arc_at_in arcs_in (λ (r : Room). r.arcs) arc_at_cut arcs_cut (λ r a. refl) arcs_at room subject 0 owners in
    let checks : flat_map checks_in (held_from room subject 0 owners) ≡ take 257 (flat_map checks_in answers) =
    cut_of checks_in checks_in (λ (r : Room). r.checks) checks_cut checks_cut (λ r a. refl) (λ s o. refl) room subject 0 owners in
    let arcs : flat_map arcs_in (held_from room subject 0 owners) ≡ take 1025 (flat_map arcs_in answers) =
    cut_of arcs_in arcs_in (λ (r : Room). r.arcs) arcs_cut arcs_cut (λ r a. refl) (λ s o. refl) room subject 0 owners in
    record {
      malformed = ap least (same_of malformed_timing (λ r t. refl) room subject 0 owners);
      unknown_name = ap least (same_of unknown_timing (λ r t. refl) room subject 0 owners);
      own_condition = ap least (same_of own_timing (λ r t. refl) room subject 0 owners);
      number = ap least (same_of number_timing (λ r t. refl) room subject 0 owners);
      wide = ap least (same_of wide_in (λ r t. refl) room subject 0 owners);
      check_at = ap (first_past 256) check_at ∙ past_same 256 (flat_map check_at_in answers);
      arc_at = ap (first_past 1024) arc_at ∙ past_same 1024 (flat_map arc_at_in answers);
      checks = λ none.
          let few_at : length (flat_map check_at_in answers) ≤ 256 = within_limit 256 (flat_map check_at_in answers) none in
          let same : length (flat_map check_at_in answers) ≡ length (flat_map checks_in answers) = check_counts subject 0 owners
          in
          checks ∙ take_all 257 (flat_map checks_in answers) (omega arith);
      arcs = λ none.
          let few_at : length (flat_map arc_at_in answers) ≤ 1024 = within_limit 1024 (flat_map arc_at_in answers) none in
          let same : length (flat_map arc_at_in answers) ≡ length (flat_map arcs_in answers) = arc_counts subject 0 owners in
          arcs ∙ take_all 1025 (flat_map arcs_in answers) (omega arith);
      left_out = λ narrow. left_outs_same room subject 0 0 owners (few (length owners) narrow);
    }
