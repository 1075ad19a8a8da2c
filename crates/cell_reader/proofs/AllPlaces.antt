-- The answers of reading the timing of pins tell as much of what is wrong as decides on a refusal.
use Rattle.std.proofs.Common.{◌≡◌, ℕ, ◌+◌, List, [], ◌∷◌, ◌++◌, refl, sym, ◌∙◌, ap, Option, Some, None, Ok}
use Rattle.std.specs.Prelude.{flat_map}
use Rattle.liberty_groups.specs.declared.tree.Group.{Group}
use Rattle.timing_arcs.specs.declared.fault.TimingFault.TheVariants as fault
use Rattle.timing_arcs.specs.declared.subject.Subject.{Subject}
use Rattle.timing_arcs.specs.declared.subject.PinTiming.{PinTiming}
use Rattle.cell_machine.specs.Delay.{lesser, least}
use Rattle.timing_arcs.specs.Timing.{unless_at, reading_answer, timing_of, malformed_at, unknown_names_at, own_conditions_at}
use Rattle.timing_arcs.specs.Timing.{numbers_at, wide_at, check_at_of}
use Rattle.cell_attributes.proofs.Distinct.{nil_parts}
use Rattle.cell_machine.proofs.LeastLemmas.{least_append}
use Rattle.cell_reader.specs.Written.{own_conditions_of, wide_conditions_of}
use Rattle.cell_reader.proofs.AsWritten.{own_conditions_same, wide_conditions_same}
use Rattle.cell_timings.specs.PinTimings.{Answer, subject_at, answers_from, places_from, arc_at_of, malformed_timing}
use Rattle.cell_timings.specs.PinTimings.{unknown_timing, own_timing, number_timing, check_at_in, arc_at_in, wide_in}
use Rattle.cell_timings.proofs.Told.{least_told}

-- What an answer tells, by the least offset of each kind.

abbrev answer_by : Option ℕ → Option ℕ → Option ℕ → Option ℕ → PinTiming → Answer
answer_by m u o n timing =
    unless_at fault.Malformed m (unless_at fault.UnknownName u
    (unless_at fault.OwnCondition o (unless_at fault.Number n (Ok timing))))

malformed_by : (m u o n : Option ℕ) (timing : PinTiming) → least (malformed_timing (answer_by m u o n timing)) ≡ m
malformed_by (Some at) u o n timing = refl
malformed_by None (Some at) o n timing = refl
malformed_by None None (Some at) n timing = refl
malformed_by None None None (Some at) timing = refl
malformed_by None None None None timing = refl

unknown_by : (u o n : Option ℕ) (timing : PinTiming) → least (unknown_timing (answer_by None u o n timing)) ≡ u
unknown_by (Some at) o n timing = refl
unknown_by None (Some at) n timing = refl
unknown_by None None (Some at) timing = refl
unknown_by None None None timing = refl

own_by : (o n : Option ℕ) (timing : PinTiming) → least (own_timing (answer_by None None o n timing)) ≡ o
own_by (Some at) n timing = refl
own_by None (Some at) timing = refl
own_by None None timing = refl

number_by : (n : Option ℕ) (timing : PinTiming) → least (number_timing (answer_by None None None n timing)) ≡ n
number_by (Some at) timing = refl
number_by None timing = refl

-- One pin: what its answer tells of a kind is the least offset of that kind, where no kind before it is there.

abbrev before_unknown : Subject → Group → List ℕ
before_unknown subject pin = malformed_at subject pin

abbrev before_own : Subject → Group → List ℕ
before_own subject pin = malformed_at subject pin ++ unknown_names_at subject pin

abbrev before_number : Subject → Group → List ℕ
before_number subject pin = malformed_at subject pin ++ (unknown_names_at subject pin ++ own_conditions_of subject pin)

abbrev all_kinds : Subject → Group → List ℕ
all_kinds subject pin = malformed_at subject pin
    ++ (unknown_names_at subject pin ++ (own_conditions_of subject pin ++ numbers_at subject pin))

malformed_here : (subject : Subject) (pin : Group)
    → least (malformed_timing (reading_answer subject pin)) ≡ least (malformed_at subject pin)
malformed_here subject pin =
    malformed_by (least (malformed_at subject pin)) (least (unknown_names_at subject pin)) (least (own_conditions_at subject pin))
    (least (numbers_at subject pin)) (timing_of subject pin)

unknown_here : (subject : Subject) (pin : Group) → before_unknown subject pin ≡ []
    → least (unknown_timing (reading_answer subject pin)) ≡ least (unknown_names_at subject pin)
unknown_here subject pin h =
    ap (λ m. least (unknown_timing (answer_by (least m) (least (unknown_names_at subject pin))
    (least (own_conditions_at subject pin)) (least (numbers_at subject pin)) (timing_of subject pin)))) h
    ∙ unknown_by (least (unknown_names_at subject pin)) (least (own_conditions_at subject pin)) (least (numbers_at subject pin))
    (timing_of subject pin)

own_here : (subject : Subject) (pin : Group) → before_own subject pin ≡ []
    → least (own_timing (reading_answer subject pin)) ≡ least (own_conditions_of subject pin)
own_here subject pin h =
    let parts = nil_parts (malformed_at subject pin) (unknown_names_at subject pin) h in
    ap (λ m. least (own_timing (answer_by (least m) (least (unknown_names_at subject pin)) (least (own_conditions_at subject pin))
    (least (numbers_at subject pin)) (timing_of subject pin)))) parts.0
    ∙ ap (λ u. least (own_timing (answer_by None (least u) (least (own_conditions_at subject pin))
    (least (numbers_at subject pin)) (timing_of subject pin)))) parts.1
    ∙ own_by (least (own_conditions_at subject pin)) (least (numbers_at subject pin)) (timing_of subject pin)
    ∙ ap least (own_conditions_same subject pin parts.1)

number_here : (subject : Subject) (pin : Group) → before_number subject pin ≡ []
    → least (number_timing (reading_answer subject pin)) ≡ least (numbers_at subject pin)
number_here subject pin h =
    let first = nil_parts (malformed_at subject pin) (unknown_names_at subject pin ++ own_conditions_of subject pin) h in
    let second = nil_parts (unknown_names_at subject pin) (own_conditions_of subject pin) first.1 in
    let own : own_conditions_at subject pin ≡ [] = own_conditions_same subject pin second.0 ∙ second.1 in
    ap (λ m. least (number_timing (answer_by (least m) (least (unknown_names_at subject pin))
    (least (own_conditions_at subject pin)) (least (numbers_at subject pin)) (timing_of subject pin)))) first.0
    ∙ ap (λ u. least (number_timing (answer_by None (least u) (least (own_conditions_at subject pin))
    (least (numbers_at subject pin)) (timing_of subject pin)))) second.0
    ∙ ap (λ o. least (number_timing (answer_by None None (least o) (least (numbers_at subject pin)) (timing_of subject pin)))) own
    ∙ number_by (least (numbers_at subject pin)) (timing_of subject pin)

-- A pin's timing is read, where no kind is there.
read_here : (subject : Subject) (pin : Group) → all_kinds subject pin ≡ []
    → reading_answer subject pin ≡ Ok (timing_of subject pin)
read_here subject pin h =
    let first = nil_parts (malformed_at subject pin)
    (unknown_names_at subject pin ++ (own_conditions_of subject pin ++ numbers_at subject pin)) h in
    let second = nil_parts (unknown_names_at subject pin) (own_conditions_of subject pin ++ numbers_at subject pin) first.1 in
    let third = nil_parts (own_conditions_of subject pin) (numbers_at subject pin) second.1 in
    let own : own_conditions_at subject pin ≡ [] = own_conditions_same subject pin second.0 ∙ third.0 in
    ap (λ m. answer_by (least m) (least (unknown_names_at subject pin)) (least (own_conditions_at subject pin))
    (least (numbers_at subject pin)) (timing_of subject pin)) first.0
    ∙ ap (λ u. answer_by None (least u) (least (own_conditions_at subject pin)) (least (numbers_at subject pin))
    (timing_of subject pin)) second.0
    ∙ ap (λ o. answer_by None None (least o) (least (numbers_at subject pin)) (timing_of subject pin)) own
    ∙ ap (λ n. answer_by None None None (least n) (timing_of subject pin)) third.1

check_at_here : (subject : Subject) (pin : Group) → all_kinds subject pin ≡ []
    → check_at_in (reading_answer subject pin) ≡ check_at_of subject pin
check_at_here subject pin h = ap check_at_in (read_here subject pin h)

arc_at_here : (subject : Subject) (pin : Group) → all_kinds subject pin ≡ []
    → arc_at_in (reading_answer subject pin) ≡ arc_at_of subject pin
arc_at_here subject pin h = ap arc_at_in (read_here subject pin h)

wide_here : (subject : Subject) (pin : Group) → all_kinds subject pin ≡ []
    → least (wide_in (reading_answer subject pin)) ≡ least (wide_conditions_of subject pin)
wide_here subject pin h =
    let first = nil_parts (malformed_at subject pin)
    (unknown_names_at subject pin ++ (own_conditions_of subject pin ++ numbers_at subject pin)) h in
    let second = nil_parts (unknown_names_at subject pin) (own_conditions_of subject pin ++ numbers_at subject pin) first.1 in
    ap (λ answer. least (wide_in answer)) (read_here subject pin h)
    ∙ least_told (least (wide_at subject pin))
    ∙ ap least (wide_conditions_same subject pin second.0)

-- All pins, where the first has this number.

least_of : (told places : Subject → Group → List ℕ) (before : Subject → Group → List ℕ)
    → ((subject : Subject) (pin : Group) → before subject pin ≡ [] → least (told subject pin) ≡ least (places subject pin))
    → (cell : Subject) (pin : ℕ) (owners : List Group) → places_from before cell pin owners ≡ []
    → least (places_from told cell pin owners) ≡ least (places_from places cell pin owners)
least_of told places before here cell pin [] h = refl
least_of told places before here cell pin (owner ∷ owners) h =
    let parts = nil_parts (before (subject_at cell pin) owner) (places_from before cell (pin + 1) owners) h in
    least_append (told (subject_at cell pin) owner) (places_from told cell (pin + 1) owners)
    ∙ ap (λ a. lesser a (least (places_from told cell (pin + 1) owners))) (here (subject_at cell pin) owner parts.0)
    ∙ ap (lesser (least (places (subject_at cell pin) owner))) (least_of told places before here cell (pin + 1) owners parts.1)
    ∙ sym (least_append (places (subject_at cell pin) owner) (places_from places cell (pin + 1) owners))

list_of : (told places : Subject → Group → List ℕ) (before : Subject → Group → List ℕ)
    → ((subject : Subject) (pin : Group) → before subject pin ≡ [] → told subject pin ≡ places subject pin)
    → (cell : Subject) (pin : ℕ) (owners : List Group) → places_from before cell pin owners ≡ []
    → places_from told cell pin owners ≡ places_from places cell pin owners
list_of told places before here cell pin [] h = refl
list_of told places before here cell pin (owner ∷ owners) h =
    let parts = nil_parts (before (subject_at cell pin) owner) (places_from before cell (pin + 1) owners) h in
    ap (λ xs. xs ++ places_from told cell (pin + 1) owners) (here (subject_at cell pin) owner parts.0)
    ∙ ap (λ xs. places (subject_at cell pin) owner ++ xs) (list_of told places before here cell (pin + 1) owners parts.1)

-- the answers tell pin by pin
by_answers : (f : Answer → List ℕ) (cell : Subject) (pin : ℕ) (owners : List Group)
    → flat_map f (answers_from cell pin owners) ≡ places_from (λ s o. f (reading_answer s o)) cell pin owners
by_answers f cell pin [] = refl
by_answers f cell pin (owner ∷ owners) =
    ap (λ xs. f (reading_answer (subject_at cell pin) owner) ++ xs) (by_answers f cell (pin + 1) owners)

none_of_both : (f g : Subject → Group → List ℕ) (cell : Subject) (pin : ℕ) (owners : List Group)
    → places_from f cell pin owners ≡ [] → places_from g cell pin owners ≡ []
    → places_from (λ s o. f s o ++ g s o) cell pin owners ≡ []
none_of_both f g cell pin [] h k = refl
none_of_both f g cell pin (owner ∷ owners) h k =
    let first = nil_parts (f (subject_at cell pin) owner) (places_from f cell (pin + 1) owners) h in
    let second = nil_parts (g (subject_at cell pin) owner) (places_from g cell (pin + 1) owners) k in
    ap (λ xs. (xs ++ g (subject_at cell pin) owner) ++ places_from (λ s o. f s o ++ g s o) cell (pin + 1) owners) first.0
    ∙ ap (λ xs. xs ++ places_from (λ s o. f s o ++ g s o) cell (pin + 1) owners) second.0
    ∙ none_of_both f g cell (pin + 1) owners first.1 second.1

abbrev nothing : Subject → Group → List ℕ
nothing subject pin = []

none_of_nothing : (cell : Subject) (pin : ℕ) (owners : List Group) → places_from nothing cell pin owners ≡ []
none_of_nothing cell pin [] = refl
none_of_nothing cell pin (owner ∷ owners) = none_of_nothing cell (pin + 1) owners

-- What the answers tell of each kind.

pub malformed_all : (cell : Subject) (owners : List Group)
    → least (flat_map malformed_timing (answers_from cell 0 owners)) ≡ least (places_from malformed_at cell 0 owners)
malformed_all cell owners =
    ap least (by_answers malformed_timing cell 0 owners)
    ∙ least_of (λ s o. malformed_timing (reading_answer s o)) malformed_at nothing (λ s o h. malformed_here s o) cell 0 owners
    (none_of_nothing cell 0 owners)

pub unknown_all : (cell : Subject) (owners : List Group) → places_from malformed_at cell 0 owners ≡ []
    → least (flat_map unknown_timing (answers_from cell 0 owners)) ≡ least (places_from unknown_names_at cell 0 owners)
unknown_all cell owners m =
    ap least (by_answers unknown_timing cell 0 owners)
    ∙ least_of (λ s o. unknown_timing (reading_answer s o)) unknown_names_at before_unknown unknown_here cell 0 owners m

pub own_all : (cell : Subject) (owners : List Group) → places_from malformed_at cell 0 owners ≡ []
    → places_from unknown_names_at cell 0 owners ≡ []
    → least (flat_map own_timing (answers_from cell 0 owners)) ≡ least (places_from own_conditions_of cell 0 owners)
own_all cell owners m u =
    ap least (by_answers own_timing cell 0 owners)
    ∙ least_of (λ s o. own_timing (reading_answer s o)) own_conditions_of before_own own_here cell 0 owners
    (none_of_both malformed_at unknown_names_at cell 0 owners m u)

pub number_all : (cell : Subject) (owners : List Group) → places_from malformed_at cell 0 owners ≡ []
    → places_from unknown_names_at cell 0 owners ≡ [] → places_from own_conditions_of cell 0 owners ≡ []
    → least (flat_map number_timing (answers_from cell 0 owners)) ≡ least (places_from numbers_at cell 0 owners)
number_all cell owners m u o =
    ap least (by_answers number_timing cell 0 owners)
    ∙ least_of (λ s p. number_timing (reading_answer s p)) numbers_at before_number number_here cell 0 owners
    (none_of_both malformed_at (λ s p. unknown_names_at s p ++ own_conditions_of s p) cell 0 owners m
    (none_of_both unknown_names_at own_conditions_of cell 0 owners u o))

-- No kind is there in the timing of any pin.
pub record AllRead (cell : Subject) (owners : List Group) : Type 0 where
  pub malformed : places_from malformed_at cell 0 owners ≡ []
  pub unknown : places_from unknown_names_at cell 0 owners ≡ []
  pub own : places_from own_conditions_of cell 0 owners ≡ []
  pub number : places_from numbers_at cell 0 owners ≡ []

none_at_all : (cell : Subject) (owners : List Group) → AllRead cell owners → places_from all_kinds cell 0 owners ≡ []
none_at_all cell owners h =
    none_of_both malformed_at (λ s p. unknown_names_at s p ++ (own_conditions_of s p ++ numbers_at s p)) cell 0 owners h.malformed
    (none_of_both unknown_names_at (λ s p. own_conditions_of s p ++ numbers_at s p) cell 0 owners h.unknown
    (none_of_both own_conditions_of numbers_at cell 0 owners h.own h.number))

pub check_at_all : (cell : Subject) (owners : List Group) → AllRead cell owners
    → flat_map check_at_in (answers_from cell 0 owners) ≡ places_from check_at_of cell 0 owners
check_at_all cell owners h =
    by_answers check_at_in cell 0 owners
    ∙ list_of (λ s p. check_at_in (reading_answer s p)) check_at_of all_kinds check_at_here cell 0 owners
    (none_at_all cell owners h)

pub arc_at_all : (cell : Subject) (owners : List Group) → AllRead cell owners
    → flat_map arc_at_in (answers_from cell 0 owners) ≡ places_from arc_at_of cell 0 owners
arc_at_all cell owners h =
    by_answers arc_at_in cell 0 owners
    ∙ list_of (λ s p. arc_at_in (reading_answer s p)) arc_at_of all_kinds arc_at_here cell 0 owners (none_at_all cell owners h)

pub wide_all : (cell : Subject) (owners : List Group) → AllRead cell owners
    → least (flat_map wide_in (answers_from cell 0 owners)) ≡ least (places_from wide_conditions_of cell 0 owners)
wide_all cell owners h =
    ap least (by_answers wide_in cell 0 owners)
    ∙ least_of (λ s p. wide_in (reading_answer s p)) wide_conditions_of all_kinds wide_here cell 0 owners
    (none_at_all cell owners h)
