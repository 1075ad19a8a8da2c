-- What is wrong in the timing of the pins of a cell is wrong in that of the trimmed cell or in that of the trimmed pins.
use Rattle.std.proofs.Common.{◌≡◌, ℕ, ◌+◌, min, Bool, true, false, List, [], ◌∷◌, ◌++◌, if◌then◌else◌, refl, sym, ap, ◌∙◌, arith}
use Rattle.std.proofs.Common.{◌&&◌, Option, Some, None, Ok}
use Rattle.std.specs.Prelude.{flat_map}
use Rattle.liberty_groups.specs.declared.tree.Group.{Group}
use Rattle.cell_machine.specs.Delay.{lesser, least}
use Rattle.cell_machine.proofs.LeastLemmas.{lesser_none, lesser_assoc, least_append}
use Rattle.timing_arcs.specs.declared.fault.TimingFault.TheVariants as fault
use Rattle.timing_arcs.specs.declared.subject.Subject.{Subject}
use Rattle.timing_arcs.specs.declared.subject.PinTiming.{PinTiming}
use Rattle.timing_arcs.specs.Timing.{malformed_at, unknown_names_at, own_conditions_at, numbers_at, bad_numbers_in, timing_groups}
use Rattle.timing_arcs.specs.Timing.{malformed_in, unknown_in}
use Rattle.timing_arcs.specs.Timing.{unless_at, timing_of, reading_answer}
use Rattle.cell_reader.specs.declared.refusal.Reason.TheVariants as reason
use Rattle.cell_reader.specs.declared.refusal.Refusal.{Refusal}
use Rattle.cell_reader.specs.PinTimings.{subject_at, places_from}
use Rattle.cell_reader.specs.Refusals.{refused_or}
use Rattle.cell_reader.specs.Written.{own_in, own_conditions_of}
use Rattle.cell_reader.proofs.AsWritten.{own_conditions_same}
use Rattle.cell_reader.proofs.Refused.{least_none}
use Rattle.three_state_cells.specs.Refusals.{first_of_two}
use Rattle.three_state_cells.specs.PinAttributes.{untimed}
use Rattle.three_state_cells.specs.Trimmed.{is_trimmed, has_groups, is_timed, loses, trimmed_pin, timing_told, wrong_pin}
use Rattle.three_state_cells.specs.Trimmed.{wrong_with}
use Rattle.three_state_cells.proofs.Untimed.{again, attribute_numbers, no_malformed, no_unknown, no_own, kept_numbers}
use Rattle.three_state_cells.proofs.Unused.{no_malformed_in, no_unknown_in, no_own_in, no_numbers_in, quiet_timings}
use Rattle.three_state_cells.proofs.JoinedReasons.{IsAbove, above_or, joined}
use Rattle.three_state_cells.proofs.Owners.{trimmed_owners}

min_commutes : (x y : ℕ) → min x y ≡ min y x
min_commutes x y = omega arith

pub commuted : (a b : Option ℕ) → lesser a b ≡ lesser b a
commuted None None = refl
commuted None (Some y) = refl
commuted (Some x) None = refl
commuted (Some x) (Some y) = ap Some (min_commutes x y)

exchanged : (a b c d : Option ℕ) → lesser (lesser a b) (lesser c d) ≡ lesser (lesser a c) (lesser b d)
exchanged a b c d =
    lesser_assoc a b (lesser c d)
    ∙ (ap (lesser a) (sym (lesser_assoc b c d) ∙ (ap (λ o. lesser o d) (commuted b c) ∙ lesser_assoc c b d))
    ∙ sym (lesser_assoc a c (lesser b d)))

-- The offsets that are told of the timing of trimmed pins.
abbrev pub dropped_at : (Subject → Group → List ℕ) → Subject → ℕ → Group → List ℕ
dropped_at f s pin owner = if loses pin owner then f (subject_at s pin) owner else []

abbrev pub dropped : (Subject → Group → List ℕ) → Subject → ℕ → List Group → List ℕ
dropped f s pin [] = []
dropped f s pin (owner ∷ owners) = dropped_at f s pin owner ++ dropped f s (pin + 1) owners

-- What is told of a group without its timing groups is told of the whole one, and all of it where there are none.
pub record IsPart (f : Subject → Group → List ℕ) : Type 0 where
  pub part : (s : Subject) (group : Group) → lesser (least (f s (untimed group))) (least (f s group)) ≡ least (f s group)
  pub same : (s : Subject) (group : Group) → is_timed group ≡ false → least (f s (untimed group)) ≡ least (f s group)

-- what is told of timing groups alone
told_of_timing : (f : Subject → Group → List ℕ)
    → ((s : Subject) (group : Group) → flat_map (f s) (timing_groups (untimed group)) ≡ [])
    → ((s : Subject) (group : Group) → has_groups group ≡ false → f s group ≡ [])
    → IsPart (λ s group. flat_map (f s) (timing_groups group))
told_of_timing f none empty = record {
  part = λ s group. ap (λ l. lesser (least l) (least (flat_map (f s) (timing_groups group)))) (none s group);
  same = λ s group e. ap least (none s group ∙ sym (quiet_timings (f s) (empty s) group.items e));
}

pub malformed_part : IsPart malformed_at
malformed_part = told_of_timing malformed_in (λ s group. no_malformed group s) no_malformed_in

pub unknown_part : IsPart unknown_names_at
unknown_part = told_of_timing unknown_in (λ s group. no_unknown group s) no_unknown_in

pub own_part : IsPart own_conditions_of
own_part = told_of_timing own_in (λ s group. no_own group s) no_own_in

numbers_of_part : (s : Subject) (group : Group)
    → lesser (least (numbers_at s (untimed group))) (least (numbers_at s group)) ≡ least (numbers_at s group)
numbers_of_part s group =
    let tables : List ℕ = flat_map (bad_numbers_in s) (timing_groups group) in
    let others : List ℕ = attribute_numbers s group in
    ap (λ l. lesser (least l) (least (numbers_at s group))) (kept_numbers group s)
    ∙ (ap (lesser (least others)) (least_append tables others)
    ∙ (commuted (least others) (lesser (least tables) (least others))
    ∙ (lesser_assoc (least tables) (least others) (least others)
    ∙ (ap (lesser (least tables)) (again (least others)) ∙ sym (least_append tables others)))))

pub numbers_part : IsPart numbers_at
numbers_part = record {
  part = numbers_of_part;
  same = λ s group e.
      ap least
      (kept_numbers group s
      ∙ sym (ap (λ l. l ++ attribute_numbers s group) (quiet_timings (bad_numbers_in s) (no_numbers_in s) group.items e)));
}

told_of_pin : (f : Subject → Group → List ℕ) → IsPart f → (s : Subject) (pin : ℕ) (owner : Group)
    → least (f (subject_at s pin) owner)
    ≡ lesser (least (f (subject_at s pin) (trimmed_pin pin owner))) (least (dropped_at f s pin owner))
told_of_pin f is s pin owner = by (is_trimmed pin owner) (is_timed owner) refl
  where
    by : (b c : Bool) → is_timed owner ≡ c → least (f (subject_at s pin) owner)
        ≡ lesser (least (f (subject_at s pin) (if b then untimed owner else owner)))
        (least (if b && c then f (subject_at s pin) owner else []))
    by true true e = sym (is.part (subject_at s pin) owner)
    by true false e =
        sym (lesser_none (least (f (subject_at s pin) (untimed owner))) ∙ is.same (subject_at s pin) owner e)
    by false c e = sym (lesser_none (least (f (subject_at s pin) owner)))

pub places_least : (f : Subject → Group → List ℕ) → IsPart f → (s : Subject) (pin : ℕ) (owners : List Group)
    → least (places_from f s pin owners)
    ≡ lesser (least (places_from f s pin (trimmed_owners pin owners))) (least (dropped f s pin owners))
places_least f part s pin [] = refl
places_least f part s pin (owner ∷ owners) =
    let here : List ℕ = f (subject_at s pin) owner in
    let kept : List ℕ = f (subject_at s pin) (trimmed_pin pin owner) in
    let rest : List ℕ = places_from f s (pin + 1) (trimmed_owners (pin + 1) owners) in
    least_append here (places_from f s (pin + 1) owners)
    ∙ ((λ i. lesser (told_of_pin f part s pin owner i) (places_least f part s (pin + 1) owners i))
    ∙ (exchanged (least kept) (least (dropped_at f s pin owner)) (least rest) (least (dropped f s (pin + 1) owners))
    ∙ (λ i. lesser (sym (least_append kept rest) i)
    (sym (least_append (dropped_at f s pin owner) (dropped f s (pin + 1) owners)) i))))

-- What decides of four kinds that may be wrong with timing.
abbrev pub by_kinds : Option ℕ → Option ℕ → Option ℕ → Option ℕ → Option Refusal
by_kinds m u o n =
    refused_or reason.Malformed m
    (refused_or reason.UnknownName u (refused_or reason.OwnCondition o (refused_or reason.Number n None)))

pub kinds_joined : (m u o n m2 u2 o2 n2 : Option ℕ)
    → first_of_two (by_kinds m u o n) (by_kinds m2 u2 o2 n2)
    ≡ by_kinds (lesser m m2) (lesser u u2) (lesser o o2) (lesser n n2)
kinds_joined m u o n m2 u2 o2 n2 =
    let n_one : Option Refusal = refused_or reason.Number n None in
    let n_two : Option Refusal = refused_or reason.Number n2 None in
    let o_one : Option Refusal = refused_or reason.OwnCondition o n_one in
    let o_two : Option Refusal = refused_or reason.OwnCondition o2 n_two in
    let u_one : Option Refusal = refused_or reason.UnknownName u o_one in
    let u_two : Option Refusal = refused_or reason.UnknownName u2 o_two in
    let n_first : IsAbove 11 n_one = above_or 11 reason.Number n None (omega arith) tt in
    let n_second : IsAbove 11 n_two = above_or 11 reason.Number n2 None (omega arith) tt in
    let o_first : IsAbove 8 o_one = above_or 8 reason.OwnCondition o n_one (omega arith) n_first in
    let o_second : IsAbove 8 o_two = above_or 8 reason.OwnCondition o2 n_two (omega arith) n_second in
    let u_first : IsAbove 7 u_one = above_or 7 reason.UnknownName u o_one (omega arith) o_first in
    let u_second : IsAbove 7 u_two = above_or 7 reason.UnknownName u2 o_two (omega arith) o_second in
    sym
    (ap (refused_or reason.Malformed (lesser m m2))
    (ap (refused_or reason.UnknownName (lesser u u2))
    (ap (refused_or reason.OwnCondition (lesser o o2)) (joined reason.Number n n2 None None tt tt)
    ∙ joined reason.OwnCondition o o2 n_one n_two n_first n_second)
    ∙ joined reason.UnknownName u u2 o_one o_two o_first o_second)
    ∙ joined reason.Malformed m m2 u_one u_two u_first u_second)

-- What reading the timing of a pin tells of them.
told_kinds : (m u o n : Option ℕ) (timing : PinTiming)
    → timing_told (unless_at fault.Malformed m (unless_at fault.UnknownName u
    (unless_at fault.OwnCondition o (unless_at fault.Number n (Ok timing)))))
    ≡ by_kinds m u o n
told_kinds (Some at) u o n timing = refl
told_kinds None (Some at) o n timing = refl
told_kinds None None (Some at) n timing = refl
told_kinds None None None (Some at) timing = refl
told_kinds None None None None timing = refl

own_kind : (m : Option ℕ) (names : List ℕ) (u o p n : Option ℕ) → least names ≡ u → (names ≡ [] → o ≡ p)
    → by_kinds m u o n ≡ by_kinds m u p n
own_kind (Some at) names u o p n e same = refl
own_kind None names (Some at) o p n e same = refl
own_kind None names None o p n e same = ap (λ o. by_kinds None None o n) (same (least_none names e))

told_kinds_of : (s : Subject) (pin : Group)
    → timing_told (reading_answer s pin)
    ≡ by_kinds (least (malformed_at s pin)) (least (unknown_names_at s pin)) (least (own_conditions_of s pin))
    (least (numbers_at s pin))
told_kinds_of s pin =
    told_kinds (least (malformed_at s pin)) (least (unknown_names_at s pin)) (least (own_conditions_at s pin))
    (least (numbers_at s pin)) (timing_of s pin)
    ∙ own_kind (least (malformed_at s pin)) (unknown_names_at s pin) (least (unknown_names_at s pin))
    (least (own_conditions_at s pin)) (least (own_conditions_of s pin)) (least (numbers_at s pin)) refl
    (λ none. ap least (own_conditions_same s pin none))

abbrev kinds_dropped : Subject → ℕ → Group → Option Refusal
kinds_dropped s pin owner =
    by_kinds (least (dropped_at malformed_at s pin owner)) (least (dropped_at unknown_names_at s pin owner))
    (least (dropped_at own_conditions_of s pin owner)) (least (dropped_at numbers_at s pin owner))

wrong_kinds : (s : Subject) (pin : ℕ) (owner : Group) → wrong_pin s pin owner ≡ kinds_dropped s pin owner
wrong_kinds s pin owner = by (loses pin owner)
  where
    by : (b : Bool) → (if b then timing_told (reading_answer (subject_at s pin) owner) else None)
        ≡ by_kinds (least (if b then malformed_at (subject_at s pin) owner else []))
        (least (if b then unknown_names_at (subject_at s pin) owner else []))
        (least (if b then own_conditions_of (subject_at s pin) owner else []))
        (least (if b then numbers_at (subject_at s pin) owner else []))
    by true = told_kinds_of (subject_at s pin) owner
    by false = refl

-- one more pin
more : (f : Subject → Group → List ℕ) (s : Subject) (pin : ℕ) (owner : Group) (owners : List Group) (a : Option ℕ)
    → lesser (lesser a (least (dropped_at f s pin owner))) (least (dropped f s (pin + 1) owners))
    ≡ lesser a (least (dropped f s pin (owner ∷ owners)))
more f s pin owner owners a =
    lesser_assoc a (least (dropped_at f s pin owner)) (least (dropped f s (pin + 1) owners))
    ∙ ap (lesser a) (sym (least_append (dropped_at f s pin owner) (dropped f s (pin + 1) owners)))

pub wrong_by_kinds : (s : Subject) (m u o n : Option ℕ) (pin : ℕ) (owners : List Group)
    → wrong_with s (by_kinds m u o n) pin owners
    ≡ by_kinds (lesser m (least (dropped malformed_at s pin owners))) (lesser u (least (dropped unknown_names_at s pin owners)))
    (lesser o (least (dropped own_conditions_of s pin owners))) (lesser n (least (dropped numbers_at s pin owners)))
wrong_by_kinds s m u o n pin [] =
    λ i. by_kinds (sym (lesser_none m) i) (sym (lesser_none u) i) (sym (lesser_none o) i) (sym (lesser_none n) i)
wrong_by_kinds s m u o n pin (owner ∷ owners) =
    ap (λ found. wrong_with s found (pin + 1) owners)
    (ap (first_of_two (by_kinds m u o n)) (wrong_kinds s pin owner)
    ∙ kinds_joined m u o n (least (dropped_at malformed_at s pin owner)) (least (dropped_at unknown_names_at s pin owner))
    (least (dropped_at own_conditions_of s pin owner)) (least (dropped_at numbers_at s pin owner)))
    ∙ (wrong_by_kinds s (lesser m (least (dropped_at malformed_at s pin owner)))
    (lesser u (least (dropped_at unknown_names_at s pin owner))) (lesser o (least (dropped_at own_conditions_of s pin owner)))
    (lesser n (least (dropped_at numbers_at s pin owner))) (pin + 1) owners
    ∙ (λ i. by_kinds (more malformed_at s pin owner owners m i) (more unknown_names_at s pin owner owners u i)
    (more own_conditions_of s pin owner owners o i) (more numbers_at s pin owner owners n i)))
