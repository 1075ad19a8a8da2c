-- The checks and the arcs of a cell that nothing refuses keep the rules of cells.
use Rattle.std.proofs.Common.{◌≡◌, ℕ, zero, suc, ◌+◌, ◌≤◌, Bool, true, List, [], ◌∷◌, ◌++◌, length, map, refl, sym, ◌∙◌, ap}
use Rattle.std.proofs.Common.{arith, IsTrue, Option, Some, None, nat_eq, nat_le, length-append, Ok, Err}
use Rattle.std.specs.Prelude.{flat_map, slice_get, unwrap_or}
use Rattle.std.specs.Option.{option_map_or}
use Rattle.std.specs.List.{list_all}
use Rattle.std.proofs.lemmas.Bool.{and_parts, and_from, le-leb, leb-true, eqb-true}
use Rattle.std.proofs.lemmas.List.Folds.{list_all-append}
use Rattle.liberty_groups.specs.declared.tree.Group.{Group}
use Rattle.cell_machine.specs.declared.arcs.Arc.{Arc}
use Rattle.cell_machine.specs.declared.pins.Pin.{Pin}
use Rattle.cell_machine.specs.CellRules.{is_check, is_arc, is_in_order, are_checks, are_arcs, AreApart}
use Rattle.timing_arcs.specs.declared.subject.Subject.{Subject}
use Rattle.timing_arcs.specs.Timing.{reading_answer}
use Rattle.timing_arcs.proofs.LawLemmas.{checks_are_sound, arcs_are_sound, arcs_end_here, arcs_are_apart, timings_are_placed}
use Rattle.cell_attributes.specs.Limits.{first_past}
use Rattle.cell_attributes.proofs.Distinct.{nil_parts}
use Rattle.cell_attributes.proofs.PinRules.{within_limit}
use Rattle.cell_timings.specs.PinTimings.{Answer, subject_at, answers_from, checks_in, arcs_in, check_at_in, arc_at_in, wide_in}

no_wide : (wide : Option ℕ) → option_map_or (λ at. at ∷ []) wide [] ≡ [] → wide ≡ None
no_wide None h = refl
no_wide (Some at) h = absurd cc

-- One pin.

checks_kept :
    (subject : Subject) (owner : Group) (answer : Answer)
    → reading_answer subject owner ≡ answer → wide_in answer ≡ [] → IsTrue (list_all (is_check subject.pins) (checks_in answer))
checks_kept subject owner (Ok timing) is narrow = checks_are_sound subject owner timing is (no_wide timing.wide narrow)
checks_kept subject owner (Err e) is narrow = refl

arcs_kept :
    (subject : Subject) (owner : Group) (answer : Answer)
    → reading_answer subject owner ≡ answer → wide_in answer ≡ [] → IsTrue (list_all (is_arc subject.pins) (arcs_in answer))
arcs_kept subject owner (Ok timing) is narrow = arcs_are_sound subject owner timing is (no_wide timing.wide narrow)
arcs_kept subject owner (Err e) is narrow = refl

pub check_count :
    (subject : Subject) (owner : Group) (answer : Answer)
    → reading_answer subject owner ≡ answer → length (check_at_in answer) ≡ length (checks_in answer)
check_count subject owner (Ok timing) is = (timings_are_placed subject owner timing is).checks
check_count subject owner (Err e) is = refl

pub arc_count :
    (subject : Subject) (owner : Group) (answer : Answer)
    → reading_answer subject owner ≡ answer → length (arc_at_in answer) ≡ length (arcs_in answer)
arc_count subject owner (Ok timing) is = (timings_are_placed subject owner timing is).arcs
arc_count subject owner (Err e) is = refl

ends_here :
    (subject : Subject) (owner : Group) (answer : Answer)
    → reading_answer subject owner ≡ answer → IsTrue (list_all (λ (arc : Arc). nat_eq arc.to subject.place) (arcs_in answer))
ends_here subject owner (Ok timing) is = arcs_end_here subject owner timing is
ends_here subject owner (Err e) is = refl

none_apart : AreApart []
none_apart i j arc other before at_i at_j from to condition = absurd cc

apart_here :
    (subject : Subject) (owner : Group) (answer : Answer) → reading_answer subject owner ≡ answer → AreApart (arcs_in answer)
apart_here subject owner (Ok timing) is = arcs_are_apart subject owner timing is
apart_here subject owner (Err e) is = none_apart

-- All pins, where the first has this number.

-- what is made of a pin whose conditions are narrow enough keeps a rule, so all that is made does
all_kept :
    {A : Type 0} (made : Answer → List A) (keeps : List Pin → A → Bool)
    → ((subject : Subject) (owner : Group) (answer : Answer) → reading_answer subject owner ≡ answer → wide_in answer ≡ []
    → IsTrue (list_all (keeps subject.pins) (made answer)))
    → (subject : Subject) (pin : ℕ) (owners : List Group) → flat_map wide_in (answers_from subject pin owners) ≡ []
    → IsTrue (list_all (keeps subject.pins) (flat_map made (answers_from subject pin owners)))
all_kept made keeps kept subject pin [] narrow = refl
all_kept made keeps kept subject pin (owner ∷ owners) narrow =
    let answer : Answer = reading_answer (subject_at subject pin) owner in
    let later : List Answer = answers_from subject (pin + 1) owners in
    let parts = nil_parts (wide_in answer) (flat_map wide_in later) narrow in
    rw (list_all-append (keeps subject.pins) (made answer) (flat_map made later))
    (and_from (list_all (keeps subject.pins) (made answer)) (list_all (keeps subject.pins) (flat_map made later))
    (kept (subject_at subject pin) owner answer refl parts.0) (all_kept made keeps kept subject (pin + 1) owners parts.1))

-- there are as many of the one as of the other
all_counts :
    {A B : Type 0} (one : Answer → List A) (other : Answer → List B)
    → ((subject : Subject) (owner : Group) (answer : Answer) → reading_answer subject owner ≡ answer
    → length (one answer) ≡ length (other answer))
    → (subject : Subject) (pin : ℕ) (owners : List Group)
    → length (flat_map one (answers_from subject pin owners)) ≡ length (flat_map other (answers_from subject pin owners))
all_counts one other counts subject pin [] = refl
all_counts one other counts subject pin (owner ∷ owners) =
    let answer : Answer = reading_answer (subject_at subject pin) owner in
    let later : List Answer = answers_from subject (pin + 1) owners in
    let here : length (one answer) ≡ length (other answer) = counts (subject_at subject pin) owner answer refl in
    let there : length (flat_map one later) ≡ length (flat_map other later) = all_counts one other counts subject (pin + 1) owners
    in
    length-append (one answer) (flat_map one later)
    ∙ (ap (λ n. n + length (flat_map one later)) here
    ∙ (ap (λ n. length (other answer) + n) there ∙ sym (length-append (other answer) (flat_map other later))))

pub check_counts :
    (subject : Subject) (pin : ℕ) (owners : List Group)
    → length (flat_map check_at_in (answers_from subject pin owners)) ≡ length
    (flat_map checks_in (answers_from subject pin owners))
check_counts = all_counts check_at_in checks_in check_count

pub arc_counts :
    (subject : Subject) (pin : ℕ) (owners : List Group)
    → length (flat_map arc_at_in (answers_from subject pin owners)) ≡ length (flat_map arcs_in (answers_from subject pin owners))
arc_counts = all_counts arc_at_in arcs_in arc_count

-- The order of the arcs.

abbrev ends_at : ℕ → Arc → Bool
ends_at pin arc = nat_eq arc.to pin

abbrev ends_from : ℕ → Arc → Bool
ends_from pin arc = nat_le pin arc.to

later_ends : (pin : ℕ) (arcs : List Arc) → IsTrue (list_all (ends_from (pin + 1)) arcs) → IsTrue (list_all (ends_from pin) arcs)
later_ends pin [] h = refl
later_ends pin (arc ∷ arcs) h =
    let parts = and_parts (nat_le (pin + 1) arc.to) (list_all (ends_from (pin + 1)) arcs) h in
    let bound : pin + 1 ≤ arc.to = leb-true (pin + 1) arc.to parts.0 in
    let less : pin ≤ arc.to = omega arith in
    and_from (nat_le pin arc.to) (list_all (ends_from pin) arcs) (le-leb pin arc.to less) (later_ends pin arcs parts.1)

here_ends : (pin : ℕ) (arcs : List Arc) → IsTrue (list_all (ends_at pin) arcs) → IsTrue (list_all (ends_from pin) arcs)
here_ends pin [] h = refl
here_ends pin (arc ∷ arcs) h =
    let parts = and_parts (nat_eq arc.to pin) (list_all (ends_at pin) arcs) h in
    let same : arc.to ≡ pin = eqb-true arc.to pin parts.0 in
    let less : pin ≤ arc.to = omega arith in
    and_from (nat_le pin arc.to) (list_all (ends_from pin) arcs) (le-leb pin arc.to less) (here_ends pin arcs parts.1)

all_end_from :
    (subject : Subject) (pin : ℕ) (owners : List Group)
    → IsTrue (list_all (ends_from pin) (flat_map arcs_in (answers_from subject pin owners)))
all_end_from subject pin [] = refl
all_end_from subject pin (owner ∷ owners) =
    let answer : Answer = reading_answer (subject_at subject pin) owner in
    let later : List Answer = answers_from subject (pin + 1) owners in
    let here : IsTrue (list_all (ends_from pin) (arcs_in answer)) =
    here_ends pin (arcs_in answer) (ends_here (subject_at subject pin) owner answer refl) in
    let there : IsTrue (list_all (ends_from pin) (flat_map arcs_in later)) =
    later_ends pin (flat_map arcs_in later) (all_end_from subject (pin + 1) owners) in
    rw (list_all-append (ends_from pin) (arcs_in answer) (flat_map arcs_in later))
    (and_from (list_all (ends_from pin) (arcs_in answer)) (list_all (ends_from pin) (flat_map arcs_in later)) here there)

abbrev ends : List Arc → List ℕ
ends arcs = map (λ (arc : Arc). arc.to) arcs

order_joined :
    (pin : ℕ) (first later : List Arc)
    → IsTrue (list_all (ends_at pin) first) → IsTrue (list_all (ends_from pin) later) → IsTrue (is_in_order (ends later))
    → IsTrue (is_in_order (ends (first ++ later)))
order_joined pin [] later here there ordered = ordered
order_joined pin (arc ∷ []) [] here there ordered = refl
order_joined pin (arc ∷ []) (other ∷ later) here there ordered =
    let same : arc.to ≡ pin = eqb-true arc.to pin (and_parts (nat_eq arc.to pin) true here).0 in
    let bound : pin ≤ other.to = leb-true pin other.to (and_parts (nat_le pin other.to) (list_all (ends_from pin) later) there).0
    in
    let step : arc.to ≤ other.to = omega arith in
    and_from (nat_le arc.to other.to) (is_in_order (ends (other ∷ later))) (le-leb arc.to other.to step) ordered
order_joined pin (arc ∷ other ∷ first) later here there ordered =
    let parts = and_parts (nat_eq arc.to pin) (list_all (ends_at pin) (other ∷ first)) here in
    let same : arc.to ≡ pin = eqb-true arc.to pin parts.0 in
    let next : other.to ≡ pin = eqb-true other.to pin (and_parts (nat_eq other.to pin) (list_all (ends_at pin) first) parts.1).0
    in
    let step : arc.to ≤ other.to = omega arith in
    and_from (nat_le arc.to other.to) (is_in_order (ends (other ∷ (first ++ later)))) (le-leb arc.to other.to step)
    (order_joined pin (other ∷ first) later parts.1 there ordered)

arcs_in_order :
    (subject : Subject) (pin : ℕ) (owners : List Group)
    → IsTrue (is_in_order (ends (flat_map arcs_in (answers_from subject pin owners))))
arcs_in_order subject pin [] = refl
arcs_in_order subject pin (owner ∷ owners) =
    let answer : Answer = reading_answer (subject_at subject pin) owner in
    let later : List Answer = answers_from subject (pin + 1) owners in
    order_joined pin (arcs_in answer) (flat_map arcs_in later) (ends_here (subject_at subject pin) owner answer refl)
    (later_ends pin (flat_map arcs_in later) (all_end_from subject (pin + 1) owners)) (arcs_in_order subject (pin + 1) owners)

-- No two arcs have the same ends and the same condition.

abbrev IsApartFrom : Arc → List Arc → Type 0
IsApartFrom arc arcs =
    (j : ℕ) (other : Arc)
    → slice_get arcs j ≡ Some other → arc.from ≡ other.from → arc.to ≡ other.to → arc.condition ≡ other.condition → ⊥

held : (x y : Arc) → Some x ≡ Some y → x ≡ y
held x y h = ap (λ o. unwrap_or o x) h

end_there :
    (pin : ℕ) (arcs : List Arc) (j : ℕ) (other : Arc)
    → IsTrue (list_all (ends_from (pin + 1)) arcs) → slice_get arcs j ≡ Some other → other.to ≡ pin → ⊥
end_there pin [] j other h at same = absurd cc
end_there pin (arc ∷ arcs) zero other h at same =
    let is : arc ≡ other = held arc other at in
    let here : arc.to ≡ pin = ap (λ (a : Arc). a.to) is ∙ same in
    let bound : pin + 1 ≤ arc.to = leb-true (pin + 1) arc.to
    (and_parts (nat_le (pin + 1) arc.to) (list_all (ends_from (pin + 1)) arcs) h).0 in
    absurd (omega arith)
end_there pin (arc ∷ arcs) (suc j) other h at same =
    end_there pin arcs j other (and_parts (nat_le (pin + 1) arc.to) (list_all (ends_from (pin + 1)) arcs) h).1 at same

apart_from_joined :
    (pin : ℕ) (arc : Arc) (first later : List Arc)
    → arc.to ≡ pin → IsApartFrom arc first → IsTrue (list_all (ends_from (pin + 1)) later) → IsApartFrom arc (first ++ later)
apart_from_joined pin arc [] later here apart there j other at from to condition =
    end_there pin later j other there at (sym to ∙ here)
apart_from_joined pin arc (x ∷ first) later here apart there zero other at from to condition =
    apart zero other at from to condition
apart_from_joined pin arc (x ∷ first) later here apart there (suc j) other at from to condition =
    apart_from_joined pin arc first later here (λ i o. apart (suc i) o) there j other at from to condition

apart_joined :
    (pin : ℕ) (first later : List Arc)
    → IsTrue (list_all (ends_at pin) first) → AreApart first → IsTrue (list_all (ends_from (pin + 1)) later) → AreApart later
    → AreApart (first ++ later)
apart_joined pin [] later here apart there others i j arc other before at_i at_j from to condition =
    others i j arc other before at_i at_j from to condition
apart_joined pin (x ∷ first) later here apart there others i zero arc other before at_i at_j from to condition =
    absurd (omega arith)
apart_joined pin (x ∷ first) later here apart there others zero (suc j) arc other before at_i at_j from to condition =
    let is : x ≡ arc = held x arc at_i in
    let same : x.to ≡ pin = eqb-true x.to pin (and_parts (nat_eq x.to pin) (list_all (ends_at pin) first) here).0 in
    let from_first : IsApartFrom x first = λ k o at. apart zero (suc k) x o (omega arith) refl at in
    apart_from_joined pin x first later same from_first there j other at_j (ap (λ (a : Arc). a.from) is ∙ from)
    (ap (λ (a : Arc). a.to) is ∙ to) (ap (λ (a : Arc). a.condition) is ∙ condition)
apart_joined pin (x ∷ first) later here apart there others (suc i) (suc j) arc other before at_i at_j from to condition =
    let rest : AreApart first = λ k l a o less. apart (suc k) (suc l) a o (omega arith) in
    apart_joined pin first later (and_parts (nat_eq x.to pin) (list_all (ends_at pin) first) here).1 rest there others i j arc
    other
    (omega arith) at_i at_j from to condition

all_apart : (subject : Subject) (pin : ℕ) (owners : List Group) → AreApart (flat_map arcs_in (answers_from subject pin owners))
all_apart subject pin [] = none_apart
all_apart subject pin (owner ∷ owners) =
    let answer : Answer = reading_answer (subject_at subject pin) owner in
    let later : List Answer = answers_from subject (pin + 1) owners in
    apart_joined pin (arcs_in answer) (flat_map arcs_in later) (ends_here (subject_at subject pin) owner answer refl)
    (apart_here (subject_at subject pin) owner answer refl) (all_end_from subject (pin + 1) owners)
    (all_apart subject (pin + 1) owners)

-- The rules of checks and arcs.

-- there are no more than a limit that none of their offsets passes
few_made :
    {A : Type 0} (at : Answer → List ℕ) (made : Answer → List A) (n : ℕ) (answers : List Answer)
    → length (flat_map at answers) ≡ length (flat_map made answers) → first_past n (flat_map at answers) ≡ []
    → IsTrue (nat_le (length (flat_map made answers)) n)
few_made at made n answers count few =
    let bound : length (flat_map at answers) ≤ n = within_limit n (flat_map at answers) few in
    let less : length (flat_map made answers) ≤ n = omega arith in
    le-leb (length (flat_map made answers)) n less

pub timing_rules : (subject : Subject) (owners : List Group)
    → first_past 256 (flat_map check_at_in (answers_from subject 0 owners)) ≡ []
    → first_past 1024 (flat_map arc_at_in (answers_from subject 0 owners)) ≡ []
    → flat_map wide_in (answers_from subject 0 owners) ≡ []
    → IsTrue (are_checks subject.pins (flat_map checks_in (answers_from subject 0 owners)))
    × IsTrue (are_arcs subject.pins (flat_map arcs_in (answers_from subject 0 owners)))
timing_rules subject owners few_checks few_arcs narrow =
    let answers : List Answer = answers_from subject 0 owners in (
      and_from _ _ (few_made check_at_in checks_in 256 answers (check_counts subject 0 owners) few_checks)
          (all_kept checks_in is_check checks_kept subject 0 owners narrow),
      and_from _ _ (few_made arc_at_in arcs_in 1024 answers (arc_counts subject 0 owners) few_arcs)
          (and_from _ _ (all_kept arcs_in is_arc arcs_kept subject 0 owners narrow) (arcs_in_order subject 0 owners)),
    )

pub arcs_apart : (subject : Subject) (owners : List Group) → AreApart (flat_map arcs_in (answers_from subject 0 owners))
arcs_apart subject owners = all_apart subject 0 owners
