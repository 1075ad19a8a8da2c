-- Which of two refusals decides, and what holds of a core that is not refused early.
use Rattle.std.proofs.Common.{◌≡◌, ℕ, ◌<◌, ◌≤◌, Bool, true, false, List, [], ◌∷◌, length, IsTrue, refl, sym, subst, arith, Option}
use Rattle.std.proofs.Common.{Some, None}
use Rattle.std.specs.Prelude.{⊤, if◌then◌else◌, ◌+◌}
use Rattle.std.proofs.lemmas.Bool.{lt-ltb}
use Rattle.liberty_groups.specs.declared.tree.Group.{Group}
use Rattle.timing_arcs.specs.declared.subject.Subject.{Subject}
use Rattle.timing_arcs.specs.Timing.{unknown_names_at, numbers_at}
use Rattle.cell_machine.specs.Delay.{least}
use Rattle.cell_machine.specs.CellRules.{are_distinct}
use Rattle.cell_attributes.specs.Pins.{pin_names, pins_of}
use Rattle.cell_attributes.specs.Scans.{directions, three_states, banks, left_out_states, clear_presets}
use Rattle.cell_attributes.specs.Declarations.{duplicates}
use Rattle.cell_reader.specs.declared.refusal.Reason.{Reason}
use Rattle.cell_reader.specs.declared.refusal.Reason.TheVariants as reason
use Rattle.cell_reader.specs.declared.refusal.Refusal.{Refusal}
use Rattle.cell_reader.specs.ReasonWords.{number_of_reason}
use Rattle.cell_reader.specs.PinTimings.{subject_at}
use Rattle.cell_reader.specs.CellTexts.{IsEarlyUnmet}
use Rattle.cell_reader.specs.Refusals.{refused_or, first_refusal, early_reasons, refusal_of}
use Rattle.cell_reader.proofs.Reading.{early_decides, names_are_distinct}
use Rattle.core_groups.specs.Outputs.{is_three_state}
use Rattle.core_groups.specs.DriverGroups.{driver_pin}
use Rattle.three_state_cells.specs.Refusals.{decides, first_of_two, wrong_delays, wrong_group, refusal_with, driver_refusal}

-- What is wrong in the delays has a number above 7.

abbrev IsLate : Option Refusal → Type 0
IsLate None = ⊤
IsLate (Some told) = 7 < number_of_reason told.reason

late_of : (b : Bool) (one other : Refusal) → IsLate (Some one) → IsLate (Some other) → IsLate (Some (if b then one else other))
late_of true one other h k = h
late_of false one other h k = k

late_two : (one other : Option Refusal) → IsLate one → IsLate other → IsLate (first_of_two one other)
late_two None other h k = k
late_two (Some one) None h k = h
late_two (Some one) (Some other) h k = late_of (decides one other) one other h k

late_by : (unknown number : Option ℕ) → IsLate (refused_or reason.UnknownName unknown (refused_or reason.Number number None))
late_by None None = tt
late_by None (Some at) = omega arith
late_by (Some at) number = omega arith

late_group : (b : Bool) (subject : Subject) (group : Group) → IsLate (if b then wrong_delays subject group else None)
late_group true subject group =
    late_by (least (unknown_names_at subject (driver_pin group))) (least (numbers_at subject (driver_pin group)))
late_group false subject group = tt

late_with : (core : Subject) (found : Option Refusal) (pin : ℕ) (groups : List Group) → IsLate found
    → IsLate (refusal_with core found pin groups)
late_with core found pin [] h = h
late_with core found pin (group ∷ groups) h =
    late_with core (first_of_two found (wrong_group (subject_at core pin) group)) (pin + length group.arguments) groups
    (late_two found (wrong_group (subject_at core pin) group) h (late_group (is_three_state group) (subject_at core pin) group))

late_decided : (told : Refusal) (other : Option Refusal) → number_of_reason told.reason ≤ 7 → IsLate other
    → first_of_two (Some told) other ≡ Some told
late_decided told None h k = refl
late_decided told (Some other) h k = rw (lt-ltb (number_of_reason told.reason) (number_of_reason other.reason) (omega arith)) refl

-- a refusal with a number up to 7 decides
pub early_refusal_decides :
    (core : Subject) (groups : List Group) (told : Refusal)
    → number_of_reason told.reason ≤ 7 → first_of_two (Some told) (driver_refusal core groups) ≡ Some told
early_refusal_decides core groups told h = late_decided told (driver_refusal core groups) h (late_with core None 0 groups tt)

-- The reasons that are tried before the texts are read have numbers up to 6.

abbrev IsEarly : Option Refusal → Type 0
IsEarly None = ⊤
IsEarly (Some told) = number_of_reason told.reason ≤ 6

early_or : (r : Reason) (at : Option ℕ) (later : Option Refusal) → number_of_reason r ≤ 6 → IsEarly later
    → IsEarly (refused_or r at later)
early_or r None later h k = k
early_or r (Some at) later h k = h

early_numbers : (earlier : List (List ℕ)) (cell : Group) → IsEarly (first_refusal (early_reasons earlier cell))
early_numbers earlier cell =
    early_or reason.Direction (least (directions cell)) _ (omega arith)
    (early_or reason.ThreeState (least (three_states cell)) _ (omega arith)
    (early_or reason.Bank (least (banks cell)) _ (omega arith)
    (early_or reason.LeftOutState (least (left_out_states cell)) _ (omega arith)
    (early_or reason.ClearPreset (least (clear_presets cell)) _ (omega arith)
    (early_or reason.Duplicate (least (duplicates earlier cell)) _ (omega arith) tt)))))

-- No early reason is met where a cell is accepted, or refused by a later one.

late_by_number :
    (subject : Subject) (earlier : List (List ℕ)) (cell : Group) (told : Refusal) (early : Option Refusal)
    → first_refusal (early_reasons earlier cell) ≡ early → IsEarly early → refusal_of subject earlier cell ≡ Some told
    → 6 < number_of_reason told.reason → first_refusal (early_reasons earlier cell) ≡ None
late_by_number subject earlier cell told None e k h more = e
late_by_number subject earlier cell told (Some other) e k h more =
    let met : refusal_of subject earlier cell ≡ Some other = early_decides subject earlier cell other e in
    let same : told ≡ other = cc in
    let small : number_of_reason told.reason ≤ 6 = subst (λ (r : Refusal). number_of_reason r.reason ≤ 6) (sym same) k in
    absurd (omega arith)

pub refused_early :
    (subject : Subject) (earlier : List (List ℕ)) (cell : Group) (told : Refusal)
    → refusal_of subject earlier cell ≡ Some told → 6 < number_of_reason told.reason → IsEarlyUnmet cell
refused_early subject earlier cell told h more = (
  earlier,
  late_by_number subject earlier cell told (first_refusal (early_reasons earlier cell)) refl
      (early_numbers earlier cell) h more,
)

pub early_names : (cell : Group) → IsEarlyUnmet cell → IsTrue (are_distinct (pin_names (pins_of cell)))
early_names cell h = names_are_distinct h.0 cell h.1
