-- What the answers of reading the timing of pins tell decides on a refusal as all that is wrong does.
use Rattle.std.proofs.Common.{◌≡◌, ℕ, List, [], ◌∷◌, ◌++◌, length, map, refl, sym, ◌∙◌, ap, Option, Some, None}
use Rattle.std.specs.Prelude.{flat_map}
use Rattle.liberty_groups.specs.declared.tree.Group.{Group}
use Rattle.timing_arcs.specs.declared.subject.Subject.{Subject}
use Rattle.cell_machine.specs.Delay.{lesser, least}
use Rattle.timing_arcs.specs.Timing.{malformed_at as malformed_timing_at, unknown_names_at, check_at_of}
use Rattle.cell_attributes.specs.declared.state_readings.StateReading.{StateReading}
use Rattle.cell_attributes.specs.Groups.{state_groups}
use Rattle.cell_attributes.specs.Pins.{pins_of, owners_of}
use Rattle.cell_attributes.specs.Vocabulary.{Vocabulary, vocabulary}
use Rattle.cell_attributes.specs.Scans.{no_functions}
use Rattle.cell_attributes.specs.Declarations.{bad_names}
use Rattle.cell_attributes.specs.Texts.{malformed_at, unknown_at}
use Rattle.cell_attributes.specs.TextFaults.{malformed_in, unknown_in}
use Rattle.cell_attributes.specs.CellLaws.{readings_of, texts_of}
use Rattle.cell_attributes.specs.Limits.{first_past, place_of_group, state_at, no_support_in, wide_support_in}
use Rattle.cell_attributes.proofs.Distinct.{nil_parts}
use Rattle.cell_machine.proofs.LeastLemmas.{least_append}
use Rattle.cell_refusals.specs.declared.refusal.Reason.{Reason}
use Rattle.cell_refusals.specs.declared.refusal.Reason.TheVariants as reason
use Rattle.cell_refusals.specs.declared.refusal.Refusal.{Refusal}
use Rattle.cell_timings.specs.PinTimings.{arc_at_of, malformed_timing, unknown_timing, arc_at_in, wide_in}
use Rattle.cell_reader.specs.Refusals.{met, refused_or, first_refusal, timing_answers, timing_places, malformed, unknown_names}
use Rattle.cell_reader.specs.Refusals.{coupled, own_conditions, numbers, limits, middle_reasons}
use Rattle.cell_reader.specs.Written.{wide_conditions_of, no_support_of, wide_support_of}
use Rattle.cell_reader.specs.Told.{malformed_told, unknown_told, coupled_told, own_told, number_told, limits_told, told_reasons}
use Rattle.cell_reader.proofs.Refused.{least_none, all_unmet}
use Rattle.cell_reader.proofs.AsWritten.{IsAsWritten, all_coupled_same, all_no_support_same, all_wide_support_same}
use Rattle.cell_reader.proofs.AllPlaces.{AllRead, malformed_all, unknown_all, own_all, number_all, check_at_all, arc_at_all}
use Rattle.cell_reader.proofs.AllPlaces.{wide_all}

-- A reason that is told of decides as the one that is met, where what comes later does.

decided : (r : Reason) (xs : List ℕ) (at : Option ℕ) (later other : Option Refusal) → least xs ≡ at → (xs ≡ [] → later ≡ other)
    → refused_or r at later ≡ refused_or r at other
decided r xs None later other e f = f (least_none xs e)
decided r xs (Some at) later other e f = refl

by_reason : (r : Reason) (told all : List ℕ) (later other : Option Refusal) → least told ≡ least all → (all ≡ [] → later ≡ other)
    → refused_or r (least told) later ≡ refused_or r (least all) other
by_reason r told all later other e f =
    ap (λ at. refused_or r at later) e ∙ decided r all (least all) later other refl f

-- the same behind two parts
least_behind : (xs ys told all : List ℕ) → least told ≡ least all → least (xs ++ (ys ++ told)) ≡ least (xs ++ (ys ++ all))
least_behind xs ys told all e =
    least_append xs (ys ++ told)
    ∙ ap (lesser (least xs)) (least_append ys told ∙ ap (lesser (least ys)) e ∙ sym (least_append ys all))
    ∙ sym (least_append xs (ys ++ all))

-- Nothing is malformed in the timing of the pins where the cell is not, and so of unknown names.

malformed_timings : (pins : Subject) (cell : Group) → malformed pins cell ≡ [] → timing_places malformed_timing_at pins cell ≡ []
malformed_timings pins cell h =
    (nil_parts (flat_map malformed_at (texts_of cell)) _ (nil_parts (flat_map malformed_in (readings_of cell)) _ h).1).1

unknown_timings : (pins : Subject) (cell : Group) → unknown_names pins cell ≡ [] → timing_places unknown_names_at pins cell ≡ []
unknown_timings pins cell h =
    (nil_parts (flat_map unknown_at (texts_of cell)) _ (nil_parts (flat_map unknown_in (readings_of cell)) _ h).1).1

pub all_read : (pins : Subject) (cell : Group) → malformed pins cell ≡ [] → unknown_names pins cell ≡ []
    → own_conditions pins cell ≡ [] → numbers pins cell ≡ [] → AllRead pins (owners_of cell)
all_read pins cell m u o n =
    record { malformed = malformed_timings pins cell m; unknown = unknown_timings pins cell u; own = o; number = n }

unknown_states : (pins : Subject) (cell : Group) → unknown_names pins cell ≡ [] → flat_map unknown_in (readings_of cell) ≡ []
unknown_states pins cell h = (nil_parts (flat_map unknown_in (readings_of cell)) _ h).0

-- what the state groups tell is all that is wrong with them, where nothing unknown is named
pub coupled_told_is : (pins : Subject) (cell : Group) → unknown_names pins cell ≡ [] → coupled_told cell ≡ coupled cell
coupled_told_is pins cell u = all_coupled_same (vocabulary cell) (length (pins_of cell)) (state_groups cell)
    (unknown_states pins cell u)

-- of a cell that names nothing unknown or coupled it is told what is written
abbrev pub AreTold : (StateReading → List ℕ) → (Vocabulary → ℕ → Group → List ℕ) → Type 0
AreTold told written =
    (pins : Subject) (cell : Group) → unknown_names pins cell ≡ [] → coupled cell ≡ []
    → flat_map told (readings_of cell) ≡ flat_map (written (vocabulary cell) (length (pins_of cell))) (state_groups cell)

are_told : (told : StateReading → List ℕ) (written : Vocabulary → ℕ → Group → List ℕ) → IsAsWritten told written
    → AreTold told written
are_told told written same pins cell u w =
    same (vocabulary cell) (length (pins_of cell)) (state_groups cell) (unknown_states pins cell u)
    (coupled_told_is pins cell u ∙ w)

pub supports_told_are : AreTold no_support_in no_support_of
supports_told_are = are_told no_support_in no_support_of all_no_support_same

pub wide_supports_told_are : AreTold wide_support_in wide_support_of
wide_supports_told_are = are_told wide_support_in wide_support_of all_wide_support_same

limits_same : (pins : Subject) (cell : Group) → AllRead pins (owners_of cell) → unknown_names pins cell ≡ [] → coupled cell ≡ []
    → limits_told pins cell ≡ limits pins cell
limits_same pins cell h u w =
    ap (λ xs. bad_names cell
    ++ (first_past 64 (map place_of_group (owners_of cell))
    ++ (first_past 16 (flat_map state_at (state_groups cell))
    ++ (first_past 256 xs
    ++ (first_past 1024 (flat_map arc_at_in (timing_answers pins cell)) ++ flat_map no_support_in (readings_of cell))))))
    (check_at_all pins (owners_of cell) h)
    ∙ ap (λ xs. bad_names cell
    ++ (first_past 64 (map place_of_group (owners_of cell))
    ++ (first_past 16 (flat_map state_at (state_groups cell))
    ++ (first_past 256 (timing_places check_at_of pins cell)
    ++ (first_past 1024 xs ++ flat_map no_support_in (readings_of cell))))))
    (arc_at_all pins (owners_of cell) h)
    ∙ ap (λ xs. bad_names cell
    ++ (first_past 64 (map place_of_group (owners_of cell))
    ++ (first_past 16 (flat_map state_at (state_groups cell))
    ++ (first_past 256 (timing_places check_at_of pins cell) ++ (first_past 1024 (timing_places arc_at_of pins cell) ++ xs)))))
    (supports_told_are pins cell u w)

-- The reasons one after another.

behind_number : (pins : Subject) (cell : Group) → AllRead pins (owners_of cell) → unknown_names pins cell ≡ [] → coupled cell ≡ []
    → first_refusal (met reason.Limit (limits_told pins cell) ∷ []) ≡ first_refusal (met reason.Limit (limits pins cell) ∷ [])
behind_number pins cell h u w = ap (λ xs. first_refusal (met reason.Limit xs ∷ [])) (limits_same pins cell h u w)

behind_own : (pins : Subject) (cell : Group) → malformed pins cell ≡ [] → unknown_names pins cell ≡ [] → coupled cell ≡ []
    → own_conditions pins cell ≡ []
    → first_refusal (met reason.Number (number_told pins cell) ∷ met reason.Limit (limits_told pins cell) ∷ [])
    ≡ first_refusal (met reason.Number (numbers pins cell) ∷ met reason.Limit (limits pins cell) ∷ [])
behind_own pins cell m u w o =
    by_reason reason.Number (number_told pins cell) (numbers pins cell)
    (first_refusal (met reason.Limit (limits_told pins cell) ∷ [])) (first_refusal (met reason.Limit (limits pins cell) ∷ []))
    (number_all pins (owners_of cell) (malformed_timings pins cell m) (unknown_timings pins cell u) o)
    (λ n. behind_number pins cell (all_read pins cell m u o n) u w)

behind_coupled : (pins : Subject) (cell : Group) → malformed pins cell ≡ [] → unknown_names pins cell ≡ [] → coupled cell ≡ []
    → first_refusal (met reason.OwnCondition (own_told pins cell) ∷ met reason.Number (number_told pins cell) ∷ met reason.Limit
    (limits_told pins cell) ∷ [])
    ≡ first_refusal (met reason.OwnCondition (own_conditions pins cell) ∷ met reason.Number (numbers pins cell) ∷ met reason.Limit
    (limits pins cell) ∷ [])
behind_coupled pins cell m u w =
    by_reason reason.OwnCondition (own_told pins cell) (own_conditions pins cell)
    (first_refusal (met reason.Number (number_told pins cell) ∷ met reason.Limit (limits_told pins cell) ∷ []))
    (first_refusal (met reason.Number (numbers pins cell) ∷ met reason.Limit (limits pins cell) ∷ []))
    (own_all pins (owners_of cell) (malformed_timings pins cell m) (unknown_timings pins cell u))
    (behind_own pins cell m u w)

behind_unknown : (pins : Subject) (cell : Group) → malformed pins cell ≡ [] → unknown_names pins cell ≡ []
    → first_refusal
    (met reason.Coupled (coupled_told cell) ∷ met reason.NoFunction (no_functions cell)
    ∷ met reason.OwnCondition (own_told pins cell) ∷ met reason.Number (number_told pins cell) ∷ met reason.Limit
    (limits_told pins cell) ∷ [])
    ≡ first_refusal
    (met reason.Coupled (coupled cell) ∷ met reason.NoFunction (no_functions cell)
    ∷ met reason.OwnCondition (own_conditions pins cell) ∷ met reason.Number (numbers pins cell) ∷ met reason.Limit
    (limits pins cell) ∷ [])
behind_unknown pins cell m u =
    by_reason reason.Coupled (coupled_told cell) (coupled cell) _ _ (ap least (coupled_told_is pins cell u))
    (λ w. ap (λ later. refused_or reason.NoFunction (least (no_functions cell)) later) (behind_coupled pins cell m u w))

behind_malformed : (pins : Subject) (cell : Group) → malformed pins cell ≡ []
    → first_refusal
    (met reason.UnknownName (unknown_told pins cell) ∷ met reason.Coupled (coupled_told cell) ∷ met reason.NoFunction
    (no_functions cell)
    ∷ met reason.OwnCondition (own_told pins cell) ∷ met reason.Number (number_told pins cell) ∷ met reason.Limit
    (limits_told pins cell) ∷ [])
    ≡ first_refusal
    (met reason.UnknownName (unknown_names pins cell) ∷ met reason.Coupled (coupled cell) ∷ met reason.NoFunction
    (no_functions cell)
    ∷ met reason.OwnCondition (own_conditions pins cell) ∷ met reason.Number (numbers pins cell) ∷ met reason.Limit
    (limits pins cell) ∷ [])
behind_malformed pins cell m =
    by_reason reason.UnknownName (unknown_told pins cell) (unknown_names pins cell) _ _
    (least_behind (flat_map unknown_in (readings_of cell)) (flat_map unknown_at (texts_of cell))
    (flat_map unknown_timing (timing_answers pins cell)) (timing_places unknown_names_at pins cell)
    (unknown_all pins (owners_of cell) (malformed_timings pins cell m)))
    (behind_unknown pins cell m)

pub told_decides : (pins : Subject) (cell : Group)
    → first_refusal (told_reasons pins cell) ≡ first_refusal (middle_reasons pins cell)
told_decides pins cell =
    by_reason reason.Malformed (malformed_told pins cell) (malformed pins cell) _ _
    (least_behind (flat_map malformed_in (readings_of cell)) (flat_map malformed_at (texts_of cell))
    (flat_map malformed_timing (timing_answers pins cell)) (timing_places malformed_timing_at pins cell)
    (malformed_all pins (owners_of cell)))
    (behind_malformed pins cell)

-- the conditions and the supports with too many names, where no reason but the last is met
pub wide_told : (pins : Subject) (cell : Group) → first_refusal (middle_reasons pins cell) ≡ None
    → least (flat_map wide_in (timing_answers pins cell)) ≡ least (timing_places wide_conditions_of pins cell)
wide_told pins cell h =
    let m = all_unmet (middle_reasons pins cell) h in
    wide_all pins (owners_of cell) (all_read pins cell m.0 m.1.0 m.1.1.1.1.0 m.1.1.1.1.1.0)

pub wide_supports_told :
    (pins : Subject) (cell : Group) → first_refusal (middle_reasons pins cell) ≡ None
    → flat_map wide_support_in (readings_of cell) ≡ flat_map (wide_support_of (vocabulary cell) (length (pins_of cell)))
    (state_groups cell)
wide_supports_told pins cell h =
    let m = all_unmet (middle_reasons pins cell) h in wide_supports_told_are pins cell m.1.0 m.1.1.0
