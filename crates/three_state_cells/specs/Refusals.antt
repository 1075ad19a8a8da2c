-- Why a cell with three-state outputs is refused.
use Rattle.std.specs.Prelude.{◌≡◌, ℕ, ◌+◌, Bool, ◌&&◌, ◌||◌, ◌==◌, nat_lt, nat_le}
use Rattle.std.specs.Prelude.{List, [], ◌∷◌, length, Option, Some, None, Ok, Err, if◌then◌else◌}
use Rattle.liberty_text.specs.declared.time.Unit.{Unit}
use Rattle.liberty_groups.specs.declared.tree.Group.{Group}
use Rattle.timing_arcs.specs.declared.subject.Subject.{Subject}
use Rattle.timing_arcs.specs.declared.fault.TimingFault.TheVariants as fault
use Rattle.timing_arcs.specs.Timing.{unknown_names_at, numbers_at}
use Rattle.cell_attributes.specs.Groups.{pin_groups}
use Rattle.cell_reader.specs.declared.refusal.Reason.TheVariants as reason
use Rattle.cell_reader.specs.declared.refusal.Refusal.{Refusal}
use Rattle.cell_reader.specs.ReasonWords.{number_of_reason}
use Rattle.cell_reader.specs.PinTimings.{Answer, subject_at}
use Rattle.cell_reader.specs.CellTexts.{subject_of}
use Rattle.cell_reader.specs.Refusals.{met, first_refusal, refusal_of}
use Rattle.core_groups.specs.Outputs.{ThreeStateOutput, is_three_state, three_state_outputs}
use Rattle.core_groups.specs.CoreGroups.{core_group}
use Rattle.core_groups.specs.DriverGroups.{driver_pin}

-- Of two refusals the one with the lesser number decides, and of two with one number the one at the lesser offset.
abbrev pub decides : Refusal → Refusal → Bool
decides one other =
    nat_lt (number_of_reason one.reason) (number_of_reason other.reason)
    || (number_of_reason one.reason == number_of_reason other.reason && nat_le one.at other.at)

abbrev pub first_of_two : Option Refusal → Option Refusal → Option Refusal
first_of_two None other = other
first_of_two (Some one) None = Some one
first_of_two (Some one) (Some other) = Some (if decides one other then one else other)

-- What is wrong in the delays of the outputs of a group, where `subject` is the first of its pins in the core: a related pin that
-- is none, or a time that is none.
abbrev pub wrong_delays : Subject → Group → Option Refusal
wrong_delays subject group =
    first_refusal
    (met reason.UnknownName (unknown_names_at subject (driver_pin group))
    ∷ met reason.Number (numbers_at subject (driver_pin group))
    ∷ [])

-- what an answer of reading them tells of that
abbrev pub wrong_told : Answer → Option Refusal
wrong_told (Ok timing) = None
wrong_told (Err (fault.Malformed at)) = None
wrong_told (Err (fault.UnknownName at)) = Some (record { reason = reason.UnknownName; at = at })
wrong_told (Err (fault.OwnCondition at)) = None
wrong_told (Err (fault.Number at)) = Some (record { reason = reason.Number; at = at })

-- what is wrong in those of a pin group, if it makes three-state outputs
abbrev pub wrong_group : Subject → Group → Option Refusal
wrong_group subject group = if is_three_state group then wrong_delays subject group else None

-- What decides of a refusal and of all that is wrong in the delays of the outputs of these pin groups, where the first makes the
-- pins from this number on.
abbrev pub refusal_with : Subject → Option Refusal → ℕ → List Group → Option Refusal
refusal_with core found pin [] = found
refusal_with core found pin (group ∷ groups) =
    refusal_with core (first_of_two found (wrong_group (subject_at core pin) group)) (pin + length group.arguments) groups

-- what decides of all that is wrong in the delays of the outputs of these pin groups, which are those of a cell
abbrev pub driver_refusal : Subject → List Group → Option Refusal
driver_refusal core groups = refusal_with core None 0 groups

-- Why a cell with this core and these pin groups is refused, where it is.
unfoldable pub floating_refusal : Option Unit → List (List ℕ) → Group → List Group → Option Refusal
floating_refusal unit earlier core groups =
    first_of_two (refusal_of (subject_of unit core) earlier core) (driver_refusal (subject_of unit core) groups)

-- Why a cell with these three-state outputs is refused, where it is: by what refuses its core, and by what is wrong in the delays
-- of the outputs. A cell without any is refused as a cell without Z.
abbrev pub refusal_by : Option Unit → List (List ℕ) → Group → List ThreeStateOutput → Option Refusal
refusal_by unit earlier cell [] = refusal_of (subject_of unit cell) earlier cell
refusal_by unit earlier cell (output ∷ outputs) = floating_refusal unit earlier (core_group cell) (pin_groups cell)

-- Why a cell is refused, where it is, if its library has this time unit and these names of cells stand before it.
unfoldable pub driven_refusal : Option Unit → List (List ℕ) → Group → Option Refusal
driven_refusal unit earlier cell = refusal_by unit earlier cell (three_state_outputs cell)

-- This is why a cell is refused as one without Z, where some cells stand before it.
abbrev pub IsRefusedCore : Option Unit → Group → Refusal → Type 0
IsRefusedCore unit core told = (earlier : List (List ℕ)) × (refusal_of (subject_of unit core) earlier core ≡ Some told)
