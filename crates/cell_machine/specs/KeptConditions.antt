-- Values of the conditions of arcs that are kept as long as no input changes that they name.
use Rattle.std.specs.Prelude.{◌≡◌, ℕ, Bool, true, false, List, length, ◌==◌, Option, Some, None, slice_get, slice_index_or}
use Rattle.std.specs.List.{list_any}
use Rattle.trit_cubes.specs.declared.trits.Trit.{Trit}
use Rattle.trit_cubes.specs.declared.trits.Trit.TheVariants.{Zero}
use Rattle.bool_functions.specs.declared.tree.Node.{Node}
use Rattle.cell_machine.specs.declared.pins.Pin.{Pin}
use Rattle.cell_machine.specs.declared.arcs.Arc.{Arc}
use Rattle.cell_machine.specs.Inputs.{input_number}
use Rattle.cell_machine.specs.CellTrace.{condition_value}
use Rattle.cell_machine.specs.Names.{has}

-- the value of the condition of an arc; an arc without one counts as one whose condition is 0
abbrev pub arc_condition : List Pin → List Trit → Option Node → Trit
arc_condition pins v None = Zero
arc_condition pins v (Some f) = condition_value pins v f

-- whether one of these names is an input's
abbrev pub names_input : List Pin → ℕ → List ℕ → Bool
names_input pins input names = list_any (λ name. input_number pins name == input) names

-- this is the value of the condition of the arc with a number
abbrev pub IsCondition : List Pin → List Trit → List Arc → ℕ → Trit → Type 0
IsCondition pins v arcs i value = (arc : Arc) → slice_get arcs i ≡ Some arc → value ≡ arc_condition pins v arc.condition

-- what is kept of so many entries: each value that is kept is right for the number of its entry
abbrev pub AreKept : {V : Type 0} → (ℕ → V → Type 0) → ℕ → List (Option V) → Type 0
AreKept {V} is_right count kept =
    (length kept ≡ count) × ((i : ℕ) (value : V) → slice_index_or kept i None ≡ Some value → is_right i value)

-- values of the conditions of arcs that are kept at these values of the inputs
abbrev pub AreConditions : List Pin → List Trit → List Arc → List (Option Trit) → Type 0
AreConditions pins v arcs kept = AreKept (IsCondition pins v arcs) (length arcs) kept

-- what is kept of an entry that is forgotten, or not
abbrev pub kept_unless : {V : Type 0} → Bool → Option V → Option V
kept_unless true k = None
kept_unless false k = k

-- of the entries with these numbers nothing is kept any more, and of all others what was kept of them
pub record AreForgotten {V : Type 0} (places : List ℕ) (old new : List (Option V)) : Type 0 where
  pub each : (i : ℕ) → slice_index_or new i None ≡ kept_unless (has places i) (slice_index_or old i None)
  pub len : length new ≡ length old
