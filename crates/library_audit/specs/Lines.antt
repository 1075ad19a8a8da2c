-- The lines of the report on cells that are compared with their modules (this project's format).
use Rattle.std.specs.Prelude.{ℕ, ◌+◌, List, [], ◌∷◌, ◌++◌, codes, decimal, flat_map, Option, Some, None}
use Rattle.trit_cubes.specs.declared.trits.Trit.{Trit}
use Rattle.trit_cubes.specs.declared.trits.Trit.TheVariants.{Zero, One, Unknown}
use Rattle.table_audit.specs.module_tables.declared.differences.AuditPart.{AuditPart}
use Rattle.table_audit.specs.module_tables.declared.differences.AuditPart.TheVariants as table
use Rattle.table_audit.specs.module_tables.declared.differences.Difference.{Difference}
use Rattle.table_audit.specs.module_shapes.declared.shape_parts.ShapePart.{ShapePart}
use Rattle.table_audit.specs.module_shapes.declared.shape_parts.ShapePart.TheVariants.{Ports, States, StateInputs, Checks, Paths}
use Rattle.table_audit.specs.module_shapes.declared.shape_parts.ShapePart.TheVariants.{CheckInputs, PathInputs, Outputs}
use Rattle.table_audit.specs.declared.verdicts.Verdict.{Verdict}
use Rattle.table_audit.specs.declared.verdicts.Verdict.TheVariants as verdict

-- a value as a model's text writes it
abbrev pub value_text : Trit → List ℕ
value_text Zero = codes "0"
value_text One = codes "1"
value_text Unknown = codes "x"

-- what a module has of another shape than its cell
abbrev pub shape_word : ShapePart → List ℕ
shape_word Ports = codes "ports"
shape_word States = codes "states"
shape_word StateInputs = codes "state-inputs"
shape_word Checks = codes "checks"
shape_word Paths = codes "paths"
shape_word CheckInputs = codes "check-inputs"
shape_word PathInputs = codes "path-inputs"
shape_word Outputs = codes "outputs"

-- what a table with another value than the cell is for
abbrev pub table_word : (part : AuditPart) → List ℕ
table_word table.State = codes "state"
table_word table.Notifier = codes "notifier"
table_word table.Check = codes "check"
table_word table.Path = codes "path"
table_word table.Output = codes "output"

-- a value, a dash where there is none
abbrev pub known_text : Option Trit → List ℕ
known_text (Some value) = value_text value
known_text None = codes "-"

-- a place of a list, numbered from 0, as it is numbered from 1, a dash where there is none
abbrev pub place_text : Option ℕ → List ℕ
place_text (Some place) = decimal (place + 1)
place_text None = codes "-"

-- a value of a list
abbrev pub listed_value : Trit → List ℕ
listed_value value = codes " " ++ value_text value

-- values in order, a dash where there are none
abbrev pub listed_text : List Trit → List ℕ
listed_text [] = codes " -"
listed_text (value ∷ values) = flat_map listed_value (value ∷ values)

-- another shape: the first part that has one, and its number
unfoldable pub shape_text : ShapePart → ℕ → List ℕ
shape_text part number = codes " shape " ++ (shape_word part ++ (codes " " ++ (decimal number ++ codes "\n")))

-- the values that the cell and its module have
unfoldable pub values_text : Trit → Trit → List ℕ
values_text of_cell of_model = codes " cell " ++ (value_text of_cell ++ (codes " model " ++ (value_text of_model ++ codes "\n")))

-- where they have these values: the place that changed, its old value, the values of all places, the state and the register of
-- the checks
unfoldable pub arguments_text : Difference → List ℕ
arguments_text d =
    codes " place "
    ++ (place_text d.changed ++ (codes " old "
    ++ (known_text d.old ++ (codes " new"
    ++ (listed_text d.places ++ (codes " state "
    ++ (known_text d.state ++ (codes " notifier " ++ known_text d.notifier))))))))

-- a table with another value: what it is for, its number, its arguments and both values
unfoldable pub difference_text : Difference → List ℕ
difference_text d =
    codes " differs " ++ (table_word d.part
    ++ (codes " " ++ (decimal d.number ++ (arguments_text d ++ values_text d.of_cell d.of_model))))

-- what is said of a cell, where a module has its name
abbrev pub verdict_text : Option Verdict → List ℕ
verdict_text None = codes " absent\n"
verdict_text (Some verdict.Same) = codes " same\n"
verdict_text (Some (verdict.Shape part number)) = shape_text part number
verdict_text (Some (verdict.Differs difference)) = difference_text difference

-- the line of a cell: its number, from 1 among all cells of the library, its name, and what is said of it
unfoldable pub audit_line : ℕ → List ℕ → Option Verdict → List ℕ
audit_line number name found = codes "audit " ++ (decimal number ++ (codes " " ++ (name ++ verdict_text found)))

-- the line of a cell that is not compared, since some of its outputs may float
unfoldable pub left_out_line : ℕ → List ℕ → List ℕ
left_out_line number name = codes "audit " ++ (decimal number ++ (codes " " ++ (name ++ codes " left-out\n")))
