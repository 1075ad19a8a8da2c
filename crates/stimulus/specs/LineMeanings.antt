-- What a line of a stimulus says, and for which cause it is bad (this project's format).
use Rattle.std.specs.Prelude.{ℕ, Bool, true, nat_lt, nat_le, List, codes, Option, Some, None, Result, Ok, Err, ok_or}
use Rattle.std.specs.Prelude.{if◌then◌else◌}
use Rattle.std.specs.Str.{bytes_eq}
use Rattle.trit_cubes.specs.declared.trits.Trit.{Trit}
use Rattle.trit_cubes.specs.declared.trits.Trit.TheVariants.{Zero, One, Unknown}
use Rattle.stimulus.specs.declared.faults.Cause.{Cause}
use Rattle.stimulus.specs.declared.faults.Cause.TheVariants as cause
use Rattle.stimulus.specs.declared.catalog.CellFound.{CellFound}
use Rattle.stimulus.specs.declared.catalog.CellFound.TheVariants as cells
use Rattle.stimulus.specs.declared.catalog.PinFound.{PinFound}
use Rattle.stimulus.specs.declared.catalog.PinFound.TheVariants as pins
use Rattle.stimulus.specs.declared.context.Context.{Context}
use Rattle.stimulus.specs.declared.context.Said.{Said}
use Rattle.stimulus.specs.declared.context.Said.TheVariants.{Nothing, Begins, Changes}
use Rattle.stimulus.specs.declared.line_meanings.TheConstants.{MAX_CHANGES}
use Rattle.stimulus.specs.Catalog.{Listing, cell_found, pin_found}
use Rattle.stimulus.specs.Times.{time_of}
use Rattle.stimulus.specs.Written.{Written, no_words, section_line, change_line, other_line, written_in}

-- The next step on what was read, or what was wrong before it.
abbrev pub and_then : {A B E : Type 0} → Result A E → (A → Result B E) → Result B E
and_then (Ok a) next = next a
and_then (Err e) next = Err e

-- the beginning of a section on a cell of which the catalog says this
abbrev pub begun : CellFound → Result Said Cause
begun (cells.Cell number) = Ok (Begins number)
begun cells.Unknown = Err cause.UnknownCell
begun (cells.Refused number) = Err (cause.RefusedCell number)
begun (cells.VerilogPorts number) = Err (cause.VerilogPorts number)
begun (cells.VitalPorts number) = Err (cause.VitalPorts number)

-- only inputs are given changes
abbrev pub input_of : PinFound → Result ℕ Cause
input_of (pins.Input number) = Ok number
input_of pins.Output = Err cause.OutputPin
input_of pins.Unknown = Err cause.UnknownPin

-- the words that stand for values, and the value of each
abbrev pub value_of : List ℕ → Option Trit
value_of word =
    if bytes_eq word (codes "0") then Some Zero else
    if bytes_eq word (codes "1") then Some One else
    if bytes_eq word (codes "x") then Some Unknown else
    if bytes_eq word (codes "X") then Some Unknown else None

-- whether a time is above the last one, where there is a last one
abbrev pub is_later : ℕ → Option ℕ → Bool
is_later at None = true
is_later at (Some last) = nat_lt last at

-- the change with this time, input and value, if its time is above that of the section's last change
abbrev pub changed_at : Context → ℕ → ℕ → Trit → Result Said Cause
changed_at context at pin to =
    if is_later at context.last then Ok (Changes (record { at = at; pin = pin; to = to })) else Err cause.Time

-- the change with this time in a section on this cell, if the file has not its full number of changes yet
abbrev pub changed_in : Listing → Context → List ℕ → List ℕ → ℕ → ℕ → Result Said Cause
changed_in listing context pin value cell at =
    if nat_le MAX_CHANGES context.changes then Err cause.Count else
    and_then (input_of (pin_found listing cell pin)) (λ number.
    and_then (ok_or (value_of value) cause.Value) (λ to.
    changed_at context at number to))

-- The change that three words give. The causes are tried in this order: no section has begun, the first word is no time,
-- the count, the port, the value, the time.
abbrev pub changed : Listing → Context → List ℕ → List ℕ → List ℕ → Result Said Cause
changed listing context time pin value =
    and_then (ok_or context.cell cause.Form) (λ cell.
    and_then (ok_or (time_of time) cause.Form) (λ at.
    changed_in listing context pin value cell at))

abbrev pub written_meaning : Listing → Context → Written → Result Said Cause
written_meaning listing context no_words = Ok Nothing
written_meaning listing context (section_line name) = begun (cell_found listing name)
written_meaning listing context (change_line time pin value) = changed listing context time pin value
written_meaning listing context other_line = Err cause.Form

-- what a line says after lines that leave this to be known, or the first of its causes
abbrev pub line_meaning : Listing → Context → List ℕ → Result Said Cause
line_meaning listing context line = written_meaning listing context (written_in line)
