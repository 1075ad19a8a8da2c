-- Laws of what is read, for the crates above.
use Rattle.std.specs.Prelude.{◌≡◌, ◌↔◌, ℕ, ◌<◌, List, [], length, map, slice_get, All, Some, Ok, Err}
use Rattle.cell_machine.specs.declared.changes.Change.{Change}
use Rattle.cell_machine.specs.History.{IsProperFrom}
use Rattle.cell_machine.specs.Lines.{trace, Machine}
use Rattle.stimulus.specs.declared.catalog.CellFound.TheVariants as cells
use Rattle.stimulus.specs.declared.catalog.PinFound.TheVariants as pins
use Rattle.stimulus.specs.declared.faults.Cause.{Cause}
use Rattle.stimulus.specs.declared.faults.Cause.TheVariants as cause
use Rattle.stimulus.specs.declared.faults.StimulusFault.TheVariants as fault
use Rattle.stimulus.specs.declared.ports.Ports.{Ports}
use Rattle.stimulus.specs.declared.sections.Section.{Section}
use Rattle.stimulus.specs.Catalog.{Listing, cell_found, pin_found}
use Rattle.stimulus.specs.DriveLines.{drive_line, lines_along, drive_machine}
use Rattle.stimulus.specs.PortEntries.{NamedCells, listed}
use Rattle.stimulus.specs.Stimulus.{stimulus_of}

-- each input that a listing names of this cell has a number below n
abbrev pub HasInputs : Listing → ℕ → ℕ → Type 0
HasInputs listing cell n = (name : List ℕ) (pin : ℕ) → pin_found listing cell name ≡ pins.Input pin → pin < n

-- A section is of a cell that the listing names, and its changes may be given to a simulator that has as many inputs as the
-- cell, from its start on: each is of an input, and their times rise strictly.
pub record IsSectionOf (listing : Listing) (section : Section) : Type 0 where
  pub named : (name : List ℕ) × (cell_found listing name ≡ cells.Cell section.cell)
  pub proper : (n : ℕ) → HasInputs listing section.cell n → IsProperFrom n [] section.changes

-- the sections of a stimulus that is read are such
abbrev pub SectionsAreProper : Type 0
SectionsAreProper = (listing : Listing) (bytes : List ℕ) (sections : List Section) → stimulus_of listing bytes ≡ Ok sections
    → All (IsSectionOf listing) sections

-- what a catalog of ports names as an input is one of its cell
abbrev pub PortsAreInputs : Type 0
PortsAreInputs = (named : NamedCells) (cell : ℕ) (ports : Ports) → slice_get named.cells cell ≡ Some ports
    → HasInputs (listed named) cell (length ports.inputs)

-- where a cause names a cell by its number, the listing answered it to some name, as one that may not be given changes for this
-- cause
abbrev pub NamesAnAnswer : Listing → Cause → Type 0
NamesAnAnswer listing (cause.RefusedCell number) = (name : List ℕ) × (cell_found listing name ≡ cells.Refused number)
NamesAnAnswer listing (cause.VerilogPorts number) = (name : List ℕ) × (cell_found listing name ≡ cells.VerilogPorts number)
NamesAnAnswer listing (cause.VitalPorts number) = (name : List ℕ) × (cell_found listing name ≡ cells.VitalPorts number)
NamesAnAnswer listing why = Unit {0}

-- a cell that the cause of a stimulus's first bad line names is such
abbrev pub CausesNameAnswers : Type 0
CausesNameAnswers =
    (listing : Listing) (bytes : List ℕ) (line : ℕ) (why : Cause) → stimulus_of listing bytes ≡ Err (fault.Line line why)
    → NamesAnAnswer listing why

-- What is printed along changes of a machine whose outputs are never z: its trace, line by line.
abbrev pub DriveLinesShowTraces : Type 0
DriveLinesShowTraces =
    (m : Machine) (cs : List Change) → lines_along (drive_machine m).line cs ≡ map drive_line (trace m.line cs)

-- Two such machines print equal lines along changes exactly where their traces on these are equal.
abbrev pub EqualLinesAreEqualTraces : Type 0
EqualLinesAreEqualTraces =
    (one other : Machine) (cs : List Change)
    → (lines_along (drive_machine one).line cs ≡ lines_along (drive_machine other).line cs)
    ↔ (trace one.line cs ≡ trace other.line cs)
