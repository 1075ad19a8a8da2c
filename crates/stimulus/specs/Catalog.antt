-- What a catalog lists, and how a name is looked up in it (this project's rule).
use Rattle.std.specs.Prelude.{ℕ, List, [], ◌∷◌, Option, Some, None, if◌then◌else◌}
use Rattle.std.specs.Str.{bytes_eq}
use Rattle.stimulus.specs.declared.catalog.CellFound.{CellFound}
use Rattle.stimulus.specs.declared.catalog.CellFound.TheVariants as cells
use Rattle.stimulus.specs.declared.catalog.PinFound.{PinFound}
use Rattle.stimulus.specs.declared.catalog.PinFound.TheVariants as pins

-- What is said of a cell that is listed, with its number: that it may be given changes, that it is refused, or that its
-- Verilog module or its VHDL entity is absent or has other ports.
pub data CellEntry : Type 0 where
  ready : ℕ → CellEntry
  refused : ℕ → CellEntry
  verilog_ports : ℕ → CellEntry
  vital_ports : ℕ → CellEntry

-- What is said of a port that is listed: that it is the input with this number, or an output.
pub data PinEntry : Type 0 where
  input : ℕ → PinEntry
  output : PinEntry

-- the cells that are listed by their names, and for each cell, by its number, its ports by their names
pub record Listing : Type 0 where
  pub cells : List (List ℕ × CellEntry)
  pub pins : ℕ → List (List ℕ × PinEntry)

-- what the first entry of a name says
abbrev pub entry_of : {A : Type 0} → List (List ℕ × A) → List ℕ → Option A
entry_of [] name = None
entry_of (entry ∷ entries) name = if bytes_eq name entry.0 then Some entry.1 else entry_of entries name

abbrev pub cell_answer : Option CellEntry → CellFound
cell_answer None = cells.Unknown
cell_answer (Some (ready number)) = cells.Cell number
cell_answer (Some (refused number)) = cells.Refused number
cell_answer (Some (verilog_ports number)) = cells.VerilogPorts number
cell_answer (Some (vital_ports number)) = cells.VitalPorts number

abbrev pub pin_answer : Option PinEntry → PinFound
pin_answer None = pins.Unknown
pin_answer (Some (input number)) = pins.Input number
pin_answer (Some output) = pins.Output

-- the answer to the name of a cell
abbrev pub cell_found : Listing → List ℕ → CellFound
cell_found listing name = cell_answer (entry_of listing.cells name)

-- the answer to the name of a port of the cell with this number
abbrev pub pin_found : Listing → ℕ → List ℕ → PinFound
pin_found listing cell name = pin_answer (entry_of (listing.pins cell) name)
