-- What a catalog of ports lists.
use Rattle.std.specs.Prelude.{◌≡◌, ℕ, ◌+◌, List, [], ◌∷◌, ◌++◌, length, map, slice_get, Option, Some, None}
use Rattle.bool_functions.specs.NameList.{number_of}
use Rattle.stimulus.specs.declared.ports.Ports.{Ports}
use Rattle.stimulus.specs.declared.ports.Standing.{Standing}
use Rattle.stimulus.specs.declared.ports.Standing.TheVariants as standing
use Rattle.stimulus.specs.Catalog.{CellEntry, ready, refused, verilog_ports, vital_ports, PinEntry, input, output, Listing}

-- what is said of the cell with this number, which stands so
abbrev pub entry_of_cell : ℕ → Standing → CellEntry
entry_of_cell number standing.Ready = ready number
entry_of_cell number standing.Refused = refused number
entry_of_cell number standing.VerilogPorts = verilog_ports number
entry_of_cell number standing.VitalPorts = vital_ports number

-- the cells by their names, of which the first has this number
abbrev pub cell_entries : ℕ → List (List ℕ) → List Ports → List (List ℕ × CellEntry)
cell_entries number (name ∷ names) (cell ∷ cells) =
    (name, entry_of_cell number cell.standing) ∷ cell_entries (number + 1) names cells
cell_entries number _ _ = []

-- the inputs by their names, of which the first has this number
abbrev pub input_entries : ℕ → List (List ℕ) → List (List ℕ × PinEntry)
input_entries number [] = []
input_entries number (name ∷ names) = (name, input number) ∷ input_entries (number + 1) names

abbrev pub output_entries : List (List ℕ) → List (List ℕ × PinEntry)
output_entries names = map (λ (name : List ℕ). (name, output)) names

-- the ports of a cell, its inputs ahead of its outputs
abbrev pub port_entries : Option Ports → List (List ℕ × PinEntry)
port_entries None = []
port_entries (Some cell) = input_entries 0 cell.inputs ++ output_entries cell.outputs

-- cells in the order of their numbers: their names, and how each stands with its ports
pub record NamedCells : Type 0 where
  pub names : List (List ℕ)
  pub cells : List Ports

abbrev pub listed : NamedCells → Listing
listed named = record {
  cells = cell_entries 0 named.names named.cells;
  pins =
      λ (number : ℕ). port_entries (slice_get named.cells number);
}

-- what adding a cell answers: its number where its name is new and it goes last, nothing where the name is there and all
-- stays
abbrev pub AddsCell : NamedCells → List ℕ → Ports → Option ℕ → NamedCells → Type 0
AddsCell old name cell (Some number) new =
    (number_of old.names name ≡ None) × (number ≡ length old.cells)
    × (new ≡ record { names = old.names ++ name ∷ []; cells = old.cells ++ cell ∷ [] })
AddsCell old name cell None new = ((number_of old.names name ≡ None) → ⊥) × (new ≡ old)
