-- What counts for the next item of a library: the unit, the types of buses, and the cells before it. This project's rules.
use Rattle.std.specs.Prelude.{ℕ, ◌+◌, List, [], ◌∷◌, ◌++◌, codes, Option, Some, None, is_some, if◌then◌else◌}
use Rattle.std.specs.Str.{bytes_eq}
use Rattle.liberty_text.specs.declared.time.Unit.{Unit}
use Rattle.liberty_text.specs.declared.time.Unit.TheVariants.{Ps1, Ps10, Ps100, Ns1}
use Rattle.liberty_groups.specs.declared.tree.Group.{Group}
use Rattle.bool_functions.specs.NameList.{number_of}
use Rattle.bus_texts.specs.declared.bus_types.BusType.{BusType}
use Rattle.bus_texts.specs.BusTypes.{bus_type_of}
use Rattle.bank_cells.specs.Refusals.{bank_refusal}
use Rattle.bank_cells.specs.Expanded.{expanded}
use Rattle.cell_reader.specs.declared.refusal.Refusal.{Refusal}
use Rattle.cell_attributes.specs.Groups.{cell_name}
use Rattle.three_state_cells.specs.DrivenCells.{DrivenData, driven_data}
use Rattle.three_state_cells.specs.Refusals.{driven_refusal}
use Rattle.vhdl_tokens.specs.Kept.{lowered}
use Rattle.library_reader.specs.BankRefusals.{refusal_by}
use Rattle.library_reader.specs.LibraryCells.{vital_name}
use Rattle.library_reader.specs.declared.progress.Progress.{Progress}
use Rattle.cell_cursor.specs.declared.item.LibraryItem.{LibraryItem}
use Rattle.cell_cursor.specs.declared.item.LibraryItem.TheVariants as item

-- the unit of time that a text names (Liberty Reference Manual, `time_unit`)
abbrev pub unit_of : List ℕ → Option Unit
unit_of text =
    if bytes_eq text (codes "1ns") then Some Ns1
    else if bytes_eq text (codes "100ps") then Some Ps100
    else if bytes_eq text (codes "10ps") then Some Ps10
    else if bytes_eq text (codes "1ps") then Some Ps1
    else None

-- before the first item of a library: the unit is a nanosecond, and there are no types of buses
abbrev pub no_progress : Progress
no_progress = record { unit = Some Ns1; types = []; names = []; entities = []; accepted = 0; refused = 0 }

-- the number of the next cell, from 1: cells are numbered by their place among all cells of the library
abbrev pub next_number : Progress → ℕ
next_number p = p.accepted + p.refused + 1

-- these names, each once, and one more
abbrev pub names_with : List (List ℕ) → List ℕ → List (List ℕ)
names_with names name = if is_some (number_of names name) then names else names ++ name ∷ []

-- these types of buses and one more, where a group tells of one (Liberty Reference Manual, `type` group)
abbrev pub types_with : List BusType → Option BusType → List BusType
types_with types None = types
types_with types (Some kind) = types ++ kind ∷ []

-- the group of the next cell, its buses, bundles and banks expanded to single bits with the types of buses before it
abbrev pub next_bits : Progress → Group → Group
next_bits p group = expanded p.types group

-- why the next cell is refused, where it is: since its group is not expanded, or as the cell of the expanded group
unfoldable pub next_refusal : Progress → Group → Option Refusal
next_refusal p group = refusal_by (bank_refusal p.types group) (driven_refusal p.unit p.names (next_bits p group))

-- the data of the next cell, where this group describes it: those of the expanded group
unfoldable pub next_data : Progress → Group → DrivenData
next_data p group = driven_data p.unit (next_number p) (next_bits p group)

-- The name of the VITAL model of the next cell, where it is accepted: the cell's, where VHDL text keeps it and no model before it
-- has it, whatever the case of its letters, else one with its number. (IEEE 1076-1993, 13.3.1.)
unfoldable pub next_entity : Progress → Group → List ℕ
next_entity p group = vital_name p.entities (next_data p group)

-- the name of the entity of the next cell, where nothing refuses it
abbrev pub entity_by : Progress → Group → Option Refusal → Option (List ℕ)
entity_by p group None = Some (next_entity p group)
entity_by p group (Some refusal) = None

-- After one more cell: accepted, with an entity of this name, which is kept in lower case, or refused. The cell's own name counts
-- either way.
abbrev pub after_cell : Progress → List ℕ → Option (List ℕ) → Progress
after_cell p name (Some entity) = record {
  unit = p.unit;
  types = p.types;
  names = names_with p.names name;
  entities = names_with p.entities (lowered entity);
  accepted = p.accepted + 1;
  refused = p.refused;
}
after_cell p name None = record {
  unit = p.unit;
  types = p.types;
  names = names_with p.names name;
  entities = p.entities;
  accepted = p.accepted;
  refused = p.refused + 1;
}

-- after an item
abbrev pub after_item : Progress → LibraryItem → Progress
after_item p (item.Cell group) = after_cell p (cell_name group) (entity_by p group (next_refusal p group))
after_item p (item.Unit line) = record {
  unit = unit_of line.value;
  types = p.types;
  names = p.names;
  entities = p.entities;
  accepted = p.accepted;
  refused = p.refused;
}
after_item p (item.LeftOut at) = p
after_item p (item.BusType group) = record {
  unit = p.unit;
  types = types_with p.types (bus_type_of group);
  names = p.names;
  entities = p.entities;
  accepted = p.accepted;
  refused = p.refused;
}

-- after these items, one after another
abbrev pub progress_after : Progress → List LibraryItem → Progress
progress_after p [] = p
progress_after p (one ∷ items) = progress_after (after_item p one) items
