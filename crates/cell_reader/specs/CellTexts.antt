-- The cell that a group describes.
use Rattle.std.specs.Prelude.{◌≡◌, ⊤, ℕ, List, Option, Some, None}
use Rattle.liberty_text.specs.declared.time.Unit.{Unit}
use Rattle.liberty_groups.specs.declared.tree.Group.{Group}
use Rattle.cell_machine.specs.declared.pins.Pin.{Pin}
use Rattle.cell_machine.specs.declared.cells.Cell.{Cell}
use Rattle.timing_arcs.specs.declared.subject.Subject.{Subject}
use Rattle.cell_attributes.specs.Groups.{cell_name}
use Rattle.cell_attributes.specs.Pins.{pin_names, pins_of}
use Rattle.cell_refusals.specs.declared.refusal.Refusal.{Refusal}
use Rattle.cell_reader.specs.declared.fault.CellFault.{CellFault}
use Rattle.cell_reader.specs.declared.fault.CellFault.TheVariants as fault
use Rattle.cell_attributes.specs.CellLaws.{groups_of, outputs_of}
use Rattle.cell_reader.specs.Refusals.{checks_of, arcs_of, early_reasons, first_refusal, refusal_of}

-- The pins of a cell, with the time unit of its library.
abbrev pub subject_with : Option Unit → List Pin → Subject
subject_with unit pins = record { names = pin_names pins; pins = pins; place = 0; unit = unit }

abbrev pub subject_of : Option Unit → Group → Subject
subject_of unit cell = subject_with unit (pins_of cell)

-- The cell with this number that a group describes, where `subject` are its pins with the time unit of the library.
pub record IsCellOf (subject : Subject) (number : ℕ) (group : Group) (cell : Cell) : Type 0 where
  pub same_name : cell.name ≡ cell_name group
  pub same_number : cell.number ≡ number
  pub same_pins : cell.pins ≡ pins_of group
  pub same_groups : cell.groups ≡ groups_of group
  pub same_outputs : cell.outputs ≡ outputs_of group
  pub same_checks : cell.checks ≡ checks_of subject group
  pub same_arcs : cell.arcs ≡ arcs_of subject group

-- The fault tells this refusal, unless memory was not found.
abbrev pub Tells : Option Refusal → CellFault → Type 0
Tells refusal (fault.Refused told) = refusal ≡ Some told
Tells refusal fault.Memory = ⊤

-- No reason that is tried before any text is read refuses the cell, where some cells stand before it.
abbrev pub IsEarlyUnmet : Group → Type 0
IsEarlyUnmet cell = (earlier : List (List ℕ)) × (first_refusal (early_reasons earlier cell) ≡ None)

-- No reason refuses the cell, where some cells stand before it.
abbrev pub IsUnmet : Subject → Group → Type 0
IsUnmet subject cell = (earlier : List (List ℕ)) × (refusal_of subject earlier cell ≡ None)
