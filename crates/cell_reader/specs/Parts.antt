-- What a cell is made from: its groups, and what their texts and their timing say.
use Rattle.std.specs.Prelude.{◌≡◌, map}
use Rattle.liberty_groups.specs.declared.tree.Group.{Group}
use Rattle.timing_arcs.specs.declared.subject.Subject.{Subject}
use Rattle.cell_attributes.specs.Groups.{inner_groups, pin_groups, state_groups}
use Rattle.cell_attributes.specs.Declarations.{declared_of}
use Rattle.cell_attributes.specs.Pins.{pins_of, owners_of}
use Rattle.cell_attributes.specs.States.{states_of}
use Rattle.cell_attributes.specs.Vocabulary.{vocabulary}
use Rattle.cell_attributes.specs.Shown.{shown_name, shown_state, shown_vocabulary}
use Rattle.cell_reader.specs.declared.cell_groups.CellGroups.{CellGroups}
use Rattle.cell_reader.specs.declared.parts.Parts.{Parts}
use Rattle.cell_reader.specs.declared.numbered.Numbered.{Numbered}
use Rattle.cell_reader.specs.CellTexts.{subject_of}
use Rattle.cell_attributes.specs.CellLaws.{readings_of, texts_of, numbers_of, groups_of}
use Rattle.cell_timings.specs.CellTimings.{IsHeld}

-- The groups are those of this cell.
pub record AreGroups (cell : Group) (groups : CellGroups) : Type 0 where
  pub of_inner : map (λ group. group.now) groups.inner.items ≡ inner_groups cell.items
  pub of_pins : map (λ group. group.now) groups.pins.items ≡ pin_groups cell
  pub of_states : map (λ group. group.now) groups.states.items ≡ state_groups cell
  pub of_declared : map shown_name groups.declared.items ≡ declared_of cell

-- the pins of a cell, with the time unit of its library
abbrev pub subject_in : Parts → Subject
subject_in parts = subject_of parts.unit parts.cell.now

-- The parts are those of their cell.
pub record AreParts (parts : Parts) : Type 0 where
  pub of_declared : map shown_name parts.groups.declared.items ≡ declared_of parts.cell.now
  pub of_pins : map (λ group. group.now) parts.groups.pins.items ≡ pin_groups parts.cell.now
  pub of_states : map (λ group. group.now) parts.groups.states.items ≡ state_groups parts.cell.now
  pub of_owners : map (λ group. group.now) parts.named.owners.items ≡ owners_of parts.cell.now
  pub of_cell : parts.said.pins ≡ pins_of parts.cell.now
  pub of_names : map shown_state parts.named.states.items ≡ states_of parts.cell.now
  pub of_vocabulary : shown_vocabulary parts.named.vocabulary ≡ vocabulary parts.cell.now
  pub of_readings : parts.said.readings ≡ readings_of parts.cell.now
  pub of_texts : parts.said.texts ≡ texts_of parts.cell.now
  pub of_timing : IsHeld (subject_in parts) (owners_of parts.cell.now) parts.said.timing

-- The numbers and the groups are those of this cell.
pub record AreNumbered (cell : Group) (numbered : Numbered) : Type 0 where
  pub of_numbers : numbered.numbers.items ≡ numbers_of cell
  pub of_groups : numbered.groups ≡ groups_of cell
