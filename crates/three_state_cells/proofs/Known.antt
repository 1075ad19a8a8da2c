-- What the states and the texts of a cell hang on.
use Rattle.std.proofs.Common.{List, [], ◌++◌, length, map}
use Rattle.std.specs.Prelude.{flat_map}
use Rattle.liberty_groups.specs.declared.tree.Group.{Group}
use Rattle.cell_machine.specs.declared.pins.Pin.{Pin}
use Rattle.cell_attributes.specs.declared.state_readings.StateReading.{StateReading}
use Rattle.cell_attributes.specs.Groups.{state_groups}
use Rattle.cell_attributes.specs.Pins.{pins_of}
use Rattle.cell_attributes.specs.States.{states_in}
use Rattle.cell_attributes.specs.Vocabulary.{Entry, Vocabulary, firsts_after, state_entries, entry_names, entry_classes}
use Rattle.cell_attributes.specs.Vocabulary.{entry_targets, vocabulary}
use Rattle.cell_attributes.specs.StateReadings.{state_reading}

pub record Known : Type 0 where
  pub pins : List Pin
  pub states : List Group
  pub words : Vocabulary

abbrev pub known : Group → Known
known cell = record { pins = pins_of cell; states = state_groups cell; words = vocabulary cell }

abbrev pub readings_by : Known → List StateReading
readings_by k = map (state_reading k.words (length k.pins)) k.states

abbrev pub words_by : List Group → List Entry → Vocabulary
words_by states entries = record {
  names = entry_names (firsts_after [] (entries ++ flat_map state_entries (flat_map states_in states)));
  classes = entry_classes (firsts_after [] (entries ++ flat_map state_entries (flat_map states_in states)));
  targets = entry_targets (firsts_after [] (entries ++ flat_map state_entries (flat_map states_in states)));
}
