-- What the outputs of a cell are read with.
use Rattle.std.specs.Prelude.{◌≡◌, ◌≤◌, length}
use Rattle.cell_functions.specs.declared.output_pins.OutputReader.{OutputReader}

-- The numbers of pins and of states are within their limits, and each name has a number.
pub record IsWithin (reader : OutputReader) : Type 0 where
  pub few_pins : reader.pins ≤ 64
  pub few_groups : length reader.groups.now ≤ 16
  pub numbered : length reader.to.now ≡ length reader.vocabulary.now.classes.items
