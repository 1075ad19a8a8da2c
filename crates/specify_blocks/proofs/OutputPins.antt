-- The outputs of a cell are its output pins.
use Rattle.std.proofs.Common.{◌≡◌, ℕ, ◌+◌, ◌≤◌, Bool, true, false, List, [], ◌∷◌, length, map, IsTrue, sym, ap, ◌∙◌, arith}
use Rattle.std.proofs.Common.{bytes_eq, if◌then◌else◌}
use Rattle.std.specs.List.{list_all}
use Rattle.std.proofs.lemmas.List.{length-map}
use Rattle.std.proofs.lemmas.Bool.{and_parts}
use Rattle.std.proofs.lemmas.Slice.Eq.{bytes_eq-Decides}
use Rattle.cell_machine.specs.declared.pins.Pin.{Pin}
use Rattle.cell_machine.specs.declared.groups.StateGroup.{StateGroup}
use Rattle.cell_machine.specs.declared.outputs.OutputPin.{OutputPin}
use Rattle.cell_machine.specs.declared.cells.Cell.{Cell}
use Rattle.cell_machine.specs.CellRules.{is_output, output_pins_from, is_output_of, are_outputs}
use Rattle.cell_machine.proofs.RuleLemmas.{cell_rules, few_pins}

pub outputs_are_pins :
    (pins : List Pin) (groups : List StateGroup) (outputs : List OutputPin)
    → IsTrue (are_outputs pins groups outputs) → map (λ (output : OutputPin). output.pin) outputs ≡ output_pins_from 0 pins
outputs_are_pins pins groups outputs h =
    (bytes_eq-Decides (map (λ (output : OutputPin). output.pin) outputs) (output_pins_from 0 pins)).0
    (and_parts (bytes_eq (map (λ (output : OutputPin). output.pin) outputs) (output_pins_from 0 pins))
    (list_all (is_output_of pins groups) outputs) h).0

pub few_output_pins : (k : ℕ) (pins : List Pin) → length (output_pins_from k pins) ≤ length pins
few_output_pins k [] = omega arith
few_output_pins k (pin ∷ pins) = by (is_output pin.direction) (few_output_pins (k + 1) pins)
  where
    by :
        (b : Bool) → length (output_pins_from (k + 1) pins) ≤ length pins
        → length (if b then k ∷ output_pins_from (k + 1) pins else output_pins_from (k + 1) pins) ≤ length (pin ∷ pins)
    by true h = omega arith
    by false h = omega arith

-- a cell has at most 64 outputs
pub few_outputs : (cell : Cell) → length cell.outputs ≤ 64
few_outputs cell =
    let same = outputs_are_pins cell.pins cell.groups cell.outputs (cell_rules cell).of_outputs in
    let longest = few_output_pins 0 cell.pins in
    let few = few_pins cell in
    let equal : length cell.outputs ≡ length (output_pins_from 0 cell.pins) =
    sym (length-map cell.outputs (λ (output : OutputPin). output.pin)) ∙ ap length same in
    omega arith
