-- How many outputs a cell has.
use Rattle.std.proofs.Common.{◌≡◌, ℕ, ◌+◌, ◌≤◌, Bool, true, false, cond, List, [], ◌∷◌, length, map, sym, ap, ◌∙◌, arith}
use Rattle.std.specs.Prelude.{bytes_eq}
use Rattle.std.specs.List.{list_all}
use Rattle.std.proofs.lemmas.Bool.{and_parts}
use Rattle.std.proofs.lemmas.List.{length-map}
use Rattle.std.proofs.lemmas.Slice.Eq.{bytes_eq-Decides}
use Rattle.cell_machine.specs.declared.pins.Pin.{Pin}
use Rattle.cell_machine.specs.declared.outputs.OutputPin.{OutputPin}
use Rattle.cell_machine.specs.declared.cells.Cell.{Cell}
use Rattle.cell_machine.specs.CellRules.{is_output, output_pins_from, is_output_of}
use Rattle.cell_machine.proofs.RuleLemmas.{cell_rules, few_pins}

one_more : (b : Bool) (k n : ℕ) (ks : List ℕ) → length ks ≤ n → length (cond b (k ∷ ks) ks) ≤ n + 1
one_more true k n ks h = omega (arith, h)
one_more false k n ks h = omega (arith, h)

few_output_pins : (k : ℕ) (pins : List Pin) → length (output_pins_from k pins) ≤ length pins
few_output_pins k [] = omega arith
few_output_pins k (pin ∷ pins) =
    let more = one_more (is_output pin.direction) k (length pins) (output_pins_from (k + 1) pins) (few_output_pins (k + 1) pins)
    in
    omega (arith, more)

-- a cell has at most 64 outputs
pub few_outputs : (cell : Cell) → length cell.outputs ≤ 64
few_outputs cell =
    let numbers : List ℕ = map (λ (output : OutputPin). output.pin) cell.outputs in
    let rules = and_parts (bytes_eq numbers (output_pins_from 0 cell.pins))
    (list_all (is_output_of cell.pins cell.groups) cell.outputs) (cell_rules cell).of_outputs in
    let same : numbers ≡ output_pins_from 0 cell.pins = (bytes_eq-Decides numbers (output_pins_from 0 cell.pins)).0 rules.0 in
    let count : length cell.outputs ≡ length (output_pins_from 0 cell.pins) =
    sym (length-map cell.outputs (λ (output : OutputPin). output.pin)) ∙ ap length same in
    let pins = few_output_pins 0 cell.pins in
    let few = few_pins cell in
    omega (arith, count, pins, few)
