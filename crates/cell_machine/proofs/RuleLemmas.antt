-- The rules of a cell, taken apart and put together.
use Rattle.std.proofs.Common.{ℕ, ◌≤◌, Bool, ◌&&◌, List, [], ◌∷◌, length, map, IsTrue, nat_lt, nat_le}
use Rattle.std.specs.List.{list_all}
use Rattle.std.proofs.lemmas.Bool.{and_parts, and_from, leb-true}
use Rattle.cell_machine.specs.declared.pins.Pin.{Pin}
use Rattle.cell_machine.specs.declared.groups.StateGroup.{StateGroup}
use Rattle.cell_machine.specs.declared.outputs.OutputPin.{OutputPin}
use Rattle.cell_machine.specs.declared.checks.Check.{Check}
use Rattle.cell_machine.specs.declared.arcs.Arc.{Arc}
use Rattle.cell_machine.specs.declared.cells.Cell.{Cell}
use Rattle.cell_machine.specs.CellRules.{is_name, is_input_pin, is_output_pin, has_events, longest_time, is_condition, is_check}
use Rattle.cell_machine.specs.CellRules.{is_arc, is_in_order, is_output_of, are_pins, are_groups_from, are_groups, are_outputs}
use Rattle.cell_machine.specs.CellRules.{are_checks, are_arcs, is_cell, HoldsRules}

pub rules_of :
    (name : List ℕ) (pins : List Pin) (groups : List StateGroup) (outputs : List OutputPin) (checks : List Check)
    (arcs : List Arc)
    → IsTrue (is_cell name pins groups outputs checks arcs) → HoldsRules name pins groups outputs checks arcs
rules_of name pins groups outputs checks arcs h =
    let five : Bool = are_checks pins checks && are_arcs pins arcs in
    let four : Bool = are_outputs pins groups outputs && (are_checks pins checks && are_arcs pins arcs) in
    let three : Bool = are_groups pins groups
    && (are_outputs pins groups outputs && (are_checks pins checks && are_arcs pins arcs)) in
    let a = and_parts (is_name name) (are_pins pins && three) h in
    let b = and_parts (are_pins pins) three a.1 in
    let c = and_parts (are_groups pins groups) four b.1 in
    let d = and_parts (are_outputs pins groups outputs) five c.1 in
    let e = and_parts (are_checks pins checks) (are_arcs pins arcs) d.1 in
    record { named = a.0; of_pins = b.0; of_groups = c.0; of_outputs = d.0; of_checks = e.0; of_arcs = e.1 }

pub cell_of_rules :
    (name : List ℕ) (pins : List Pin) (groups : List StateGroup) (outputs : List OutputPin) (checks : List Check)
    (arcs : List Arc)
    → HoldsRules name pins groups outputs checks arcs → IsTrue (is_cell name pins groups outputs checks arcs)
cell_of_rules name pins groups outputs checks arcs r =
    and_from (is_name name) _ r.named
    (and_from (are_pins pins) _ r.of_pins
    (and_from (are_groups pins groups) _ r.of_groups
    (and_from (are_outputs pins groups outputs) _ r.of_outputs
    (and_from (are_checks pins checks) (are_arcs pins arcs) r.of_checks r.of_arcs))))

pub cell_rules : (cell : Cell) → HoldsRules cell.name cell.pins cell.groups cell.outputs cell.checks cell.arcs
cell_rules cell = rules_of cell.name cell.pins cell.groups cell.outputs cell.checks cell.arcs cell.sound

-- a cell has at most 64 pins and at most 16 groups
pub few_pins : (cell : Cell) → length cell.pins ≤ 64
few_pins cell = leb-true (length cell.pins) 64 (and_parts (nat_le (length cell.pins) 64) _ (cell_rules cell).of_pins).0

pub few_groups : (cell : Cell) → length cell.groups ≤ 16
few_groups cell =
    leb-true (length cell.groups) 16
    (and_parts (nat_le (length cell.groups) 16) (are_groups_from cell.pins (length cell.pins) cell.groups)
    (cell_rules cell).of_groups).0

pub groups_hold : (cell : Cell) → IsTrue (are_groups_from cell.pins (length cell.pins) cell.groups)
groups_hold cell =
    (and_parts (nat_le (length cell.groups) 16) (are_groups_from cell.pins (length cell.pins) cell.groups)
    (cell_rules cell).of_groups).1

pub outputs_hold : (cell : Cell) → IsTrue (list_all (is_output_of cell.pins cell.groups) cell.outputs)
outputs_hold cell = (and_parts _ (list_all (is_output_of cell.pins cell.groups) cell.outputs) (cell_rules cell).of_outputs).1

pub checks_hold : (cell : Cell) → IsTrue (list_all (is_check cell.pins) cell.checks)
checks_hold cell = (and_parts (nat_le (length cell.checks) 256) (list_all (is_check cell.pins) cell.checks)
    (cell_rules cell).of_checks).1

pub arcs_hold : (cell : Cell) → IsTrue (list_all (is_arc cell.pins) cell.arcs)
arcs_hold cell =
    let order : Bool = is_in_order (map (λ (arc : Arc). arc.to) cell.arcs) in
    (and_parts (list_all (is_arc cell.pins) cell.arcs) order
    (and_parts (nat_le (length cell.arcs) 1024) (list_all (is_arc cell.pins) cell.arcs && order) (cell_rules cell).of_arcs).1).0

-- a check's events are of inputs, and its condition is one
pub record CheckParts (pins : List Pin) (k : Check) : Type 0 where
  pub first : IsTrue (is_input_pin pins k.first.pin)
  pub second : IsTrue (is_input_pin pins k.second.pin)
  pub enabled : IsTrue (is_condition pins (k.first.pin ∷ k.second.pin ∷ []) k.condition)

pub check_parts : (pins : List Pin) (k : Check) → IsTrue (is_check pins k) → CheckParts pins k
check_parts pins k h =
    let when : Bool = is_condition pins (k.first.pin ∷ k.second.pin ∷ []) k.condition in
    let long : Bool = nat_le k.limit longest_time in
    let a = and_parts (is_input_pin pins k.first.pin)
    (is_input_pin pins k.second.pin && (has_events k k.kind && (nat_lt 0 k.limit && (long && when)))) h in
    let b = and_parts (is_input_pin pins k.second.pin) (has_events k k.kind && (nat_lt 0 k.limit && (long && when))) a.1 in
    let c = and_parts (has_events k k.kind) (nat_lt 0 k.limit && (long && when)) b.1 in
    let d = and_parts (nat_lt 0 k.limit) (long && when) c.1 in
    let e = and_parts long when d.1 in
    record { first = a.0; second = b.0; enabled = e.1 }

pub arc_condition : (pins : List Pin) (arc : Arc) → IsTrue (is_arc pins arc)
    → IsTrue (is_condition pins (arc.from ∷ []) arc.condition)
arc_condition pins arc h =
    let when : Bool = is_condition pins (arc.from ∷ []) arc.condition in
    let rise : Bool = nat_le arc.rise longest_time in
    let fall : Bool = nat_le arc.fall longest_time in
    let a = and_parts (is_input_pin pins arc.from) (is_output_pin pins arc.to && (rise && (fall && when))) h in
    let b = and_parts (is_output_pin pins arc.to) (rise && (fall && when)) a.1 in
    let c = and_parts rise (fall && when) b.1 in
    (and_parts fall when c.1).1
