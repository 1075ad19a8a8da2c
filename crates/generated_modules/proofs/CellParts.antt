-- What the rules of cells say of a cell's groups, outputs, checks and arcs.
use Rattle.std.proofs.Common.{◌≡◌, ℕ, zero, suc, ◌+◌, ◌^◌, ◌<◌, ◌≤◌, IsTrue, List, [], ◌∷◌, length, map, sym, ◌∙◌, ap, subst}
use Rattle.std.proofs.Common.{arith, nat_lt, nat_le, slice_get}
use Rattle.std.specs.List.{list_all}
use Rattle.std.specs.Option.{option_map_or}
use Rattle.std.proofs.lemmas.Bool.{and_parts, ltb-true, leb-true}
use Rattle.std.proofs.lemmas.List.{length-map}
use Rattle.cell_machine.specs.declared.pins.Pin.{Pin}
use Rattle.cell_machine.specs.declared.groups.StateGroup.{StateGroup}
use Rattle.cell_machine.specs.declared.outputs.OutputPin.{OutputPin}
use Rattle.cell_machine.specs.declared.checks.Check.{Check}
use Rattle.cell_machine.specs.declared.arcs.Arc.{Arc}
use Rattle.cell_machine.specs.Names.{source_name}
use Rattle.cell_machine.specs.CellRules.{longest_time, is_name, are_distinct, is_input_pin, is_output_pin, is_support, is_group}
use Rattle.cell_machine.specs.CellRules.{are_groups_from, is_output_of, has_events, is_check, is_arc, output_pins_from}
use Rattle.cell_machine.specs.CellData.{CellData}
use Rattle.cell_machine.specs.CellTrace.{support_at}
use Rattle.verilog_grammar.proofs.specify_blocks.cell_tables.CellParts.{Rules, groups_hold}
use Rattle.verilog_grammar.proofs.specify_blocks.OutputPins.{outputs_are_pins, few_output_pins}

-- between these numbers
pub record IsWithin (low high n : ℕ) : Type 0 where
  pub least : low ≤ n
  pub most : n ≤ high

supports :
    (pins : List Pin) (name : ℕ) (groups : List StateGroup) (g : ℕ) → IsTrue (are_groups_from pins name groups)
    → g < length groups
    → IsWithin 1 8 (length (option_map_or (λ (group : StateGroup). group.support) (slice_get groups g) []))
supports pins name [] g h within = absurd (omega arith)
supports pins name (x ∷ xs) zero h within =
    let group = and_parts (is_group pins name x) (are_groups_from pins (name + 2) xs) h in
    let support = and_parts (is_support pins x.support) _ group.0 in
    let some = and_parts (nat_lt 0 (length x.support)) _ support.0 in
    let few = and_parts (nat_le (length x.support) 8) _ some.1 in
    let least : 0 < length x.support = ltb-true 0 (length x.support) some.0 in
    record { least = omega arith; most = leb-true (length x.support) 8 few.0 }
supports pins name (x ∷ xs) (suc g) h within =
    supports pins (name + 2) xs g (and_parts (is_group pins name x) (are_groups_from pins (name + 2) xs) h).1 (omega arith)

pub few_sources : (pins : List Pin) (groups : List StateGroup) (output : OutputPin) → IsTrue (is_output_of pins groups output)
    → length output.support ≤ 10
few_sources pins groups output h =
    let held : List ℕ = map (source_name (length pins)) output.support in
    let few = and_parts (nat_le (length held) 10) _ h in
    subst (λ n. n ≤ 10) (length-map output.support (source_name (length pins))) (leb-true (length held) 10 few.0)

-- times of at most 15 digits
short : (n : ℕ) → IsTrue (nat_le n longest_time) → n < 10 ^ 15
short n h = let most : n ≤ 999999999999999 = leb-true n longest_time h in omega (arith, most)

pub arc_numbers : (pins : List Pin) (arc : Arc) → IsTrue (is_arc pins arc) → (arc.rise < 10 ^ 15) × (arc.fall < 10 ^ 15)
arc_numbers pins arc h =
    let a = and_parts (is_input_pin pins arc.from) _ h in
    let b = and_parts (is_output_pin pins arc.to) _ a.1 in
    let c = and_parts (nat_le arc.rise longest_time) _ b.1 in
    let d = and_parts (nat_le arc.fall longest_time) _ c.1 in
    (short arc.rise c.0, short arc.fall d.0)

pub check_number : (pins : List Pin) (k : Check) → IsTrue (is_check pins k) → k.limit < 10 ^ 15
check_number pins k h =
    let a = and_parts (is_input_pin pins k.first.pin) _ h in
    let b = and_parts (is_input_pin pins k.second.pin) _ a.1 in
    let c = and_parts (has_events k k.kind) _ b.1 in
    let d = and_parts (nat_lt 0 k.limit) _ c.1 in
    let e = and_parts (nat_le k.limit longest_time) _ d.1 in
    short k.limit e.0

module _ (cell : CellData) (h : Rules cell) where
  pub few_pins : length cell.pins ≤ 64
  few_pins = leb-true (length cell.pins) 64 (and_parts (nat_le (length cell.pins) 64) _ h.of_pins).0

  pub distinct_pins : IsTrue (are_distinct (map (λ (pin : Pin). pin.name) cell.pins))
  distinct_pins =
      (and_parts (list_all (λ (pin : Pin). is_name pin.name) cell.pins) (are_distinct (map (λ (pin : Pin). pin.name) cell.pins))
      (and_parts (nat_le (length cell.pins) 64) _ h.of_pins).1).1

  pub few_groups : length cell.groups ≤ 16
  few_groups = leb-true (length cell.groups) 16 (and_parts (nat_le (length cell.groups) 16) _ h.of_groups).0

  pub group_support : (g : ℕ) → g < length cell.groups → IsWithin 1 8 (length (support_at cell g))
  group_support g within =
      supports cell.pins (length cell.pins) cell.groups g (groups_hold cell h) within

  pub few_outputs : length cell.outputs ≤ 64
  few_outputs =
      let same = outputs_are_pins cell.pins cell.groups cell.outputs h.of_outputs in
      let longest = few_output_pins 0 cell.pins in
      let pins = few_pins in
      let equal : length cell.outputs ≡ length (output_pins_from 0 cell.pins)
      = sym (length-map cell.outputs (λ (output : OutputPin). output.pin)) ∙ ap length same in
      omega (arith, equal, longest, pins)

  pub few_checks : length cell.checks ≤ 256
  few_checks = leb-true (length cell.checks) 256 (and_parts (nat_le (length cell.checks) 256) _ h.of_checks).0

  pub few_arcs : length cell.arcs ≤ 1024
  few_arcs = leb-true (length cell.arcs) 1024 (and_parts (nat_le (length cell.arcs) 1024) _ h.of_arcs).0
