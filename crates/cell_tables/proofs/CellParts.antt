-- What the rules of cells say of a cell's parts.
use Rattle.std.proofs.Common.{◌≡◌, ℕ, zero, suc, ◌+◌, Bool, ◌&&◌, IsTrue, List, [], ◌∷◌, length, map, nat_le, slice_get, Some}
use Rattle.std.proofs.Common.{subst}
use Rattle.std.specs.List.{list_all}
use Rattle.std.proofs.lemmas.Bool.{and_parts}
use Rattle.cell_machine.specs.declared.pins.Pin.{Pin}
use Rattle.cell_machine.specs.declared.groups.StateGroup.{StateGroup}
use Rattle.cell_machine.specs.declared.arcs.Arc.{Arc}
use Rattle.cell_machine.specs.CellRules.{is_support, is_group, are_groups_from, is_output_of, is_check, is_arc, is_in_order}
use Rattle.cell_machine.specs.CellRules.{HoldsRules}
use Rattle.cell_machine.specs.CellData.{CellData}

abbrev pub Rules : CellData → Type 0
Rules cell = HoldsRules cell.name cell.pins cell.groups cell.outputs cell.checks cell.arcs

-- the support of each group
pub group_support-at :
    (pins : List Pin) (name : ℕ) (groups : List StateGroup) (g : ℕ) (group : StateGroup)
    → IsTrue (are_groups_from pins name groups) → slice_get groups g ≡ Some group → IsTrue (is_support pins group.support)
group_support-at pins name [] g group h e = absurd cc
group_support-at pins name (x ∷ xs) zero group h e =
    let parts = and_parts (is_group pins name x) (are_groups_from pins (name + 2) xs) h in
    let same : x ≡ group = cc in
    subst (λ (y : StateGroup). IsTrue (is_support pins y.support)) same (and_parts (is_support pins x.support) _ parts.0).0
group_support-at pins name (x ∷ xs) (suc g) group h e =
    let parts = and_parts (is_group pins name x) (are_groups_from pins (name + 2) xs) h in
    group_support-at pins (name + 2) xs g group parts.1 e

module _ (cell : CellData) (h : Rules cell) where
  pub groups_hold : IsTrue (are_groups_from cell.pins (length cell.pins) cell.groups)
  groups_hold = (and_parts (nat_le (length cell.groups) 16) (are_groups_from cell.pins (length cell.pins) cell.groups)
      h.of_groups).1

  pub outputs_hold : IsTrue (list_all (is_output_of cell.pins cell.groups) cell.outputs)
  outputs_hold = (and_parts _ (list_all (is_output_of cell.pins cell.groups) cell.outputs) h.of_outputs).1

  pub checks_hold : IsTrue (list_all (is_check cell.pins) cell.checks)
  checks_hold = (and_parts (nat_le (length cell.checks) 256) (list_all (is_check cell.pins) cell.checks) h.of_checks).1

  pub arcs_hold : IsTrue (list_all (is_arc cell.pins) cell.arcs)
  arcs_hold =
      let order : Bool = is_in_order (map (λ (arc : Arc). arc.to) cell.arcs) in
      (and_parts (list_all (is_arc cell.pins) cell.arcs) order
      (and_parts (nat_le (length cell.arcs) 1024) (list_all (is_arc cell.pins) cell.arcs && order) h.of_arcs).1).0
