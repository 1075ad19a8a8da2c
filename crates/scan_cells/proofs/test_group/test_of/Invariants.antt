use Rattle.std.proofs.Common.{◌≡◌, drop, codes}
use Rattle.liberty_groups.specs.Attributes.{groups_named, first_of}
use Rattle.scan_cells.specs.TestGroup.{test_of}
use Rattle.scan_cells.proofs.test_group.test_of.Given as goal

-- the first one is among the rest
abbrev pub invariant-loop-item : goal.invariant-loop-item
invariant-loop-item l = first_of (groups_named (codes "test_cell") (drop l.item-index l.cell.items)) ≡ test_of l.cell
