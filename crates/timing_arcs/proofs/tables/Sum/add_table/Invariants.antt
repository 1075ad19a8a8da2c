use Rattle.std.proofs.Common.{◌≡◌, drop}
use Rattle.std.specs.Prelude.{fold}
use Rattle.liberty_groups.specs.declared.tree.Item.{out-Item}
use Rattle.timing_arcs.specs.Sums.{with_item, with_table}
use Rattle.timing_arcs.proofs.tables.Sum.add_table.Given as goal

-- the sum so far, with the other statements, is that with all
abbrev pub invariant-loop-item : goal.invariant-loop-item
invariant-loop-item l = fold (λ sum item. with_item l.unit sum (out-Item item)) l.self (drop l.item-index l.table.items) ≡ with_table l.unit l.initial.self l.table
