use Rattle.std.proofs.Common.{◌≡◌, drop}
use Rattle.timing_arcs.specs.Sums.{with_tables}
use Rattle.timing_arcs.proofs.tables.Sum.add_tables.Given as goal

-- the sum so far, with the tables among the other statements, is that with all
abbrev pub invariant-loop-item : goal.invariant-loop-item
invariant-loop-item l = with_tables l.unit l.name l.self (drop l.item-index l.group.items) ≡ with_tables l.unit l.name l.initial.self l.group.items
