use Rattle.std.proofs.Common.{◌≡◌, length, drop}
use Rattle.udp_tables.specs.Tables.{columns_match}
use Rattle.udp_tables.specs.Primitive.{entry_matches}
use Rattle.udp_tables.proofs.combinational.entries_match.Given as goal

abbrev pub invariant-loop-i : goal.invariant-loop-i
invariant-loop-i l =
    (length l.entries ≡ length l.inputs)
    × (columns_match entry_matches (drop l.i l.entries) (drop l.i l.inputs) (drop l.i l.inputs) ≡ columns_match entry_matches l.entries l.inputs l.inputs)
