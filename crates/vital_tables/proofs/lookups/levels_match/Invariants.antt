use Rattle.std.proofs.Common.{◌≡◌, length, drop}
use Rattle.udp_tables.specs.Tables.{columns_match}
use Rattle.vital_tables.specs.Symbols.{level_matches}
use Rattle.vital_tables.proofs.lookups.levels_match.Given as goal

abbrev pub invariant-loop-i : goal.invariant-loop-i
invariant-loop-i l =
    (length l.levels ≡ length l.inputs)
    × (columns_match level_matches (drop l.i l.levels) (drop l.i l.inputs) (drop l.i l.inputs) ≡ columns_match level_matches l.levels l.inputs l.inputs)
