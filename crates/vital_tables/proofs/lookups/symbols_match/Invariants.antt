use Rattle.std.proofs.Common.{◌≡◌, length, drop}
use Rattle.udp_tables.specs.Tables.{columns_match}
use Rattle.vital_tables.specs.Symbols.{symbol_matches}
use Rattle.vital_tables.proofs.lookups.symbols_match.Given as goal

abbrev pub invariant-loop-i : goal.invariant-loop-i
invariant-loop-i l =
    (length l.symbols ≡ length l.after) × (length l.before ≡ length l.after)
    × (columns_match symbol_matches (drop l.i l.symbols) (drop l.i l.before) (drop l.i l.after) ≡ columns_match symbol_matches l.symbols l.before l.after)
