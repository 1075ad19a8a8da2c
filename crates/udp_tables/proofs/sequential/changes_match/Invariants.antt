use Rattle.std.proofs.Common.{◌≡◌, length, drop}
use Rattle.std.specs.Prelude.{slice_set}
use Rattle.udp_tables.specs.Tables.{columns_match}
use Rattle.udp_tables.specs.Primitive.{entry_matches}
use Rattle.udp_tables.proofs.sequential.changes_match.Given as goal

abbrev pub invariant-loop-i : goal.invariant-loop-i
invariant-loop-i l =
    (length l.entries ≡ length l.inputs)
    × (columns_match entry_matches (drop l.i l.entries) (drop l.i (slice_set l.inputs l.changed l.old)) (drop l.i l.inputs)
    ≡ columns_match entry_matches l.entries (slice_set l.inputs l.changed l.old) l.inputs)
