use Rattle.std.proofs.Common.{◌≡◌, drop}
use Rattle.std.specs.Prelude.{slice_set, unwrap_or}
use Rattle.trit_cubes.specs.declared.trits.Trit.TheVariants.{Unknown}
use Rattle.udp_tables.specs.Tables.{first}
use Rattle.udp_tables.specs.Sequential.{level_hit, edge_hit, row_next, udp_next}
use Rattle.udp_tables.proofs.sequential.seen_next.Given as goal

-- the rows that are left decide as all rows do, where a row with a change entry that was found stands before them
abbrev pub invariant-loop-i : goal.invariant-loop-i
invariant-loop-i l =
    first (level_hit (slice_set l.seen.inputs.now l.seen.changed l.seen.old) l.seen.inputs.now l.seen.state) (row_next l.seen.state) (drop l.i l.udp.rows)
    (unwrap_or l.found
    (first (edge_hit (slice_set l.seen.inputs.now l.seen.changed l.seen.old) l.seen.inputs.now l.seen.state) (row_next l.seen.state) (drop l.i l.udp.rows) Unknown))
    ≡ udp_next l.udp.rows (slice_set l.seen.inputs.now l.seen.changed l.seen.old) l.seen.inputs.now l.seen.state
