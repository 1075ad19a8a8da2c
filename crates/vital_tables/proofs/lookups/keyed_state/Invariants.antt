use Rattle.std.proofs.Common.{◌≡◌, drop}
use Rattle.vital_tables.specs.LookUps.{lookup_state}
use Rattle.vital_tables.proofs.lookups.keyed_state.Given as goal

abbrev pub invariant-loop-i : goal.invariant-loop-i
invariant-loop-i l =
    lookup_state (drop l.i l.table.rows) l.before l.after l.state ≡ lookup_state l.table.rows l.before l.after l.state
