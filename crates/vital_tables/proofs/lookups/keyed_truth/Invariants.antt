use Rattle.std.proofs.Common.{◌≡◌, drop}
use Rattle.vital_tables.specs.LookUps.{lookup_truth}
use Rattle.vital_tables.proofs.lookups.keyed_truth.Given as goal

abbrev pub invariant-loop-i : goal.invariant-loop-i
invariant-loop-i l = lookup_truth (drop l.i l.table.rows) l.inputs ≡ lookup_truth l.table.rows l.inputs
