use Rattle.std.proofs.Common.{◌≡◌, ◌≤◌, ◌*◌}
use Rattle.selftest_cells.specs.Changes.{number_before, time_before, first_changes}
use Rattle.selftest_cells.proofs.changes.cell_changes.Given as goal

abbrev pub invariant-loop : goal.invariant-loop
invariant-loop l =
    (l.x ≡ number_before l.number l.counter) × (l.at ≡ time_before l.number l.counter) × (l.at ≤ 40 * l.counter)
    × (l.list ≡ first_changes l.number l.inputs l.counter)
