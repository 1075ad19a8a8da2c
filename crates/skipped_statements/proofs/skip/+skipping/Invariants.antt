use Rattle.std.proofs.Common.{◌≡◌, ◌+◌, ◌-◌, ◌*◌, length}
use Rattle.skipped_statements.specs.Skipping as spec
use Rattle.skipped_statements.proofs.Skips.{statement_turns}
use Rattle.skipped_statements.proofs.skip.+skipping.Given as goal

abbrev pub decreases-skip_group : goal.decreases-skip_group
decreases-skip_group l = 5 * l.levels

abbrev pub decreases-skip_bracketed : goal.decreases-skip_bracketed
decreases-skip_bracketed l = 5 * l.levels + 1

abbrev pub decreases-skip_statement : goal.decreases-skip_statement
decreases-skip_statement l = 5 * l.levels + 2

abbrev pub decreases-skip_some : goal.decreases-skip_some
decreases-skip_some l = 5 * l.levels + 3

abbrev pub decreases-skip_statements : goal.decreases-skip_statements
decreases-skip_statements l = 5 * l.levels + 4

abbrev pub invariant-skip_some-loop-turn : goal.invariant-skip_some-loop-turn
invariant-skip_some-loop-turn l =
    statement_turns (spec.skipped_statement l.levels) (l._turn-end - l._turn) l.cursor
    ≡ statement_turns (spec.skipped_statement l.levels) (length l.initial.cursor) l.initial.cursor
