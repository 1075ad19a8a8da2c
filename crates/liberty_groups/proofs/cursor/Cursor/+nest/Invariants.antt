use Rattle.std.proofs.Common.{◌≡◌, ◌+◌, ◌-◌, ◌*◌, length}
use Rattle.liberty_groups.specs.Grammar as spec
use Rattle.liberty_groups.proofs.Statements.{statement_turns}
use Rattle.liberty_groups.proofs.cursor.Cursor.+nest.Given as goal

abbrev pub decreases-complex_or_group : goal.decreases-complex_or_group
decreases-complex_or_group l = 5 * l.levels

abbrev pub decreases-bracketed : goal.decreases-bracketed
decreases-bracketed l = 5 * l.levels + 1

abbrev pub decreases-statement : goal.decreases-statement
decreases-statement l = 5 * l.levels + 2

abbrev pub decreases-some_statements : goal.decreases-some_statements
decreases-some_statements l = 5 * l.levels + 3

abbrev pub decreases-statements : goal.decreases-statements
decreases-statements l = 5 * l.levels + 4

abbrev pub invariant-some_statements-loop-turn : goal.invariant-some_statements-loop-turn
invariant-some_statements-loop-turn l =
    statement_turns (spec.statement l.levels) (l._turn-end - l._turn) l.items l.self
    ≡ statement_turns (spec.statement l.levels) (length l.initial.self) l.initial.items l.initial.self
