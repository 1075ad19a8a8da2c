use Rattle.std.proofs.Common.{◌≡◌, ◌-◌, length}
use Rattle.skipped_statements.proofs.Skips.{part_turns}
use Rattle.skipped_statements.proofs.skip.skip_parts.Given as goal

abbrev pub invariant-loop-turn : goal.invariant-loop-turn
invariant-loop-turn l = part_turns l.place (l._turn-end - l._turn) l.cursor ≡ part_turns l.place (length l.initial.cursor) l.initial.cursor
