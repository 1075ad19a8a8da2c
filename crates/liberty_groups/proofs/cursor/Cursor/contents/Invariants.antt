use Rattle.std.proofs.Common.{◌≡◌, ◌-◌, length}
use Rattle.liberty_groups.specs.Library.{found_of}
use Rattle.liberty_groups.proofs.Counting.{library_turns}
use Rattle.liberty_groups.proofs.cursor.Cursor.contents.Given as goal

abbrev pub invariant-loop-turn : goal.invariant-loop-turn
invariant-loop-turn l =
    library_turns (l._turn-end - l._turn) (found_of l.found) l.self ≡ library_turns (length l.initial.self) (found_of l.initial.found) l.initial.self
