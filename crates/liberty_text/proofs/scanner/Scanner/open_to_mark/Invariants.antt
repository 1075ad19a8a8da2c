use Rattle.std.proofs.Common.{◌-◌, ◌≤◌, length}
use Rattle.liberty_text.proofs.Marked.{NoneMarked}
use Rattle.liberty_text.proofs.scanner.Scanner.open_to_mark.Given as goal

abbrev pub invariant-loop-done : goal.invariant-loop-done
invariant-loop-done l = record {
  read : NoneMarked l.initial.self.mode l.at l.bytes l.done l.self.mode l.initial.self.tokens.items l.self.tokens.items;
  within : l.done ≤ length l.bytes;
}

abbrev pub decreases-loop-done : goal.decreases-loop-done
decreases-loop-done l = length l.bytes - l.done
