use Rattle.std.proofs.Common.{◌≡◌, ◌-◌, ◌≤◌, length}
use Rattle.liberty_text.proofs.Runs.{NoneEnded}
use Rattle.liberty_text.proofs.scanner.Scanner.step_on.Given as goal

abbrev pub invariant-loop-done : goal.invariant-loop-done
invariant-loop-done l = record {
  tokens : l.self.tokens.items ≡ l.initial.self.tokens.items;
  none : NoneEnded l.initial.self.mode l.at l.bytes l.done l.self.mode;
  within : l.done ≤ length l.bytes;
}

abbrev pub decreases-loop-done : goal.decreases-loop-done
decreases-loop-done l = length l.bytes - l.done
