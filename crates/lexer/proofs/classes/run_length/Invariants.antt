use Rattle.std.proofs.Common.{◌≡◌, ◌+◌, drop}
use Rattle.std.specs.List.{prefix_len}
use Rattle.lexer.proofs.classes.run_length.Given as goal

abbrev pub invariant-loop-at : goal.invariant-loop-at
invariant-loop-at g l = l.at + prefix_len g.C.ByteClass.has (drop l.at l.bytes) ≡ prefix_len g.C.ByteClass.has l.bytes
