use Rattle.std.proofs.Common.{◌≡◌, ◌+◌, length}
use Rattle.std.specs.List.{prefix_len}
use Rattle.lexer.specs.Tokens.{is_name_byte}
use Rattle.lexer.proofs.classes.name_length.Given as goal

abbrev pub invariant-loop-rest : goal.invariant-loop-rest
invariant-loop-rest l = record {
  same : l.count + prefix_len is_name_byte l.rest ≡ prefix_len is_name_byte l.bytes;
  all : l.count + length l.rest ≡ length l.bytes;
}

abbrev pub decreases-loop-rest : goal.decreases-loop-rest
decreases-loop-rest l = length l.rest
