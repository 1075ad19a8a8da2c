use Rattle.std.proofs.Common.{◌≡◌, drop, false}
use Rattle.verilog_tokens.specs.Tokens.{comment_rest, later}
use Rattle.verilog_tokens.proofs.fronts.comment_rest.Given as goal

abbrev pub invariant-loop-at : goal.invariant-loop-at
invariant-loop-at l = later l.at (comment_rest l.star (drop l.at l.bytes)) ≡ comment_rest false l.bytes
