use Rattle.std.proofs.Common.{◌≡◌, drop}
use Rattle.vhdl_tokens.specs.Tokens.{string_rest, later}
use Rattle.vhdl_tokens.proofs.fronts.string_rest.Given as goal

abbrev pub invariant-loop-at : goal.invariant-loop-at
invariant-loop-at l = later l.at (string_rest (drop l.at l.bytes)) ≡ string_rest l.bytes
