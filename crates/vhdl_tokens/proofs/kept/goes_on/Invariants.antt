use Rattle.std.proofs.Common.{◌≡◌, false, drop}
use Rattle.vhdl_tokens.specs.Kept.{goes_on}
use Rattle.vhdl_tokens.proofs.kept.goes_on.Given as goal

abbrev pub invariant-loop-byte : goal.invariant-loop-byte
invariant-loop-byte l = goes_on l.under (drop l.byte-index l.bytes) ≡ goes_on false l.bytes
