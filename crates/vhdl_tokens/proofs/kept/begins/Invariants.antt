use Rattle.std.proofs.Common.{◌≡◌, ◌≤◌, drop, length}
use Rattle.vhdl_tokens.specs.Kept.{begins}
use Rattle.vhdl_tokens.proofs.kept.begins.Given as goal

abbrev pub invariant-loop-i : goal.invariant-loop-i
invariant-loop-i l =
    (length l.word ≤ length l.name) × (begins (drop l.i l.word) (drop l.i l.name) ≡ begins l.word l.name)
