use Rattle.std.proofs.Common.{◌≡◌, ◌++◌, ◌∷◌, [], drop}
use Rattle.liberty_text.specs.TextValue.{quoted}
use Rattle.group_writer.proofs.writer.push_value.Given as goal

abbrev pub invariant-loop-byte : goal.invariant-loop-byte
invariant-loop-byte l =
    l.out.items ++ quoted (drop l.byte-index l.value.bytes) ≡ (l.fn.out.items ++ 34 ∷ []) ++ quoted l.value.bytes
