use Rattle.std.proofs.Common.{◌≡◌, drop, ◌++◌, map}
use Rattle.bus_texts.specs.Vectors.{member_name}
use Rattle.bus_texts.proofs.vectors.member_names.Given as goal

abbrev pub invariant-loop-bit : goal.invariant-loop-bit
invariant-loop-bit l =
    l.members ++ map (member_name l.name) (drop l.bit-index l.bits) ≡ map (member_name l.name) l.bits
