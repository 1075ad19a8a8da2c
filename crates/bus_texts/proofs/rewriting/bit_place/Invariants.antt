use Rattle.std.proofs.Common.{◌≡◌, drop}
use Rattle.bus_texts.specs.Texts.{bit_place}
use Rattle.bus_texts.proofs.rewriting.bit_place.Given as goal

abbrev pub invariant-loop-at : goal.invariant-loop-at
invariant-loop-at l = bit_place l.bit l.at (drop l.at l.bits) ≡ bit_place l.bit 0 l.bits
