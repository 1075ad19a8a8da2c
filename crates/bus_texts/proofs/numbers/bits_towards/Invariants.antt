use Rattle.std.proofs.Common.{◌≡◌, ◌++◌, ◌-◌}
use Rattle.bus_texts.specs.Numbers.{bits_towards}
use Rattle.bus_texts.proofs.numbers.bits_towards.Given as goal

abbrev pub invariant-loop-turn : goal.invariant-loop-turn
invariant-loop-turn l =
    l.bits ++ bits_towards l.to (l.count - l._turn) l.bit ≡ bits_towards l.to l.count l.from
