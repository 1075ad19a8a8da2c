use Rattle.std.proofs.Common.{◌≡◌, drop, ◌≤◌}
use Rattle.bus_texts.specs.Numbers.{digits_behind}
use Rattle.bus_texts.proofs.numbers.digits_number.Given as goal

abbrev pub invariant-loop-digit : goal.invariant-loop-digit
invariant-loop-digit l =
    record {
      value : digits_behind l.number (drop l.digit-index l.text) ≡ digits_behind 0 l.text;
      small : l.number ≤ 1000;
    }
