use Rattle.std.proofs.Common.{◌≡◌, ◌^◌, ◌<◌, drop}
use Rattle.stimulus.specs.Times.{digits_after}
use Rattle.stimulus.proofs.times.time_of.Given as goal

-- the digits from here on, behind the number so far, make what all digits make
abbrev pub invariant-loop-digit : goal.invariant-loop-digit
invariant-loop-digit l = record {
  whole : digits_after l.time (drop l.digit-index l.word) ≡ digits_after 0 l.word;
  below : l.time < 10 ^ l.digit-index;
}
