use Rattle.std.proofs.Common.{◌≡◌, ◌^◌, ◌<◌, take, Some}
use Rattle.std.specs.Prelude.{All}
use Rattle.stimulus.specs.Times.{digits_after}
use Rattle.stimulus.proofs.PlainTimes.{IsDigit}
use Rattle.stimulus.proofs.plain_changes.time_ahead.Given as goal

-- the bytes so far are digits, and stand for the number so far
abbrev pub invariant-loop-end : goal.invariant-loop-end
invariant-loop-end l = record {
  digits : All IsDigit (take l.end l.text);
  whole : digits_after 0 (take l.end l.text) ≡ Some l.time;
  below : l.time < 10 ^ l.end;
}
