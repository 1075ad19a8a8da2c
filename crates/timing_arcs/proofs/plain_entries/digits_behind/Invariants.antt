use Rattle.std.proofs.Common.{◌≡◌, ◌+◌, ◌-◌, ◌<◌, ◌≤◌, ◌^◌, drop}
use Rattle.liberty_text.specs.Number.{digit_run}
use Rattle.timing_arcs.specs.Words.{front_number}
use Rattle.timing_arcs.proofs.plain_entries.digits_behind.Given as goal

abbrev pub invariant-loop-at : goal.invariant-loop-at
invariant-loop-at l = record {
  count : l.at + digit_run (drop l.at l.text) ≡ digit_run l.text;
  spelled : front_number l.number (drop l.at l.text) ≡ front_number l.before l.text;
  fits : l.number < 10 ^ (18 - l.room + l.at);
  room : l.at ≤ l.room;
}
