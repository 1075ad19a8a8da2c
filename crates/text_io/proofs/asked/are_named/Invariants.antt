use Rattle.std.proofs.Common.{◌≡◌, ◌≤◌, drop, length}
use Rattle.text_io.specs.Plan.{are_file_words}
use Rattle.text_io.proofs.asked.are_named.Given as goal

abbrev pub invariant-loop-place : goal.invariant-loop-place
invariant-loop-place g l = record {
  there : l.place ≤ length (g.D.Desk.state l.desk).words;
  same : are_file_words (drop l.place (g.D.Desk.state l.desk).words) ≡ are_file_words (drop 1 (g.D.Desk.state l.desk).words);
}
