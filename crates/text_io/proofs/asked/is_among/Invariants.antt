use Rattle.std.proofs.Common.{◌≡◌, drop}
use Rattle.text_io.specs.Plan.{is_among}
use Rattle.text_io.proofs.asked.is_among.Given as goal

abbrev pub invariant-loop-place : goal.invariant-loop-place
invariant-loop-place g l = is_among l.text (drop l.place (g.D.Desk.state l.desk).words) ≡ is_among l.text (drop l.from (g.D.Desk.state l.desk).words)
