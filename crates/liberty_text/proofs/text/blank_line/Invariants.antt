use Rattle.std.proofs.Common.{◌≡◌, drop}
use Rattle.liberty_text.specs.TextValue.{blank_line_behind, blank_line}
use Rattle.liberty_text.proofs.text.blank_line.Given as goal

abbrev pub invariant-loop-at : goal.invariant-loop-at
invariant-loop-at l = blank_line_behind l.at (drop l.at l.bytes) ≡ blank_line l.bytes
