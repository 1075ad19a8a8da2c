use Rattle.std.proofs.Common.{◌≡◌, take, drop, ◌++◌}
use Rattle.statetables.specs.Text.{without_end_comma as without_end_comma_of}
use Rattle.statetables.proofs.text.without_end_comma.Given as goal

-- no comma so far is at the end: all so far stays
abbrev pub invariant-loop-at : goal.invariant-loop-at
invariant-loop-at l = take l.at l.text ++ without_end_comma_of (drop l.at l.text) ≡ without_end_comma_of l.text
