use Rattle.std.proofs.Common.{◌≡◌, drop}
use Rattle.statetables.specs.Step.{inputs_match as inputs_match_of}
use Rattle.statetables.proofs.table.inputs_match.Given as goal

-- the inputs from here on match exactly where all do
abbrev pub invariant-loop-i : goal.invariant-loop-i
invariant-loop-i l = inputs_match_of (drop l.i l.symbols) (drop l.i l.before) (drop l.i l.after) ≡ inputs_match_of l.symbols l.before l.after
