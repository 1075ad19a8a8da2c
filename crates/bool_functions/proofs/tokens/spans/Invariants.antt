use Rattle.std.proofs.Common.{◌≡◌, ◌++◌, drop}
use Rattle.bool_functions.specs.Token.{spans}
use Rattle.bool_functions.proofs.Runs.{ahead}
use Rattle.bool_functions.proofs.tokens.spans.Given as goal

abbrev pub invariant-loop-at : goal.invariant-loop-at
invariant-loop-at l = l.found.items ++ ahead l.begun l.at (drop l.at l.text) ≡ spans l.text
