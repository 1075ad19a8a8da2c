use Rattle.std.proofs.Common.{◌≡◌, drop}
use Rattle.bool_functions.specs.FunctionText.{first_unknown}
use Rattle.bool_functions.proofs.words.first_unknown.Given as goal

abbrev pub invariant-loop-token : goal.invariant-loop-token
invariant-loop-token l = first_unknown l.names l.text (drop l.token-index l.tokens) ≡ first_unknown l.names l.text l.tokens
