use Rattle.std.proofs.Common.{◌≡◌, ◌++◌, drop}
use Rattle.bool_functions.specs.Token.{words_of}
use Rattle.bool_functions.specs.FunctionText.{first_appearances}
use Rattle.bool_functions.proofs.Appearances.{fresh}
use Rattle.bool_functions.proofs.words.names_in.Given as goal

abbrev pub invariant-loop-token : goal.invariant-loop-token
invariant-loop-token l =
    l.names ++ fresh l.names (first_appearances (words_of l.text (drop l.token-index l.tokens))) ≡ first_appearances (words_of l.text l.tokens)
