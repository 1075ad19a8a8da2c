use Rattle.std.proofs.Common.{◌≡◌, [], drop}
use Rattle.bool_functions.specs.Code.{read_codes}
use Rattle.bool_functions.proofs.code_trees.tree.Given as goal

abbrev pub invariant-loop-code : goal.invariant-loop-code
invariant-loop-code l = read_codes l.trees.pile (drop l.code-index l.codes) ≡ read_codes [] l.codes
