use Rattle.std.proofs.Common.{◌≡◌, [], drop, map}
use Rattle.bool_functions.specs.Code.{read_codes, renamed_code}
use Rattle.bool_functions.proofs.code_trees.renamed.Given as goal

abbrev pub invariant-loop-code : goal.invariant-loop-code
invariant-loop-code l = read_codes l.trees.pile (map (renamed_code l.to) (drop l.code-index l.codes)) ≡ read_codes [] (map (renamed_code l.to) l.codes)
