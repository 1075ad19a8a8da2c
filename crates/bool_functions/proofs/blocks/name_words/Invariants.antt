use Rattle.std.proofs.Common.{◌≡◌, ◌++◌, map, drop}
use Rattle.bool_functions.specs.Block.{named}
use Rattle.bool_functions.proofs.blocks.name_words.Given as goal

-- the words so far, with those of the other names, are all
abbrev pub invariant-loop-name : goal.invariant-loop-name
invariant-loop-name l = l.words.items ++ map (named l.places l.start) (drop l.name-index l.places) ≡ map (named l.places l.start) l.places
