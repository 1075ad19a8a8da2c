use Rattle.std.proofs.Common.{◌≡◌, ◌+◌, map, drop}
use Rattle.statetables.specs.Reading.{symbols_of}
use Rattle.statetables.proofs.Onto.{onto}
use Rattle.statetables.proofs.read.symbols.Given as goal

-- the symbols so far, with what the other words give, are what all words give
abbrev pub invariant-loop-place : goal.invariant-loop-place
invariant-loop-place g l = onto l.symbols (symbols_of g.S.Symbol.of_word l.row (l.column + l.place) (map (λ word. word.now) (drop l.place l.words))) ≡ symbols_of g.S.Symbol.of_word l.row l.column (map (λ word. word.now) l.words)
