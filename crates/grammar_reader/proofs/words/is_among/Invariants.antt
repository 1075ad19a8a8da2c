use Rattle.std.proofs.Common.{◌≡◌, drop}
use Rattle.grammar_reader.specs.Words.{is_among}
use Rattle.grammar_reader.proofs.words.is_among.Given as goal

abbrev pub invariant-loop-other : goal.invariant-loop-other
invariant-loop-other g l = is_among g.L.Language.is_same (drop l.other-index l.names) l.name ≡ is_among g.L.Language.is_same l.names l.name
