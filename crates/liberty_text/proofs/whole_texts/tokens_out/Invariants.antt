use Rattle.std.proofs.Common.{◌≡◌, ◌++◌, drop}
use Rattle.liberty_text.proofs.whole_texts.tokens_out.Given as goal

abbrev pub invariant-loop-one : goal.invariant-loop-one
invariant-loop-one l = l.tokens.items ++ drop l.one-index l.kept ≡ l.kept
