use Rattle.std.proofs.Common.{◌≡◌, ◌+◌, length}
use Rattle.lexer.specs.Places.{place_from}
use Rattle.lexer.specs.Spans.{tokens_of}
use Rattle.lexer.proofs.place.place_of.Given as goal

abbrev pub invariant-loop-turn : goal.invariant-loop-turn
invariant-loop-turn l = record {
  same : place_from (length l.text) (tokens_of l.text l.rest) l.left ≡ place_from (length l.text) (tokens_of l.text l.tokens) l.left;
  count : length l.rest + l._turn ≡ length l.tokens;
}
