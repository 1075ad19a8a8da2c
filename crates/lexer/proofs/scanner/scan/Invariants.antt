use Rattle.std.proofs.Common.{◌≡◌, ◌-◌, ◌≤◌, length, vec_len, vec_capacity}
use Rattle.lexer.specs.Tokens.{scan_of}
use Rattle.lexer.specs.Spans.{LieInside, from_here}
use Rattle.lexer.proofs.scanner.scan.Given as goal

abbrev pub invariant-loop-scanner : goal.invariant-loop-scanner
invariant-loop-scanner g l = record {
  found : from_here g.L.Lexicon.lexis l.text l.tokens.items (g.L.TokenState.flag l.scanner.before) l.scanner.next l.scanner.next ≡ scan_of g.L.Lexicon.lexis l.text;
  inside : LieInside l.text l.tokens.items;
  within : l.scanner.next ≤ length l.text;
  few : vec_len l.tokens ≤ l.scanner.next;
  room : length l.text ≤ vec_capacity l.tokens;
}

abbrev pub decreases-loop-scanner : goal.decreases-loop-scanner
decreases-loop-scanner g l = length l.text - l.scanner.next
