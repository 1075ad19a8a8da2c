use Rattle.std.proofs.Common.{◌≡◌, ◌+◌, drop}
use Rattle.std.specs.List.{prefix_len}
use Rattle.lexer.specs.Tokens.{is_blank}
use Rattle.lexer.proofs.fronts.behind_blanks.Given as goal

abbrev pub invariant-loop-next : goal.invariant-loop-next
invariant-loop-next l = l.next + prefix_len is_blank (drop l.next l.text) ≡ l.at + prefix_len is_blank (drop l.at l.text)
