use Rattle.std.proofs.Common.{◌≡◌, drop}
use Rattle.lexer.specs.Numbers.{number_after}
use Rattle.lexer.proofs.numbers.number_after.Given as goal

abbrev pub invariant-loop-digit : goal.invariant-loop-digit
invariant-loop-digit l = number_after l.value (drop l.digit-index l.digits) ≡ number_after l.before l.digits
