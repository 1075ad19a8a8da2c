use Rattle.std.proofs.Common.{◌≡◌, drop}
use Rattle.liberty_text.specs.Number.{significant}
use Rattle.liberty_text.proofs.number.significant.Given as goal

abbrev pub invariant-loop-at : goal.invariant-loop-at
invariant-loop-at l = significant (drop l.at l.digits) ≡ significant l.digits
