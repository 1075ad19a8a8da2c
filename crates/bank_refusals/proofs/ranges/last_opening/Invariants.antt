use Rattle.std.proofs.Common.{◌≡◌, ◌<◌, drop, length, None}
use Rattle.std.specs.Prelude.{IfSome}
use Rattle.bank_refusals.specs.Ranges.{last_opening}
use Rattle.bank_refusals.proofs.ranges.last_opening.Given as goal

abbrev pub invariant-loop-at : goal.invariant-loop-at
invariant-loop-at l =
    (last_opening l.at l.found (drop l.at l.text) ≡ last_opening 0 None l.text) × IfSome l.found (λ at. at < length l.text)
