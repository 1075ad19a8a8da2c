use Rattle.std.proofs.Common.{◌≡◌, drop, map}
use Rattle.bank_cells.specs.Expanded.{is_one_of}
use Rattle.bank_cells.proofs.rewritten.is_one_of.Given as goal

abbrev pub invariant-loop-one : goal.invariant-loop-one
invariant-loop-one l =
    is_one_of (map (λ one. one.now) (drop l.one-index l.names)) l.name ≡ is_one_of (map (λ one. one.now) l.names) l.name
