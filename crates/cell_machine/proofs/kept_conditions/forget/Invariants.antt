use Rattle.std.proofs.Common.{◌≡◌, ℕ, None, length, drop, get_or}
use Rattle.cell_machine.specs.Names.{has}
use Rattle.cell_machine.specs.KeptConditions.{kept_unless}
use Rattle.cell_machine.proofs.kept_conditions.forget.Given as goal

-- forgetting the rest leaves what forgetting all leaves
abbrev pub invariant-loop-i : goal.invariant-loop-i
invariant-loop-i g l = record {
  each :
      (j : ℕ) → kept_unless (has (drop l.i l.places) j) (get_or l.kept j None) ≡ kept_unless (has l.places j) (get_or l.initial.kept j None);
  len : length l.kept ≡ length l.initial.kept;
}
