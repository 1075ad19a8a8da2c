-- The columns of a table's row.
use Rattle.std.proofs.Common.{◌≡◌, ◌≢◌, ℕ, Bool, false, List, length, slice_index_or, ◌∙◌}
use Rattle.std.proofs.lemmas.List.{length-map}
use Rattle.statetables.specs.declared.symbols.InSymbol.{InSymbol}
use Rattle.statetables.specs.Step.{inputs_match}
use Rattle.statetables.proofs.LaneLemmas.{inputs_match-unequal}
use Rattle.cell_machine.specs.Values.{picked}

-- columns of another number do not match
pub inputs_match-picked :
    (symbols : List InSymbol) (inputs : List ℕ) (before after : List Bool)
    → length symbols ≢ length inputs → inputs_match symbols (picked before inputs) (picked after inputs) ≡ false
inputs_match-picked symbols inputs before after h =
    inputs_match-unequal symbols (picked before inputs) (picked after inputs)
    (λ e. h (e ∙ length-map {A = ℕ} {B = Bool} inputs (λ i. slice_index_or before i false)))
