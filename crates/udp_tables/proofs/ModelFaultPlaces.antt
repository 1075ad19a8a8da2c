-- The fault of a refusal at an offset stands there.
use Rattle.std.proofs.Common.{◌≡◌, ℕ, refl}
use Rattle.grammar_reader.specs.declared.refusal.Refusal.{Refusal}
use Rattle.grammar_reader.specs.declared.refusal.Refusal.TheVariants as refusal
use Rattle.udp_tables.specs.ModelFaults.{fault_at, fault_place}

pub place_of_fault : (k : Refusal) (at : ℕ) → fault_place (fault_at k at) ≡ at
place_of_fault refusal.Syntax at = refl
place_of_fault refusal.TwoEdges at = refl
place_of_fault refusal.Width at = refl
place_of_fault refusal.Undefined at = refl
place_of_fault refusal.Twice at = refl
place_of_fault refusal.Undriven at = refl
place_of_fault refusal.Unequal at = refl
