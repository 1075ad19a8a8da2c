-- What it says that a cell is not refused: no reason is met anywhere.
use Rattle.std.proofs.Common.{◌≡◌, ℕ, List, [], ◌∷◌, refl, Option, Some, None}
use Rattle.cell_machine.specs.Delay.{lesser, least}
use Rattle.cell_refusals.specs.declared.refusal.Refusal.{Refusal}
use Rattle.cell_reader.specs.Refusals.{Met, refused_or, first_refusal}
use Rattle.cell_reader.specs.Laws.{AllUnmet}

lesser_is_some : (x : ℕ) (other : Option ℕ) → lesser (Some x) other ≡ None → ⊥
lesser_is_some x None h = absurd cc
lesser_is_some x (Some y) h = absurd cc

pub least_none : (xs : List ℕ) → least xs ≡ None → xs ≡ []
least_none [] h = refl
least_none (x ∷ xs) h = absurd (lesser_is_some x (least xs) h)

unmet_by :
    (m : Met) (later : Option Refusal) (at : Option ℕ) → least m.offsets ≡ at → refused_or m.reason at later ≡ None
    → (m.offsets ≡ []) × (later ≡ None)
unmet_by m later None e h = (least_none m.offsets e, h)
unmet_by m later (Some at) e h = absurd cc

pub all_unmet : (ms : List Met) → first_refusal ms ≡ None → AllUnmet ms
all_unmet [] h = tt
all_unmet (m ∷ ms) h =
    let parts = unmet_by m (first_refusal ms) (least m.offsets) refl h in
    (parts.0, all_unmet ms parts.1)
