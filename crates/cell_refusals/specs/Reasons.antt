-- Of the reasons that a cell meets the first decides. (This project's rule.)
use Rattle.std.specs.Prelude.{ℕ, List, [], ◌∷◌, Option, Some, None}
use Rattle.cell_machine.specs.Delay.{least}
use Rattle.cell_refusals.specs.declared.refusal.Reason.{Reason}
use Rattle.cell_refusals.specs.declared.refusal.Refusal.{Refusal}

-- A reason, and the offsets at which it is met.
pub record Met : Type 0 where
  pub reason : Reason
  pub offsets : List ℕ

abbrev pub met : Reason → List ℕ → Met
met r offsets = record { reason = r; offsets = offsets }

-- The first reason that is met decides, at the least of its offsets.
abbrev pub refused_or : Reason → Option ℕ → Option Refusal → Option Refusal
refused_or r None later = later
refused_or r (Some at) later = Some (record { reason = r; at = at })

abbrev pub first_refusal : List Met → Option Refusal
first_refusal [] = None
first_refusal (m ∷ ms) = refused_or m.reason (least m.offsets) (first_refusal ms)
