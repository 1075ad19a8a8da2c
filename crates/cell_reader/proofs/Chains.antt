-- The first refusal of joined lists of reasons.
use Rattle.std.proofs.Common.{◌≡◌, ℕ, List, [], ◌∷◌, ◌++◌, refl, Option, Some, None}
use Rattle.cell_machine.specs.Delay.{least}
use Rattle.cell_refusals.specs.declared.refusal.Reason.{Reason}
use Rattle.cell_refusals.specs.declared.refusal.Refusal.{Refusal}
use Rattle.cell_reader.specs.Refusals.{Met, refused_or, first_refusal}

none_by :
    (r : Reason) (at : Option ℕ) (later all answer : Option Refusal)
    → refused_or r at later ≡ None → (later ≡ None → all ≡ answer) → refused_or r at all ≡ answer
none_by r None later all answer h f = f h
none_by r (Some at) later all answer h f = absurd cc

some_by :
    (r : Reason) (at : Option ℕ) (later all : Option Refusal) (told : Refusal)
    → refused_or r at later ≡ Some told → (later ≡ Some told → all ≡ Some told) → refused_or r at all ≡ Some told
some_by r None later all told h f = f h
some_by r (Some at) later all told h f = h

-- where the first reasons are not met the later ones decide
pub unmet_first : (ms ns : List Met) → first_refusal ms ≡ None → first_refusal (ms ++ ns) ≡ first_refusal ns
unmet_first [] ns h = refl
unmet_first (m ∷ ms) ns h =
    none_by m.reason (least m.offsets) (first_refusal ms) (first_refusal (ms ++ ns)) (first_refusal ns) h (unmet_first ms ns)

-- where one of the first reasons is met it decides
pub met_first : (ms ns : List Met) (told : Refusal) → first_refusal ms ≡ Some told → first_refusal (ms ++ ns) ≡ Some told
met_first [] ns told h = absurd cc
met_first (m ∷ ms) ns told h =
    some_by m.reason (least m.offsets) (first_refusal ms) (first_refusal (ms ++ ns)) told h (met_first ms ns told)
