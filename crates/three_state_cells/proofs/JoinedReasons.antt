-- Of two lists of reasons that are joined, reason by reason, the first of the refusals by each decides.
use Rattle.std.proofs.Common.{◌≡◌, ℕ, ◌<◌, ◌≤◌, Bool, true, false, refl, sym, ap, ◌∙◌, arith, Option, Some, None}
use Rattle.std.specs.Prelude.{⊤, nat_le, min, if◌then◌else◌}
use Rattle.std.proofs.lemmas.Bool.{lt-ltb, le-ltb, ne_eqb, eq-eqb, leb-true, leb-false}
use Rattle.cell_machine.specs.Delay.{lesser}
use Rattle.cell_machine.proofs.LeastLemmas.{lesser_none}
use Rattle.cell_reader.specs.declared.refusal.Reason.{Reason}
use Rattle.cell_reader.specs.declared.refusal.Refusal.{Refusal}
use Rattle.cell_reader.specs.ReasonWords.{number_of_reason}
use Rattle.cell_reader.specs.Refusals.{refused_or}
use Rattle.three_state_cells.specs.Refusals.{first_of_two}

-- A refusal, if there is one, has a number above this.
abbrev pub IsAbove : ℕ → Option Refusal → Type 0
IsAbove n None = ⊤
IsAbove n (Some told) = n < number_of_reason told.reason

above_less : (n m : ℕ) (later : Option Refusal) → n < m → IsAbove m later → IsAbove n later
above_less n m None h k = tt
above_less n m (Some told) h k = omega arith

pub above_or : (n : ℕ) (r : Reason) (at : Option ℕ) (later : Option Refusal) → n < number_of_reason r
    → IsAbove (number_of_reason r) later → IsAbove n (refused_or r at later)
above_or n r None later h k = above_less n (number_of_reason r) later h k
above_or n r (Some at) later h k = h

abbrev told_at : Reason → ℕ → Refusal
told_at r at = record { reason = r; at = at }

first_stays : (r : Reason) (at : ℕ) (later : Option Refusal) → IsAbove (number_of_reason r) later
    → first_of_two (Some (told_at r at)) later ≡ Some (told_at r at)
first_stays r at None h = refl
first_stays r at (Some other) h = rw (lt-ltb (number_of_reason r) (number_of_reason other.reason) h) refl

second_stays : (r : Reason) (at : ℕ) (later : Option Refusal) → IsAbove (number_of_reason r) later
    → first_of_two later (Some (told_at r at)) ≡ Some (told_at r at)
second_stays r at None h = refl
second_stays r at (Some other) h =
    rw (le-ltb (number_of_reason other.reason) (number_of_reason r) (omega arith))
    (rw (ne_eqb (number_of_reason other.reason) (number_of_reason r) (λ e. omega (arith, e))) refl)

lesser_told : (r : Reason) (p q : ℕ) (b : Bool) → nat_le p q ≡ b
    → (if b then told_at r p else told_at r q) ≡ told_at r (min p q)
lesser_told r p q true e = ap (told_at r) (less (leb-true p q e))
  where
    less : (p ≤ q) → p ≡ min p q
    less h = omega arith
lesser_told r p q false e = ap (told_at r) (more (leb-false p q e))
  where
    more : (q < p) → q ≡ min p q
    more h = omega arith

both_told : (r : Reason) (p q : ℕ) → first_of_two (Some (told_at r p)) (Some (told_at r q)) ≡ Some (told_at r (min p q))
both_told r p q =
    rw (le-ltb (number_of_reason r) (number_of_reason r) (omega arith))
    (rw (eq-eqb (number_of_reason r) (number_of_reason r) refl) (ap Some (lesser_told r p q (nat_le p q) refl)))

-- One reason before two lists of reasons.
pub joined : (r : Reason) (one other : Option ℕ) (x y : Option Refusal) → IsAbove (number_of_reason r) x
    → IsAbove (number_of_reason r) y
    → refused_or r (lesser one other) (first_of_two x y) ≡ first_of_two (refused_or r one x) (refused_or r other y)
joined r None None x y h k = refl
joined r None (Some q) x y h k = sym (second_stays r q x h)
joined r (Some p) None x y h k = sym (first_stays r p y k)
joined r (Some p) (Some q) x y h k = sym (both_told r p q)

-- the same where the second list has not the reason
pub kept : (r : Reason) (one : Option ℕ) (x y : Option Refusal) → IsAbove (number_of_reason r) x
    → IsAbove (number_of_reason r) y
    → refused_or r one (first_of_two x y) ≡ first_of_two (refused_or r one x) y
kept r one x y h k =
    ap (λ at. refused_or r at (first_of_two x y)) (sym (lesser_none one)) ∙ joined r one None x y h k
