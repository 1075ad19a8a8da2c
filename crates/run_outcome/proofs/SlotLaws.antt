-- Slots that are bound and read in any order.
use Rattle.std.proofs.Common.{◌≡◌, ℕ, ◌+◌, Bool, true, false, if◌then◌else◌, List, drop, Option, Some, None, refl, sym, ap, ◌∙◌}
use Rattle.std.specs.Option.{option_map}
use Rattle.std.proofs.lemmas.List.{drop-drop}
use Rattle.text_io.specs.declared.slots.InSlot.{InSlot}
use Rattle.text_io.specs.declared.slots.InSlot.TheVariants.{Library, Verilog, Vital, Stimulus}
use Rattle.text_io.specs.Slots.{same_in, put_in}
use Rattle.text_io.specs.Desk.{DeskState, opened, took}
use Rattle.run_outcome.specs.Binding.{took_all}

pub same_in-swap : (a b : InSlot) → same_in a b ≡ same_in b a
same_in-swap Library Library = refl
same_in-swap Library Verilog = refl
same_in-swap Library Vital = refl
same_in-swap Library Stimulus = refl
same_in-swap Verilog Library = refl
same_in-swap Verilog Verilog = refl
same_in-swap Verilog Vital = refl
same_in-swap Verilog Stimulus = refl
same_in-swap Vital Library = refl
same_in-swap Vital Verilog = refl
same_in-swap Vital Vital = refl
same_in-swap Vital Stimulus = refl
same_in-swap Stimulus Library = refl
same_in-swap Stimulus Verilog = refl
same_in-swap Stimulus Vital = refl
same_in-swap Stimulus Stimulus = refl

-- the value that was put there
pub put_in-there : {X : Type 0} (each : InSlot → X) (slot : InSlot) (value : X) → put_in each slot value slot ≡ value
put_in-there each Library value = refl
put_in-there each Verilog value = refl
put_in-there each Vital value = refl
put_in-there each Stimulus value = refl

-- another slot has what it had
pub put_in-other : {X : Type 0} (each : InSlot → X) (slot : InSlot) (value : X) (other : InSlot) → same_in slot other ≡ false
    → put_in each slot value other ≡ each other
put_in-other each slot value other e = rw e refl

-- what is left of each slot after so many bytes of each were read
left_of_each : (s : DeskState) (taken : InSlot → ℕ) (t : InSlot)
    → (took_all s taken).left t ≡ option_map (drop (taken t)) (s.left t)
unfolding took took_all
left_of_each s taken Library = refl
left_of_each s taken Verilog = refl
left_of_each s taken Vital = refl
left_of_each s taken Stimulus = refl

-- so many bytes of each slot were read
took_each : DeskState → (InSlot → ℕ) → DeskState
took_each s taken = record s { left = λ t. option_map (drop (taken t)) (s.left t) }

all_of_each : (s : DeskState) (taken : InSlot → ℕ) → took_all s taken ≡ took_each s taken
unfolding took took_all took_each
all_of_each s taken = λ i. record s { left = λ t. left_of_each s taken t i }

drop_more : (o : Option (List ℕ)) (m n : ℕ) → option_map (drop n) (option_map (drop m) o) ≡ option_map (drop (m + n)) o
drop_more None m n = refl
drop_more (Some bytes) m n = ap Some (drop-drop n m bytes)

-- what holds at one slot after another
at_each : {X : Type 0} (f g : InSlot → X) → f Library ≡ g Library → f Verilog ≡ g Verilog → f Vital ≡ g Vital
    → f Stimulus ≡ g Stimulus → (t : InSlot) → f t ≡ g t
at_each f g library verilog vital stimulus Library = library
at_each f g library verilog vital stimulus Verilog = verilog
at_each f g library verilog vital stimulus Vital = vital
at_each f g library verilog vital stimulus Stimulus = stimulus

-- what is left after so many bytes of each slot were read
abbrev left_of : (InSlot → Option (List ℕ)) → (InSlot → ℕ) → InSlot → Option (List ℕ)
left_of w taken t = option_map (drop (taken t)) (w t)

-- and after more of one
abbrev left_more : (InSlot → Option (List ℕ)) → (InSlot → ℕ) → InSlot → ℕ → InSlot → Option (List ℕ)
left_more w taken slot n = put_in (left_of w taken) slot (option_map (drop n) (left_of w taken slot))

more_of : (w : InSlot → Option (List ℕ)) (taken : InSlot → ℕ) (slot : InSlot) (n : ℕ) (t : InSlot)
    → left_more w taken slot n t ≡ left_of w (put_in taken slot (taken slot + n)) t
more_of w taken Library n = at_each (left_more w taken Library n) (left_of w (put_in taken Library (taken Library + n)))
    (drop_more (w Library) (taken Library) n) refl refl refl
more_of w taken Verilog n = at_each (left_more w taken Verilog n) (left_of w (put_in taken Verilog (taken Verilog + n))) refl
    (drop_more (w Verilog) (taken Verilog) n) refl refl
more_of w taken Vital n = at_each (left_more w taken Vital n) (left_of w (put_in taken Vital (taken Vital + n))) refl refl
    (drop_more (w Vital) (taken Vital) n) refl
more_of w taken Stimulus n = at_each (left_more w taken Stimulus n) (left_of w (put_in taken Stimulus (taken Stimulus + n))) refl
    refl refl (drop_more (w Stimulus) (taken Stimulus) n)

took_of_each : (s : DeskState) (taken : InSlot → ℕ) (slot : InSlot) (n : ℕ)
    → took (took_each s taken) slot n ≡ took_each s (put_in taken slot (taken slot + n))
unfolding took took_each
took_of_each s taken slot n = λ i. record s { left = λ t. more_of s.left taken slot n t i }

-- more bytes of one slot are read
pub took-took_all : (s : DeskState) (taken : InSlot → ℕ) (slot : InSlot) (n : ℕ)
    → took (took_all s taken) slot n ≡ took_all s (put_in taken slot (taken slot + n))
took-took_all s taken slot n = ap (λ t. took t slot n) (all_of_each s taken) ∙ took_of_each s taken slot n
    ∙ sym (all_of_each s (put_in taken slot (taken slot + n)))

fresh_left : (o : Option (List ℕ)) (bytes : List ℕ) (m : ℕ)
    → option_map (λ _. bytes) (option_map (drop m) o) ≡ option_map (drop 0) (option_map (λ _. bytes) o)
fresh_left None bytes m = refl
fresh_left (Some left) bytes m = refl

by_slot : (same : Bool) (o other : Option (List ℕ)) (bytes : List ℕ) (m n : ℕ)
    → (if same then option_map (λ _. bytes) (option_map (drop m) o) else option_map (drop n) other)
    ≡ option_map (drop (if same then 0 else n)) (if same then option_map (λ _. bytes) o else other)
by_slot true o other bytes m n = fresh_left o bytes m
by_slot false o other bytes m n = refl

opened_of_each : (s : DeskState) (taken : InSlot → ℕ) (slot : InSlot) (bytes : List ℕ)
    → opened (took_each s taken) slot bytes ≡ took_each (opened s slot bytes) (put_in taken slot 0)
unfolding opened took_each
opened_of_each s taken slot bytes = λ i. record s {
  bound = (opened s slot bytes).bound;
  left = λ t. by_slot (same_in slot t) (s.left slot) (s.left t) bytes (taken slot) (taken t) i;
}

-- a slot is bound after bytes of others were read, or before
pub opened-took_all : (s : DeskState) (taken : InSlot → ℕ) (slot : InSlot) (bytes : List ℕ)
    → opened (took_all s taken) slot bytes ≡ took_all (opened s slot bytes) (put_in taken slot 0)
opened-took_all s taken slot bytes =
    ap (λ t. opened t slot bytes) (all_of_each s taken) ∙ opened_of_each s taken slot bytes
    ∙ sym (all_of_each (opened s slot bytes) (put_in taken slot 0))

-- what is left of a slot is known where it was
pub left-took_all : (s : DeskState) (taken : InSlot → ℕ) (t : InSlot)
    → (took_all s taken).left t ≡ option_map (drop (taken t)) (s.left t)
left-took_all s taken t = left_of_each s taken t
