-- Slots: the places at which a command reads and writes. This project's rule.
use Rattle.std.specs.Prelude.{ℕ, Bool, false, nat_eq, if◌then◌else◌}
use Rattle.text_io.specs.declared.slots.InSlot.{InSlot}
use Rattle.text_io.specs.declared.slots.InSlot.TheVariants.{Library, Verilog, Vital, Stimulus}
use Rattle.text_io.specs.declared.slots.OutSlot.{OutSlot}
use Rattle.text_io.specs.declared.slots.OutSlot.TheVariants.{VerilogText, VitalText, Report, Faults}
use Rattle.text_io.specs.declared.slots.Slot.{Slot}
use Rattle.text_io.specs.declared.slots.Slot.TheVariants.{Input, Output}

-- a number for each slot
abbrev pub slot_number : Slot → ℕ
slot_number (Input Library) = 0
slot_number (Input Verilog) = 1
slot_number (Input Vital) = 2
slot_number (Input Stimulus) = 3
slot_number (Output VerilogText) = 4
slot_number (Output VitalText) = 5
slot_number (Output Report) = 6
slot_number (Output Faults) = 7

-- the two are the same input slot
abbrev pub same_in : InSlot → InSlot → Bool
same_in a b = nat_eq (slot_number (Input a)) (slot_number (Input b))

-- the two are the same output slot
abbrev pub same_out : OutSlot → OutSlot → Bool
same_out a b = nat_eq (slot_number (Output a)) (slot_number (Output b))

-- the two are the same slot
abbrev pub same_slot : Slot → Slot → Bool
same_slot (Input a) (Input b) = same_in a b
same_slot (Output a) (Output b) = same_out a b
same_slot _ _ = false

-- what each slot has, of what each input slot and each output slot has
abbrev pub by_side : {X : Type 0} → (InSlot → X) → (OutSlot → X) → Slot → X
by_side inputs outputs (Input slot) = inputs slot
by_side inputs outputs (Output slot) = outputs slot

-- what each place has, with this value at one of them, where places have these numbers
abbrev pub put_at : {S X : Type 0} → (S → ℕ) → (S → X) → S → X → S → X
put_at number each place value other = if nat_eq (number place) (number other) then value else each other

-- what each input slot has, with this value at one of them
abbrev pub put_in : {X : Type 0} → (InSlot → X) → InSlot → X → InSlot → X
put_in each slot value = put_at (λ s. slot_number (Input s)) each slot value

-- what each output slot has, with this value at one of them
abbrev pub put_out : {X : Type 0} → (OutSlot → X) → OutSlot → X → OutSlot → X
put_out each slot value = put_at (λ s. slot_number (Output s)) each slot value

-- what each slot has, with this value at one of them
abbrev pub put_slot : {X : Type 0} → (Slot → X) → Slot → X → Slot → X
put_slot each slot value other = if same_slot slot other then value else each other
