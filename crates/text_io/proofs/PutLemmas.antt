-- Values put at slots, and contents that change.
use Rattle.std.proofs.Common.{◌≡◌, ℕ, Bool, true, false, Option, Some, None, refl, ◌∙◌, ap}
use Rattle.std.specs.Prelude.{nat_eq, if◌then◌else◌}
use Rattle.std.specs.Option.{option_map}
use Rattle.std.proofs.lemmas.Bool.{eq-eqb}
use Rattle.text_io.specs.declared.slots.InSlot.{InSlot}
use Rattle.text_io.specs.declared.slots.InSlot.TheVariants.{Library, Verilog, Vital, Stimulus}
use Rattle.text_io.specs.declared.slots.OutSlot.{OutSlot}
use Rattle.text_io.specs.declared.slots.OutSlot.TheVariants.{VerilogText, VitalText, Report, Faults}
use Rattle.text_io.specs.declared.slots.Slot.{Slot}
use Rattle.text_io.specs.declared.slots.Slot.TheVariants.{Input, Output}
use Rattle.text_io.specs.Slots.{by_side, put_at, put_in, put_out, put_slot}

-- a function of a choice
pub push_if : {X Y : Type 0} (f : X → Y) (b : Bool) (x y : X) → f (if b then x else y) ≡ (if b then f x else f y)
push_if f true x y = refl
push_if f false x y = refl

-- the value in both cases
pub if_same : {X : Type 0} (b : Bool) (x : X) → (if b then x else x) ≡ x
if_same true x = refl
if_same false x = refl

-- a choice made twice
pub if_again : {X : Type 0} (b : Bool) (x y z : X) → (if b then x else (if b then y else z)) ≡ (if b then x else z)
if_again true x y z = refl
if_again false x y z = refl

-- a change that leaves every value as it is
pub option_map-same : {X : Type 0} (f : X → X) → ((x : X) → f x ≡ x) → (known : Option X) → option_map f known ≡ known
option_map-same f same None = refl
option_map-same f same (Some x) = ap Some (same x)

-- one change, and then another
pub option_map-twice : {X : Type 0} (f g h : X → X) → ((x : X) → g (f x) ≡ h x) → (known : Option X)
    → option_map g (option_map f known) ≡ option_map h known
option_map-twice f g h both None = refl
option_map-twice f g h both (Some x) = ap Some (both x)

-- a slot's own value put there
put_slot-same : {X : Type 0} (each : Slot → X) (slot other : Slot) → put_slot each slot (each slot) other ≡ each other
put_slot-same each (Input Library) (Input Library) = refl
put_slot-same each (Input Verilog) (Input Verilog) = refl
put_slot-same each (Input Vital) (Input Vital) = refl
put_slot-same each (Input Stimulus) (Input Stimulus) = refl
put_slot-same each (Output VerilogText) (Output VerilogText) = refl
put_slot-same each (Output VitalText) (Output VitalText) = refl
put_slot-same each (Output Report) (Output Report) = refl
put_slot-same each (Output Faults) (Output Faults) = refl
put_slot-same each _ _ = refl

-- an input slot's value put there
pub put_in-same : {X : Type 0} (each : InSlot → X) (slot other : InSlot) (value : X) → value ≡ each slot
    → put_in each slot value other ≡ each other
put_in-same each slot other value e =
    ap (λ x. put_in each slot x other) e ∙ put_slot-same (by_side each (λ _. each slot)) (Input slot) (Input other)

-- an output slot's value put there
pub put_out-same : {X : Type 0} (each : OutSlot → X) (slot other : OutSlot) (value : X) → value ≡ each slot
    → put_out each slot value other ≡ each other
put_out-same each slot other value e =
    ap (λ x. put_out each slot x other) e ∙ put_slot-same (by_side (λ _. each slot) each) (Output slot) (Output other)

-- a choice by a number's sameness with itself
if_self : {X : Type 0} (n : ℕ) (x y : X) → (if nat_eq n n then x else y) ≡ x
if_self n x y = ap (λ b. if b then x else y) (eq-eqb n n refl)

-- what was put at a place is there
pub put_at-there : {S X : Type 0} (number : S → ℕ) (each : S → X) (place : S) (value : X)
    → put_at number each place value place ≡ value
put_at-there number each place value = if_self (number place) value (each place)

-- what is told at a place, changed twice
pub put_at-twice : {S C : Type 0} (number : S → ℕ) (f g h : C → C) → ((x : C) → g (f x) ≡ h x)
    → (each : S → Option C) (place other : S)
    → put_at number (put_at number each place (option_map f (each place))) place
    (option_map g (put_at number each place (option_map f (each place)) place)) other
    ≡ put_at number each place (option_map h (each place)) other
put_at-twice number f g h both each place other =
    let first = option_map f (each place) in
    let second = option_map g (put_at number each place first place) in
    let now : second ≡ option_map h (each place) = ap (option_map g) (put_at-there number each place first)
    ∙ option_map-twice f g h both (each place) in
    if_again (nat_eq (number place) (number other)) second first (each other) ∙ ap (λ v. put_at number each place v other) now
