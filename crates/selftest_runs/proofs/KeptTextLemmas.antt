-- How a desk that keeps the text of one slot changes, and what it tells.
use Rattle.std.proofs.Common.{◌≡◌, ℕ, Bool, true, false, List, [], ◌++◌, length, take, refl, sym, ap, ◌∙◌, arith, Some, None}
use Rattle.std.proofs.Common.{if◌then◌else◌}
use Rattle.std.specs.Option.{option_map}
use Rattle.std.proofs.lemmas.List.{take_all}
use Rattle.text_io.specs.declared.slots.OutSlot.{OutSlot}
use Rattle.text_io.specs.declared.slots.OutSlot.TheVariants.{VerilogText, VitalText, Report, Faults}
use Rattle.text_io.specs.Slots.{same_out, put_out}
use Rattle.text_io.specs.Desk.{wrote}
use Rattle.selftest_runs.specs.KeptTexts.{bound_at, written_at, keeps_text}

-- at the slot that is kept

more_kept : (text bytes : List ℕ) (b : Bool)
    → (if b then Some (text ++ bytes) else None) ≡ (if b then Some (text ++ bytes) else if b then Some text else None)
more_kept text bytes true = refl
more_kept text bytes false = refl

put_kept : (kept other : OutSlot) (text bytes : List ℕ)
    → written_at kept (text ++ bytes) other ≡ put_out (written_at kept text) kept
    (option_map (λ before. before ++ bytes) (written_at kept text kept)) other
put_kept VerilogText other text bytes = more_kept text bytes (same_out VerilogText other)
put_kept VitalText other text bytes = more_kept text bytes (same_out VitalText other)
put_kept Report other text bytes = more_kept text bytes (same_out Report other)
put_kept Faults other text bytes = more_kept text bytes (same_out Faults other)

pub kept-wrote : (kept : OutSlot) (text bytes : List ℕ)
    → keeps_text kept (text ++ bytes) ≡ wrote (keeps_text kept text) kept bytes
unfolding keeps_text wrote
kept-wrote kept text bytes = λ i. record {
  words = [];
  folder = None;
  bound = bound_at kept;
  left = λ _. None;
  written = λ other. put_kept kept other text bytes i;
}

-- at another slot

none_kept : (text bytes : List ℕ) (b : Bool) → b ≡ false
    → (if b then Some text else None) ≡ option_map (λ before. before ++ bytes) (if b then Some text else None)
none_kept text bytes true e = absurd cc
none_kept text bytes false e = refl

put_elsewhere : (kept slot other : OutSlot) (text bytes : List ℕ) → same_out kept slot ≡ false
    → written_at kept text other ≡ put_out (written_at kept text) slot
    (option_map (λ before. before ++ bytes) (written_at kept text slot)) other
put_elsewhere kept VerilogText VerilogText text bytes e = none_kept text bytes (same_out kept VerilogText) e
put_elsewhere kept VitalText VitalText text bytes e = none_kept text bytes (same_out kept VitalText) e
put_elsewhere kept Report Report text bytes e = none_kept text bytes (same_out kept Report) e
put_elsewhere kept Faults Faults text bytes e = none_kept text bytes (same_out kept Faults) e
put_elsewhere kept _ _ text bytes e = refl

pub elsewhere-wrote : (kept slot : OutSlot) (text bytes : List ℕ) → same_out kept slot ≡ false
    → keeps_text kept text ≡ wrote (keeps_text kept text) slot bytes
unfolding keeps_text wrote
elsewhere-wrote kept slot text bytes e = λ i. record {
  words = [];
  folder = None;
  bound = bound_at kept;
  left = λ _. None;
  written = λ other. put_elsewhere kept slot other text bytes e i;
}

-- what such a desk tells of its slot is its text
pub told : (text whole : List ℕ) (b : Bool) → (if b then Some text else None) ≡ Some whole → text ≡ whole
told text whole true e = cc
told text whole false e = absurd cc

-- slots that are the same
same_is : (a b : OutSlot) → same_out a b ≡ true → a ≡ b
same_is VerilogText VerilogText e = refl
same_is VitalText VitalText e = refl
same_is Report Report e = refl
same_is Faults Faults e = refl
same_is _ _ e = absurd cc

-- a desk whose text these bytes were appended to
pub wrote_whole : (kept slot : OutSlot) (text bytes after : List ℕ) → same_out kept slot ≡ true → after ≡ text ++ bytes
    → keeps_text kept after ≡ wrote (keeps_text kept text) slot (take (length bytes) bytes)
wrote_whole kept slot text bytes after same e =
    ap (keeps_text kept) e ∙ kept-wrote kept text bytes ∙ ap (λ (s : OutSlot). wrote (keeps_text kept text) s bytes)
    (same_is kept slot same)
    ∙ ap (λ (part : List ℕ). wrote (keeps_text kept text) slot part) (sym (take_all (length bytes) bytes (omega arith)))
