-- What a whole file read through a desk is. This project's rule.
use Rattle.std.specs.Prelude.{◌≡◌, ℕ, ◌+◌, ◌≤◌, Bool, take, length, nat_lt, IfSome, if◌then◌else◌}
use Rattle.text_io.specs.declared.reading.Taken.{Taken}
use Rattle.text_io.specs.declared.slots.InSlot.{InSlot}
use Rattle.text_io.specs.Desk.{DeskState, took}

-- after a call that has read at most this many bytes of the slot, and changed nothing else
abbrev pub ReadsAtMost : DeskState → DeskState → InSlot → ℕ → Type 0
ReadsAtMost old new slot most = (count : ℕ) × (count ≤ most) × (new ≡ took old slot count)

-- what was taken is the first bytes of the slot, at most as many as the limit, and it says whether more came: the
-- bytes that were left up to the limit, where the desk tells them; one byte past the limit was read where there is one
pub record IsRead (old new : DeskState) (slot : InSlot) (limit : ℕ) (taken : Taken) : Type 0 where
  pub state : new ≡ took old slot (length taken.bytes.items + (if taken.more then 1 else 0))
  pub within : length taken.bytes.items ≤ limit
  pub bytes : IfSome (old.left slot) (λ left. taken.bytes.items ≡ take limit left)
  pub more : IfSome (old.left slot) (λ left. taken.more ≡ nat_lt limit (length left))

-- after a call that tells whether a byte is left, and has read it
pub record ReadsByte (old new : DeskState) (slot : InSlot) (found : Bool) : Type 0 where
  pub state : new ≡ took old slot (if found then 1 else 0)
  pub told : IfSome (old.left slot) (λ left. found ≡ nat_lt 0 (length left))
