-- What is known of a desk that keeps the text of one slot. This project's rule.
use Rattle.std.specs.Prelude.{ℕ, Bool, false, List, [], Option, Some, None, if◌then◌else◌}
use Rattle.text_io.specs.declared.slots.OutSlot.{OutSlot}
use Rattle.text_io.specs.declared.slots.Slot.{Slot}
use Rattle.text_io.specs.declared.slots.Slot.TheVariants.{Input, Output}
use Rattle.text_io.specs.Slots.{same_out}
use Rattle.text_io.specs.Desk.{DeskState}
use Rattle.selftest_runs.specs.declared.text_desk.TextDesk.{TextDesk}

-- this slot alone is bound
abbrev pub bound_at : OutSlot → Slot → Bool
bound_at kept (Input slot) = false
bound_at kept (Output slot) = same_out kept slot

-- the text of this slot is told, and of no other
abbrev pub written_at : OutSlot → List ℕ → OutSlot → Option (List ℕ)
written_at kept text slot = if same_out kept slot then Some text else None

-- a desk without words and files, that tells this text of this slot
unfoldable pub keeps_text : OutSlot → List ℕ → DeskState
keeps_text kept text = record {
  words = [];
  folder = None;
  bound = bound_at kept;
  left = λ _. None;
  written = written_at kept text;
}

-- what is known of this desk
abbrev pub state_of : TextDesk → DeskState
state_of d = keeps_text d.slot d.text.items
