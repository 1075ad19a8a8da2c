-- The files of a command that reads all of them, one after another. This project's rule.
use Rattle.std.specs.Prelude.{◌≡◌, ℕ, Bool, true, false, ◌&&◌, ◌||◌, List, [], ◌∷◌}
use Rattle.text_io.specs.declared.slots.InSlot.{InSlot}
use Rattle.text_io.specs.declared.slots.Slot.{Slot}
use Rattle.text_io.specs.declared.slots.Slot.TheVariants.{Input, Output}
use Rattle.text_io.specs.Slots.{same_in}
use Rattle.text_io.specs.Desk.{DeskState, Folder}
use Rattle.run_outcome.specs.Binding.{Files, bound_state, AreNamed, IsFront, took_all, Tells}
use Rattle.run_outcome.specs.Outcome.{Outcome}

-- the slot is for reading
abbrev pub is_input : Slot → Bool
is_input (Input slot) = true
is_input (Output slot) = false

-- all of these files are read
abbrev pub are_inputs : Files → Bool
are_inputs [] = true
are_inputs (file ∷ files) = is_input file.0 && are_inputs files

-- the slot is this one, for reading
abbrev pub is_input_slot : InSlot → Slot → Bool
is_input_slot slot (Input other) = same_in slot other
is_input_slot slot (Output other) = false

-- one of these files is read at this slot
abbrev pub is_read_among : InSlot → Files → Bool
is_read_among slot [] = false
is_read_among slot (file ∷ files) = is_input_slot slot file.0 || is_read_among slot files

-- The first of a command's files were bound, in order, some bytes of each were read, and nothing else changed. Where the desk
-- tells the files, what the run comes to is what it comes to behind these.
pub record HasRead (files done : Files) (outcome behind : Folder → Outcome) (old now : DeskState) : Type 0 where
  pub bytes : InSlot → List ℕ
  pub taken : InSlot → ℕ
  pub state : now ≡ took_all (bound_state old done bytes) taken
  pub planned : IsFront done files
  pub named : AreNamed old done bytes
  pub goes_on : (folder : Folder) → Tells files old folder → outcome folder ≡ behind folder
