-- The files that a command binds, one after another, and how much of each is read. This project's rule.
use Rattle.std.specs.Prelude.{◌≡◌, ℕ, List, [], ◌∷◌, ◌++◌, Some, IsSome, Contains, Result, OnOk, slice_get, unwrap_or}
use Rattle.std.specs.Option.{option_and_then}
use Rattle.text_io.specs.declared.outside.Failed.{Failed}
use Rattle.text_io.specs.declared.slots.InSlot.{InSlot}
use Rattle.text_io.specs.declared.slots.InSlot.TheVariants.{Library, Verilog, Vital, Stimulus}
use Rattle.text_io.specs.declared.slots.OutSlot.{OutSlot}
use Rattle.text_io.specs.declared.slots.Slot.{Slot}
use Rattle.text_io.specs.declared.slots.Slot.TheVariants.{Input, Output}
use Rattle.text_io.specs.Slots.{put_in}
use Rattle.text_io.specs.Desk.{DeskState, Folder, file_of, opened, created, took, IsFileAt}

-- files by their slots, each with the place of the word that names it
abbrev pub Files : Type 0
Files = List (Slot × ℕ)

-- after the file at this slot was bound, where the input slots have these bytes
abbrev pub bound_at : DeskState → Slot → (InSlot → List ℕ) → DeskState
bound_at s (Input slot) bytes = opened s slot (bytes slot)
bound_at s (Output slot) bytes = created s slot

-- after these files were bound, in order
abbrev pub bound_state : DeskState → Files → (InSlot → List ℕ) → DeskState
bound_state s [] bytes = s
bound_state s (file ∷ files) bytes = bound_state (bound_at s file.0 bytes) files bytes

-- a file that is read is the one that the word at this place names
abbrev pub IsNamed : DeskState → Slot → ℕ → (InSlot → List ℕ) → Type 0
IsNamed s (Input slot) place bytes = IsFileAt s place (bytes slot)
IsNamed s (Output slot) place bytes = Unit {0}

-- each of these files that is read is the one that its word names
abbrev pub AreNamed : DeskState → Files → (InSlot → List ℕ) → Type 0
AreNamed s [] bytes = Unit {0}
AreNamed s (file ∷ files) bytes = IsNamed s file.0 file.1 bytes × AreNamed s files bytes

-- the first of these files, in order
abbrev pub IsFront : Files → Files → Type 0
IsFront first files = (others : Files) × (first ++ others ≡ files)

-- after a call that binds these files: all of them, or those before the one that failed
pub record Binds {T : Type 0} (files : Files) (old new : DeskState) (result : Result T Failed) : Type 0 where
  pub bound : Files
  pub bytes : InSlot → List ℕ
  pub state : new ≡ bound_state old bound bytes
  pub planned : IsFront bound files
  pub named : AreNamed old bound bytes
  pub whole : OnOk result (bound ≡ files)

-- among the first of these files are all that are written
abbrev pub HasOutputs : Files → Files → Type 0
HasOutputs first files = (slot : OutSlot) (place : ℕ) → Contains files (Output slot, place) → Contains first (Output slot, place)

-- after so many bytes of each input slot were read
unfoldable pub took_all : DeskState → (InSlot → ℕ) → DeskState
took_all s taken = took (took (took (took s Library (taken Library)) Verilog (taken Verilog)) Vital (taken Vital)) Stimulus
    (taken Stimulus)

-- nothing is read but so many bytes of one slot
abbrev pub only : InSlot → ℕ → InSlot → ℕ
only slot count = put_in (λ _. 0) slot count

-- where the slot is for reading, the desk tells its folder, which is this one, and what is left of the slot
abbrev pub TellsAt : DeskState → Folder → Slot → Type 0
TellsAt s folder (Input slot) = (s.folder ≡ Some folder) × IsSome (s.left slot)
TellsAt s folder (Output slot) = Unit {0}

-- The desk tells these files: where there is one to be read, its folder is this one, and it tells what is left of each.
-- Where none is read, any folder serves.
abbrev pub Tells : Files → DeskState → Folder → Type 0
Tells [] s folder = Unit {0}
Tells (file ∷ files) s folder = TellsAt s folder file.0 × Tells files s folder

-- the bytes of the file that the word at this place names, none where it is not there
abbrev pub bytes_at : List (List ℕ) → Folder → ℕ → List ℕ
bytes_at words folder place = unwrap_or (option_and_then (file_of folder) (slice_get words place)) []
