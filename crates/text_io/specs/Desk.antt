-- What is known of a desk at a moment, and how a call changes it. This project's rule.
use Rattle.std.specs.Prelude.{◌≡◌, ℕ, ◌+◌, ◌-◌, ◌^◌, ◌≤◌, min, Bool, true, ◌||◌, List, [], ◌∷◌, ◌++◌, drop, Option, Some, None}
use Rattle.std.specs.Prelude.{Result, Ok, Err, IfSome, OnOk, OnErr, slice_get, if◌then◌else◌}
use Rattle.std.specs.Option.{option_map, option_and_then}
use Rattle.std.specs.Str.{bytes_eq}
use Rattle.text_io.specs.declared.outside.Failed.{Failed}
use Rattle.text_io.specs.declared.slots.InSlot.{InSlot}
use Rattle.text_io.specs.declared.slots.OutSlot.{OutSlot}
use Rattle.text_io.specs.declared.slots.OutSlot.TheVariants.{Report, Faults}
use Rattle.text_io.specs.declared.slots.Slot.{Slot}
use Rattle.text_io.specs.declared.slots.Slot.TheVariants.{Input, Output}
use Rattle.text_io.specs.declared.stop.Stop.{Stop}
use Rattle.text_io.specs.declared.stop.Stop.TheVariants as stops
use Rattle.text_io.specs.Slots.{same_slot, put_in, put_out, put_slot}

-- named files: each name with the file's bytes
abbrev pub Folder : Type 0
Folder = List (List ℕ × List ℕ)

-- the bytes of the first file of this name
abbrev pub file_of : Folder → List ℕ → Option (List ℕ)
file_of [] name = None
file_of (file ∷ files) name = if bytes_eq file.0 name then Some file.1 else file_of files name

-- what is known of a desk: its words, the folder where it tells it, which slots are bound, and for each slot the
-- bytes that are left to read and the bytes that were written, where it tells them
pub record DeskState : Type 0 where
  pub words : List (List ℕ)
  pub folder : Option Folder
  pub bound : Slot → Bool
  pub left : InSlot → Option (List ℕ)
  pub written : OutSlot → Option (List ℕ)

-- the slot is bound; the report and the faults always are
abbrev pub is_bound : DeskState → Slot → Bool
is_bound s slot = same_slot (Output Report) slot || (same_slot (Output Faults) slot || s.bound slot)

-- where the desk tells its folder, the word at this place names a file of it with these bytes
abbrev pub IsFileAt : DeskState → ℕ → List ℕ → Type 0
IsFileAt s place bytes = IfSome s.folder (λ folder. option_and_then (file_of folder) (slice_get s.words place) ≡ Some bytes)

-- after the slot was bound to a file with these bytes, which are all left to read
unfoldable pub opened : DeskState → InSlot → List ℕ → DeskState
opened s slot bytes =
    record s { bound = put_slot s.bound (Input slot) true; left = put_in s.left slot (option_map (λ _. bytes) (s.left slot)) }

-- after the slot was bound to a file that is now empty
unfoldable pub created : DeskState → OutSlot → DeskState
created s slot =
    record s {
      bound = put_slot s.bound (Output slot) true;
      written =
          put_out s.written slot (option_map (λ _. []) (s.written slot));
    }

-- after this many bytes were read
unfoldable pub took : DeskState → InSlot → ℕ → DeskState
took s slot count = record s { left = put_in s.left slot (option_map (drop count) (s.left slot)) }

-- after these bytes were appended
unfoldable pub wrote : DeskState → OutSlot → List ℕ → DeskState
wrote s slot bytes = record s { written = put_out s.written slot (option_map (λ before. before ++ bytes) (s.written slot)) }

-- the count of faults rose by one between the two moments, or stands at its last value, 2^64 - 1
abbrev pub Rose : ℕ → ℕ → Type 0
Rose before now = now ≡ min (before + 1) (2 ^ 64 - 1)

-- The count of faults did not fall, an answer that tells of no failed call left it as it was, and one that tells of a failed call
-- raised it: what is said of the first answers alone, and of the second alone, is given.
pub record CountsFaults (if_unfailed if_failed : Type 0 → Type 0) (before now : ℕ) : Type 0 where
  pub later : before ≤ now
  pub kept : if_unfailed (now ≡ before)
  pub failed : if_failed (Rose before now)

-- how a call on a desk changes the count: one that went well left it as it was, and one that failed raised it
abbrev pub HasCause : {T : Type 0} → ℕ → ℕ → Result T Failed → Type 0
HasCause before now result = CountsFaults (OnOk result) (OnErr result) before now

-- P holds, unless a call failed: where all went well, and where there was no memory
abbrev pub UnlessFailed : {T : Type 0} → Result T Stop → Type 0 → Type 0
UnlessFailed (Ok x) P = P
UnlessFailed (Err stop) P = stop ≡ stops.Memory → P

-- P holds where a call failed
abbrev pub WhereFailed : {T : Type 0} → Result T Stop → Type 0 → Type 0
WhereFailed (Ok x) P = Unit {0}
WhereFailed (Err stop) P = stop ≡ stops.Failed → P

-- how a call that may also lack memory changes the count: it rose where the call stopped since another failed, and in every other
-- case it stayed as it was
abbrev pub StopsWithCause : {T : Type 0} → ℕ → ℕ → Result T Stop → Type 0
StopsWithCause before now result = CountsFaults (UnlessFailed result) (WhereFailed result) before now

-- a list begins with this part
abbrev pub IsPrefix : List ℕ → List ℕ → Type 0
IsPrefix part whole = (rest : List ℕ) × (part ++ rest ≡ whole)

-- after a call that appends this text to a slot: on `Ok` all of it was appended, on `Failed` a prefix of it, and
-- nothing else changed
pub record WritesText {T : Type 0} (old new : DeskState) (slot : OutSlot) (text : List ℕ) (result : Result T Failed) :
    Type 0 where
  pub whole : OnOk result (new ≡ wrote old slot text)
  pub part : OnErr result ((part : List ℕ) × IsPrefix part text × (new ≡ wrote old slot part))
