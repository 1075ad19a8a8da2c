-- What callers see of a desk over memory.
use Rattle.std.specs.Prelude.{◌≡◌, ℕ, ◌+◌, ◌-◌, ◌^◌, Bool, false, List, [], map, length, min, Option, Some, None, is_some}
use Rattle.std.specs.Prelude.{is_none, nat_eq, string_bytes, slice_get, unwrap_or, if◌then◌else◌}
use Rattle.std.specs.List.{list_any}
use Rattle.std.specs.Option.{option_and_then}
use Rattle.text_io.specs.declared.memory.MemoryDesk.{MemoryDesk}
use Rattle.text_io.specs.declared.named_files.Place.{Place}
use Rattle.text_io.specs.declared.slots.InSlot.{InSlot}
use Rattle.text_io.specs.declared.slots.OutSlot.{OutSlot}
use Rattle.text_io.specs.declared.slots.Slot.{Slot}
use Rattle.text_io.specs.Slots.{by_side}
use Rattle.text_io.specs.Desk.{DeskState, Folder, file_of}
use Rattle.text_io.specs.EachSlot.{input_of, output_of, bytes_in, room_in}
use Rattle.text_io.specs.NamedFiles.{folder_of, rest_of}

-- what callers see of a desk over memory: what is known of it as a desk, the numbers of the calls that fail, how many
-- bytes each output slot has room for, how many bytes a call moves at most, and how many calls were made and failed
pub record MemoryState : Type 0 where
  pub desk : DeskState
  pub failing : List ℕ
  pub room : OutSlot → ℕ
  pub piece : ℕ
  pub calls : ℕ
  pub faults : ℕ

-- the slots that are bound: the input slots where reading has a place, and the output slots that were created
abbrev pub bound_slots : (InSlot → Option Place) → (OutSlot → Bool) → Slot → Bool
bound_slots places created = by_side (λ slot. is_some (places slot)) created

-- the bytes that come next at a slot: none before it is bound
abbrev pub left_at : Folder → Option Place → List ℕ
left_at folder None = []
left_at folder (Some place) = rest_of folder place

-- a desk that reads from a folder in memory
unfoldable pub reads_memory : List (List ℕ) → Folder → (InSlot → Option Place) → (OutSlot → Bool) → (OutSlot → Option (List ℕ))
    → DeskState
reads_memory words folder places created written = record {
  words = words;
  folder = Some folder;
  bound = bound_slots places created;
  left = λ slot. Some (left_at folder (places slot));
  written = written;
}

-- what callers see of this desk
abbrev pub memory_of : MemoryDesk → MemoryState
memory_of d = record {
  desk = reads_memory (map string_bytes d.words.items) (folder_of d.folder.items) (input_of d.places) (output_of d.created)
      (λ slot. Some (bytes_in d.sinks slot));
  failing = d.failing.items;
  room = room_in d.sinks;
  piece = d.piece.bytes;
  calls = d.calls;
  faults = d.faults;
}

-- a desk over memory before its first call: nothing is bound, nothing is left to read, nothing was written
abbrev pub fresh_memory : List (List ℕ) → Folder → List ℕ → ℕ → ℕ → MemoryState
fresh_memory words folder failing room piece = record {
  desk = record { words = words; folder = Some folder; bound = λ _. false; left = λ _. Some []; written = λ _. Some [] };
  failing = failing;
  room = λ _. room;
  piece = piece;
  calls = 0;
  faults = 0;
}

-- one more, up to 2^64 - 1
abbrev pub one_more : ℕ → ℕ
one_more n = min (n + 1) (2 ^ 64 - 1)

-- the number of the next call is among those that fail
abbrev pub next_fails : MemoryState → Bool
next_fails s = list_any (nat_eq (one_more s.calls)) s.failing

-- the word at this place names no file of the folder
abbrev pub is_missing : MemoryState → ℕ → Bool
is_missing s place = is_none (option_and_then (λ folder. option_and_then (file_of folder) (slice_get s.desk.words place))
    s.desk.folder)

-- how many bytes more the slot has room for
abbrev pub room_left : MemoryState → OutSlot → ℕ
room_left s slot = s.room slot - length (unwrap_or (s.desk.written slot) [])

-- the slot has no room left
abbrev pub is_full : MemoryState → OutSlot → Bool
is_full s slot = nat_eq (room_left s slot) 0

-- one more call was counted, and a fault where it failed; what the desk was made with stays
pub record CountsCall (old new : MemoryState) (failed : Bool) : Type 0 where
  pub calls : new.calls ≡ one_more old.calls
  pub faults : new.faults ≡ (if failed then one_more old.faults else old.faults)
  pub failing : new.failing ≡ old.failing
  pub room : new.room ≡ old.room
  pub piece : new.piece ≡ old.piece

-- the desk with one fault more counted
abbrev pub after_fault : MemoryDesk → MemoryDesk
after_fault d = record d { faults = one_more d.faults }

-- the desk with one call more counted, and a fault where it failed
abbrev pub after_call : MemoryDesk → Bool → MemoryDesk
after_call d failed = record d { calls = one_more d.calls; faults = if failed then one_more d.faults else d.faults }
