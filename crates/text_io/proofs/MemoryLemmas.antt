-- How a desk that reads from memory changes.
use Rattle.std.proofs.Common.{◌≡◌, ℕ, Bool, true, false, List, [], ◌++◌, drop, Option, Some, None, is_some, slice_get, refl, sym}
use Rattle.std.proofs.Common.{◌∙◌, ap, subst}
use Rattle.std.specs.Prelude.{if◌then◌else◌}
use Rattle.std.specs.Option.{option_map, option_and_then}
use Rattle.text_io.specs.declared.named_files.Place.{Place}
use Rattle.text_io.specs.declared.slots.InSlot.{InSlot}
use Rattle.text_io.specs.declared.slots.OutSlot.{OutSlot}
use Rattle.text_io.specs.declared.slots.Slot.{Slot}
use Rattle.text_io.specs.declared.slots.Slot.TheVariants.{Input, Output}
use Rattle.text_io.specs.Slots.{same_in, same_out, put_in, put_out, put_slot}
use Rattle.text_io.specs.Desk.{DeskState, Folder, file_of, IsFileAt, opened, created, took, wrote}
use Rattle.text_io.specs.NamedFiles.{rest_of}
use Rattle.text_io.proofs.PutLemmas.{push_if, if_same, put_in-same}
use Rattle.text_io.proofs.Wrote.{wrote-nil, wrote-same}
use Rattle.text_io.specs.Memory.{bound_slots, left_at, reads_memory, fresh_memory, MemoryState, is_missing}

-- a slot that is bound for reading
bound_by_place : (places : InSlot → Option Place) (flags : OutSlot → Bool) (slot : InSlot) (place : Place) (other : Slot)
    → bound_slots (put_in places slot (Some place)) flags other ≡ put_slot (bound_slots places flags) (Input slot) true other
bound_by_place places flags slot place (Input other) = push_if is_some (same_in slot other) (Some place) (places other)
bound_by_place places flags slot place (Output other) = refl

-- a slot that is bound for writing
bound_by_flag : (places : InSlot → Option Place) (flags : OutSlot → Bool) (slot : OutSlot) (other : Slot)
    → bound_slots places (put_out flags slot true) other ≡ put_slot (bound_slots places flags) (Output slot) true other
bound_by_flag places flags slot (Input other) = refl
bound_by_flag places flags slot (Output other) = refl

-- what is left where a slot has this place
left_by_place : (folder : Folder) (places : InSlot → Option Place) (slot other : InSlot) (place : Place) (rest : List ℕ)
    → rest_of folder place ≡ rest
    → Some (left_at folder (put_in places slot (Some place) other)) ≡ (if same_in slot other then Some rest
    else Some (left_at folder (places other)))
left_by_place folder places slot other place rest e =
    push_if (λ p. Some (left_at folder p)) (same_in slot other) (Some place) (places other)
    ∙ ap (λ bytes. if same_in slot other then Some bytes else Some (left_at folder (places other))) e

-- a slot that is bound to a file
pub memory-opened : (words : List (List ℕ)) (folder : Folder) (places : InSlot → Option Place) (flags : OutSlot
    → Bool) (written : OutSlot → Option (List ℕ))
    (slot : InSlot) (place : Place) (bytes : List ℕ) → rest_of folder place ≡ bytes
    → reads_memory words folder (put_in places slot (Some place)) flags written ≡ opened
    (reads_memory words folder places flags written) slot bytes
unfolding reads_memory opened
memory-opened words folder places flags written slot place bytes e = λ i. record {
  words = words;
  folder = Some folder;
  bound = λ other. bound_by_place places flags slot place other i;
  left = λ other. left_by_place folder places slot other place bytes e i;
  written = written;
}

-- a bound slot stays bound at another place
same_bound : (places : InSlot → Option Place) (flags : OutSlot → Bool) (slot : InSlot) (before after : Place)
    → places slot ≡ Some before
    → (other : Slot) → bound_slots (put_in places slot (Some after)) flags other ≡ bound_slots places flags other
same_bound places flags slot before after there (Input other) =
    push_if is_some (same_in slot other) (Some after) (places other)
    ∙ put_in-same (λ s. is_some (places s)) slot other true (sym (ap is_some there))
same_bound places flags slot before after there (Output other) = refl

-- a slot that is read
pub memory-took : (words : List (List ℕ)) (folder : Folder) (places : InSlot → Option Place) (flags : OutSlot
    → Bool) (written : OutSlot → Option (List ℕ))
    (slot : InSlot) (before after : Place) (count : ℕ) → places slot ≡ Some before
    → rest_of folder after ≡ drop count (rest_of folder before)
    → reads_memory words folder (put_in places slot (Some after)) flags written ≡ took
    (reads_memory words folder places flags written) slot count
unfolding reads_memory took
memory-took words folder places flags written slot before after count there e =
    let rest : option_map (drop count) (Some (left_at folder (places slot))) ≡ Some (drop count (rest_of folder before)) =
    ap (λ p. Some (drop count (left_at folder p))) there in
    λ i. record {
      words = words;
      folder = Some folder;
      bound = λ other. same_bound places flags slot before after there other i;
      left = λ other. (left_by_place folder places slot other after (drop count (rest_of folder before)) e
          ∙ ap (λ r. if same_in slot other then r else Some (left_at folder (places other))) (sym rest)) i;
      written = written;
    }

-- a slot that is bound for writing
pub memory-created : (words : List (List ℕ)) (folder : Folder) (places : InSlot → Option Place) (flags : OutSlot
    → Bool) (bytes : OutSlot → List ℕ) (slot : OutSlot)
    → reads_memory words folder places (put_out flags slot true) (λ other. Some (put_out bytes slot [] other))
    ≡ created (reads_memory words folder places flags (λ other. Some (bytes other))) slot
unfolding reads_memory created
memory-created words folder places flags bytes slot = λ i. record {
  words = words;
  folder = Some folder;
  bound = λ other. bound_by_flag places flags slot other i;
  left = λ other. Some (left_at folder (places other));
  written = λ other. push_if Some (same_out slot other) [] (bytes other) i;
}

-- a slot that is written
pub memory-wrote : (words : List (List ℕ)) (folder : Folder) (places : InSlot → Option Place) (flags : OutSlot
    → Bool) (bytes : OutSlot → List ℕ) (slot : OutSlot) (more : List ℕ)
    → reads_memory words folder places flags (λ other. Some (put_out bytes slot (bytes slot ++ more) other))
    ≡ wrote (reads_memory words folder places flags (λ other. Some (bytes other))) slot more
unfolding reads_memory wrote
memory-wrote words folder places flags bytes slot more = λ i. record {
  words = words;
  folder = Some folder;
  bound = bound_slots places flags;
  left = λ other. Some (left_at folder (places other));
  written = λ other. push_if Some (same_out slot other) (bytes slot ++ more) (bytes other) i;
}

-- before the first call
pub memory-fresh : (words : List (List ℕ)) (folder : Folder) (failing : List ℕ) (places : InSlot → Option Place) (flags : OutSlot
    → Bool)
    (bytes : OutSlot → List ℕ) (rooms : OutSlot → ℕ) (room piece : ℕ)
    → ((slot : InSlot) → places slot ≡ None) → ((slot : OutSlot) → flags slot ≡ false) → bytes ≡ (λ _. []) → rooms ≡ (λ _. room)
    → record {
      desk = reads_memory words folder places flags (λ other. Some (bytes other));
      failing = failing;
      room =
          rooms;
      piece = piece;
      calls = 0;
      faults = 0;
    }
    ≡ fresh_memory words folder failing room piece
unfolding reads_memory
memory-fresh words folder failing places flags bytes rooms room piece none off empty rooms_are = λ i. record {
  desk = record {
    words = words;
    folder = Some folder;
    bound = λ slot. nothing_bound slot i;
    left = λ slot. Some (left_at folder (none slot i));
    written = λ slot. Some (empty i slot);
  };
  failing = failing;
  room = rooms_are i;
  piece = piece;
  calls = 0;
  faults = 0;
}
  where
    nothing_bound : (slot : Slot) → bound_slots places flags slot ≡ false
    nothing_bound (Input slot) = ap is_some (none slot)
    nothing_bound (Output slot) = off slot

-- the same laws, from what the calls ensured

pub opened_as : (words : List (List ℕ)) (folder : Folder) (places after : InSlot → Option Place) (flags : OutSlot
    → Bool) (written : OutSlot → Option (List ℕ))
    (slot : InSlot) (place : Place) (bytes : List ℕ) (old : DeskState) → after ≡ put_in places slot (Some place)
    → rest_of folder place ≡ bytes
    → reads_memory words folder places flags written ≡ old → reads_memory words folder after flags written ≡ opened old slot bytes
opened_as words folder places after flags written slot place bytes old set rest same =
    ap (λ p. reads_memory words folder p flags written) set
    ∙ memory-opened words folder places flags written slot place bytes rest ∙ ap (λ d. opened d slot bytes) same

pub took_as : (words : List (List ℕ)) (folder : Folder) (places after : InSlot → Option Place) (flags : OutSlot
    → Bool) (written : OutSlot → Option (List ℕ))
    (slot : InSlot) (before place : Place) (count : ℕ) (old : DeskState) → after ≡ put_in places slot (Some place)
    → places slot ≡ Some before
    → rest_of folder place ≡ drop count (rest_of folder before)
    → reads_memory words folder places flags written ≡ old → reads_memory words folder after flags written ≡ took old slot count
took_as words folder places after flags written slot before place count old set there rest same =
    ap (λ p. reads_memory words folder p flags written) set
    ∙ memory-took words folder places flags written slot before place count there rest ∙ ap (λ d. took d slot count) same

pub created_as : (words : List (List ℕ)) (folder : Folder) (places : InSlot → Option Place) (flags flags' : OutSlot
    → Bool) (bytes bytes' : OutSlot → List ℕ) (slot : OutSlot)
    (old : DeskState) → flags' ≡ put_out flags slot true → bytes' ≡ put_out bytes slot []
    → reads_memory words folder places flags (λ other. Some (bytes other)) ≡ old
    → reads_memory words folder places flags' (λ other. Some (bytes' other)) ≡ created old slot
created_as words folder places flags flags' bytes bytes' slot old set cleared same =
    ap (λ f. reads_memory words folder places f (λ other. Some (bytes' other))) set
    ∙ ap (λ b. reads_memory words folder places (put_out flags slot true) (λ other. Some (b other))) cleared
    ∙ memory-created words folder places flags bytes slot ∙ ap (λ d. created d slot) same

pub wrote_as : (words : List (List ℕ)) (folder : Folder) (places : InSlot → Option Place) (flags : OutSlot
    → Bool) (bytes bytes' : OutSlot → List ℕ) (slot : OutSlot) (more more' : List ℕ)
    (old : DeskState) → bytes' ≡ put_out bytes slot (bytes slot ++ more) → more ≡ more'
    → reads_memory words folder places flags (λ other. Some (bytes other)) ≡ old
    → reads_memory words folder places flags (λ other. Some (bytes' other)) ≡ wrote old slot more'
wrote_as words folder places flags bytes bytes' slot more more' old put same_more same =
    ap (λ b. reads_memory words folder places flags (λ other. Some (b other))) put
    ∙ memory-wrote words folder places flags bytes slot more
    ∙ ap (λ m. wrote (reads_memory words folder places flags (λ other. Some (bytes other))) slot m) same_more
    ∙ ap (λ d. wrote d slot more') same

-- nothing was written to a slot that had no room
pub kept_as : (words : List (List ℕ)) (folder : Folder) (places : InSlot → Option Place) (flags : OutSlot
    → Bool) (bytes bytes' : OutSlot → List ℕ) (slot : OutSlot) (more : List ℕ)
    (old : DeskState) → bytes' ≡ put_out bytes slot (bytes slot ++ more) → more ≡ []
    → reads_memory words folder places flags (λ other. Some (bytes other)) ≡ old
    → reads_memory words folder places flags (λ other. Some (bytes' other)) ≡ old
kept_as words folder places flags bytes bytes' slot more old put nothing same =
    wrote_as words folder places flags bytes bytes' slot more [] old put nothing same ∙ wrote-nil old slot

-- the word at this place names a file with these bytes
pub file_told : (words : List (List ℕ)) (folder : Folder) (places : InSlot → Option Place) (flags : OutSlot
    → Bool) (written : OutSlot → Option (List ℕ)) (place : ℕ) (bytes : List ℕ)
    (old : DeskState) → option_and_then (file_of folder) (slice_get words place) ≡ Some bytes
    → reads_memory words folder places flags written ≡ old → IsFileAt old place bytes
unfolding reads_memory
file_told words folder places flags written place bytes old found same = subst (λ s. IsFileAt s place bytes) same found

-- a word that names a file is not missing
pub missing_not : (old : MemoryState) (place : ℕ) (bytes : List ℕ) (folder : Folder) → old.desk.folder ≡ Some folder
    → IsFileAt old.desk place bytes → is_missing old place ≡ false
missing_not old place bytes folder told file =
    let found = rw told at file in rw (told, found) refl

pub folder_told : (words : List (List ℕ)) (folder : Folder) (places : InSlot → Option Place) (flags : OutSlot
    → Bool) (written : OutSlot → Option (List ℕ))
    → (reads_memory words folder places flags written).folder ≡ Some folder
unfolding reads_memory
folder_told words folder places flags written = refl

-- the same where the bytes written are not told

pub sure-created : (words : List (List ℕ)) (folder : Folder) (places : InSlot → Option Place) (flags flags' : OutSlot
    → Bool) (slot : OutSlot) → flags' ≡ put_out flags slot true
    → reads_memory words folder places flags' (λ _. None) ≡ created (reads_memory words folder places flags (λ _. None)) slot
unfolding reads_memory created
sure-created words folder places flags flags' slot set = ap (λ f. reads_memory words folder places f (λ _. None)) set
    ∙ λ i. record {
      words = words;
      folder = Some folder;
      bound = λ other. bound_by_flag places flags slot other i;
      left = λ other. Some (left_at folder (places other));
      written = λ other. sym (if_same (same_out slot other) None) i;
    }

pub sure-wrote : (words : List (List ℕ)) (folder : Folder) (places : InSlot → Option Place) (flags : OutSlot
    → Bool) (slot : OutSlot) (bytes : List ℕ)
    → reads_memory words folder places flags (λ _. None) ≡ wrote (reads_memory words folder places flags (λ _. None)) slot bytes
unfolding reads_memory
sure-wrote words folder places flags slot bytes =
    sym (wrote-same (reads_memory words folder places flags (λ _. None)) slot bytes refl)
