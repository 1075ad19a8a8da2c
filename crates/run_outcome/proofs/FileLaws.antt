-- What was known of a desk before files were bound and read, and the files that are bound.
use Rattle.std.proofs.Common.{◌≡◌, ◌<◌, ℕ, ◌+◌, zero, suc, Bool, true, false, ◌||◌, ◌&&◌, List, [], ◌∷◌, ◌++◌, take, length, drop}
use Rattle.std.proofs.Common.{Option, Some, None, IfSome, IsSome, refl, sym, ap, subst, ◌∙◌, append_assoc, arith}
use Rattle.std.specs.Prelude.{slice_index_or}
use Rattle.std.specs.Option.{option_map}
use Rattle.std.proofs.lemmas.List.{length-append}
use Rattle.std.proofs.Math.Seq.{take-append_seam}
use Rattle.text_io.specs.declared.slots.InSlot.{InSlot}
use Rattle.text_io.specs.declared.slots.OutSlot.{OutSlot}
use Rattle.text_io.specs.declared.slots.Slot.{Slot}
use Rattle.text_io.specs.declared.slots.Slot.TheVariants.{Input, Output}
use Rattle.text_io.specs.Slots.{put_in}
use Rattle.text_io.specs.Desk.{DeskState, Folder, opened, created, took, IsFileAt}
use Rattle.run_outcome.specs.Binding.{Files, bound_at, bound_state, IsNamed, AreNamed, HasOutputs, took_all, TellsAt, Tells}
use Rattle.run_outcome.specs.FilesRead.{are_inputs, is_input_slot, is_read_among}
use Rattle.run_outcome.proofs.SlotLaws.{same_in-swap, put_in-other, left-took_all}

-- both of two that are not true
first_false : (a b : Bool) → (a || b) ≡ false → a ≡ false
first_false false b e = refl
first_false true b e = absurd cc

second_false : (a b : Bool) → (a || b) ≡ false → b ≡ false
second_false false b e = e
second_false true b e = absurd cc

-- The words and the folder.

words-bound_at : (s : DeskState) (slot : Slot) (bytes : InSlot → List ℕ) → (bound_at s slot bytes).words ≡ s.words
unfolding opened created
words-bound_at s (Input slot) bytes = refl
words-bound_at s (Output slot) bytes = refl

folder-bound_at : (s : DeskState) (slot : Slot) (bytes : InSlot → List ℕ) → (bound_at s slot bytes).folder ≡ s.folder
unfolding opened created
folder-bound_at s (Input slot) bytes = refl
folder-bound_at s (Output slot) bytes = refl

words-bound_state : (s : DeskState) (files : Files) (bytes : InSlot → List ℕ) → (bound_state s files bytes).words ≡ s.words
words-bound_state s [] bytes = refl
words-bound_state s (file ∷ files) bytes = words-bound_state (bound_at s file.0 bytes) files bytes ∙ words-bound_at s file.0 bytes

folder-bound_state : (s : DeskState) (files : Files) (bytes : InSlot → List ℕ) → (bound_state s files bytes).folder ≡ s.folder
folder-bound_state s [] bytes = refl
folder-bound_state s (file ∷ files) bytes = folder-bound_state (bound_at s file.0 bytes) files bytes
    ∙ folder-bound_at s file.0 bytes

words-took_all : (s : DeskState) (taken : InSlot → ℕ) → (took_all s taken).words ≡ s.words
unfolding took took_all
words-took_all s taken = refl

folder-took_all : (s : DeskState) (taken : InSlot → ℕ) → (took_all s taken).folder ≡ s.folder
unfolding took took_all
folder-took_all s taken = refl

pub words_before : (old now : DeskState) (files : Files) (bytes : InSlot → List ℕ) (taken : InSlot → ℕ)
    → now ≡ took_all (bound_state old files bytes) taken → now.words ≡ old.words
words_before old now files bytes taken e = ap (λ s. s.words) e ∙ words-took_all (bound_state old files bytes) taken
    ∙ words-bound_state old files bytes

folder_before : (old now : DeskState) (files : Files) (bytes : InSlot → List ℕ) (taken : InSlot → ℕ)
    → now ≡ took_all (bound_state old files bytes) taken → now.folder ≡ old.folder
folder_before old now files bytes taken e = ap (λ s. s.folder) e ∙ folder-took_all (bound_state old files bytes) taken
    ∙ folder-bound_state old files bytes

file_at_same : (s t : DeskState) (place : ℕ) (bytes : List ℕ) → s.words ≡ t.words → s.folder ≡ t.folder → IsFileAt s place bytes
    → IsFileAt t place bytes
file_at_same s t place bytes w f h = rw (w, f) at h

-- a file that a word names was so before
pub file_before : (old now : DeskState) (files : Files) (bytes : InSlot → List ℕ) (taken : InSlot
    → ℕ) (place : ℕ) (content : List ℕ) → now ≡ took_all (bound_state old files bytes) taken
    → IsFileAt now place content → IsFileAt old place content
file_before old now files bytes taken place content e h =
    file_at_same now old place content (words_before old now files bytes taken e) (folder_before old now files bytes taken e) h

-- What is left of a slot that none of the files is bound to.

left-bound_at : (s : DeskState) (slot : Slot) (bytes : InSlot → List ℕ) (t : InSlot) → is_input_slot t slot ≡ false
    → (bound_at s slot bytes).left t ≡ s.left t
unfolding opened created
left-bound_at s (Input slot) bytes t other =
    put_in-other s.left slot (option_map (λ _. bytes slot) (s.left slot)) t (same_in-swap slot t ∙ other)
left-bound_at s (Output slot) bytes t other = refl

left-bound_state : (s : DeskState) (files : Files) (bytes : InSlot → List ℕ) (t : InSlot) → is_read_among t files ≡ false
    → (bound_state s files bytes).left t ≡ s.left t
left-bound_state s [] bytes t fresh = refl
left-bound_state s (file ∷ files) bytes t fresh =
    left-bound_state (bound_at s file.0 bytes) files bytes t (second_false (is_input_slot t file.0) (is_read_among t files) fresh)
    ∙ left-bound_at s file.0 bytes t (first_false (is_input_slot t file.0) (is_read_among t files) fresh)

left_before : (old now : DeskState) (files : Files) (bytes : InSlot → List ℕ) (taken : InSlot → ℕ) (slot : InSlot)
    → is_read_among slot files ≡ false
    → now ≡ took_all (bound_state old files bytes) taken → now.left slot ≡ option_map (drop (taken slot)) (old.left slot)
left_before old now files bytes taken slot fresh e =
    ap (λ s. s.left slot) e
    ∙ left-took_all (bound_state old files bytes) taken slot
    ∙ ap (option_map (drop (taken slot))) (left-bound_state old files bytes slot fresh)

of_told : (o now : Option (List ℕ)) (n : ℕ) (P : Type 0) → now ≡ option_map (drop n) o → IsSome o → IfSome now (λ _. P) → P
of_told None now n P e told h = absurd cc
of_told (Some left) now n P e told h = rw e at h

-- what holds where the desk tells what is left of a slot that none of the files is bound to
pub where_told : (old now : DeskState) (files : Files) (bytes : InSlot → List ℕ) (taken : InSlot → ℕ) (slot : InSlot) (P : Type 0)
    → is_read_among slot files ≡ false
    → now ≡ took_all (bound_state old files bytes) taken → IsSome (old.left slot) → IfSome (now.left slot) (λ _. P) → P
where_told old now files bytes taken slot P fresh e told h =
    of_told (old.left slot) (now.left slot) (taken slot) P (left_before old now files bytes taken slot fresh e) told h

-- Bytes for one slot more.

bound_at-put : (s : DeskState) (slot : Slot) (bytes : InSlot → List ℕ) (t : InSlot) (content : List ℕ)
    → is_input_slot t slot ≡ false
    → bound_at s slot (put_in bytes t content) ≡ bound_at s slot bytes
bound_at-put s (Input slot) bytes t content other = ap (opened s slot) (put_in-other bytes t content slot other)
bound_at-put s (Output slot) bytes t content other = refl

pub bound_state-put : (s : DeskState) (files : Files) (bytes : InSlot → List ℕ) (t : InSlot) (content : List ℕ)
    → is_read_among t files ≡ false
    → bound_state s files (put_in bytes t content) ≡ bound_state s files bytes
bound_state-put s [] bytes t content fresh = refl
bound_state-put s (file ∷ files) bytes t content fresh =
    bound_state-put (bound_at s file.0 (put_in bytes t content)) files bytes t content
    (second_false (is_input_slot t file.0) (is_read_among t files) fresh)
    ∙ ap (λ x. bound_state x files bytes)
    (bound_at-put s file.0 bytes t content (first_false (is_input_slot t file.0) (is_read_among t files) fresh))

named-put : (s : DeskState) (slot : Slot) (place : ℕ) (bytes : InSlot → List ℕ) (t : InSlot) (content : List ℕ)
    → is_input_slot t slot ≡ false
    → IsNamed s slot place bytes → IsNamed s slot place (put_in bytes t content)
named-put s (Input slot) place bytes t content other h =
    subst (IsFileAt s place) (sym (put_in-other bytes t content slot other)) h
named-put s (Output slot) place bytes t content other h = tt

pub AreNamed-put : (s : DeskState) (files : Files) (bytes : InSlot → List ℕ) (t : InSlot) (content : List ℕ)
    → is_read_among t files ≡ false
    → AreNamed s files bytes → AreNamed s files (put_in bytes t content)
AreNamed-put s [] bytes t content fresh h = tt
AreNamed-put s (file ∷ files) bytes t content fresh h = (
  named-put s file.0 file.1 bytes t content (first_false (is_input_slot t file.0) (is_read_among t files) fresh) h.0,
  AreNamed-put s files bytes t content (second_false (is_input_slot t file.0) (is_read_among t files) fresh) h.1,
)

pub AreNamed-more : (s : DeskState) (files more : Files) (bytes : InSlot → List ℕ) → AreNamed s files bytes
    → AreNamed s more bytes → AreNamed s (files ++ more) bytes
AreNamed-more s [] more bytes h k = k
AreNamed-more s (file ∷ files) more bytes h k = (h.0, AreNamed-more s files more bytes h.1 k)

-- The files of a command.

-- the desk tells those behind the first
Tells-behind : (files more : Files) (s : DeskState) (folder : Folder) → Tells (files ++ more) s folder → Tells more s folder
Tells-behind [] more s folder h = h
Tells-behind (file ∷ files) more s folder h = Tells-behind files more s folder h.1

-- the desk tells the file behind the first
pub tells_next : (files done others : Files) (slot : InSlot) (place : ℕ) (s : DeskState) (folder : Folder)
    → ((done ++ ((Input slot, place) ∷ [])) ++ others) ≡ files
    → Tells files s folder → TellsAt s folder (Input slot)
tells_next files done others slot place s folder e h =
    let all = subst (λ f. Tells f s folder) (sym e ∙ append_assoc done ((Input slot, place) ∷ []) others) h in
    (Tells-behind done ((Input slot, place) ∷ others) s folder all).0

-- so many of the files as the first and one more
pub first_files : (files done others : Files) (file : Slot × ℕ) → ((done ++ (file ∷ [])) ++ others) ≡ files
    → done ++ (file ∷ []) ≡ take (length done + 1) files
first_files files done others file e =
    sym (take-append_seam (done ++ (file ∷ [])) others)
    ∙ ap (λ n. take n ((done ++ (file ∷ [])) ++ others)) (length-append done (file ∷ [])) ∙ ap (take (length done + 1)) e

no_output_at : (files : Files) → are_inputs files ≡ true → (slot : OutSlot) (place k : ℕ) → k < length files
    → slice_index_or files k (Output slot, place) ≡ (Output slot, place) → ⊥
no_output_at [] all slot place k h e = omega (arith, h)
no_output_at ((Input s, n) ∷ files) all slot place zero h e = let same : ◌≡◌ (Input s) (Output slot) = ap (λ file. file.0) e in cc
no_output_at ((Output s, n) ∷ files) all slot place k h e = cc
no_output_at ((Input s, n) ∷ files) all slot place (suc k) h e = no_output_at files all slot place k (omega (arith, h)) e

-- none of them is written
pub reads_alone : (files first : Files) → are_inputs files ≡ true → HasOutputs first files
reads_alone files first all = λ slot place has. absurd (no_output_at files all slot place has.0 has.1 has.2)
