-- Runs that bind all their files, of which one is read, where a library stands, and others are written.
use Rattle.std.proofs.Common.{◌≡◌, ℕ, List, [], ◌∷◌, take, Option, Some, Result, Ok, Err, IsTrue, IfSome, refl, sym, ap, subst}
use Rattle.std.proofs.Common.{◌∙◌}
use Rattle.std.specs.Option.{option_map}
use Rattle.text_io.specs.declared.outside.Failed.{Failed}
use Rattle.text_io.specs.declared.slots.InSlot.{InSlot}
use Rattle.text_io.specs.declared.slots.InSlot.TheVariants.{Library}
use Rattle.text_io.specs.declared.slots.OutSlot.TheVariants.{Faults}
use Rattle.text_io.specs.declared.slots.Slot.TheVariants.{Input}
use Rattle.text_io.specs.Desk.{DeskState, Folder, took, wrote}
use Rattle.text_io.proofs.Wrote.{wrote-nil}
use Rattle.run_outcome.specs.declared.status.Status.{Status}
use Rattle.run_outcome.specs.declared.status.Status.TheVariants.{Outside}
use Rattle.run_outcome.specs.Status.{is_decided}
use Rattle.run_outcome.specs.Written.{Written, nothing_written, wrote_all}
use Rattle.run_outcome.specs.Outcome.{Outcome, IsPartOf, IsAllOf}
use Rattle.run_outcome.specs.Binding.{Files, bound_state, AreNamed, Binds, took_all, only, Tells, bytes_at}
use Rattle.run_outcome.specs.Runs.{RunsAs}
use Rattle.run_outcome.proofs.BindingLaws.{IsFront-all, took_all-nothing, took_all-only, left_told, named_bytes}
use Rattle.run_outcome.proofs.WrittenLaws.{wrote_all-nothing, IsPart-nothing}
use Rattle.run_outcome.proofs.RunsLaws.{nothing}

-- all files were bound
pub bound_all : {T : Type 0} (files : Files) (old new : DeskState) (x : T) (b : Binds {T = T} files old new (Ok x))
    → new ≡ bound_state old files b.bytes
bound_all files old new x b = b.state ∙ ap (λ bound. bound_state old bound b.bytes) b.whole

-- and are those that the words name
pub named_all : {T : Type 0} (files : Files) (old new : DeskState) (x : T) (b : Binds {T = T} files old new (Ok x))
    → AreNamed old files b.bytes
named_all files old new x b = subst (λ bound. AreNamed old bound b.bytes) b.whole b.named

-- nothing was read or written
pub untouched : (s : DeskState) → s ≡ wrote (wrote_all (took_all s (λ _. 0)) nothing_written) Faults []
untouched s =
    sym (took_all-nothing s) ∙ sym (wrote_all-nothing (took_all s (λ _. 0)))
    ∙ sym (wrote-nil (wrote_all (took_all s (λ _. 0)) nothing_written) Faults)

-- a file could not be bound
unfoldable pub unbound_runs : {T : Type 0} (files : Files) (outcome : Folder → Outcome) (old new : DeskState)
    (r : Result T Failed) → Binds files old new r
    → RunsAs files outcome old new Outside
unbound_runs files outcome old new r b = record {
  bound = b.bound;
  bytes = b.bytes;
  taken = λ _. 0;
  text = nothing_written;
  faults = [];
  state = b.state ∙ untouched (bound_state old b.bound b.bytes);
  planned = b.planned;
  named = b.named;
  part = λ folder _. record { text_part = IsPart-nothing _; faults_part = nothing _ };
  outputs = λ d. absurd cc;
  all_bound = λ d. absurd cc;
  whole = λ d. absurd cc;
}

-- of the files the first is read where a library stands, and no other there
abbrev pub ReadsLibrary : Files → Files → Type 0
ReadsLibrary files others = (files ≡ (Input Library, 1) ∷ others)
    × ((old : DeskState) (bytes : InSlot → List ℕ)
    → (bound_state old files bytes).left Library ≡ option_map (λ _. bytes Library) (old.left Library))

-- what holds of the bytes of the file that is bound holds of the file that the words name
pub told : (files others : Files) (P : List ℕ → Type 0) (old now : DeskState) (folder : Folder) (bytes : InSlot → List ℕ)
    → ReadsLibrary files others
    → now ≡ bound_state old files bytes → AreNamed old files bytes → Tells files old folder → IfSome (now.left Library) P
    → P (bytes_at old.words folder 1)
told files others P old now folder bytes reads e f tells h =
    let tells_first : Tells ((Input Library, 1) ∷ others) old folder = subst (λ x. Tells x old folder) reads.0 tells in
    let named_first : AreNamed old ((Input Library, 1) ∷ others) bytes = subst (λ x. AreNamed old x bytes) reads.0 f in
    let known : now.left Library ≡ Some (bytes Library) =
    ap (λ s. s.left Library) e ∙ reads.1 old bytes ∙ left_told (old.left Library) (bytes Library) tells_first.0.1 in
    let same = named_bytes old folder 1 (bytes Library) tells_first.0.0 named_first.0 in
    rw same (rw known at h)

-- all were bound, and what the outcome of the bytes read appends was appended, or a part of it
unfoldable pub library_runs : (files others : Files) (outcome : List ℕ → Outcome) (old now new : DeskState) (bytes : InSlot
    → List ℕ) (result : Status) (taken : ℕ)
    (text : Written) (faults : List ℕ) → ReadsLibrary files others → ((all : List ℕ) → files ≡ take (outcome all).binds files)
    → now ≡ bound_state old files bytes → AreNamed old files bytes
    → new ≡ wrote (wrote_all (took now Library taken) text) Faults faults
    → IfSome (now.left Library) (λ all. IsPartOf text faults (outcome all))
    → (IsTrue (is_decided result) → IfSome (now.left Library) (λ all. IsAllOf result text faults (outcome all)))
    → RunsAs files (λ folder. outcome (bytes_at old.words folder 1)) old new result
library_runs files others outcome old now new bytes result taken text faults reads binds h f state part whole = record {
  bound = files;
  bytes = bytes;
  taken = only Library taken;
  text = text;
  faults = faults;
  state = state ∙ ap (λ s. wrote (wrote_all s text) Faults faults)
      (ap (λ s. took s Library taken) h ∙ sym (took_all-only (bound_state old files bytes) Library taken));
  planned = IsFront-all files;
  named = f;
  part = λ folder tells. told files others (λ all. IsPartOf text faults (outcome all)) old now folder bytes reads h f tells part;
  outputs = λ d slot place has. has;
  all_bound = λ d folder tells. binds (bytes_at old.words folder 1);
  whole = λ d folder tells. told files others (λ all. IsAllOf result text faults (outcome all)) old now folder bytes reads h f
      tells (whole d);
}
