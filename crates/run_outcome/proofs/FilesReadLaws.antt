-- Runs of a command that reads all its files, one after another.
use Rattle.std.proofs.Common.{◌≡◌, ◌⊎◌, inl, inr, ℕ, ◌+◌, Bool, true, false, List, [], ◌∷◌, ◌++◌, take, length, Result, Ok, Err}
use Rattle.std.proofs.Common.{IfSome, IsTrue, refl, sym, ap, subst, ◌∙◌}
use Rattle.std.proofs.lemmas.List.{append-nil}
use Rattle.std.proofs.Math.Seq.{take-length}
use Rattle.text_io.specs.declared.slots.InSlot.{InSlot}
use Rattle.text_io.specs.declared.slots.OutSlot.TheVariants.{Report, Faults}
use Rattle.text_io.specs.declared.slots.Slot.TheVariants.{Input}
use Rattle.text_io.specs.Slots.{put_in}
use Rattle.text_io.specs.Desk.{DeskState, Folder, opened, took, wrote, IsFileAt, IsPrefix}
use Rattle.text_io.proofs.Wrote.{wrote-nil}
use Rattle.run_outcome.specs.declared.status.Status.{Status}
use Rattle.run_outcome.specs.Status.{is_decided}
use Rattle.run_outcome.specs.Written.{nothing_written, in_report, wrote_all}
use Rattle.run_outcome.specs.Binding.{Files, bound_state, AreNamed, IsFront, took_all, Tells, TellsAt, bytes_at}
use Rattle.run_outcome.specs.Outcome.{Outcome, IsPartOf}
use Rattle.run_outcome.specs.Runs.{RunsAs}
use Rattle.run_outcome.specs.FileSteps.{FileStop, FileAnswer, outcome_by, opened_where, FileIsTaken, FileEndsRun}
use Rattle.run_outcome.specs.FilesRead.{are_inputs, is_read_among, HasRead}
use Rattle.run_outcome.proofs.WrittenLaws.{wrote_all-nothing, wrote_all-report, IsPart-nothing}
use Rattle.run_outcome.proofs.BindingLaws.{IsFront-nothing, bound_state-more, took_all-nothing, named_bytes}
use Rattle.run_outcome.proofs.RunsLaws.{nothing}
use Rattle.run_outcome.proofs.SlotLaws.{put_in-there, took-took_all, opened-took_all}
use Rattle.run_outcome.proofs.FileLaws.{file_before, where_told, bound_state-put, AreNamed-put, AreNamed-more, tells_next}
use Rattle.run_outcome.proofs.FileLaws.{first_files, reads_alone}

-- what a run comes to at the file that the word at this place names, the last of so many
abbrev pub at_file : {T : Type 0} → List (List ℕ) → FileAnswer T → ℕ → ℕ → (T → Folder → Outcome) → Folder → Outcome
at_file words answer place binds more folder =
    outcome_by binds (answer (bytes_at words folder place)) (λ value. more value folder)

-- the files so far and one more
abbrev pub with_file : Files → InSlot → ℕ → Files
with_file done slot place = done ++ ((Input slot, place) ∷ [])

-- before the first file
pub nothing_read : (files : Files) (outcome : Folder → Outcome) (s : DeskState) → HasRead files [] outcome outcome s s
nothing_read files outcome s = record {
  bytes = λ _. [];
  taken = λ _. 0;
  state = sym (took_all-nothing s);
  planned = IsFront-nothing files;
  named = tt;
  goes_on = λ folder tells. refl;
}

-- The state behind one file more.

more_state : (old now : DeskState) (done : Files) (bytes : InSlot → List ℕ) (taken : InSlot → ℕ) (slot : InSlot) (place : ℕ)
    (content : List ℕ) (count : ℕ)
    → is_read_among slot done ≡ false → now ≡ took_all (bound_state old done bytes) taken
    → took (opened now slot content) slot count
    ≡ took_all (bound_state old (with_file done slot place) (put_in bytes slot content))
    (put_in (put_in taken slot 0) slot (put_in taken slot 0 slot + count))
more_state old now done bytes taken slot place content count fresh e =
    let before = bound_state old done bytes in
    let bound : opened before slot content ≡ bound_state old (with_file done slot place) (put_in bytes slot content) =
    sym (bound_state-more old done ((Input slot, place) ∷ []) (put_in bytes slot content)
    ∙ ap (λ s. opened s slot (put_in bytes slot content slot)) (bound_state-put old done bytes slot content fresh)
    ∙ ap (opened before slot) (put_in-there bytes slot content)) in
    ap (λ s. took (opened s slot content) slot count) e
    ∙ ap (λ s. took s slot count) (opened-took_all before taken slot content)
    ∙ took-took_all (opened before slot content) (put_in taken slot 0) slot count
    ∙ ap (λ s. took_all s (put_in (put_in taken slot 0) slot (put_in taken slot 0 slot + count))) bound

more_named : (old now : DeskState) (done : Files) (bytes : InSlot → List ℕ) (taken : InSlot → ℕ) (slot : InSlot) (place : ℕ)
    (content : List ℕ) → is_read_among slot done ≡ false
    → now ≡ took_all (bound_state old done bytes) taken → AreNamed old done bytes → IsFileAt now place content
    → AreNamed old (with_file done slot place) (put_in bytes slot content)
more_named old now done bytes taken slot place content fresh e named h =
    AreNamed-more old done ((Input slot, place) ∷ []) (put_in bytes slot content)
    (AreNamed-put old done bytes slot content fresh named) (
      subst (IsFileAt old place) (sym (put_in-there bytes slot content)) (file_before old now done bytes taken place content e h),
      tt,
    )

-- what the bytes of the file are read as, where the desk tells the files
read_as : {T : Type 0} (files done : Files) (outcome behind : Folder → Outcome) (answer : FileAnswer T) (old now : DeskState)
    (slot : InSlot) (place : ℕ) (folder : Folder) (content : List ℕ)
    (P : Result T FileStop → Type 0)
    → HasRead files done outcome behind old now → is_read_among slot done ≡ false → IsFront (with_file done slot place) files
    → Tells files old folder
    → IsFileAt now place content → IfSome (now.left slot) (λ _. P (answer content)) → P (answer (bytes_at old.words folder place))
read_as files done outcome behind answer old now slot place folder content P r fresh front tells named h =
    let at : TellsAt old folder (Input slot) = tells_next files done front.0 slot place old folder front.1 tells in
    let there = named_bytes old folder place content at.0 (file_before old now done r.bytes r.taken place content r.state named)
    in
    subst (λ bytes. P (answer bytes)) (sym there)
    (where_told old now done r.bytes r.taken slot (P (answer content)) fresh r.state at.1 h)

-- one file more
pub one_more : {T : Type 0} (files done : Files) (outcome : Folder → Outcome) (answer : FileAnswer T) (more : T → Folder
    → Outcome) (old now new : DeskState) (slot : InSlot) (place binds : ℕ) (value : T)
    → HasRead files done outcome (at_file old.words answer place binds more) old now → is_read_among slot done ≡ false
    → IsFront (with_file done slot place) files
    → FileIsTaken answer now new slot place value → HasRead files (with_file done slot place) outcome (more value) old new
one_more {T = T} files done outcome answer more old now new slot place binds value r fresh front t = record {
  bytes = put_in r.bytes slot t.bytes;
  taken = put_in (put_in r.taken slot 0) slot (put_in r.taken slot 0 slot + t.count);
  state = t.state ∙ more_state old now done r.bytes r.taken slot place t.bytes t.count fresh r.state;
  planned = front;
  named = more_named old now done r.bytes r.taken slot place t.bytes fresh r.state r.named t.named;
  goes_on = λ folder tells.
      r.goes_on folder tells
      ∙ ap (λ found. outcome_by binds found (λ value. more value folder))
      (read_as files done outcome (at_file old.words answer place binds more) answer old now slot place folder t.bytes
      (λ (found : Result T FileStop). found ≡ Ok value) r fresh front tells t.named t.told);
}

-- A run that ends at a file.

-- the files that are bound then
at_end : Bool → Files → InSlot → ℕ → Files
at_end true done slot place = with_file done slot place
at_end false done slot place = done

front_at_end : (bound : Bool) (files done : Files) (slot : InSlot) (place : ℕ) → IsFront done files
    → IsFront (with_file done slot place) files → IsFront (at_end bound done slot place) files
unfolding at_end
front_at_end true files done slot place h k = k
front_at_end false files done slot place h k = h

bytes_at_end : Bool → (InSlot → List ℕ) → InSlot → List ℕ → InSlot → List ℕ
bytes_at_end true bytes slot content = put_in bytes slot content
bytes_at_end false bytes slot content = bytes

taken_at_end : Bool → (InSlot → ℕ) → InSlot → ℕ → InSlot → ℕ
taken_at_end true taken slot count = put_in (put_in taken slot 0) slot (put_in taken slot 0 slot + count)
taken_at_end false taken slot count = put_in taken slot (taken slot + count)

state_at_end : (bound : Bool) (old now : DeskState) (done : Files) (bytes : InSlot → List ℕ) (taken : InSlot
    → ℕ) (slot : InSlot) (place : ℕ) (content : List ℕ) (count : ℕ)
    → is_read_among slot done ≡ false → now ≡ took_all (bound_state old done bytes) taken
    → took (opened_where bound now slot content) slot count
    ≡ took_all (bound_state old (at_end bound done slot place) (bytes_at_end bound bytes slot content))
    (taken_at_end bound taken slot count)
unfolding at_end bytes_at_end taken_at_end
state_at_end true old now done bytes taken slot place content count fresh e =
    more_state old now done bytes taken slot place content count fresh e
state_at_end false old now done bytes taken slot place content count fresh e =
    ap (λ s. took s slot count) e ∙ took-took_all (bound_state old done bytes) taken slot count

named_at_end : (bound : Bool) (old now : DeskState) (done : Files) (bytes : InSlot → List ℕ) (taken : InSlot
    → ℕ) (slot : InSlot) (place : ℕ) (content : List ℕ) → is_read_among slot done ≡ false
    → now ≡ took_all (bound_state old done bytes) taken → AreNamed old done bytes → (bound ≡ true → IsFileAt now place content)
    → AreNamed old (at_end bound done slot place) (bytes_at_end bound bytes slot content)
unfolding at_end bytes_at_end
named_at_end true old now done bytes taken slot place content fresh e named h =
    more_named old now done bytes taken slot place content fresh e named (h refl)
named_at_end false old now done bytes taken slot place content fresh e named h = named

-- nothing was appended but to the faults
faults_alone : (s : DeskState) (line : List ℕ) → wrote s Faults line ≡ wrote (wrote_all s nothing_written) Faults line
faults_alone s line = ap (λ t. wrote t Faults line) (sym (wrote_all-nothing s))

-- some of a line is told
part_of_line : (line whole : List ℕ) (status : Status) (binds : ℕ) (o : Outcome)
    → o ≡ record { status = status; binds = binds; text = nothing_written; faults = whole } → IsPrefix line whole
    → IsPartOf nothing_written line o
part_of_line line whole status binds o e p = rw e (record { text_part = IsPart-nothing nothing_written; faults_part = p })

-- none of it
no_line : (line : List ℕ) (o : Outcome) → line ≡ [] → IsPartOf nothing_written line o
no_line line o e = rw e (record { text_part = IsPart-nothing o.text; faults_part = nothing o.faults })

pub ends_there : {T : Type 0} (files done : Files) (outcome : Folder → Outcome) (answer : FileAnswer T) (more : T → Folder
    → Outcome) (old now new : DeskState) (slot : InSlot) (place binds : ℕ) (status : Status)
    → HasRead files done outcome (at_file old.words answer place binds more) old now → is_read_among slot done ≡ false
    → IsFront (with_file done slot place) files → binds ≡ length done + 1
    → are_inputs files ≡ true → FileEndsRun answer now new slot place status → RunsAs files outcome old new status
unfolding at_end
ends_there {T = T} files done outcome answer more old now new slot place binds status r fresh front count reads f = record {
  bound = at_end f.bound done slot place;
  bytes = bytes_at_end f.bound r.bytes slot f.bytes;
  taken = taken_at_end f.bound r.taken slot f.count;
  text = nothing_written;
  faults = f.line;
  state = f.state ∙ ap (λ s. wrote s Faults f.line)
      (state_at_end f.bound old now done r.bytes r.taken slot place f.bytes f.count fresh r.state) ∙ faults_alone _ f.line;
  planned = front_at_end f.bound files done slot place r.planned front;
  named = named_at_end f.bound old now done r.bytes r.taken slot place f.bytes fresh r.state r.named f.named;
  part = λ folder tells. by_part folder tells f.part;
  outputs = λ _. reads_alone files (at_end f.bound done slot place) reads;
  all_bound = λ d folder tells.
      ap (λ b. at_end b done slot place) (f.whole d).0
      ∙ first_files files done front.0 (Input slot, place) front.1
      ∙ ap (λ n. take n files) (sym count)
      ∙ ap (λ (o : Outcome). take o.binds files) (sym (ended d folder tells));
  whole = λ d folder tells. rw (ended d folder tells) (record { same_status = refl; same_text = refl; same_faults = refl });
}
  where
    comes : (folder : Folder) (stop : FileStop) → Tells files old folder → answer (bytes_at old.words folder place) ≡ Err stop
        → outcome folder ≡ record { status = stop.status; binds = binds; text = nothing_written; faults = stop.line }
    comes folder stop tells e = r.goes_on folder tells ∙ ap (λ found. outcome_by binds found (λ value. more value folder)) e

    ended : IsTrue (is_decided status) → (folder : Folder) → Tells files old folder
        → outcome folder ≡ record { status = status; binds = binds; text = nothing_written; faults = f.line }
    ended d folder tells =
        let whole = f.whole d in
        comes folder (record { status = status; line = f.line }) tells
        (read_as files done outcome (at_file old.words answer place binds more) answer old now slot place folder f.bytes
        (λ (found : Result T FileStop). found ≡ Err (record { status = status; line = f.line })) r fresh front tells
        (f.named whole.0) whole.1)

    by_part : (folder : Folder) → Tells files old folder
        → (f.line ≡ []) ⊎ ((f.bound ≡ true)
        × IfSome (now.left slot) (λ _. (stop : FileStop) × (answer f.bytes ≡ Err stop) × IsPrefix f.line stop.line))
        → IsPartOf nothing_written f.line (outcome folder)
    by_part folder tells (inl e) = no_line f.line (outcome folder) e
    by_part folder tells (inr h) =
        let (stop, read, p) = read_as files done outcome (at_file old.words answer place binds more) answer old now slot place
        folder f.bytes
        (λ (found : Result T FileStop). (stop : FileStop) × (found ≡ Err stop) × IsPrefix f.line stop.line) r fresh front tells
        (f.named h.0) h.1 in
        part_of_line f.line stop.line stop.status binds (outcome folder) (comes folder stop tells read) p

-- A run that ends between two files, for want of memory.
pub stops_between : (files done : Files) (outcome behind : Folder → Outcome) (old now : DeskState) (status : Status)
    → HasRead files done outcome behind old now → is_decided status ≡ false
    → RunsAs files outcome old now status
stops_between files done outcome behind old now status r undecided = record {
  bound = done;
  bytes = r.bytes;
  taken = r.taken;
  text = nothing_written;
  faults = [];
  state = r.state ∙ sym (wrote-nil (took_all (bound_state old done r.bytes) r.taken) Faults)
      ∙ faults_alone (took_all (bound_state old done r.bytes) r.taken) [];
  planned = r.planned;
  named = r.named;
  part = λ folder tells. no_line [] (outcome folder) refl;
  outputs = λ d. absurd (cc);
  all_bound = λ d. absurd (cc);
  whole = λ d. absurd (cc);
}

-- All files were read, and a part of a text was appended to the report: all of it where the run is decided, which then ends so.
pub reports_all : (files : Files) (outcome : Folder → Outcome) (old now new : DeskState) (ends result : Status)
    (text all : List ℕ)
    → HasRead files files outcome (λ _. record { status = ends; binds = length files; text = in_report all; faults = [] }) old now
    → are_inputs files ≡ true → new ≡ wrote now Report text → IsPrefix text all
    → (IsTrue (is_decided result) → (result ≡ ends) × (text ≡ all))
    → RunsAs files outcome old new result
reports_all files outcome old now new ends result text all r reads e part whole = record {
  bound = files;
  bytes = r.bytes;
  taken = r.taken;
  text = in_report text;
  faults = [];
  state = e ∙ sym (wrote_all-report now text) ∙ sym (wrote-nil (wrote_all now (in_report text)) Faults)
      ∙ ap (λ s. wrote (wrote_all s (in_report text)) Faults []) r.state;
  planned = ([], append-nil files);
  named = r.named;
  part = λ folder tells. rw (r.goes_on folder tells) (record {
    text_part = record { verilog = nothing []; vital = nothing []; report = part };
    faults_part = nothing [];
  });
  outputs = λ _. reads_alone files files reads;
  all_bound = λ d folder tells. sym (ap (λ (o : Outcome). take o.binds files) (r.goes_on folder tells) ∙ take-length files);
  whole = λ d folder tells. rw (r.goes_on folder tells) (record {
    same_status = (whole d).0;
    same_text = ap in_report (whole d).1;
    same_faults = refl;
  });
}
