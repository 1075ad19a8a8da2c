-- Runs that bind and read nothing.
use Rattle.std.proofs.Common.{◌≡◌, ℕ, List, [], take, Result, Ok, Err, MatchResult, IsTrue, Contains, refl, sym, ap, subst, ◌∙◌}
use Rattle.std.proofs.lemmas.List.{append-nil}
use Rattle.text_io.specs.declared.outside.Failed.{Failed}
use Rattle.text_io.specs.declared.slots.OutSlot.{OutSlot}
use Rattle.text_io.specs.declared.slots.OutSlot.TheVariants.{Report, Faults}
use Rattle.text_io.specs.declared.slots.Slot.TheVariants.{Output}
use Rattle.text_io.specs.Desk.{DeskState, Folder, wrote, IsPrefix, WritesText}
use Rattle.text_io.proofs.Wrote.{wrote-nil}
use Rattle.run_outcome.specs.declared.status.Status.{Status}
use Rattle.run_outcome.specs.declared.status.Status.TheVariants.{Outside, Memory}
use Rattle.run_outcome.specs.Status.{is_decided}
use Rattle.run_outcome.specs.Written.{Written, nothing_written, in_report, wrote_all}
use Rattle.run_outcome.specs.Binding.{Files, took_all}
use Rattle.run_outcome.specs.Outcome.{Outcome, IsPartOf, IsAllOf}
use Rattle.run_outcome.specs.Runs.{RunsAs}
use Rattle.run_outcome.proofs.WrittenLaws.{wrote_all-nothing, wrote_all-report, IsPart-nothing, IsPart-all}
use Rattle.run_outcome.proofs.BindingLaws.{IsFront-nothing, took_all-nothing}

pub nothing : (whole : List ℕ) → IsPrefix [] whole
nothing whole = (whole, refl)

pub whole_prefix : (text : List ℕ) → IsPrefix text text
whole_prefix text = ([], append-nil text)

-- a failed run is not decided
pub undecided : (result : Status) → result ≡ Outside → IsTrue (is_decided result) → {A : Type 0} → A
undecided result e d = absurd (let h = rw e at d in cc)

-- nothing was read
unread : (s : DeskState) (text : Written) (faults : List ℕ)
    → wrote (wrote_all s text) Faults faults ≡ wrote (wrote_all (took_all s (λ _. 0)) text) Faults faults
unread s text faults = ap (λ t. wrote (wrote_all t text) Faults faults) (sym (took_all-nothing s))

-- lines were added to the report alone
reported : (s : DeskState) (text : List ℕ)
    → wrote s Report text ≡ wrote (wrote_all (took_all s (λ _. 0)) (in_report text)) Faults []
reported s text = sym (wrote_all-report s text) ∙ sym (wrote-nil (wrote_all s (in_report text)) Faults)
    ∙ unread s (in_report text) []

-- lines were added to the faults alone
faulted : (s : DeskState) (text : List ℕ)
    → wrote s Faults text ≡ wrote (wrote_all (took_all s (λ _. 0)) nothing_written) Faults text
faulted s text = ap (λ t. wrote t Faults text) (sym (wrote_all-nothing s)) ∙ unread s nothing_written text

-- a run that has read nothing
abbrev pub RunsUnread : Files → (Folder → Outcome) → DeskState → DeskState → Status → Type 0
RunsUnread files outcome old new result = (run : RunsAs files outcome old new result) × (run.taken ≡ (λ _. 0))

-- a run of a command without files that ended so
plain : (files : Files) (outcome : Folder → Outcome) (old new : DeskState) (result : Status) (text : Written) (faults : List ℕ)
    → files ≡ []
    → new ≡ wrote (wrote_all (took_all old (λ _. 0)) text) Faults faults
    → ((folder : Folder) → IsPartOf text faults (outcome folder))
    → (IsTrue (is_decided result) → (folder : Folder) → (0 ≡ (outcome folder).binds)
    × IsAllOf result text faults (outcome folder))
    → RunsUnread files outcome old new result
plain files outcome old new result text faults none state part whole =
    let run : RunsAs files outcome old new result = record {
      bound = [];
      bytes = λ _. [];
      taken = λ _. 0;
      text = text;
      faults = faults;
      state = state;
      planned = IsFront-nothing files;
      named = tt;
      part = λ folder _. part folder;
      outputs = λ _ slot place has. subst (λ l. Contains l (Output slot, place)) none has;
      all_bound = λ d folder _. ap (λ n. take n files) (whole d folder).0;
      whole = λ d folder _. (whole d folder).1;
    } in
    (run, refl)

-- what a run comes to that appends this to the report alone
abbrev pub reporting : Status → List ℕ → Outcome
reporting status text = record { status = status; binds = 0; text = in_report text; faults = [] }

-- what a run comes to that appends this to the faults alone
abbrev pub faulting : Status → List ℕ → Outcome
faulting status line = record { status = status; binds = 0; text = nothing_written; faults = line }

-- what a run without files comes to that appends a text to a slot, and ends so where the writing did not fail
abbrev RunsBy : Type 0 → OutSlot → (Status → List ℕ → Outcome) → Type 0
RunsBy T slot told =
    (files : Files) (outcome : Folder → Outcome) (old new : DeskState) (text : List ℕ) (ends : Status)
    (written : Result T Failed) (result : Status)
    → files ≡ [] → ((folder : Folder) → outcome folder ≡ told ends text) → WritesText old new slot text written
    → MatchResult written (λ _. result ≡ ends) (λ _. result ≡ Outside) → RunsUnread files outcome old new result

-- a run that appends one text to the report
pub report_runs : {T : Type 0} → RunsBy T Report reporting
report_runs files outcome old new text ends (Ok x) result none e w r =
    plain files outcome old new result (in_report text) [] none (w.whole ∙ reported old text)
    (λ folder. rw (e folder) (record { text_part = IsPart-all (in_report text); faults_part = nothing [] }))
    (λ _ folder. rw (e folder) (refl, record { same_status = r; same_text = refl; same_faults = refl }))
report_runs files outcome old new text ends (Err y) result none e w r =
    plain files outcome old new result (in_report w.part.0) [] none (w.part.2 ∙ reported old w.part.0)
    (λ folder. rw (e folder) (record {
      text_part =
          record { verilog = nothing _; vital = nothing _; report = w.part.1 };
      faults_part = nothing [];
    }))
    (λ d. undecided result r d)

-- a run that appends one line to the faults
pub faults_runs : {T : Type 0} → RunsBy T Faults faulting
faults_runs files outcome old new line told (Ok x) result none e w r =
    plain files outcome old new result nothing_written line none (w.whole ∙ faulted old line)
    (λ folder. rw (e folder) (record { text_part = IsPart-nothing nothing_written; faults_part = whole_prefix line }))
    (λ _ folder. rw (e folder) (refl, record { same_status = r; same_text = refl; same_faults = refl }))
faults_runs files outcome old new line told (Err y) result none e w r =
    plain files outcome old new result nothing_written w.part.0 none (w.part.2 ∙ faulted old w.part.0)
    (λ folder. rw (e folder) (record { text_part = IsPart-nothing nothing_written; faults_part = w.part.1 }))
    (λ d. undecided result r d)

-- a run that did nothing, for want of memory
pub nothing_runs : (files : Files) (outcome : Folder → Outcome) (old : DeskState) → RunsUnread files outcome old old Memory
nothing_runs files outcome old =
    let run : RunsAs files outcome old old Memory = record {
      bound = [];
      bytes = λ _. [];
      taken = λ _. 0;
      text = nothing_written;
      faults = [];
      state = sym (wrote-nil old Faults) ∙ faulted old [];
      planned = IsFront-nothing files;
      named = tt;
      part = λ folder _. record { text_part = IsPart-nothing _; faults_part = nothing _ };
      outputs = λ d. absurd cc;
      all_bound = λ d. absurd cc;
      whole = λ d. absurd cc;
    } in
    (run, refl)
