-- Translating a library that is bound: what stands on the desk at each exit.
use Rattle.std.proofs.Common.{◌≡◌, ℕ, List, [], Result, Ok, Err, IfOk, IsErr, IfSome, sym, ap, ◌∙◌}
use Rattle.text_io.specs.declared.outside.Failed.{Failed}
use Rattle.text_io.specs.declared.slots.InSlot.TheVariants.{Library}
use Rattle.text_io.specs.declared.slots.OutSlot.TheVariants.{VerilogText, Faults}
use Rattle.text_io.specs.Desk.{DeskState, took, wrote, IsPrefix, WritesText}
use Rattle.text_io.proofs.Wrote.{wrote-nil}
use Rattle.text_io.proofs.Took.{took-zero}
use Rattle.verilog_writer.specs.Model.{prelude_text}
use Rattle.run_outcome.specs.declared.status.Status.{Status}
use Rattle.text_io.specs.declared.stop.Stop.{Stop}
use Rattle.library_reader.specs.declared.progress.Progress.{Progress}
use Rattle.cell_cursor.specs.declared.item.LibraryItem.{LibraryItem}
use Rattle.cell_cursor.specs.Ends.{items_within}
use Rattle.library_reader.specs.declared.ending.Ending.{Ending}
use Rattle.run_outcome.specs.Written.{Written, in_verilog, in_report, joined, IsPart, wrote_all}
use Rattle.library_reader.specs.Progress.{no_progress, progress_after}
use Rattle.library_reader.specs.WrittenItems.{HoldsCells}
use Rattle.library_translation.specs.Cells.{item_written, items_written}
use Rattle.run_outcome.specs.Outcome.{IsPartOf, IsAllOf}
use Rattle.library_reader.specs.Endings.{library_limit}
use Rattle.library_translation.specs.Library.{last_line, fault_line, status_at, outcome_at, translate_outcome, IsHandled, Handles}
use Rattle.library_translation.specs.Library.{IsFinished, Finishes, Translates}
use Rattle.library_translation.specs.Models.{HoldsModels}
use Rattle.library_translation.proofs.ModelsLemmas.{no_model_owed, behind_prelude, with_more}
use Rattle.run_outcome.proofs.WrittenLaws.{wrote_all-joined, wrote_all-verilog, took-wrote_all, IsPart-after, IsPart-front}
use Rattle.run_outcome.proofs.RunsLaws.{nothing}
use Rattle.library_reader.proofs.Claims.{IfSome-always, IfSome-map, IfOk-err}

prelude_part : (items : List LibraryItem) (end : Ending) (part : List ℕ) → IsPrefix part prelude_text
    → IsPartOf (in_verilog part) [] (outcome_at items end)
unfolding outcome_at
prelude_part items end part h =
    let front : IsPart (in_verilog part) (in_verilog prelude_text) =
    record { verilog = h; vital = nothing []; report = nothing [] } in
    record {
      text_part = IsPart-front (in_verilog part) (joined (in_verilog prelude_text) (items_written no_progress items)) _
          (IsPart-front (in_verilog part) (in_verilog prelude_text) (items_written no_progress items) front);
      faults_part = nothing (fault_line end);
    }

-- a stop before the items
pub prelude_stops : {S : Type 0} (old new : DeskState) (y : Failed) (r : Result Status Stop)
    → WritesText {T = S} old new VerilogText prelude_text (Err y) → IsErr r → Translates old new r
prelude_stops old new y r w e = record {
  taken = 0;
  text = in_verilog w.part.0;
  faults = [];
  state = w.part.2 ∙ sym (wrote_all-verilog old w.part.0)
      ∙ ap (λ s. wrote_all s (in_verilog w.part.0)) (sym (took-zero old Library))
      ∙ sym (wrote-nil (wrote_all (took old Library 0) (in_verilog w.part.0)) Faults);
  part = IfSome-always (old.left Library) (λ bytes. IsPartOf (in_verilog w.part.0) [] (translate_outcome bytes))
      (λ bytes. prelude_part _ _ w.part.0 w.part.1);
  models = IfSome-always (old.left Library) (λ bytes. HoldsModels bytes 0 (in_verilog w.part.0)) (λ bytes. no_model_owed bytes _);
  whole = IfOk-err r _ e;
}

-- what is left of the library after the prelude was written
left_behind : (old now : DeskState) (text : List ℕ) → now ≡ wrote old VerilogText text → now.left Library ≡ old.left Library
unfolding wrote
left_behind old now text e = ap (λ s. s.left Library) e

-- the prelude, and then the items
handled_state : (old now next : DeskState) (taken : ℕ) (text : Written) → now ≡ wrote old VerilogText prelude_text
    → next ≡ wrote_all (took now Library taken) text
    → next ≡ wrote_all (took old Library taken) (joined (in_verilog prelude_text) text)
handled_state old now next taken text first second =
    second
    ∙ ap (λ s. wrote_all (took s Library taken) text) (first ∙ sym (wrote_all-verilog old prelude_text))
    ∙ ap (λ s. wrote_all s text) (took-wrote_all old (in_verilog prelude_text) Library taken)
    ∙ wrote_all-joined (took old Library taken) (in_verilog prelude_text) text

items_part : (items : List LibraryItem) (end : Ending) (text : Written) → IsPart text (items_written no_progress items)
    → IsPartOf (joined (in_verilog prelude_text) text) [] (outcome_at items end)
unfolding outcome_at
items_part items end text h = record {
  text_part = IsPart-front (joined (in_verilog prelude_text) text)
      (joined (in_verilog prelude_text) (items_written no_progress items)) _
      (IsPart-after (in_verilog prelude_text) text (items_written no_progress items) h);
  faults_part = nothing (fault_line end);
}

-- the cells that are written whole, behind the prelude
models_behind : (old now : DeskState) (before : Progress) (taken : ℕ) (text : Written) → now ≡ wrote old VerilogText prelude_text
    → before ≡ no_progress
    → IfSome (now.left Library) (λ bytes. HoldsCells item_written before bytes taken text)
    → IfSome (old.left Library) (λ bytes. HoldsModels bytes taken (joined (in_verilog prelude_text) text))
models_behind old now before taken text first fresh held =
    let cells = rw (left_behind old now prelude_text first, fresh) at held in
    IfSome-map (old.left Library) (λ bytes. HoldsCells item_written no_progress bytes taken text)
    (λ bytes. HoldsModels bytes taken (joined (in_verilog prelude_text) text))
    (λ bytes. behind_prelude bytes taken text) cells

-- and before the last line
models_before : (old now : DeskState) (before : Progress) (taken : ℕ) (text last : Written)
    → now ≡ wrote old VerilogText prelude_text → before ≡ no_progress
    → IfSome (now.left Library) (λ bytes. HoldsCells item_written before bytes taken text)
    → IfSome (old.left Library) (λ bytes. HoldsModels bytes taken (joined (joined (in_verilog prelude_text) text) last))
models_before old now before taken text last first fresh held =
    IfSome-map (old.left Library) (λ bytes. HoldsModels bytes taken (joined (in_verilog prelude_text) text))
    (λ bytes. HoldsModels bytes taken (joined (joined (in_verilog prelude_text) text) last))
    (λ bytes. with_more bytes taken (joined (in_verilog prelude_text) text) last)
    (models_behind old now before taken text first fresh held)

-- a stop within the items
pub items_stop : (old now new : DeskState) (before after : Progress) (y : Stop) (r : Result Status Stop)
    → now ≡ wrote old VerilogText prelude_text → before ≡ no_progress → Handles library_limit now new before after (Err y)
    → IsErr r → Translates old new r
items_stop old now new before after y r first fresh h e =
    let part = rw (left_behind old now prelude_text first, fresh) at h.part in
    record {
      taken = h.taken;
      text = joined (in_verilog prelude_text) h.text;
      faults = [];
      state = handled_state old now new h.taken h.text first h.state ∙ sym (wrote-nil _ Faults);
      part = IfSome-map (old.left Library) (λ bytes. IsPart h.text (items_written no_progress (items_within library_limit bytes)))
          (λ bytes. IsPartOf (joined (in_verilog prelude_text) h.text) [] (translate_outcome bytes))
          (λ bytes p. items_part _ _ h.text p) part;
      models = models_behind old now before h.taken h.text first fresh h.cells;
      whole = IfOk-err r _ e;
    }

-- the prelude, the items, and then some of the last lines
finished_state : (old next new : DeskState) (taken : ℕ) (text : Written) (report faults : List ℕ)
    → next ≡ wrote_all (took old Library taken) text
    → new ≡ wrote (wrote_all next (in_report report)) Faults faults
    → new ≡ wrote (wrote_all (took old Library taken) (joined text (in_report report))) Faults faults
finished_state old next new taken text report faults first second =
    second
    ∙ ap (λ s. wrote (wrote_all s (in_report report)) Faults faults) first
    ∙ ap (λ s. wrote s Faults faults) (wrote_all-joined (took old Library taken) text (in_report report))

finished_part : (items : List LibraryItem) (end : Ending) (text : Written) (after : Progress) (report faults : List ℕ)
    → text ≡ items_written no_progress items → after ≡ progress_after no_progress items
    → IsPrefix report (last_line end after) → IsPrefix faults (fault_line end)
    → IsPartOf (joined (joined (in_verilog prelude_text) text) (in_report report)) faults (outcome_at items end)
unfolding outcome_at
finished_part items end text after report faults t a p q =
    let last = rw a at p in
    let line : IsPart (in_report report) (in_report (last_line end (progress_after no_progress items))) =
    record { verilog = nothing []; vital = nothing []; report = last } in
    rw t (record {
      text_part = IsPart-after (joined (in_verilog prelude_text) (items_written no_progress items)) (in_report report) _ line;
      faults_part = q;
    })

finished_all : (items : List LibraryItem) (end : Ending) (text : Written) (after : Progress) (status : Status)
    (report faults : List ℕ)
    → text ≡ items_written no_progress items → after ≡ progress_after no_progress items
    → IsFinished after end status report faults
    → IsAllOf status (joined (joined (in_verilog prelude_text) text) (in_report report)) faults (outcome_at items end)
unfolding outcome_at
finished_all items end text after status report faults t a f = record {
  same_status = f.same_status ∙ ap (status_at end) a;
  same_text = ap (λ w. joined (joined (in_verilog prelude_text) w) (in_report report)) t
      ∙ ap (λ line. joined (joined (in_verilog prelude_text) (items_written no_progress items)) (in_report line))
      (f.same_report ∙ ap (last_line end) a);
  same_faults = f.same_faults;
}

part_behind : (bytes : List ℕ) (text : Written) (end : Ending) (before after : Progress) (report faults : List ℕ)
    → before ≡ no_progress → IsHandled library_limit bytes before after text end → IsPrefix report (last_line end after)
    → IsPrefix faults (fault_line end)
    → IsPartOf (joined (joined (in_verilog prelude_text) text) (in_report report)) faults (translate_outcome bytes)
part_behind bytes text end before after report faults fresh h p q =
    let t = rw fresh at h.same_text in
    let a = rw fresh at h.same_progress in
    rw (← h.same_ending) (finished_part (items_within library_limit bytes) end text after report faults t a p q)

all_behind : (bytes : List ℕ) (text : Written) (end : Ending) (before after : Progress) (status : Status) (report faults : List ℕ)
    → before ≡ no_progress → IsHandled library_limit bytes before after text end → IsFinished after end status report faults
    → IsAllOf status (joined (joined (in_verilog prelude_text) text) (in_report report)) faults (translate_outcome bytes)
all_behind bytes text end before after status report faults fresh h f =
    let t = rw fresh at h.same_text in
    let a = rw fresh at h.same_progress in
    rw (← h.same_ending) (finished_all (items_within library_limit bytes) end text after status report faults t a f)

-- after the items, where this is known of the end
translated : (old now next new : DeskState) (before after : Progress) (end : Ending) (written : Result Status Failed)
    (r : Result Status Stop)
    → now ≡ wrote old VerilogText prelude_text → before ≡ no_progress → (h : Handles library_limit now next before after (Ok end))
    → (f : Finishes next new after end written)
    → IfOk r (λ status. IfSome (old.left Library) (λ bytes.
    IsAllOf status (joined (joined (in_verilog prelude_text) h.text) (in_report f.report)) f.faults (translate_outcome bytes)))
    → Translates old new r
translated old now next new before after end written r first fresh h f whole = record {
  taken = h.taken;
  text = joined (joined (in_verilog prelude_text) h.text) (in_report f.report);
  faults = f.faults;
  state = finished_state old next new h.taken _ f.report f.faults (handled_state old now next h.taken h.text first h.state)
      f.state;
  part = IfSome-map (old.left Library) (λ bytes. IsHandled library_limit bytes before after h.text end)
      (λ bytes. IsPartOf (joined (joined (in_verilog prelude_text) h.text) (in_report f.report)) f.faults
      (translate_outcome bytes))
      (λ bytes k. part_behind bytes h.text end before after f.report f.faults fresh k f.report_part f.faults_part)
      (rw (left_behind old now prelude_text first) at h.whole);
  models = models_before old now before h.taken h.text (in_report f.report) first fresh h.cells;
  whole = whole;
}

-- a stop behind the items
pub finish_stops : (old now next new : DeskState) (before after : Progress) (end : Ending) (y : Failed) (r : Result Status Stop)
    → now ≡ wrote old VerilogText prelude_text → before ≡ no_progress → Handles library_limit now next before after (Ok end)
    → Finishes next new after end (Err y) → IsErr r → Translates old new r
finish_stops old now next new before after end y r first fresh h f e =
    translated old now next new before after end (Err y) r first fresh h f (IfOk-err r _ e)

-- the end
pub finished : (old now next new : DeskState) (before after : Progress) (end : Ending) (status : Status)
    → now ≡ wrote old VerilogText prelude_text → before ≡ no_progress → Handles library_limit now next before after (Ok end)
    → Finishes next new after end (Ok status) → Translates old new (Ok status)
finished old now next new before after end status first fresh h f =
    translated old now next new before after end (Ok status) (Ok status) first fresh h f
    (IfSome-map (old.left Library) (λ bytes. IsHandled library_limit bytes before after h.text end)
    (λ bytes. IsAllOf status (joined (joined (in_verilog prelude_text) h.text) (in_report f.report)) f.faults
    (translate_outcome bytes))
    (λ bytes k. all_behind bytes h.text end before after status f.report f.faults fresh k f.whole)
    (rw (left_behind old now prelude_text first) at h.whole))
