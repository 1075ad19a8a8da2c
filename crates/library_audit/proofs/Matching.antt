-- When the line of a cell says that a module is the same, and when all lines do.
use Rattle.std.proofs.Common.{◌≡◌, ℕ, Bool, true, false, List, [], ◌∷◌, ◌++◌, length, nat_lt, codes, decimal, Option, Some}
use Rattle.std.proofs.Common.{None, Result, Ok, Err, if◌then◌else◌, refl, sym, ap, ◌∙◌}
use Rattle.std.specs.Prelude.{All}
use Rattle.std.specs.Option.{option_map}
use Rattle.std.proofs.lemmas.List.{append_cancel_left}
use Rattle.std.proofs.lemmas.List.Elements.{All-nil, All-cons}
use Rattle.std.proofs.lemmas.List.Folds.{list_any_none}
use Rattle.std.proofs.lemmas.Bool.{or_parts as neither}
use Rattle.cell_machine.specs.CellData.{CellData}
use Rattle.three_state_cells.specs.DrivenCells.{may_float}
use Rattle.library_reader.specs.declared.ending.NotWhole.{NotWhole}
use Rattle.library_reader.specs.declared.ending.NotWhole.TheVariants as not_whole
use Rattle.library_reader.specs.LibraryCells.{CellEntry, Accepted, Refused}
use Rattle.library_reader.specs.Endings.{library_limit}
use Rattle.library_reader.specs.KeptCells.{library_cells_within}
use Rattle.specify_blocks.specs.declared.model.VModule.{VModule}
use Rattle.file_models.specs.declared.file_model.FileModel.{FileModel}
use Rattle.udp_tables.specs.declared.models.ModelFault.{ModelFault}
use Rattle.run_outcome.specs.declared.status.Status.TheVariants as status
use Rattle.run_outcome.specs.Outcome.{Outcome}
use Rattle.run_outcome.specs.Status.{status_where}
use Rattle.run_outcome.specs.FileSteps.{answer_where, outcome_by}
use Rattle.library_reader.specs.LibraryAnswer.{answer_by}
use Rattle.model_files.specs.Limits.{model_limit}
use Rattle.model_files.specs.ModelAnswer.{long_model_stop, models_or_stop, models_in_text, model_answer}
use Rattle.model_replay.specs.Verilog.{verilog, verilog_models}
use Rattle.table_audit.specs.declared.verdicts.Verdict.{Verdict}
use Rattle.table_audit.specs.declared.verdicts.Verdict.TheVariants as verdict
use Rattle.table_audit.specs.Verdict.{verdict_of}
use Rattle.table_audit.specs.Laws.{SameIsMatching}
use Rattle.library_audit.specs.Lines.{verdict_text, shape_text, difference_text, audit_line, left_out_line}
use Rattle.library_audit.specs.Audits.{module_for, verdict_in, is_other, differs, any_differs}
use Rattle.library_audit.specs.Outcome.{audits_outcome, behind_cells, audit_outcome}
use Rattle.library_audit.specs.Laws.{HasMatch, HasMatchOrIsLeftOut, SameLineIsMatch, AllMatch, DoneIsMatch}
use Rattle.library_audit.proofs.WholeAudits.{audited_whole}

-- The verdict on a cell is that its module is the same exactly where that module matches.

abbrev IsSame : Option Verdict → Type 0
IsSame found = found ≡ Some verdict.Same

same_of : (v : Verdict) → Some v ≡ Some verdict.Same → v ≡ verdict.Same
same_of v e = cc

match_of : SameIsMatching → (models : List (FileModel VModule)) (cell : CellData) → IsSame (verdict_in models cell)
    → HasMatch models cell
unfolding verdict_in
match_of law models cell e = by (module_for models cell) refl e
  where
    by : (found : Option VModule) → module_for models cell ≡ found → IsSame (option_map (verdict_of cell) found)
        → HasMatch models cell
    by None f same = absurd cc
    by (Some model) f same = record {
      model = model;
      found = f;
      matches =
          (law cell model).0 (same_of (verdict_of cell model) same);
    }

same_for : SameIsMatching → (models : List (FileModel VModule)) (cell : CellData) → HasMatch models cell
    → IsSame (verdict_in models cell)
unfolding verdict_in
same_for law models cell h = ap (option_map (verdict_of cell)) h.found ∙ ap Some ((law cell h.model).1 h.matches)

-- No other verdict has the line of one that is the same.

same_text : (found : Option Verdict) → verdict_text found ≡ verdict_text (Some verdict.Same) → IsSame found
unfolding shape_text difference_text
same_text None e = absurd cc
same_text (Some verdict.Same) e = refl
same_text (Some (verdict.Shape part number)) e = absurd cc
same_text (Some (verdict.Differs difference)) e = absurd cc

same_line_of : (number : ℕ) (name : List ℕ) (found : Option Verdict)
    → audit_line number name found ≡ audit_line number name (Some verdict.Same) → IsSame found
unfolding audit_line
same_line_of number name found e =
    let text = verdict_text (Some verdict.Same) in
    let behind-word = append_cancel_left (codes "audit ") (decimal number ++ (codes " " ++ (name ++ verdict_text found)))
    (decimal number ++ (codes " " ++ (name ++ text))) e in
    let behind-number = append_cancel_left (decimal number) (codes " " ++ (name ++ verdict_text found))
    (codes " " ++ (name ++ text)) behind-word in
    let behind-space = append_cancel_left (codes " ") (name ++ verdict_text found) (name ++ text) behind-number in
    same_text found (append_cancel_left name (verdict_text found) text behind-space)

-- nor has a cell that is left out
left_out_line_of : (number : ℕ) (name : List ℕ) → left_out_line number name ≡ audit_line number name (Some verdict.Same) → ⊥
unfolding left_out_line audit_line
left_out_line_of number name e =
    let left_out = codes " left-out\n" in
    let text = verdict_text (Some verdict.Same) in
    let behind-word = append_cancel_left (codes "audit ") (decimal number ++ (codes " " ++ (name ++ left_out)))
    (decimal number ++ (codes " " ++ (name ++ text))) e in
    let behind-number = append_cancel_left (decimal number) (codes " " ++ (name ++ left_out)) (codes " " ++ (name ++ text))
    behind-word in
    let behind-space = append_cancel_left (codes " ") (name ++ left_out) (name ++ text) behind-number in
    let same : left_out ≡ text = append_cancel_left name left_out text behind-space in
    absurd cc

line_of : (floats : Bool) (number : ℕ) (name : List ℕ) (found : Option Verdict)
    → (if floats then left_out_line number name else audit_line number name found) ≡ audit_line number name (Some verdict.Same)
    → (floats ≡ false) × IsSame found
line_of true number name found e = absurd (left_out_line_of number name e)
line_of false number name found e = (refl, same_line_of number name found e)

pub same_line_is_match : SameIsMatching → SameLineIsMatch
same_line_is_match law models cell entity =
    let number = cell.core.number in
    let found = verdict_in models cell.core in (
      λ e. let same = line_of (may_float cell) number cell.name found e
          in record { plain = same.0; has_match = match_of law models cell.core same.1 },
      λ h. ap (λ floats. if floats then left_out_line number cell.name else audit_line number cell.name found) h.plain
          ∙ ap (audit_line number cell.name) (same_for law models cell.core h.has_match),
    )

-- No cell differs exactly where each accepted one that is compared has a match.

not_other : (found : Option Verdict) → is_other found ≡ false → IsSame found
not_other None e = absurd cc
not_other (Some verdict.Same) e = refl
not_other (Some (verdict.Shape part number)) e = absurd cc
not_other (Some (verdict.Differs difference)) e = absurd cc

match_entry : SameIsMatching → (models : List (FileModel VModule)) (cell : CellEntry) → differs models cell ≡ false
    → HasMatchOrIsLeftOut models cell
match_entry law models (Accepted cell entity) e =
    let found = verdict_in models cell.core in
    λ plain. match_of law models cell.core
    (not_other found (sym (ap (λ floats. if floats then false else is_other found) plain) ∙ e))
match_entry law models (Refused name refusal) e = tt

none_other : (floats : Bool) (found : Option Verdict) → (floats ≡ false → IsSame found)
    → (if floats then false else is_other found) ≡ false
none_other true found h = refl
none_other false found h = ap is_other (h refl)

no_other : SameIsMatching → (models : List (FileModel VModule)) (cell : CellEntry) → HasMatchOrIsLeftOut models cell
    → differs models cell ≡ false
no_other law models (Accepted cell entity) h =
    none_other (may_float cell) (verdict_in models cell.core) (λ plain. same_for law models cell.core (h plain))
no_other law models (Refused name refusal) h = refl

match_entries : SameIsMatching → (models : List (FileModel VModule)) (cells : List CellEntry) → any_differs models cells ≡ false
    → All (HasMatchOrIsLeftOut models) cells
match_entries law models [] e = All-nil (HasMatchOrIsLeftOut models)
match_entries law models (cell ∷ cells) e =
    let each = neither (differs models cell) (any_differs models cells) e in
    All-cons (HasMatchOrIsLeftOut models) cell cells (match_entry law models cell each.0) (match_entries law models cells each.1)

none_differs : SameIsMatching → (models : List (FileModel VModule)) (cells : List CellEntry)
    → All (HasMatchOrIsLeftOut models) cells → any_differs models cells ≡ false
none_differs law models cells h = list_any_none (differs models) cells (λ k d below. no_other law models _ (h k d below))

-- A run that is done has read both files.

cells_or_stop : (read : Result (List CellEntry) NotWhole) (more : List CellEntry → Outcome)
    → (outcome_by 1 (answer_by read) more).status ≡ status.Done
    → (cells : List CellEntry) × (answer_by read ≡ Ok cells) × ((more cells).status ≡ status.Done)
cells_or_stop (Ok cells) more h = (cells, refl, h)
cells_or_stop (Err (not_whole.Fault fault)) more h = absurd cc
cells_or_stop (Err not_whole.TooLong) more h = absurd cc

read_or_stop : (read : Result (List (FileModel VModule)) ModelFault) (more : List (FileModel VModule) → Outcome)
    → (outcome_by 2 (models_or_stop verilog.format read) more).status ≡ status.Done
    → (models : List (FileModel VModule)) × (models_or_stop verilog.format read ≡ Ok models)
    × ((more models).status ≡ status.Done)
read_or_stop (Ok models) more h = (models, refl, h)
read_or_stop (Err fault) more h = absurd cc

models_within : (over : Bool) (text : List ℕ) (more : List (FileModel VModule) → Outcome)
    → (outcome_by 2 (answer_where (long_model_stop verilog.format) (models_in_text verilog) over text) more).status ≡ status.Done
    → (models : List (FileModel VModule))
    × (answer_where (long_model_stop verilog.format) (models_in_text verilog) over text ≡ Ok models)
    × ((more models).status ≡ status.Done)
models_within true text more h = absurd cc
models_within false text more h = read_or_stop (verilog_models text) more h

models_read : (text : List ℕ) (more : List (FileModel VModule) → Outcome)
    → (outcome_by 2 (model_answer verilog text) more).status ≡ status.Done
    → (models : List (FileModel VModule)) × (model_answer verilog text ≡ Ok models) × ((more models).status ≡ status.Done)
unfolding model_answer
models_read text more h = models_within (nat_lt model_limit (length text)) text more h

none_where_done : (some_differ : Bool) → status_where some_differ ≡ status.Done → some_differ ≡ false
none_where_done true e = absurd cc
none_where_done false e = refl

all_match : SameIsMatching → (library text : List ℕ) → (audit_outcome library text).status ≡ status.Done → AllMatch library text
all_match law library text done =
    let (cells, are_cells, behind) =
    cells_or_stop (library_cells_within library_limit library) (λ cells. behind_cells cells text) done in
    let (models, are_models, ended) = models_read text (λ models. audits_outcome cells models) behind in
    record {
      cells = cells;
      are_cells = are_cells;
      models = models;
      are_models = are_models;
      hold_all = match_entries law models cells (none_where_done (any_differs models cells) ended);
    }

pub done_is_match : SameIsMatching → DoneIsMatch
done_is_match law library text = (
  λ done. all_match law library text done,
  λ h. ap (λ (o : Outcome). o.status) (audited_whole library text h.cells h.models h.are_cells h.are_models)
      ∙ ap status_where (none_differs law h.models h.cells h.hold_all),
)
