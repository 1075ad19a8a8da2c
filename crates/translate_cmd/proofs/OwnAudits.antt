-- A library compared with its own modules: each accepted cell none of whose outputs may float has a module with its name that
-- matches it, so no line tells another thing.
use Rattle.std.proofs.Common.{◌≡◌, ℕ, Bool, true, false, List, inl, inr, refl, sym, ap, subst, ◌∙◌, Some, Result, Ok}
use Rattle.std.proofs.Common.{if◌then◌else◌}
use Rattle.std.specs.Prelude.{◌≢◌, All, slice_get, slice_index_or}
use Rattle.std.specs.Option.{option_and_then}
use Rattle.std.proofs.lemmas.Option.{slice_get-get_or}
use Rattle.written_driven_models.specs.three_state_cells.DrivenCells.{DrivenData, may_float}
use Rattle.library_simulation.specs.library_reader.LibraryCells.{CellEntry, Accepted, Refused}
use Rattle.library_simulation.specs.library_reader.declared.ending.Ending.{Ending}
use Rattle.library_simulation.specs.library_reader.declared.ending.Ending.TheVariants as ending
use Rattle.library_simulation.specs.library_reader.Endings.{library_limit, ending_of}
use Rattle.library_simulation.specs.library_reader.KeptCells.{cells_by}
use Rattle.library_simulation.specs.library_reader.LibraryAnswer.{answer_by, library_answer}
use Rattle.library_translation.specs.Library.{translate_outcome}
use Rattle.written_driven_models.specs.specify_blocks.declared.model.VModule.{VModule}
use Rattle.written_driven_models.specs.specify_blocks.Generated.{module_of}
use Rattle.run_outcome.specs.declared.status.Status.TheVariants as status
use Rattle.run_outcome.specs.Outcome.{Outcome}
use Rattle.run_outcome.specs.FileSteps.{FileStop, outcome_by}
use Rattle.library_simulation.specs.file_models.declared.file_model.FileModel.{FileModel}
use Rattle.library_simulation.specs.file_models.FileModels.{plain_model}
use Rattle.library_simulation.specs.model_files.ModelAnswer.{model_answer}
use Rattle.library_simulation.specs.Verilog.{verilog}
use Rattle.audited_modules.specs.Laws.{GeneratedModulesMatch}
use Rattle.library_simulation.specs.CellModels.{over_core}
use Rattle.library_simulation.specs.Generated.{in_verilog, own_verilog, modules_of, KeepsCellRules, KeepsRules}
use Rattle.library_simulation.specs.Generated.{HaveOwnModels}
use Rattle.library_simulation.proofs.GeneratedModels.{own_number, accepted_are_ready}
use Rattle.library_audit.specs.Lines.{audit_line, left_out_line}
use Rattle.library_audit.specs.Audits.{module_in, module_at, module_for, verdict_in, accepted_text}
use Rattle.library_audit.specs.Outcome.{audits_outcome, behind_cells, audit_outcome}
use Rattle.library_audit.specs.Laws.{HasMatch, HasMatchOrIsLeftOut, same_line, SameLineIsMatch, DoneIsMatch}
use Rattle.translate_cmd.specs.Audits.{same_or_left_out, IsSameOrIsLeftOut, OwnModulesAuditWell}
use Rattle.translate_cmd.proofs.KeptCells.{cells_of}
use Rattle.translate_cmd.proofs.KeptRules.{kept_rules}
use Rattle.translate_cmd.proofs.FileModels.{verilog_read}
use Rattle.translate_cmd.proofs.Agreement.{own_models, IsReadAs, read_as}

-- a run that ends neither so nor so
abbrev EndsWell : Outcome → Type 0
EndsWell outcome = (outcome.status ≢ status.Model) × (outcome.status ≢ status.Differ)

done_well : (outcome : Outcome) → outcome.status ≡ status.Done → EndsWell outcome
done_well outcome d = (λ e. let clash = sym d ∙ e in absurd cc, λ e. let clash = sym d ∙ e in absurd cc)

-- both files are read as these, or the run ends before that
same_models : (ms models : List (FileModel VModule)) (answer : Result (List (FileModel VModule)) FileStop) → IsReadAs ms answer
    → answer ≡ Ok models → ms ≡ models
same_models ms models answer (inl e) h = let both = sym e ∙ h in cc
same_models ms models answer (inr (stop, e, long)) h = let both = sym e ∙ h in absurd cc

same_cells : (library : List ℕ) (end : Ending) (cells : List CellEntry) → answer_by (cells_by end (cells_of library)) ≡ Ok cells
    → cells_of library ≡ cells
same_cells library ending.Whole cells e = cc
same_cells library (ending.Fault fault) cells e = absurd cc
same_cells library ending.TooLong cells e = absurd cc

module _ (match : GeneratedModulesMatch) (same : SameLineIsMatch) (done : DoneIsMatch) where
  -- A cell none of whose outputs may float has its module, which matches it.
  plain_match :
      (cells : List CellEntry) → HaveOwnModels cells → (k : ℕ) (cell : DrivenData) (entity : List ℕ)
      → slice_get cells k ≡ Some (Accepted cell entity)
      → KeepsCellRules cell → may_float cell ≡ false → HasMatch (modules_of cells) cell.core
  unfolding module_for module_at
  plain_match cells own k cell entity there keeps plain =
      let h = accepted_are_ready cells k cell entity own there in
      let model : FileModel VModule = plain_model in_verilog.as_core (module_of cell.core) in
      let is : own_verilog cell entity ≡ model = ap (λ (b : Bool). if b then over_core in_verilog cell entity else model) plain in
      let found : slice_get (modules_of cells) h.numbers.verilog ≡ Some model = h.own_module ∙ ap Some is in
      record {
        model = module_of cell.core;
        found =
            ap (option_and_then (module_at (modules_of cells)))
            (own_number (λ (f : FileModel VModule). f.name) (modules_of cells) h.numbers.verilog model own.modules found)
            ∙ ap (option_and_then module_in) found;
        matches = match cell.core keeps.core;
      }

  own_entry :
      (cells : List CellEntry) → HaveOwnModels cells → (k : ℕ) (c : CellEntry) → slice_get cells k ≡ Some c → KeepsRules c
      → HasMatchOrIsLeftOut (modules_of cells) c
  own_entry cells own k (Accepted cell entity) there keeps = λ plain. plain_match cells own k cell entity there keeps plain
  own_entry cells own k (Refused name refusal) there keeps = tt

  own_entries : (cells : List CellEntry) → HaveOwnModels cells → All KeepsRules cells
      → All (HasMatchOrIsLeftOut (modules_of cells)) cells
  own_entries cells own keep = λ k d below. own_entry cells own k (slice_index_or cells k d) (slice_get-get_or cells k d below)
      (keep k d below)

  all_own : (library : List ℕ) → All (HasMatchOrIsLeftOut (modules_of (cells_of library))) (cells_of library)
  all_own library = own_entries (cells_of library) (own_models library) (kept_rules library)

  -- The line of a cell.
  line_by : (models : List (FileModel VModule)) (cell : DrivenData) (entity : List ℕ) (b : Bool) → may_float cell ≡ b
      → HasMatchOrIsLeftOut models (Accepted cell entity)
      → accepted_text models cell ≡ same_or_left_out cell
  line_by models cell entity true floats h =
      ap (λ (b : Bool). if b then left_out_line cell.core.number cell.name
      else audit_line cell.core.number cell.name (verdict_in models cell.core)) floats
      ∙ sym (ap (λ (b : Bool). if b then left_out_line cell.core.number cell.name else same_line cell.core.number cell.name)
      floats)
  line_by models cell entity false plain h =
      (same models cell entity).1 (record { plain = plain; has_match = h plain })
      ∙ sym (ap (λ (b : Bool). if b then left_out_line cell.core.number cell.name else same_line cell.core.number cell.name)
      plain)

  says_same : (models : List (FileModel VModule)) (c : CellEntry) → HasMatchOrIsLeftOut models c → IsSameOrIsLeftOut models c
  says_same models (Accepted cell entity) h = line_by models cell entity (may_float cell) refl h
  says_same models (Refused name refusal) h = tt

  read_modules : (library : List ℕ)
      → IsReadAs (modules_of (cells_of library)) (model_answer verilog (translate_outcome library).text.verilog)
  read_modules library = read_as verilog (translate_outcome library).text.verilog (modules_of (cells_of library))
      (verilog_read library)

  lines : (library : List ℕ) (cells : List CellEntry) (models : List (FileModel VModule))
      → library_answer library ≡ Ok cells → model_answer verilog (translate_outcome library).text.verilog ≡ Ok models
      → All (IsSameOrIsLeftOut models) cells
  lines library cells models e f =
      let are_cells = same_cells library (ending_of library_limit library) cells e in
      let are_models = same_models (modules_of (cells_of library)) models
      (model_answer verilog (translate_outcome library).text.verilog) (read_modules library) f in
      let all = subst (λ ms. All (HasMatchOrIsLeftOut ms) cells) are_models
      (subst (λ cs. All (HasMatchOrIsLeftOut (modules_of (cells_of library))) cs) are_cells (all_own library)) in
      λ k d below. says_same models (slice_index_or cells k d) (all k d below)

  by_modules : (library : List ℕ) → library_answer library ≡ Ok (cells_of library)
      → IsReadAs (modules_of (cells_of library)) (model_answer verilog (translate_outcome library).text.verilog)
      → EndsWell (audit_outcome library (translate_outcome library).text.verilog)
  by_modules library whole (inl e) =
      let text = (translate_outcome library).text.verilog in
      done_well (audit_outcome library text)
      ((done library text).1
      (record {
        cells = cells_of library;
        are_cells = whole;
        models = modules_of (cells_of library);
        are_models = e;
        hold_all = all_own library;
      }))
  by_modules library whole (inr (stop, e, long)) =
      let text = (translate_outcome library).text.verilog in
      subst (λ r. EndsWell (outcome_by 1 r (λ cells. behind_cells cells text))) (sym whole)
      (subst (λ r. EndsWell (outcome_by 2 r (λ models. audits_outcome (cells_of library) models))) (sym e)
      (λ f. let clash = sym long ∙ f in absurd cc, λ f. let clash = sym long ∙ f in absurd cc))

  by_end : (library : List ℕ) (end : Ending) → ending_of library_limit library ≡ end
      → EndsWell (outcome_by 1 (answer_by (cells_by end (cells_of library)))
      (λ cells. behind_cells cells (translate_outcome library).text.verilog))
  by_end library ending.Whole e =
      let whole : library_answer library ≡ Ok (cells_of library) =
      ap (λ (end : Ending). answer_by (cells_by end (cells_of library))) e in
      subst (λ r. EndsWell (outcome_by 1 r (λ cells. behind_cells cells (translate_outcome library).text.verilog))) whole
      (by_modules library whole (read_modules library))
  by_end library (ending.Fault fault) e = (λ f. absurd cc, λ f. absurd cc)
  by_end library ending.TooLong e = (λ f. absurd cc, λ f. absurd cc)

  pub own_modules_audit_well : OwnModulesAuditWell
  own_modules_audit_well library =
      let well = by_end library (ending_of library_limit library) refl in
      record { not_model = well.0; not_differ = well.1; lines = lines library }
