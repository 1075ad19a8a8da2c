-- Accepted cells whose modules a comparison finds the same agree with these modules: the cells of a library keep the rules of
-- cells, the modules of a Verilog file are sound, and a sound module that matches such a cell fits it.
use Rattle.std.proofs.Common.{◌≡◌, ℕ, Bool, true, false, List, length, nat_lt, Option, Some, None, Result, Ok, Err, refl, ap}
use Rattle.std.proofs.Common.{subst, if◌then◌else◌}
use Rattle.std.specs.Prelude.{All, IsTrue, slice_get}
use Rattle.std.specs.Option.{option_and_then}
use Rattle.library_simulation.specs.file_models.bool_functions.NameList.{number_of}
use Rattle.library_simulation.specs.file_models.cell_machine.CellData.{CellData}
use Rattle.library_simulation.specs.file_models.cell_machine.CellRules.{is_cell}
use Rattle.written_driven_models.specs.specify_blocks.declared.model.VModule.{VModule}
use Rattle.written_driven_models.specs.specify_blocks.Names.{module_name}
use Rattle.written_driven_models.specs.specify_blocks.Sound.{IsSound}
use Rattle.library_simulation.specs.file_models.udp_tables.declared.models.ModelFault.{ModelFault}
use Rattle.model_traces.specs.Agreement.{FittingModulesAgree}
use Rattle.audited_modules.specs.Laws.{MatchingModulesFit}
use Rattle.library_simulation.specs.library_reader.LibraryCells.{CellEntry, Accepted, Refused}
use Rattle.library_simulation.specs.library_reader.declared.ending.Ending.{Ending}
use Rattle.library_simulation.specs.library_reader.declared.ending.Ending.TheVariants as ending
use Rattle.library_simulation.specs.library_reader.Endings.{library_limit, ending_of}
use Rattle.library_simulation.specs.library_reader.KeptCells.{cells_by}
use Rattle.library_simulation.specs.library_reader.LibraryAnswer.{answer_by, library_answer}
use Rattle.library_simulation.specs.model_files.Limits.{model_limit}
use Rattle.library_simulation.specs.model_files.ModelNames.{model_names}
use Rattle.library_simulation.specs.model_files.ModelAnswer.{long_model_stop, models_or_stop, models_in_text, model_answer}
use Rattle.run_outcome.specs.FileSteps.{answer_where}
use Rattle.library_simulation.specs.file_models.declared.file_model.FileModel.{FileModel}
use Rattle.library_simulation.specs.file_models.FileModels.{IsRunnable}
use Rattle.model_traces.specs.ModuleTrace.{module_machine}
use Rattle.library_simulation.specs.Verilog.{verilog, verilog_models}
use Rattle.library_simulation.proofs.VerilogModels.{own_names}
use Rattle.library_simulation.specs.Generated.{KeepsRules}
use Rattle.library_simulation.proofs.ReadyCells.{all_at}
use Rattle.library_audit.specs.Audits.{module_in, module_at, module_for}
use Rattle.library_audit.specs.Laws.{HasMatch, HasMatchOrIsLeftOut, SameLineIsMatch, AllMatch, DoneIsMatch}
use Rattle.translate_cmd.specs.Audits.{AgreesWithModule, AgreesWhereSame, AgreesOrIsLeftOut, AllAgree, AuditedCellsAgree}
use Rattle.translate_cmd.proofs.KeptCells.{cells_of}
use Rattle.translate_cmd.proofs.KeptRules.{kept_rules}

-- The cells that a library is read as keep the rules of cells.

cells_kept : (end : Ending) (kept cells : List CellEntry) → answer_by (cells_by end kept) ≡ Ok cells → kept ≡ cells
cells_kept ending.Whole kept cells e = cc
cells_kept (ending.Fault fault) kept cells e = absurd cc
cells_kept ending.TooLong kept cells e = absurd cc

cells_keep_rules : (library : List ℕ) (cells : List CellEntry) → library_answer library ≡ Ok cells → All KeepsRules cells
cells_keep_rules library cells e =
    subst (All KeepsRules) (cells_kept (ending_of library_limit library) (cells_of library) cells e) (kept_rules library)

-- The models that a Verilog file is read as are sound.

models_told : (read : Result (List (FileModel VModule)) ModelFault) (models : List (FileModel VModule))
    → models_or_stop verilog.format read ≡ Ok models → read ≡ Ok models
models_told (Ok found) models e = let same : found ≡ models = cc in ap Ok same
models_told (Err fault) models e = absurd cc

models_within : (over : Bool) (text : List ℕ) (models : List (FileModel VModule))
    → answer_where (long_model_stop verilog.format) (models_in_text verilog) over text ≡ Ok models
    → verilog_models text ≡ Ok models
models_within true text models e = absurd cc
models_within false text models e = models_told (verilog_models text) models e

models_read : (text : List ℕ) (models : List (FileModel VModule)) → model_answer verilog text ≡ Ok models
    → verilog_models text ≡ Ok models
unfolding model_answer
models_read text models e = models_within (nat_lt model_limit (length text)) text models e

-- The module of a cell is one of them.

abbrev AreSound : List (FileModel VModule) → Type 0
AreSound models = All (IsRunnable IsSound module_machine) models

models_are_sound : (text : List ℕ) (models : List (FileModel VModule)) → model_answer verilog text ≡ Ok models → AreSound models
models_are_sound text models e = (own_names text models (models_read text models e)).well_formed

core_is_sound : (f : FileModel VModule) (model : VModule) → IsRunnable IsSound module_machine f → module_in f ≡ Some model
    → IsSound model
core_is_sound f model runs = by (nat_lt 0 (length f.driver.drives))
  where
    by : (driven : Bool) → (if driven then None else Some f.core) ≡ Some model → IsSound model
    by true e = absurd cc
    by false e = let same : f.core ≡ model = cc in subst IsSound same runs.core

one_is_sound : (models : List (FileModel VModule)) (at : Option ℕ) (model : VModule) → AreSound models
    → option_and_then (module_at models) at ≡ Some model → IsSound model
unfolding module_at
one_is_sound models None model sound e = absurd cc
one_is_sound models (Some number) model sound e = by (slice_get models number) refl e
  where
    by : (found : Option (FileModel VModule)) → slice_get models number ≡ found → option_and_then module_in found ≡ Some model
        → IsSound model
    by None is e = absurd cc
    by (Some f) is e = core_is_sound f model (all_at (IsRunnable IsSound module_machine) models number f sound is) e

own_is_sound : (models : List (FileModel VModule)) (cell : CellData) (model : VModule) → AreSound models
    → module_for models cell ≡ Some model → IsSound model
unfolding module_for
own_is_sound models cell model sound e =
    one_is_sound models (number_of (model_names verilog models) (module_name cell.number cell.name)) model sound e

module _ (fit : MatchingModulesFit) (agree : FittingModulesAgree) where
  -- A cell that has a match agrees with it.
  matched_agrees : (models : List (FileModel VModule)) (cell : CellData)
      → IsTrue (is_cell cell.name cell.pins cell.groups cell.outputs cell.checks cell.arcs)
      → AreSound models → HasMatch models cell → AgreesWithModule models cell
  matched_agrees models cell rules sound h =
      let both = agree cell h.model (fit cell h.model rules (own_is_sound models cell h.model sound h.found) h.matches) in
      record { model = h.model; found = h.found; traces = both.0; states = both.1 }

  same_agrees : SameLineIsMatch → (models : List (FileModel VModule)) (cell : CellEntry) → KeepsRules cell → AreSound models
      → AgreesWhereSame models cell
  same_agrees law models (Accepted cell entity) keeps sound = λ same.
      let matched = (law models cell entity).0 same in
      record { plain = matched.plain; agrees = matched_agrees models cell.core keeps.core sound matched.has_match }
  same_agrees law models (Refused name refusal) keeps sound = tt

  match_agrees : (models : List (FileModel VModule)) (cell : CellEntry) → KeepsRules cell → AreSound models
      → HasMatchOrIsLeftOut models cell → AgreesOrIsLeftOut models cell
  match_agrees models (Accepted cell entity) keeps sound h = λ plain. matched_agrees models cell.core keeps.core sound (h plain)
  match_agrees models (Refused name refusal) keeps sound h = tt

  all_agree : (library text : List ℕ) → AllMatch library text → AllAgree library text
  all_agree library text h =
      let rules = cells_keep_rules library h.cells h.are_cells in
      let sound = models_are_sound text h.models h.are_models in
      record {
        cells = h.cells;
        are_cells = h.are_cells;
        models = h.models;
        are_models = h.are_models;
        hold_all = λ k d below. match_agrees h.models _ (rules k d below) sound (h.hold_all k d below);
      }

  pub audited-cells-agree : SameLineIsMatch → DoneIsMatch → AuditedCellsAgree
  audited-cells-agree same done library text = record {
    lines = λ cells models e f.
        let rules = cells_keep_rules library cells e in
        let sound = models_are_sound text models f in
        λ k d below. same_agrees same models _ (rules k d below) sound;
    done = λ ended. all_agree library text ((done library text).0 ended);
  }
