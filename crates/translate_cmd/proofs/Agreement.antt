-- A library simulated beside its own models ends neither for want of a model nor with traces that differ.
use Rattle.std.proofs.Common.{◌≡◌, ℕ, Bool, true, false, List, [], length, nat_lt, ◌⊎◌, inl, inr, refl, sym, ap, subst, ◌∙◌}
use Rattle.std.proofs.Common.{Result, Ok, Err}
use Rattle.std.specs.Prelude.{◌≢◌, IfErr}
use Rattle.library_simulation.specs.library_reader.LibraryCells.{CellEntry}
use Rattle.library_simulation.specs.file_models.udp_tables.declared.models.ModelFault.{ModelFault}
use Rattle.library_simulation.specs.file_models.stimulus.declared.faults.StimulusFault.{StimulusFault}
use Rattle.library_simulation.specs.file_models.stimulus.declared.faults.StimulusFault.TheVariants as fault
use Rattle.library_simulation.specs.file_models.stimulus.declared.sections.Section.{Section}
use Rattle.library_simulation.specs.file_models.stimulus.PortEntries.{NamedCells, listed}
use Rattle.library_simulation.specs.file_models.stimulus.Stimulus.{stimulus_of}
use Rattle.run_outcome.specs.declared.status.Status.TheVariants as status
use Rattle.run_outcome.specs.Written.{nothing_written, in_report}
use Rattle.run_outcome.specs.Outcome.{Outcome}
use Rattle.run_outcome.specs.FileSteps.{FileStop, answer_where, outcome_by}
use Rattle.library_simulation.specs.model_files.Languages.{Language}
use Rattle.library_simulation.specs.model_files.ModelAnswer.{long_model_stop, models_or_stop, models_in_text, model_answer}
use Rattle.library_simulation.specs.model_files.StimulusAnswer.{long_stimulus_stop, sections_or_stop, sections_in_text}
use Rattle.library_simulation.specs.model_files.StimulusAnswer.{stimulus_answer}
use Rattle.library_simulation.specs.model_files.Limits.{model_limit, stimulus_limit}
use Rattle.library_simulation.specs.Verilog.{verilog}
use Rattle.library_simulation.specs.Vital.{vital}
use Rattle.written_driven_models.specs.vital_models.declared.model.VEntity.{VEntity}
use Rattle.written_driven_models.specs.vhdl_grammar.WellFormed.{AreApart}
use Rattle.library_simulation.specs.file_models.declared.file_model.FileModel.{FileModel}
use Rattle.library_simulation.specs.model_files.ModelNames.{model_names}
use Rattle.library_simulation.proofs.VerilogModels.{own_names}
use Rattle.library_simulation.proofs.VitalModels.{own_names_beside}
use Rattle.library_simulation.specs.Comparisons.{sections_text}
use Rattle.library_simulation.specs.Generated.{modules_of, entities_of, HaveOwnModels, EndsEqual}
use Rattle.library_simulation.specs.FaultLines.{cause_stop}
use Rattle.library_simulation.specs.Ends.{sections_outcome}
use Rattle.library_simulation.proofs.EqualEnds.{bad_line_stops, never_model_or_differ}
use Rattle.library_simulation.specs.library_reader.declared.ending.Ending.{Ending}
use Rattle.library_simulation.specs.library_reader.declared.ending.Ending.TheVariants as ending
use Rattle.library_simulation.specs.library_reader.declared.ending.NotWhole.TheVariants as not_whole
use Rattle.library_simulation.specs.library_reader.Endings.{library_limit, ending_of}
use Rattle.library_simulation.specs.library_reader.KeptCells.{cells_by}
use Rattle.library_translation.specs.Library.{translate_outcome}
use Rattle.library_simulation.specs.library_reader.LibraryAnswer.{library_answer, answer_by, library_stop}
use Rattle.library_simulation.specs.Simulate.{behind_cells, behind_modules, behind_entities}
use Rattle.library_simulation.proofs.OwnNames.{modules_apart, entities_apart}
use Rattle.translate_cmd.specs.Agreement.{own_catalog, Agrees, OwnModelsAgree}
use Rattle.translate_cmd.proofs.KeptRules.{kept_rules}
use Rattle.translate_cmd.proofs.KeptCells.{cells_of}
use Rattle.translate_cmd.specs.TranslatedModels.{vital_in}
use Rattle.translate_cmd.proofs.AcceptedCells.{entities-well-formed}
use Rattle.translate_cmd.proofs.ReadBack.{libraries-read-back}
use Rattle.translate_cmd.proofs.FileModels.{entities_are, verilog_read, vital_read}

-- No two of the models that are generated for a library have one name.
pub own_models : (library : List ℕ) → HaveOwnModels (cells_of library)
own_models library =
    let modules = own_names (translate_outcome library).text.verilog (modules_of (cells_of library)) (verilog_read library) in
    let entities = own_names_beside (translate_outcome library).text.vital (vital_in library)
    (libraries-read-back library).vital.answer (entities-well-formed library).models in
    record {
      modules = modules_apart (modules_of (cells_of library)) modules.own;
      entities = entities_apart (entities_of (cells_of library))
          (subst (λ (fs : List (FileModel VEntity)). AreApart (model_names vital fs))
          (sym (entities_are library)) entities.apart);
    }

-- Runs that end at a file.

-- a run that a file ends otherwise
stopped : (library stimulus : List ℕ) (binds : ℕ) (stop : FileStop) → stop.status ≢ status.Model → stop.status ≢ status.Differ
    → stop.status ≢ status.Done
    → Agrees library stimulus (record { status = stop.status; binds = binds; text = nothing_written; faults = stop.line })
stopped library stimulus binds stop f g h = record { not_model = f; not_differ = g; done = λ e. absurd (h e) }

-- a file of models is read as these, or is too long
abbrev pub IsReadAs : {T : Type 0} → T → Result T FileStop → Type 0
IsReadAs value answer = (answer ≡ Ok value) ⊎ ((stop : FileStop) × (answer ≡ Err stop) × (stop.status ≡ status.TooLong))

pub read_as : {M : Type 0} (l : Language M) (text : List ℕ) (models : List M) → l.text text ≡ Ok models
    → IsReadAs models (model_answer l text)
unfolding model_answer
read_as {M = M} l text models e = by (nat_lt model_limit (length text))
  where
    by : (more : Bool) → IsReadAs models (answer_where (long_model_stop l.format) (models_in_text l) more text)
    by true = inr (long_model_stop l.format, refl, refl)
    by false = inl (ap (λ (r : Result (List M) ModelFault). models_or_stop l.format r) e)

-- a run goes on behind such a file
goes_on : {T : Type 0} (library stimulus : List ℕ) (binds : ℕ) (value : T) (answer : Result T FileStop) (more : T → Outcome)
    → IsReadAs value answer → Agrees library stimulus (more value) → Agrees library stimulus (outcome_by binds answer more)
goes_on library stimulus binds value answer more (inl e) h =
    subst (λ r. Agrees library stimulus (outcome_by binds r more)) (sym e) h
goes_on library stimulus binds value answer more (inr (stop, e, long)) h =
    subst (λ r. Agrees library stimulus (outcome_by binds r more)) (sym e)
    (stopped library stimulus binds stop (λ f. let clash = sym long ∙ f in absurd cc) (λ f. let clash = sym long ∙ f
    in absurd cc) (λ f. let clash = sym long ∙ f in absurd cc))

-- The stimulus.

-- a stimulus that is not read does not end a run as done
abbrev IsUndone : {T : Type 0} → Result T FileStop → Type 0
IsUndone answer = IfErr answer (λ stop. stop.status ≢ status.Done)

fault_undone : (cells : List CellEntry) (answer : Result (List Section) StimulusFault)
    → IsUndone (sections_or_stop (cause_stop cells) answer)
fault_undone cells (Ok sections) = tt
fault_undone cells (Err (fault.Line line why)) = (bad_line_stops why).1
fault_undone cells (Err fault.Memory) = λ e. absurd cc

stimulus_undone : (cells : List CellEntry) (catalog : NamedCells) (more : Bool) (bytes : List ℕ)
    → IsUndone (answer_where long_stimulus_stop (sections_in_text (cause_stop cells) catalog) more bytes)
stimulus_undone cells catalog true bytes = λ e. absurd cc
stimulus_undone cells catalog false bytes = fault_undone cells (stimulus_of (listed catalog) bytes)

by_stimulus : (library stimulus : List ℕ) → library_answer library ≡ Ok (cells_of library)
    → (answer : Result (List Section) FileStop)
    → stimulus_answer (cause_stop (cells_of library)) (own_catalog (cells_of library)) stimulus ≡ answer
    → IsUndone answer → EndsEqual (cells_of library) (modules_of (cells_of library)) (entities_of (cells_of library)) answer
    → Agrees library stimulus (outcome_by 4 answer
    (λ sections. sections_outcome (cells_of library) (modules_of (cells_of library)) (entities_of (cells_of library)) sections))
by_stimulus library stimulus whole (Ok sections) e undone h = record {
  not_model = λ f. let clash = sym h.done ∙ f in absurd cc;
  not_differ = λ f. let clash = sym h.done ∙ f in absurd cc;
  done = λ _. record {
    report = sections_text (cells_of library) (modules_of (cells_of library)) (entities_of (cells_of library)) sections;
    equal = record {
      cells = cells_of library;
      are_cells = whole;
      sections = sections;
      are_sections = e;
      equal =
          h.sections;
      report_is = refl;
    };
    outcome_is = λ i. record {
      status = h.done i;
      binds = 4;
      text = in_report (sections_text (cells_of library) (modules_of (cells_of library)) (entities_of (cells_of library))
          sections);
      faults = [];
    };
  };
}
by_stimulus library stimulus whole (Err stop) e undone h = stopped library stimulus 4 stop h.not_model h.not_differ undone

-- at the stimulus
ends_equal : (library stimulus : List ℕ)
    → EndsEqual (cells_of library) (modules_of (cells_of library)) (entities_of (cells_of library))
    (stimulus_answer (cause_stop (cells_of library)) (own_catalog (cells_of library)) stimulus)
ends_equal library stimulus = never_model_or_differ (cells_of library) stimulus (kept_rules library) (own_models library)

behind_the_models : (library stimulus : List ℕ) → library_answer library ≡ Ok (cells_of library)
    → Agrees library stimulus (behind_entities (cells_of library) (modules_of (cells_of library)) (entities_of (cells_of library))
    stimulus)
behind_the_models library stimulus whole =
    let catalog = own_catalog (cells_of library) in
    by_stimulus library stimulus whole (stimulus_answer (cause_stop (cells_of library)) catalog stimulus) refl
    (stimulus_undone (cells_of library) catalog (nat_lt stimulus_limit (length stimulus)) stimulus) (ends_equal library stimulus)

-- The library and its models.

behind_the_library : (library stimulus : List ℕ) → library_answer library ≡ Ok (cells_of library)
    → Agrees library stimulus (behind_cells (cells_of library) (translate_outcome library).text.verilog
    (translate_outcome library).text.vital stimulus)
behind_the_library library stimulus whole =
    goes_on library stimulus 2 (modules_of (cells_of library)) (model_answer verilog (translate_outcome library).text.verilog)
    (λ modules. behind_modules (cells_of library) modules (translate_outcome library).text.vital stimulus)
    (read_as verilog (translate_outcome library).text.verilog (modules_of (cells_of library)) (verilog_read library))
    (goes_on library stimulus 3 (entities_of (cells_of library)) (model_answer vital (translate_outcome library).text.vital)
    (λ entities. behind_entities (cells_of library) (modules_of (cells_of library)) entities stimulus)
    (read_as vital (translate_outcome library).text.vital (entities_of (cells_of library)) (vital_read library))
    (behind_the_models library stimulus whole))

by_end : (library stimulus : List ℕ) (end : Ending) → ending_of library_limit library ≡ end
    → Agrees library stimulus
    (outcome_by 1 (answer_by (cells_by end (cells_of library)))
    (λ cells. behind_cells cells (translate_outcome library).text.verilog (translate_outcome library).text.vital stimulus))
by_end library stimulus ending.Whole e =
    behind_the_library library stimulus (ap (λ (end : Ending). answer_by (cells_by end (cells_of library))) e)
by_end library stimulus (ending.Fault fault) e =
    stopped library stimulus 1 (library_stop (not_whole.Fault fault)) (λ f. absurd cc) (λ f. absurd cc) (λ f. absurd cc)
by_end library stimulus ending.TooLong e =
    stopped library stimulus 1 (library_stop not_whole.TooLong) (λ f. absurd cc) (λ f. absurd cc) (λ f. absurd cc)

pub own_models_agree : OwnModelsAgree
own_models_agree library stimulus = by_end library stimulus (ending_of library_limit library) refl
