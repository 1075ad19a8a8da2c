-- What can be simulated is simulated whole.
use Rattle.std.proofs.Common.{◌≡◌, ℕ, List, Ok, ap, ◌∙◌}
use Rattle.file_models.specs.declared.file_model.FileModel.{FileModel}
use Rattle.library_reader.specs.LibraryCells.{CellEntry}
use Rattle.specify_blocks.specs.declared.model.VModule.{VModule}
use Rattle.vital_models.specs.declared.model.VEntity.{VEntity}
use Rattle.stimulus.specs.declared.sections.Section.{Section}
use Rattle.run_outcome.specs.FileSteps.{outcome_by}
use Rattle.model_replay.specs.Verilog.{verilog}
use Rattle.model_replay.specs.Vital.{vital}
use Rattle.library_simulation.specs.Catalog.{cells_named}
use Rattle.library_simulation.specs.Ends.{sections_outcome}
use Rattle.model_files.specs.StimulusAnswer.{stimulus_answer}
use Rattle.library_simulation.specs.FaultLines.{cause_stop}
use Rattle.library_reader.specs.LibraryAnswer.{library_answer}
use Rattle.model_files.specs.ModelAnswer.{model_answer}
use Rattle.library_simulation.specs.Simulate.{simulate_outcome, behind_cells, behind_modules, behind_entities}

-- four files that are read
pub simulated_whole : (library text vhdl stimulus : List ℕ) (cells : List CellEntry) (modules : List (FileModel VModule))
    (entities : List (FileModel VEntity)) (sections : List Section)
    → library_answer library ≡ Ok cells → model_answer verilog text ≡ Ok modules → model_answer vital vhdl ≡ Ok entities
    → stimulus_answer (cause_stop cells) (cells_named cells modules entities) stimulus ≡ Ok sections
    → simulate_outcome library text vhdl stimulus ≡ sections_outcome cells modules entities sections
simulated_whole library text vhdl stimulus cells modules entities sections a b c d =
    ap (λ found. outcome_by 1 found (λ cells. behind_cells cells text vhdl stimulus)) a
    ∙ ap (λ found. outcome_by 2 found (λ modules. behind_modules cells modules vhdl stimulus)) b
    ∙ ap (λ found. outcome_by 3 found (λ entities. behind_entities cells modules entities stimulus)) c
    ∙ ap (λ found. outcome_by 4 found (λ sections. sections_outcome cells modules entities sections)) d
