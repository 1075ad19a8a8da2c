-- What a simulation comes to behind its four files. (This project's rule.)
use Rattle.std.specs.Prelude.{List, [], if◌then◌else◌}
use Rattle.library_reader.specs.LibraryCells.{CellEntry}
use Rattle.specify_blocks.specs.declared.model.VModule.{VModule}
use Rattle.vital_models.specs.declared.model.VEntity.{VEntity}
use Rattle.file_models.specs.declared.file_model.FileModel.{FileModel}
use Rattle.stimulus.specs.declared.sections.Section.{Section}
use Rattle.run_outcome.specs.declared.status.Status.TheVariants as status
use Rattle.run_outcome.specs.Written.{in_report}
use Rattle.run_outcome.specs.Outcome.{Outcome}
use Rattle.library_simulation.specs.Comparisons.{sections_text, any_differs}

-- by the sections of the stimulus; all four files are bound then
abbrev pub sections_outcome : List CellEntry → List (FileModel VModule) → List (FileModel VEntity) → List Section → Outcome
sections_outcome cells modules entities sections = record {
  status = if any_differs cells modules entities sections then status.Differ else status.Done;
  binds = 4;
  text = in_report (sections_text cells modules entities sections);
  faults = [];
}
