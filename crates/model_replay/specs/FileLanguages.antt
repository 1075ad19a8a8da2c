-- The language of the models of files, by the language of their sections. (That sections of a file hold drivers, and that each of
-- these is a model of the file, is this project's rule.)
use Rattle.std.specs.Prelude.{ℕ, List, Result}
use Rattle.std.specs.Result.{result_map_both}
use Rattle.cell_machine.specs.Lines.{Machine}
use Rattle.udp_tables.specs.declared.models.ModelFault.{ModelFault}
use Rattle.file_models.specs.sectioned_texts.DrivenModels.{SectionLanguage, driven_models}
use Rattle.file_models.specs.declared.file_model.FileModel.{FileModel}
use Rattle.file_models.specs.FileModels.{file_models, machine_by, IsRunnable}
use Rattle.model_files.specs.declared.format.ModelFormat.{ModelFormat}
use Rattle.model_files.specs.Languages.{Language, language_of}

-- the models of a text, its drivers among them, or its fault
abbrev pub text_models : {M : Type 0} → SectionLanguage M → List ℕ → Result (List (FileModel M)) ModelFault
text_models sections bytes = result_map_both (file_models sections) (λ fault. fault) (driven_models sections bytes)

-- the language of files of this format with these sections, by what runs of a core and by which cores are sound
abbrev pub file_language : {M : Type 0} → ModelFormat → SectionLanguage M → (M → Machine) → (M → Type 0) → Language (FileModel M)
file_language {M} format sections machine is_sound =
    language_of format (text_models sections) (λ (f : FileModel M). f.name) (λ (f : FileModel M). f.ports) (machine_by machine)
    (IsRunnable is_sound machine)
