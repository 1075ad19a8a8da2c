-- A section on a cell and the models that are generated for it shows equal traces.
use Rattle.std.proofs.Common.{◌≡◌, ℕ, false, is_some, List, [], ◌++◌, Some, None, ap, subst, ◌∙◌}
use Rattle.std.specs.Prelude.{Ok, slice_get, slice_index_or, All}
use Rattle.std.proofs.lemmas.List.Folds.{list_any_none}
use Rattle.file_models.specs.declared.file_model.FileModel.{FileModel}
use Rattle.file_models.specs.FileModels.{machine_by}
use Rattle.cell_machine.specs.History.{IsProperFrom}
use Rattle.library_reader.specs.LibraryCells.{CellEntry, Accepted}
use Rattle.specify_blocks.specs.declared.model.VModule.{VModule}
use Rattle.vital_models.specs.declared.model.VEntity.{VEntity}
use Rattle.model_traces.specs.ModuleTrace.{module_machine}
use Rattle.model_traces.specs.EntityTrace.{entity_machine}
use Rattle.stimulus.specs.declared.sections.Section.{Section}
use Rattle.stimulus.specs.PortEntries.{listed}
use Rattle.stimulus.specs.Stimulus.{stimulus_of}
use Rattle.stimulus.specs.TraceText.{heading_text}
use Rattle.stimulus.specs.Comparison.{compared_text, first_unlike, verdict_text}
use Rattle.stimulus.proofs.ThreeTraces.{none_unlike}
use Rattle.library_simulation.specs.NamedModels.{named_models}
use Rattle.library_simulation.specs.Comparisons.{Compared, cell_machine, lines_of, compared_at, compared_section, section_by}
use Rattle.library_simulation.specs.Comparisons.{differs_by, differs}
use Rattle.library_simulation.specs.Sections.{CanBeCompared}
use Rattle.library_simulation.specs.Catalog.{cells_named}
use Rattle.library_simulation.specs.Generated.{modules_of, entities_of, own_verilog, own_vital, KeepsRules, HaveOwnModels}
use Rattle.library_simulation.specs.Generated.{SaysEqual, NoSectionDiffers}
use Rattle.library_simulation.proofs.ReadyCells.{all_at, compared_as, sections_of_cells}
use Rattle.library_simulation.proofs.GeneratedModels.{accepted_are_ready, own_models_show_the_same, modules_run, entities_run}

-- a section whose traces are equal says so
says_equal : (cells : List CellEntry) (modules : List (FileModel VModule)) (entities : List (FileModel VEntity))
    (section : Section) (c : Compared)
    → compared_at cells modules entities section.cell ≡ Some c → first_unlike section.changes (lines_of c) ≡ None
    → SaysEqual cells modules entities section
unfolding compared_section
says_equal cells modules entities section c is equal = record {
  compared = c;
  is_compared = is;
  equal = equal;
  text = ap (λ found. section_by found section.changes) is
      ∙ ap (λ verdict. heading_text c.name ++ (compared_text c.ports section.changes (lines_of c) ++ verdict_text verdict)) equal;
}

section_equal : (cells : List CellEntry) (section : Section) → All KeepsRules cells → HaveOwnModels cells
    → CanBeCompared cells (modules_of cells) (entities_of cells) section
    → SaysEqual cells (modules_of cells) (entities_of cells) section
section_equal cells section keep own r =
    let d = r.cell in
    let models = named_models (modules_of cells) (entities_of cells) in
    let h = accepted_are_ready cells section.cell d r.entity_name own r.is_accepted in
    let proper : IsProperFrom (cell_machine d).inputs [] section.changes =
    subst (λ n. IsProperFrom n [] section.changes) r.have_ports.liberty_inputs r.proper in
    let keeps = all_at KeepsRules cells section.cell (Accepted d r.entity_name) keep r.is_accepted in
    let same = own_models_show_the_same d r.entity_name section.changes keeps proper in
    let is = compared_as models d r.entity_name h.numbers (own_verilog d r.entity_name) (own_vital d r.entity_name)
    (slice_get cells section.cell) r.is_accepted h.are h.own_module h.own_entity in
    says_equal cells (modules_of cells) (entities_of cells) section _ is
    (none_unlike (cell_machine d).line (machine_by module_machine (own_verilog d r.entity_name)).line
    (machine_by entity_machine (own_vital d r.entity_name)).line section.changes same.verilog same.vital)

-- all sections say so
pub sections_equal : (cells : List CellEntry) (bytes : List ℕ) (sections : List Section) → All KeepsRules cells
    → HaveOwnModels cells
    → stimulus_of (listed (cells_named cells (modules_of cells) (entities_of cells))) bytes ≡ Ok sections
    → All (SaysEqual cells (modules_of cells) (entities_of cells)) sections
sections_equal cells bytes sections keep own e =
    let all = sections_of_cells cells (modules_of cells) (entities_of cells) bytes sections keep (modules_run cells keep)
    (entities_run cells keep) e in
    λ k d below. section_equal cells (slice_index_or sections k d) keep own (all k d below)

no_difference_by : (cells : List CellEntry) (modules : List (FileModel VModule)) (entities : List (FileModel VEntity))
    (section : Section) → SaysEqual cells modules entities section
    → differs cells modules entities section ≡ false
no_difference_by cells modules entities section h = ap (λ found. differs_by found section.changes) h.is_compared
    ∙ ap is_some h.equal

pub no_section_differs : NoSectionDiffers
no_section_differs cells bytes sections keep own e =
    let all = sections_equal cells bytes sections keep own e in
    list_any_none (differs cells (modules_of cells) (entities_of cells)) sections
    (λ k x below. no_difference_by cells (modules_of cells) (entities_of cells) (slice_index_or sections k x) (all k x below))
