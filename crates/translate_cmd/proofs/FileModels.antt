-- The models of files with the models of a library's cells are those that are generated for these cells.
use Rattle.std.proofs.Common.{◌≡◌, ℕ, Bool, true, false, List, [], ◌∷◌, ◌++◌, map, flat_map, codes, decimal, refl, sym, ap, subst}
use Rattle.std.proofs.Common.{◌∙◌, Some, None, Ok, if◌then◌else◌}
use Rattle.std.specs.List.{AllByRecursion, list_any}
use Rattle.std.specs.Result.{result_map_both}
use Rattle.std.proofs.lemmas.List.Elements.{recursion_from_All}
use Rattle.written_driven_models.specs.specify_blocks.declared.model.VModule.{VModule}
use Rattle.written_driven_models.specs.specify_blocks.Generated.{module_of}
use Rattle.written_driven_models.specs.verilog_grammar.WellFormed as verilog_rules
use Rattle.written_driven_models.specs.vhdl_tokens.Kept.{lowered}
use Rattle.written_driven_models.specs.vital_models.declared.model.VEntity.{VEntity}
use Rattle.written_driven_models.specs.vital_models.Generated.{entity_of}
use Rattle.written_driven_models.specs.vhdl_tokens.Spelling.{is_same}
use Rattle.written_driven_models.specs.vhdl_grammar.WellFormed as vital_rules
use Rattle.written_driven_models.proofs.grammar_reader.ItemPlaces.{same_bytes, at_place}
use Rattle.written_driven_models.proofs.written_modules.NameReading as module_names
use Rattle.written_driven_models.proofs.written_entities.Names.{IsNamed, entity_named, same_self}
use Rattle.written_driven_models.proofs.written_entities.NameReading as entity_names
use Rattle.library_simulation.specs.file_models.driver_models.declared.model.DriverModel.{DriverModel}
use Rattle.written_driven_models.specs.three_state_cells.DrivenCells.{DrivenData, may_float}
use Rattle.written_driven_models.specs.generated_drivers.Generated.{verilog_driver_of, vital_driver_of}
use Rattle.library_simulation.specs.file_models.sectioned_texts.DrivenModels.{SectionLanguage}
use Rattle.library_simulation.specs.file_models.sectioned_texts.declared.driven_models.DrivenModels.{DrivenModels}
use Rattle.written_driven_models.specs.verilog_drivers.VerilogSections.{verilog_sections}
use Rattle.written_driven_models.specs.vhdl_drivers.VitalSections.{vital_sections}
use Rattle.written_driven_models.specs.Texts.{models_of, driver_in, drivers_of}
use Rattle.written_driven_models.specs.VerilogLibrary.{driven_modules_of}
use Rattle.written_driven_models.specs.VitalLibrary.{model_name, driven_entity, driven_entities_behind}
use Rattle.library_simulation.proofs.VerilogModels.{modules_apart}
use Rattle.library_simulation.specs.file_models.declared.file_model.FileModel.{FileModel}
use Rattle.library_simulation.specs.file_models.FileModels.{over_core, driver_over, core_named, over_its_core, own_model}
use Rattle.library_simulation.specs.file_models.FileModels.{file_models}
use Rattle.library_simulation.proofs.file_models.DistinctNames.{core_name_of}
use Rattle.library_translation.specs.Library.{translate_outcome}
use Rattle.library_simulation.specs.Verilog.{verilog}
use Rattle.library_simulation.specs.Vital.{vital}
use Rattle.library_simulation.specs.library_reader.LibraryCells.{CellEntry, Accepted, Refused}
use Rattle.library_simulation.specs.CellModels.{CellModels, cores, drivers}
use Rattle.library_simulation.specs.Generated.{core_entity, in_verilog, in_vital, modules_of, entities_of}
use Rattle.translate_cmd.specs.TranslatedModels.{verilog_in, vital_in}
use Rattle.translate_cmd.proofs.AcceptedCells.{modules-well-formed, entities-well-formed}
use Rattle.translate_cmd.proofs.ReadBack.{libraries-read-back}
use Rattle.translate_cmd.proofs.CoreModels.{own_names, IsFound, all_found}
use Rattle.translate_cmd.proofs.KeptCells.{accepted_of, AreNamedBehind, cells_of, are_accepted, are_named}

-- models and drivers behind those of one more cell
abbrev with_cell : {M : Type 0} → M → List DriverModel → DrivenModels M → DrivenModels M
with_cell model drivers others = record { models = model ∷ others.models; drivers = drivers ++ others.drivers }

-- The drivers of cells in a language, over the cores that their names tell.

module _ {M : Type 0} (g : CellModels M) where
  abbrev all_drivers : List CellEntry → List DriverModel
  all_drivers [] = []
  all_drivers (Accepted cell entity ∷ cells) = (if may_float cell then g.driver cell entity ∷ [] else []) ++ all_drivers cells
  all_drivers (Refused name refusal ∷ cells) = all_drivers cells

  -- the models of cells apart from their drivers
  abbrev apart : List CellEntry → DrivenModels M
  apart cells = record { models = cores g cells; drivers = all_drivers cells }

  module _
      (l : SectionLanguage M) (named : (cell : DrivenData) (entity : List ℕ) → may_float cell ≡ true
      → (g.driver cell entity).core ≡ core_name_of l (g.core cell entity))
      (ms : List M)
    where
      one_over : (cell : DrivenData) (entity : List ℕ) → may_float cell ≡ true → IsFound l ms (g.core cell entity)
          → over_its_core l ms (g.driver cell entity) ≡ driver_over (g.core cell entity) (g.driver cell entity) ∷ []
      one_over cell entity floats found =
          ap (over_core (g.driver cell entity)) (ap (core_named l ms) (named cell entity floats) ∙ found)

      all_over : (cells : List CellEntry) → AllByRecursion (IsFound l ms) (cores g cells)
          → flat_map (over_its_core l ms) (all_drivers cells) ≡ drivers g cells
      all_over [] h = refl
      all_over (Accepted cell entity ∷ cells) h = by (may_float cell) refl (all_over cells h.1)
        where
          by : (b : Bool) → may_float cell ≡ b → flat_map (over_its_core l ms) (all_drivers cells) ≡ drivers g cells
              → flat_map (over_its_core l ms) ((if b then g.driver cell entity ∷ [] else []) ++ all_drivers cells)
              ≡ (if b then driver_over (g.core cell entity) (g.driver cell entity) ∷ [] else []) ++ drivers g cells
          by true floats rest = let first = one_over cell entity floats h.0 in λ i. first i ++ rest i
          by false floats rest = rest
      all_over (Refused name refusal ∷ cells) h = all_over cells h

-- The Verilog models.

verilog_core : (cell : DrivenData) (entity : List ℕ) → may_float cell ≡ true
    → (verilog_driver_of cell).core ≡ (module_of cell.core).name
unfolding verilog_driver_of
verilog_core cell entity floats = refl

-- the modules of cells apart from their drivers
abbrev verilog_of : List DrivenData → DrivenModels VModule
verilog_of cells = record { models = models_of (driven_modules_of cells); drivers = drivers_of (driven_modules_of cells) }

same_modules : (cells : List CellEntry) → apart in_verilog cells ≡ verilog_of (accepted_of cells)
same_modules [] = refl
same_modules (Accepted cell entity ∷ cells) = by (same_modules cells) (may_float cell)
  where
    by : apart in_verilog cells ≡ verilog_of (accepted_of cells) → (b : Bool)
        → with_cell (module_of cell.core) (if b then verilog_driver_of cell ∷ [] else []) (apart in_verilog cells)
        ≡ with_cell (module_of cell.core) (driver_in (if b then Some (verilog_driver_of cell) else None))
        (verilog_of (accepted_of cells))
    by rest true = ap (with_cell (module_of cell.core) (verilog_driver_of cell ∷ [])) rest
    by rest false = ap (with_cell (module_of cell.core) []) rest
same_modules (Refused name refusal ∷ cells) = same_modules cells

verilog_by : (cells : List CellEntry) → AllByRecursion (IsFound verilog_sections (cores in_verilog cells)) (cores in_verilog cells)
    → modules_of cells ≡ file_models verilog_sections (apart in_verilog cells)
verilog_by cells found =
    let drivers = all_over in_verilog verilog_sections verilog_core (cores in_verilog cells) cells found in
    ap (λ (fs : List (FileModel VModule)). map (own_model verilog_sections) (cores in_verilog cells) ++ fs) (sym drivers)

-- The VITAL models.

vital_core : (cell : DrivenData) (entity : List ℕ) → may_float cell ≡ true
    → (vital_driver_of cell entity).core ≡ (core_entity cell entity).name
unfolding vital_driver_of
vital_core cell entity floats = sym (ap (λ (b : Bool). if b then codes "cell" ++ decimal cell.core.number else entity) floats)

-- the entities of cells apart from their drivers, each named behind models with these names
abbrev vital_behind : List (List ℕ) → List DrivenData → DrivenModels VEntity
vital_behind given cells = record {
  models = models_of (driven_entities_behind given cells);
  drivers =
      drivers_of (driven_entities_behind given cells);
}

same_entities : (cells : List CellEntry) (given : List (List ℕ)) → AreNamedBehind given cells
    → apart in_vital cells ≡ vital_behind given (accepted_of cells)
same_entities [] given named = refl
same_entities (Accepted cell entity ∷ cells) given named =
    by (same_entities cells (given ++ lowered (model_name (may_float cell) given cell) ∷ []) named.1) (may_float cell) named.0
  where
    others : DrivenModels VEntity
    others = vital_behind (given ++ lowered (model_name (may_float cell) given cell) ∷ []) (accepted_of cells)

    by : apart in_vital cells ≡ others → (b : Bool) → entity ≡ model_name b given cell
        → with_cell (entity_of cell.core (if b then codes "cell" ++ decimal cell.core.number else entity))
        (if b then vital_driver_of cell entity ∷ [] else []) (apart in_vital cells)
        ≡ with_cell (driven_entity b given cell).model (driver_in (driven_entity b given cell).driver) others
    by rest true e = λ i. with_cell (entity_of cell.core (codes "cell" ++ decimal cell.core.number))
        (vital_driver_of cell (e i) ∷ []) (rest i)
    by rest false e = λ i. with_cell (entity_of cell.core (e i)) [] (rest i)
same_entities (Refused name refusal ∷ cells) given named = same_entities cells given named

vital_by : (cells : List CellEntry) → AllByRecursion (IsFound vital_sections (cores in_vital cells)) (cores in_vital cells)
    → entities_of cells ≡ file_models vital_sections (apart in_vital cells)
vital_by cells found =
    let drivers = all_over in_vital vital_sections vital_core (cores in_vital cells) cells found in
    ap (λ (fs : List (FileModel VEntity)). map (own_model vital_sections) (cores in_vital cells) ++ fs) (sym drivers)

-- Each core is found by its name.

modules_found : (ms : List VModule) → verilog_rules.AreWellFormed ms → AllByRecursion (IsFound verilog_sections ms) ms
modules_found ms h = all_found verilog_sections verilog_rules.AreApart module_names.is_new same_bytes ms
    (modules_apart ms h.apart)

-- names of entities that differ, whatever the case of their letters
record AreEntityNames (names : List (List ℕ)) : Type 0 where
  apart : vital_rules.AreApart names
  named : AllByRecursion IsNamed names

new_entity : (before : List (List ℕ)) (x : List ℕ) (after : List (List ℕ)) → AreEntityNames (before ++ x ∷ after)
    → list_any (is_same x) before ≡ false
new_entity before x after h = entity_names.is_new before x after (at_place IsNamed before x after h.named) h.apart

all_named : (es : List VEntity) → AllByRecursion vital_rules.IsWellFormedEntity es
    → AllByRecursion IsNamed (own_names vital_sections es)
all_named [] h = tt
all_named (e ∷ es) h = (entity_named e.name h.0.name, all_named es h.1)

entities_found : (es : List VEntity) → vital_rules.AreWellFormed es → AllByRecursion (IsFound vital_sections es) es
entities_found es h =
    all_found vital_sections AreEntityNames new_entity same_self es
    (record { apart = h.apart; named = all_named es (recursion_from_All vital_rules.IsWellFormedEntity es h.entities) })

-- So it is for the cells of a library.

files_are :
    {M : Type 0} (l : SectionLanguage M) (good : List M → Type 0) (whole : List (FileModel M)) (found read : DrivenModels M)
    → found ≡ read → good read.models → (good found.models → whole ≡ file_models l found) → whole ≡ file_models l read
files_are {M} l good whole found read same holds by =
    by (subst (λ (f : DrivenModels M). good f.models) (sym same) holds) ∙ ap (file_models l) same

modules_apart_are : (library : List ℕ) → apart in_verilog (cells_of library) ≡ verilog_in library
modules_apart_are library = same_modules (cells_of library) ∙ ap verilog_of (are_accepted library)

modules_are : (library : List ℕ) → modules_of (cells_of library) ≡ file_models verilog_sections (verilog_in library)
modules_are library =
    files_are verilog_sections verilog_rules.AreWellFormed _ _ _ (modules_apart_are library) (modules-well-formed library).models
    (λ h. verilog_by (cells_of library) (modules_found (cores in_verilog (cells_of library)) h))

entities_apart_are : (library : List ℕ) → apart in_vital (cells_of library) ≡ vital_in library
entities_apart_are library = same_entities (cells_of library) [] (are_named library) ∙ ap (vital_behind []) (are_accepted library)

pub entities_are : (library : List ℕ) → entities_of (cells_of library) ≡ file_models vital_sections (vital_in library)
entities_are library =
    files_are vital_sections vital_rules.AreWellFormed _ _ _ (entities_apart_are library) (entities-well-formed library).models
    (λ h. vital_by (cells_of library) (entities_found (cores in_vital (cells_of library)) h))

-- So the Verilog and the VHDL of the library are read as these.

pub verilog_read : (library : List ℕ) → verilog.text (translate_outcome library).text.verilog ≡ Ok (modules_of (cells_of library))
verilog_read library =
    ap (result_map_both (file_models verilog_sections) (λ f. f)) (libraries-read-back library).verilog.answer
    ∙ ap Ok (sym (modules_are library))

pub vital_read : (library : List ℕ) → vital.text (translate_outcome library).text.vital ≡ Ok (entities_of (cells_of library))
vital_read library =
    ap (result_map_both (file_models vital_sections) (λ f. f)) (libraries-read-back library).vital.answer
    ∙ ap Ok (sym (entities_are library))
