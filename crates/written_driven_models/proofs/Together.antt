-- The entities and the drivers of the cells of one library are well formed together.
use Rattle.std.proofs.Common.{◌≡◌, ℕ, ◌^◌, ◌<◌, Bool, true, false, List, [], ◌∷◌, ◌++◌, length, Some, refl, sym, ap, ◌∙◌, codes}
use Rattle.std.proofs.Common.{decimal, slice_get, append_assoc}
use Rattle.std.specs.Prelude.{All}
use Rattle.std.specs.List.{IsDistinct, AllByRecursion}
use Rattle.std.specs.Option.{option_and_then}
use Rattle.std.proofs.lemmas.List.Elements.{All-nil, All-cons, recursion_from_All}
use Rattle.generated_drivers.specs.cell_machine.CellData.{CellData}
use Rattle.generated_drivers.proofs.cell_machine.RuleLemmas.{rules_of}
use Rattle.generated_drivers.proofs.cell_tables.CellParts.{Rules}
use Rattle.generated_drivers.specs.vhdl_tokens.Kept.{lowered}
use Rattle.written_entities.specs.vhdl_tokens.Spelling.{is_same}
use Rattle.generated_drivers.specs.vital_models.declared.model.VEntity.{VEntity}
use Rattle.generated_drivers.specs.vital_models.Generated.{entity_of}
use Rattle.written_entities.specs.vhdl_grammar.VhdlText.{entity_names}
use Rattle.written_entities.specs.vhdl_grammar.WellFormed.{IsEntityName, IsWellFormedEntity, AreApart, AreWellFormed}
use Rattle.generated_entities.specs.generated_modules.Cells.{IsNumberedCell}
use Rattle.generated_entities.proofs.Names.{IsGivenName, cell_number}
use Rattle.generated_entities.proofs.Entities.{named_well_formed, entity-well-formed}
use Rattle.generated_drivers.specs.driver_models.declared.model.DriverModel.{DriverModel}
use Rattle.generated_drivers.specs.driver_models.Cores.{Core, ports_at, core_ports}
use Rattle.written_modules.proofs.grammar_reader.ItemPlaces.{get_at, found_behind}
use Rattle.generated_drivers.specs.three_state_cells.DrivenCells.{DrivenData, may_float}
use Rattle.generated_drivers.specs.Generated.{vital_driver_of}
use Rattle.written_driven_models.specs.DriverLaws.{HasDrivers}
use Rattle.written_driven_models.proofs.CellsHaveDrivers.{has_drivers}
use Rattle.written_driven_models.proofs.VitalDrivers.{vital_drivers_are_well_formed}
use Rattle.vhdl_drivers.specs.VitalSections.{vital_sections}
use Rattle.written_entities.proofs.Names.{same_self}
use Rattle.written_driven_models.specs.Texts.{WrittenModel, models_of, driver_in, drivers_of}
use Rattle.written_driven_models.specs.Laws.{AreWellFormedDrivers}
use Rattle.written_driven_models.specs.Vital.{written_vital, well_formed_vital}
use Rattle.written_driven_models.specs.ApartDrivers.{IsOver, driver_names}
use Rattle.written_driven_models.proofs.ApartDrivers.{well_formed}
use Rattle.written_driven_models.proofs.KeptApart.{read_back}
use Rattle.written_driven_models.proofs.VitalPieces.{pieces}
use Rattle.written_driven_models.specs.VitalLibrary.{model_name, driven_entity, driven_entities_behind, driven_entities_of}
use Rattle.written_driven_models.specs.Library.{IsNumberedDriven}
use Rattle.written_driven_models.specs.LibraryLaws.{DrivenEntitiesAreWellFormed}
use Rattle.written_driven_models.proofs.NamesApart.{names_apart}

-- The entities.

core_rules : (core : CellData) → IsNumberedCell core → Rules core
core_rules core h = rules_of core.name core.pins core.groups core.outputs core.checks core.arcs h.rules

core_named : (n : ℕ) → n < 2 ^ 64 → IsGivenName (codes "cell" ++ decimal n)
core_named n h = by (decimal n) (cell_number n h)
  where
    by : (ds : List ℕ) → IsEntityName (codes "cell" ++ ds) → IsGivenName (codes "cell" ++ ds)
    by ds k = record { named = k; no_pin = refl }

one_entity : (b : Bool) (given : List (List ℕ)) (cell : DrivenData) → IsNumberedDriven cell
    → IsWellFormedEntity (driven_entity b given cell).model
one_entity true given cell h = named_well_formed cell.core (core_rules cell.core h.core)
    (codes "cell" ++ decimal cell.core.number) (core_named cell.core.number h.core.number)
one_entity false given cell h = entity-well-formed cell.core given h.core

all_entities : (given : List (List ℕ)) (cells : List DrivenData) → AllByRecursion IsNumberedDriven cells
    → All IsWellFormedEntity (models_of (driven_entities_behind given cells))
all_entities given [] h = All-nil IsWellFormedEntity
all_entities given (cell ∷ cells) h =
    let names : List (List ℕ) = given ++ lowered (model_name (may_float cell) given cell) ∷ [] in
    All-cons IsWellFormedEntity (driven_entity (may_float cell) given cell).model (models_of (driven_entities_behind names cells))
    (one_entity (may_float cell) given cell h.0)
    (all_entities names cells h.1)

front_apart : (xs ys : List (List ℕ)) → AreApart (xs ++ ys) → AreApart xs
unfolding IsDistinct
front_apart [] ys h = tt
front_apart (x ∷ xs) ys h = (front_all _ xs ys h.0, front_apart xs ys h.1)
  where
    front_all : (P : List ℕ → Type 0) (zs ws : List (List ℕ)) → AllByRecursion P (zs ++ ws) → AllByRecursion P zs
    front_all P [] ws k = tt
    front_all P (z ∷ zs) ws k = (k.0, front_all P zs ws k.1)

-- The drivers.

abbrev core_entity : DrivenData → VEntity
core_entity cell = entity_of cell.core (codes "cell" ++ decimal cell.core.number)

core_found : (cell : DrivenData) → core_ports is_same (vital_sections.core (core_entity cell) ∷ [])
    (codes "cell" ++ decimal cell.core.number) ≡ Some (core_entity cell).ports
core_found cell =
    let name : List ℕ = codes "cell" ++ decimal cell.core.number in
    ap (option_and_then (ports_at (vital_sections.core (core_entity cell) ∷ [])))
    (found_behind (λ (core : Core). is_same name core.name) 0 [] (vital_sections.core (core_entity cell)) [] refl
    (same_self name))

one_driver :
    (b : Bool) (given : List (List ℕ)) (cell : DrivenData) (es before after : List VEntity) → (b ≡ true → HasDrivers cell)
    → es ≡ before ++ (driven_entity b given cell).model ∷ after → (rest : List DriverModel) → AllByRecursion (IsOver es) rest
    → AllByRecursion (IsOver es) (driver_in (driven_entity b given cell).driver ++ rest)
unfolding vital_driver_of
one_driver false given cell es before after h same rest others = others
one_driver true given cell es before after h same rest others = (
  record {
    place = length before;
    entity = core_entity cell;
    at = ap (λ (l : List VEntity). slice_get l (length before)) same ∙ get_at before (core_entity cell) after;
    named = refl;
    alone = vital_drivers_are_well_formed cell given [] (vital_sections.core (core_entity cell) ∷ [])
        (codes "cell" ++ decimal cell.core.number) (h refl) refl (core_found cell);
  },
  others,
)

all_drivers :
    (given : List (List ℕ)) (cells : List DrivenData) (es before : List VEntity) → AllByRecursion IsNumberedDriven cells
    → es ≡ before ++ models_of (driven_entities_behind given cells)
    → AllByRecursion (IsOver es) (drivers_of (driven_entities_behind given cells))
all_drivers given [] es before h same = tt
all_drivers given (cell ∷ cells) es before h same =
    let names : List (List ℕ) = given ++ lowered (model_name (may_float cell) given cell) ∷ [] in
    let model : VEntity = (driven_entity (may_float cell) given cell).model in
    let after : List VEntity = models_of (driven_entities_behind names cells) in
    one_driver (may_float cell) given cell es before after (has_drivers cell h.0) same
    (drivers_of (driven_entities_behind names cells))
    (all_drivers names cells es (before ++ model ∷ []) h.1 (same ∙ sym (append_assoc before (model ∷ []) after)))

-- All together.

pub well_formed_together : DrivenEntitiesAreWellFormed
well_formed_together cells h =
    let xs : List (WrittenModel VEntity) = driven_entities_of cells in
    let each = recursion_from_All IsNumberedDriven cells h.numbered in
    let apart : AreApart (entity_names (models_of xs) ++ driver_names (drivers_of xs)) = names_apart [] cells each h.numbers in
    let models : AreWellFormed (models_of xs) = record {
      entities = all_entities [] cells each;
      apart = front_apart (entity_names (models_of xs)) (driver_names (drivers_of xs)) apart;
    } in
    let drivers : AreWellFormedDrivers written_vital well_formed_vital (models_of xs) [] (drivers_of xs) =
    well_formed (models_of xs) (drivers_of xs) models (all_drivers [] cells (models_of xs) [] each refl) apart in
    record { models = models; drivers = drivers; read_back = read_back written_vital well_formed_vital pieces xs models drivers }
