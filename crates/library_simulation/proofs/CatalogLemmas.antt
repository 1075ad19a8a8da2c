-- The cells of a catalog, added one after another.
use Rattle.std.proofs.Common.{◌≡◌, ◌<◌, ℕ, ◌+◌, List, [], ◌∷◌, ◌++◌, take, get_or, length, Option, Some, None}
use Rattle.std.proofs.Common.{Result, Ok, Err, IfOk, sym, ap, ◌∙◌}
use Rattle.bool_functions.specs.NameList.{number_of, Adds, AreDistinct}
use Rattle.file_models.specs.declared.file_model.FileModel.{FileModel}
use Rattle.library_reader.specs.LibraryCells.{CellEntry, name_of, cell_names}
use Rattle.specify_blocks.specs.declared.model.VModule.{VModule}
use Rattle.vital_models.specs.declared.model.VEntity.{VEntity}
use Rattle.stimulus.specs.declared.ports.Ports.{Ports}
use Rattle.stimulus.specs.PortEntries.{NamedCells, AddsCell}
use Rattle.library_simulation.specs.declared.numbers.ModelNumbers.{ModelNumbers}
use Rattle.library_simulation.specs.declared.same_ports.Spelling.{Spelling}
use Rattle.library_simulation.specs.SamePorts.{looked_up}
use Rattle.library_simulation.specs.NamedModels.{NamedModels, named_models, names_of, module_names, lowered_names}
use Rattle.library_simulation.specs.declared.catalog.Simulated.{Simulated}
use Rattle.library_simulation.specs.Catalog.{ports_in, numbers_in, with_cell, simulated_in, simulated_of, HaveOwnNames}
use Rattle.file_models.proofs.NewNames.{new_name, one_more, names_more}

-- a cell was added whose name is new
pub cell_added : (old new : NamedCells) (before after : List (Option ModelNumbers)) (name : List ℕ) (ports : Ports)
    (numbers : Option ModelNumbers) (number : ℕ)
    → AddsCell old name ports (Some number) new → after ≡ before ++ numbers ∷ []
    → record { catalog = new; models = after } ≡ with_cell (record { catalog = old; models = before }) name ports numbers
cell_added old new before after name ports numbers number a pushed = λ j. record { catalog = a.2 j; models = pushed j }

-- some cells, and one more
one_listed : (models : NamedModels) (cells : List CellEntry) (i : ℕ) (cell : CellEntry) → i < length cells
    → cell ≡ get_or cells i cell
    → simulated_in models (take (i + 1) cells)
    ≡ with_cell (simulated_in models (take i cells)) (name_of cell) (ports_in models cell) (numbers_in models cell)
one_listed models cells i cell h e =
    λ j. record {
      catalog = record { names = one_more name_of cells i cell h e j; cells = one_more (ports_in models) cells i cell h e j };
      models = one_more (numbers_in models) cells i cell h e j;
    }

-- the next cell is added
pub listed_more : (models : NamedModels) (old new : Simulated) (cells : List CellEntry) (i : ℕ) (cell : CellEntry) (ports : Ports)
    (numbers : Option ModelNumbers)
    → i < length cells → cell ≡ get_or cells i cell
    → (AreDistinct (cell_names cells) → old ≡ simulated_in models (take i cells))
    → (number_of old.catalog.names (name_of cell) ≡ None → new ≡ with_cell old (name_of cell) ports numbers)
    → ports ≡ ports_in models cell → numbers ≡ numbers_in models cell
    → AreDistinct (cell_names cells) → new ≡ simulated_in models (take (i + 1) cells)
listed_more models old new cells i cell ports numbers h e so_far adds p n own =
    let before = so_far own in
    let none = ap (λ (s : Simulated). number_of s.catalog.names (name_of cell)) before ∙ new_name name_of cells i cell h e own in
    adds none ∙ (λ j. with_cell (before j) (name_of cell) (p j) (n j)) ∙ sym (one_listed models cells i cell h e)

-- the next model is added by its name
pub model_named : {M : Type 0} (spelling : Spelling) (models : List (FileModel M)) (i : ℕ) (model : FileModel M)
    (old new : List (List ℕ)) (found : Option ℕ)
    → i < length models → model ≡ get_or models i model
    → (AreDistinct (names_of spelling models) → old ≡ names_of spelling (take i models))
    → Adds old (looked_up spelling model.name) found new
    → AreDistinct (names_of spelling models) → new ≡ names_of spelling (take (i + 1) models)
model_named {M = M} spelling = names_more (λ (f : FileModel M). looked_up spelling f.name)

-- the look-ups are by the names of the models
pub named_as : (modules : List (FileModel VModule)) (entities : List (FileModel VEntity)) (some others : List (List ℕ))
    → some ≡ module_names modules → others ≡ lowered_names entities
    → record { modules = modules; module_names = some; entities = entities; entity_names = others } ≡ named_models modules
    entities
named_as modules entities some others e f =
    λ i. record { modules = modules; module_names = e i; entities = entities; entity_names = f i }

-- the whole catalog
pub whole_catalog : {E : Type 0} (result : Result Simulated E) (cells : List CellEntry) (modules : List (FileModel VModule))
    (entities : List (FileModel VEntity)) (some others : List (List ℕ))
    → (AreDistinct (module_names modules) → some ≡ module_names modules)
    → (AreDistinct (lowered_names entities) → others ≡ lowered_names entities)
    → IfOk result (λ simulated. AreDistinct (cell_names cells)
    → simulated ≡ simulated_in (record { modules = modules; module_names = some; entities = entities; entity_names = others })
    cells)
    → IfOk result (λ simulated. HaveOwnNames cells modules entities → simulated ≡ simulated_of cells modules entities)
whole_catalog (Ok simulated) cells modules entities some others e f h =
    λ own. h own.of_cells ∙ ap (λ models. simulated_in models cells)
    (named_as modules entities some others (e own.of_modules) (f own.of_entities))
whole_catalog (Err fault) cells modules entities some others e f h = h
