-- Cells that may be given changes, and the models that stand for them.
use Rattle.std.proofs.Common.{◌≡◌, ℕ, zero, suc, Bool, true, false, if◌then◌else◌, List, [], ◌∷◌, length, map, position, bytes_eq}
use Rattle.std.proofs.Common.{Option, Some, None, refl, sym, ap, subst, ◌∙◌, arith}
use Rattle.std.specs.Prelude.{Ok, slice_get, slice_index_or, All}
use Rattle.std.specs.Option.{option_map}
use Rattle.std.proofs.lemmas.List.{length-map}
use Rattle.std.proofs.lemmas.Option.{slice_get-map}
use Rattle.three_state_cells.specs.DrivenCells.{DrivenData}
use Rattle.generated_drivers.specs.Generated.{pins_of}
use Rattle.file_models.specs.declared.file_model.FileModel.{FileModel}
use Rattle.file_models.specs.FileModels.{machine_by}
use Rattle.library_reader.specs.LibraryCells.{CellEntry, Accepted, Refused, name_of, cell_names, all_described}
use Rattle.udp_tables.specs.declared.models.VPort.{VPort}
use Rattle.specify_blocks.specs.declared.model.VModule.{VModule}
use Rattle.specify_blocks.specs.Ports as in_verilog
use Rattle.specify_blocks.specs.Sound as modules_of
use Rattle.vhdl_tokens.specs.Kept.{lowered}
use Rattle.vital_models.specs.declared.model.VEntity.{VEntity}
use Rattle.vital_models.specs.Ports as in_vital
use Rattle.vital_models.specs.Sound as entities_of
use Rattle.model_traces.specs.ModuleTrace.{module_machine}
use Rattle.model_traces.specs.EntityTrace.{entity_machine}
use Rattle.bool_functions.specs.NameList.{number_of}
use Rattle.stimulus.specs.declared.catalog.CellFound.TheVariants as cells
use Rattle.stimulus.specs.declared.ports.Ports.{Ports}
use Rattle.stimulus.specs.declared.ports.Standing.{Standing}
use Rattle.stimulus.specs.declared.ports.Standing.TheVariants as standing
use Rattle.stimulus.specs.declared.sections.Section.{Section}
use Rattle.stimulus.specs.Catalog.{cell_answer, cell_found}
use Rattle.stimulus.specs.PortEntries.{NamedCells, listed, entry_of_cell}
use Rattle.stimulus.specs.Laws.{IsSectionOf}
use Rattle.stimulus.specs.Stimulus.{stimulus_of}
use Rattle.stimulus.proofs.Properness.{sections_proper}
use Rattle.stimulus.proofs.Entries.{no_cell, some_cell, inputs_below}
use Rattle.library_simulation.specs.declared.numbers.ModelNumbers.{ModelNumbers}
use Rattle.library_simulation.specs.declared.same_ports.Spelling.{Spelling}
use Rattle.library_simulation.specs.declared.same_ports.Spelling.TheVariants.{Exact, AnyCase}
use Rattle.library_simulation.specs.SamePorts.{same_ports}
use Rattle.library_simulation.specs.NamedModels.{NamedModels, named_models, verilog_name, module_ports, entity_ports, has_ports}
use Rattle.library_simulation.specs.NamedModels.{with_ports, verilog_number, vital_number}
use Rattle.library_simulation.specs.Standings.{standing_by, numbers_by}
use Rattle.library_simulation.specs.Catalog.{standing_in, ports_in, numbers_in, cells_named}
use Rattle.library_simulation.specs.Comparisons.{cell_machine, beside, beside_numbers, beside_models}
use Rattle.library_simulation.specs.Sections.{RunsByPorts, CanBeCompared, SectionsCanBeCompared}
use Rattle.library_simulation.specs.Generated.{KeepsRules}
use Rattle.library_simulation.proofs.DescribedCells.{image_at, described_keep_rules}
use Rattle.library_simulation.proofs.PortCounts.{have_ports}

-- What a catalog answers.

answered : (number : ℕ) (how : Standing) (cell : ℕ) → cell_answer (Some (entry_of_cell number how)) ≡ cells.Cell cell
    → (number ≡ cell) × (how ≡ standing.Ready)
answered number standing.Ready cell e = let same : number ≡ cell = cc in (same, refl)
answered number standing.Refused cell e = absurd cc
answered number standing.VerilogPorts cell e = absurd cc
answered number standing.VitalPorts cell e = absurd cc

ready_at : (ports : List Ports) (at cell : ℕ)
    → cell_answer (option_map (λ (one : Ports). entry_of_cell at one.standing) (slice_get ports at)) ≡ cells.Cell cell
    → (one : Ports) × ((slice_get ports cell ≡ Some one) × (one.standing ≡ standing.Ready))
ready_at ports at cell e = by (slice_get ports at) refl e
  where
    by : (found : Option Ports) → slice_get ports at ≡ found
        → cell_answer (option_map (λ (one : Ports). entry_of_cell at one.standing) found) ≡ cells.Cell cell
        → (one : Ports) × ((slice_get ports cell ≡ Some one) × (one.standing ≡ standing.Ready))
    by None f g = absurd cc
    by (Some one) f g = let same = answered at one.standing cell g
        in (one, (subst (λ n. slice_get ports n ≡ Some one) same.0 f, same.1))

-- the ports of a cell that the catalog answers as one that may be given changes
pub ready_cell : (named : NamedCells) (name : List ℕ) (cell : ℕ) → length named.names ≡ length named.cells
    → cell_found (listed named) name ≡ cells.Cell cell
    → (one : Ports) × ((slice_get named.cells cell ≡ Some one) × (one.standing ≡ standing.Ready))
ready_cell named name cell l e = by (position (bytes_eq name) named.names) refl
  where
    by : (found : Option ℕ) → position (bytes_eq name) named.names ≡ found → (one : Ports)
        × ((slice_get named.cells cell ≡ Some one) × (one.standing ≡ standing.Ready))
    by None f = absurd (let none = ap cell_answer (no_cell name named.names named.cells f) in cc)
    by (Some at) f = ready_at named.cells at cell (sym (ap cell_answer (some_cell name named.names named.cells at l f)) ∙ e)

-- The models of a cell.

-- both numbers are there
pub record AreFound (verilog vital : Option ℕ) : Type 0 where
  pub module_number : ℕ
  pub entity_number : ℕ
  pub module_is : verilog ≡ Some module_number
  pub entity_is : vital ≡ Some entity_number

both_found : (verilog vital : Option ℕ) → standing_by verilog vital ≡ standing.Ready → AreFound verilog vital
both_found None vital e = absurd cc
both_found (Some m) None e = absurd cc
both_found (Some m) (Some n) e = record { module_number = m; entity_number = n; module_is = refl; entity_is = refl }

-- a number that counts is that of a model with the ports
fits : (spelling : Spelling) (ports : List VPort) (ports_at : ℕ → Option (List VPort)) (found : Option ℕ) (number : ℕ)
    → with_ports spelling ports ports_at found ≡ Some number → has_ports spelling ports (ports_at number) ≡ true
fits spelling ports ports_at None number e = absurd cc
fits spelling ports ports_at (Some k) number e = by (has_ports spelling ports (ports_at k)) refl e
  where
    by : (b : Bool) → has_ports spelling ports (ports_at k) ≡ b → (if b then Some k else None) ≡ Some number
        → has_ports spelling ports (ports_at number) ≡ true
    by true f g = let same : k ≡ number = cc in subst (λ n. has_ports spelling ports (ports_at n) ≡ true) same f
    by false f g = absurd cc

-- the model with this number has the ports
fitting_model : {M : Type 0} (spelling : Spelling) (ports_in : M → List VPort) (ports : List VPort) (models : List M) (number : ℕ)
    → has_ports spelling ports (option_map ports_in (slice_get models number)) ≡ true
    → (m : M) × ((slice_get models number ≡ Some m) × (same_ports spelling ports (ports_in m) ≡ true))
fitting_model {M = M} spelling ports_in ports models number e = by (slice_get models number) refl e
  where
    by : (found : Option M) → slice_get models number ≡ found → has_ports spelling ports (option_map ports_in found) ≡ true
        → (m : M) × ((slice_get models number ≡ Some m) × (same_ports spelling ports (ports_in m) ≡ true))
    by None f g = absurd cc
    by (Some m) f g = (m, (f, g))

-- the models of a cell that may be given changes
pub record HasModels (modules : List (FileModel VModule)) (entities : List (FileModel VEntity)) (cell : DrivenData)
    (entity : List ℕ) : Type 0 where
  pub numbers : ModelNumbers
  pub verilog : FileModel VModule
  pub vital : FileModel VEntity
  pub are : numbers_in (named_models modules entities) (Accepted cell entity) ≡ Some numbers
  pub is_module : slice_get modules numbers.verilog ≡ Some verilog
  pub is_entity : slice_get entities numbers.vital ≡ Some vital
  pub module_ports : same_ports Exact (in_verilog.ports_of (pins_of cell)) verilog.ports ≡ true
  pub entity_ports : same_ports AnyCase (in_vital.ports_of entity (pins_of cell)) vital.ports ≡ true

has_models : (modules : List (FileModel VModule)) (entities : List (FileModel VEntity)) (cell : DrivenData) (entity : List ℕ)
    → standing_in (named_models modules entities) entity cell ≡ standing.Ready → HasModels modules entities cell entity
unfolding verilog_number vital_number
has_models modules entities cell entity e =
    let models = named_models modules entities in
    let found = both_found (verilog_number models cell) (vital_number models entity cell) e in
    let (m, (m_is, m_ports)) =
    fitting_model Exact (λ (f : FileModel VModule). f.ports) (in_verilog.ports_of (pins_of cell)) modules found.module_number
    (fits Exact (in_verilog.ports_of (pins_of cell)) (module_ports modules) (number_of models.module_names (verilog_name cell))
    found.module_number found.module_is) in
    let (n, (n_is, n_ports)) =
    fitting_model AnyCase (λ (f : FileModel VEntity). f.ports) (in_vital.ports_of entity (pins_of cell)) entities
    found.entity_number
    (fits AnyCase (in_vital.ports_of entity (pins_of cell)) (entity_ports entities)
    (number_of models.entity_names (lowered entity)) found.entity_number found.entity_is) in
    record {
      numbers = record { verilog = found.module_number; vital = found.entity_number };
      verilog = m;
      vital = n;
      are = λ i. numbers_by (found.module_is i) (found.entity_is i);
      is_module = m_is;
      is_entity = n_is;
      module_ports = m_ports;
      entity_ports = n_ports;
    }

pub all_at : {X : Type 0} (P : X → Type 0) (xs : List X) (i : ℕ) (x : X) → All P xs → slice_get xs i ≡ Some x → P x
all_at P [] i x all e = absurd cc
all_at P (y ∷ xs) zero x all e = let same : y ≡ x = cc in subst P same (all 0 y (omega arith))
all_at P (y ∷ xs) (suc i) x all e = all_at P xs i x (λ k d h. all (suc k) d (omega (arith, h))) e

pub compared_as : (models : NamedModels) (cell : DrivenData) (entity : List ℕ) (numbers : ModelNumbers) (m : FileModel VModule)
    (n : FileModel VEntity) (found : Option CellEntry)
    → found ≡ Some (Accepted cell entity) → numbers_in models (Accepted cell entity) ≡ Some numbers
    → slice_get models.modules numbers.verilog ≡ Some m → slice_get models.entities numbers.vital ≡ Some n
    → beside_models models found
    ≡ Some (record {
      name = cell.name;
      ports = ports_in models (Accepted cell entity);
      liberty = cell_machine cell;
      verilog = machine_by module_machine m;
      vital = machine_by entity_machine n;
    })
compared_as models cell entity numbers m n found e f g h =
    ap (beside_models models) e ∙ ap (beside_numbers models cell (ports_in models (Accepted cell entity))) f
    ∙ (λ i. beside cell (ports_in models (Accepted cell entity)) (g i) (h i))

-- a section on an accepted cell that may be given changes
accepted_section : (all : List CellEntry) (modules : List (FileModel VModule)) (entities : List (FileModel VEntity))
    (section : Section) (cell : DrivenData) (entity : List ℕ)
    → All KeepsRules all → All (RunsByPorts modules_of.IsSound module_machine) modules
    → All (RunsByPorts entities_of.IsSound entity_machine) entities
    → slice_get all section.cell ≡ Some (Accepted cell entity)
    → standing_in (named_models modules entities) entity cell ≡ standing.Ready
    → IsSectionOf (listed (cells_named all modules entities)) section → CanBeCompared all modules entities section
accepted_section all modules entities section cell entity keep modules_run entities_run there ready s =
    let models = named_models modules entities in
    let h = has_models modules entities cell entity ready in
    let runs = all_at (RunsByPorts modules_of.IsSound module_machine) modules h.numbers.verilog h.verilog modules_run h.is_module
    in
    let runs_too = all_at (RunsByPorts entities_of.IsSound entity_machine) entities h.numbers.vital h.vital entities_run
    h.is_entity in
    let ports_there : slice_get (map (ports_in models) all) section.cell ≡ Some (ports_in models (Accepted cell entity)) =
    slice_get-map (ports_in models) all section.cell ∙ ap (option_map (ports_in models)) there in
    let models_there : slice_get (map (numbers_in models) all) section.cell ≡ Some (Some h.numbers) =
    slice_get-map (numbers_in models) all section.cell ∙ ap (option_map (numbers_in models)) there ∙ ap Some h.are in
    let rules = all_at KeepsRules all section.cell (Accepted cell entity) keep there in
    let below = inputs_below (cells_named all modules entities) section.cell (ports_in models (Accepted cell entity)) ports_there
    in
    record {
      cell = cell;
      entity_name = entity;
      is_accepted = there;
      ports = ports_in models (Accepted cell entity);
      has_ports = ports_there;
      numbers = h.numbers;
      has_models = models_there;
      verilog = h.verilog;
      is_module = h.is_module;
      vital = h.vital;
      is_entity = h.is_entity;
      is_compared = compared_as models cell entity h.numbers h.verilog h.vital (slice_get all section.cell) there h.are
          h.is_module h.is_entity;
      runs_module = runs.runs;
      runs_entity = runs_too.runs;
      have_ports = have_ports (standing_in models entity cell) cell entity h.verilog h.vital rules h.module_ports h.entity_ports
          runs runs_too;
      proper = s.proper (length (ports_in models (Accepted cell entity)).inputs) below;
    }

-- a section on a cell that may be given changes
ready_section : (all : List CellEntry) (modules : List (FileModel VModule)) (entities : List (FileModel VEntity))
    (section : Section) (c : CellEntry)
    → All KeepsRules all → All (RunsByPorts modules_of.IsSound module_machine) modules
    → All (RunsByPorts entities_of.IsSound entity_machine) entities
    → slice_get all section.cell ≡ Some c → (ports_in (named_models modules entities) c).standing ≡ standing.Ready
    → IsSectionOf (listed (cells_named all modules entities)) section → CanBeCompared all modules entities section
ready_section all modules entities section (Accepted cell entity) keep modules_run entities_run there ready s =
    accepted_section all modules entities section cell entity keep modules_run entities_run there ready s
ready_section all modules entities section (Refused name refusal) keep modules_run entities_run there ready s = absurd cc

can_be_compared : (all : List CellEntry) (modules : List (FileModel VModule)) (entities : List (FileModel VEntity))
    (section : Section)
    → All KeepsRules all → All (RunsByPorts modules_of.IsSound module_machine) modules
    → All (RunsByPorts entities_of.IsSound entity_machine) entities
    → IsSectionOf (listed (cells_named all modules entities)) section → CanBeCompared all modules entities section
can_be_compared all modules entities section keep modules_run entities_run s =
    let models = named_models modules entities in
    let same_length : length (cell_names all) ≡ length (map (ports_in models) all) =
    length-map all name_of ∙ sym (length-map all (ports_in models)) in
    let (one, (there, ready)) = ready_cell (cells_named all modules entities) s.named.0 section.cell same_length s.named.1 in
    let (c, (c_there, c_is)) = image_at (ports_in models) all section.cell one there in
    ready_section all modules entities section c keep modules_run entities_run c_there
    (ap (λ (p : Ports). p.standing) c_is ∙ ready) s

-- the sections of a stimulus over cells that keep the rules
pub sections_of_cells : (all : List CellEntry) (modules : List (FileModel VModule)) (entities : List (FileModel VEntity))
    (bytes : List ℕ) (sections : List Section)
    → All KeepsRules all → All (RunsByPorts modules_of.IsSound module_machine) modules
    → All (RunsByPorts entities_of.IsSound entity_machine) entities
    → stimulus_of (listed (cells_named all modules entities)) bytes ≡ Ok sections
    → All (CanBeCompared all modules entities) sections
sections_of_cells all modules entities bytes sections keep modules_run entities_run e =
    λ k d below.
    can_be_compared all modules entities (slice_index_or sections k d) keep modules_run entities_run
    (sections_proper (listed (cells_named all modules entities)) bytes sections e k d below)

pub sections_can_be_compared : SectionsCanBeCompared
sections_can_be_compared cells modules entities bytes sections modules_run entities_run e =
    sections_of_cells (all_described cells) modules entities bytes sections (described_keep_rules cells) modules_run entities_run
    e
