-- The models of two files, and those of a cell among them. The Verilog model of a cell has the name and the ports that are
-- written for the cell in Verilog text, its VITAL model those that are written in VHDL text. Where outputs of the cell may float,
-- these are the models of its drivers. (This project's rules; IEEE 1364-2005, 3.7, and IEEE 1076-1993, 13.3.1, on when names are
-- the same.)
use Rattle.std.specs.Prelude.{ℕ, Bool, false, List, map, slice_get, Option, Some, None, if◌then◌else◌}
use Rattle.std.specs.Option.{option_map}
use Rattle.bool_functions.specs.NameList.{number_of}
use Rattle.udp_tables.specs.declared.models.VPort.{VPort}
use Rattle.specify_blocks.specs.declared.model.VModule.{VModule}
use Rattle.specify_blocks.specs.Names.{module_name, driver_name}
use Rattle.specify_blocks.specs.Ports as verilog
use Rattle.vhdl_tokens.specs.Kept.{lowered}
use Rattle.vital_models.specs.declared.model.VEntity.{VEntity}
use Rattle.vital_models.specs.Ports as vital
use Rattle.three_state_cells.specs.DrivenCells.{DrivenData, may_float}
use Rattle.generated_drivers.specs.Generated.{pins_of}
use Rattle.file_models.specs.declared.file_model.FileModel.{FileModel}
use Rattle.library_simulation.specs.declared.named_models.ModelFiles.{ModelFiles}
use Rattle.library_simulation.specs.declared.same_ports.Spelling.{Spelling}
use Rattle.library_simulation.specs.declared.same_ports.Spelling.TheVariants.{Exact, AnyCase}
use Rattle.library_simulation.specs.SamePorts.{same_ports, looked_up}

-- the names of models, as names that are spelled so are looked up
abbrev pub names_of : {M : Type 0} → Spelling → List (FileModel M) → List (List ℕ)
names_of {M = M} spelling models = map (λ (f : FileModel M). looked_up spelling f.name) models

-- the names of Verilog models
abbrev pub module_names : List (FileModel VModule) → List (List ℕ)
module_names modules = map (λ (f : FileModel VModule). f.name) modules

-- the names of VITAL models, in lower case
abbrev pub lowered_names : List (FileModel VEntity) → List (List ℕ)
lowered_names entities = map (λ (f : FileModel VEntity). lowered f.name) entities

-- Verilog and VITAL models, with the names by which they are looked up
pub record NamedModels : Type 0 where
  pub modules : List (FileModel VModule)
  pub module_names : List (List ℕ)
  pub entities : List (FileModel VEntity)
  pub entity_names : List (List ℕ)

-- the models of two files by their names
abbrev pub named_models : List (FileModel VModule) → List (FileModel VEntity) → NamedModels
named_models modules entities =
    record {
      modules = modules;
      module_names = module_names modules;
      entities = entities;
      entity_names = lowered_names entities;
    }

-- what stands behind the references
abbrev pub shown : ModelFiles → NamedModels
shown files =
    record {
      modules = files.modules.now;
      module_names = files.module_names;
      entities = files.entities.now;
      entity_names = files.entity_names;
    }

-- the ports of the model with this number, where there is one
abbrev pub module_ports : List (FileModel VModule) → ℕ → Option (List VPort)
module_ports modules number = option_map (λ (f : FileModel VModule). f.ports) (slice_get modules number)

abbrev pub entity_ports : List (FileModel VEntity) → ℕ → Option (List VPort)
entity_ports entities number = option_map (λ (f : FileModel VEntity). f.ports) (slice_get entities number)

-- there is a model, and it has these ports
abbrev pub has_ports : Spelling → List VPort → Option (List VPort) → Bool
has_ports spelling ports None = false
has_ports spelling ports (Some own) = same_ports spelling ports own

-- the number of a model that was found by its name, where it has these ports
abbrev pub with_ports : Spelling → List VPort → (ℕ → Option (List VPort)) → Option ℕ → Option ℕ
with_ports spelling ports ports_at None = None
with_ports spelling ports ports_at (Some number) = if has_ports spelling ports (ports_at number) then Some number else None

-- The name of the Verilog model of a cell: that of its module, or of the module of its drivers where some outputs may float.
abbrev pub verilog_name : DrivenData → List ℕ
verilog_name cell =
    if may_float cell then driver_name cell.core.number cell.name else module_name cell.core.number cell.core.name

-- The number of the Verilog model of a cell, where it is there with the cell's ports.
unfoldable pub verilog_number : NamedModels → DrivenData → Option ℕ
verilog_number models cell =
    with_ports Exact (verilog.ports_of (pins_of cell)) (module_ports models.modules)
    (number_of models.module_names (verilog_name cell))

-- The number of the VITAL model of a cell, which has this name, where it is there with the cell's ports.
unfoldable pub vital_number : NamedModels → List ℕ → DrivenData → Option ℕ
vital_number models entity cell =
    with_ports AnyCase (vital.ports_of entity (pins_of cell)) (entity_ports models.entities)
    (number_of models.entity_names (lowered entity))
