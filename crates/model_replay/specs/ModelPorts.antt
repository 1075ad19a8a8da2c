-- The models of a file as the cells that a stimulus may name (this project's rule).
use Rattle.std.specs.Prelude.{List, map}
use Rattle.udp_tables.specs.declared.models.VPort.{VPort}
use Rattle.stimulus.specs.declared.ports.Ports.{Ports}
use Rattle.stimulus.specs.declared.ports.Standing.TheVariants.{Ready}
use Rattle.stimulus.specs.PortEntries.{NamedCells}
use Rattle.model_files.specs.Languages.{Language}
use Rattle.model_files.specs.ModelNames.{input_names, output_names, model_names}

-- a model with these ports may be given changes of its inputs
abbrev pub ports_of : List VPort → Ports
ports_of ports = record { standing = Ready; inputs = input_names ports; outputs = output_names ports }

-- the ports of each model
abbrev pub model_ports : {M : Type 0} → Language M → List M → List Ports
model_ports {M = M} l models = map (λ (m : M). ports_of (l.ports m)) models

-- the models by their names as they are spelled, numbered from 0 in the order of the file
abbrev pub models_named : {M : Type 0} → Language M → List M → NamedCells
models_named l models = record { names = model_names l models; cells = model_ports l models }
