-- The names of models and of their ports, as they are spelled (this project's rule).
use Rattle.std.specs.Prelude.{◌≡◌, ℕ, ⊤, All, List, [], ◌∷◌, ◌++◌, length, map, None, if◌then◌else◌}
use Rattle.bool_functions.specs.NameList.{number_of}
use Rattle.udp_tables.specs.declared.models.VPort.{VPort}
use Rattle.model_files.specs.Languages.{Language}

-- the names of the inputs, in the order of the ports
abbrev pub input_names : List VPort → List (List ℕ)
input_names [] = []
input_names (port ∷ ports) = if port.input then port.name ∷ input_names ports else input_names ports

-- the names of the outputs, in the order of the ports
abbrev pub output_names : List VPort → List (List ℕ)
output_names [] = []
output_names (port ∷ ports) = if port.input then output_names ports else port.name ∷ output_names ports

abbrev pub model_names : {M : Type 0} → Language M → List M → List (List ℕ)
model_names l models = map l.name models

-- each of these names is new behind the others and those before it
abbrev pub AreNew : List (List ℕ) → List (List ℕ) → Type 0
AreNew before [] = ⊤
AreNew before (name ∷ names) = (number_of before name ≡ None) × AreNew (before ++ name ∷ []) names

-- among these ports no two inputs have one name, and no two outputs
pub record HasOwnNames (ports : List VPort) : Type 0 where
  pub inputs : AreNew [] (input_names ports)
  pub outputs : AreNew [] (output_names ports)

-- a model has ports of different names, as many inputs and outputs as it runs with
pub record HasOwnPorts {M : Type 0} (l : Language M) (m : M) : Type 0 where
  pub names : HasOwnNames (l.ports m)
  pub inputs : length (input_names (l.ports m)) ≡ (l.machine m).inputs
  pub outputs : length (output_names (l.ports m)) ≡ (l.machine m).outputs

-- no two models have one name, and each has ports of its own
pub record HaveOwnNames {M : Type 0} (l : Language M) (models : List M) : Type 0 where
  pub names : AreNew [] (model_names l models)
  pub ports : All (HasOwnPorts l) models
