-- As many names of inputs and of outputs as a model has inputs and outputs.
use Rattle.std.proofs.Common.{◌≡◌, ℕ, suc, ◌+◌, true, false, not, cond, if◌then◌else◌, List, [], ◌∷◌, ◌++◌, length, refl, sym, ap}
use Rattle.std.proofs.Common.{◌∙◌, arith}
use Rattle.std.proofs.lemmas.List.Recursion.{is_count_by}
use Rattle.udp_tables.specs.declared.models.VPort.{VPort}
use Rattle.vital_models.specs.Sound.{output_ports_from}
use Rattle.file_models.specs.driver_models.Models.{is_input, input_count, output_count}
use Rattle.model_traces.specs.PortNumbers.{output_by, outputs_from, output_ports}
use Rattle.model_files.specs.ModelNames.{input_names, output_names}

one_more : (port : VPort) (ports : List VPort)
    → length (input_names (port ∷ ports)) ≡ cond (is_input port) (1 + length (input_names ports)) (length (input_names ports))
one_more port ports =
    let more : suc (length (input_names ports)) ≡ 1 + length (input_names ports) = omega arith in
    elim port.input as (λ b. length (if b then port.name ∷ input_names ports else input_names ports) ≡ cond b
    (1 + length (input_names ports)) (length (input_names ports))) [
      | true ↦ more
      | false ↦ refl
    ]

pub length-input_names : (ports : List VPort) → length (input_names ports) ≡ input_count ports
length-input_names ports = is_count_by (λ (some : List VPort). length (input_names some)) is_input refl one_more ports

one_output : (port : VPort) (ports : List VPort)
    → length (output_names (port ∷ ports)) ≡ cond (not port.input) (1 + length (output_names ports)) (length (output_names ports))
one_output port ports =
    let more : suc (length (output_names ports)) ≡ 1 + length (output_names ports) = omega arith in
    elim port.input as (λ b. length (if b then output_names ports else port.name ∷ output_names ports) ≡ cond (not b)
    (1 + length (output_names ports)) (length (output_names ports))) [
      | true ↦ refl
      | false ↦ more
    ]

pub length-output_names : (ports : List VPort) → length (output_names ports) ≡ output_count ports
length-output_names ports = is_count_by (λ (some : List VPort). length (output_names some)) (λ (port : VPort). not port.input)
    refl one_output ports

outputs_counted : (k : ℕ) (ports : List VPort) → length (output_names ports) ≡ length (outputs_from k ports)
outputs_counted k [] = refl
outputs_counted k (port ∷ ports) =
    elim port.input as (λ b. length (if b then output_names ports else port.name ∷ output_names ports) ≡ length
    (output_by k b ++ outputs_from (k + 1) ports)) [
      | true ↦ outputs_counted (k + 1) ports
      | false ↦ ap suc (outputs_counted (k + 1) ports)
    ]

-- as many numbers of outputs as there are outputs
pub length-output_ports : (ports : List VPort) → length (output_ports ports) ≡ output_count ports
length-output_ports ports = sym (outputs_counted 0 ports) ∙ length-output_names ports

from_counted : (k : ℕ) (ports : List VPort) → length (output_names ports) ≡ length (output_ports_from k ports)
from_counted k [] = refl
from_counted k (port ∷ ports) =
    elim port.input as (λ b. length (if b then output_names ports else port.name ∷ output_names ports) ≡ length
    (if b then output_ports_from (k + 1) ports else k ∷ output_ports_from (k + 1) ports)) [
      | true ↦ from_counted (k + 1) ports
      | false ↦ ap suc (from_counted (k + 1) ports)
    ]

pub length-ports_from : (k : ℕ) (ports : List VPort) → length (output_ports_from k ports) ≡ output_count ports
length-ports_from k ports = sym (from_counted k ports) ∙ length-output_names ports
