-- The ports of a sound driver: which of them are driven, and between which its paths lead.
use Rattle.std.proofs.Common.{◌≡◌, ℕ, ◌<◌, not, List, length, Some, slice_get, refl, sym, ◌∙◌, subst}
use Rattle.std.specs.List.{AllByRecursion}
use Rattle.std.proofs.lemmas.List.Elements.{recursion_from_All}
use Rattle.std.proofs.lemmas.List.Sums.{length-filter}
use Rattle.written_modules.specs.udp_tables.declared.models.VPort.{VPort}
use Rattle.driven_traces.specs.declared.delays.DrivePath.{DrivePath}
use Rattle.driven_traces.specs.Drivers.{IsPathOf}
use Rattle.driver_models.specs.declared.model.DriverModel.{DriverModel}
use Rattle.driver_models.specs.Models.{IsSound}
use Rattle.driver_texts.specs.NumberedPorts.{ports_of}
use Rattle.driver_texts.specs.PortNames.{inputs, outputs, name_at, driven_name}
use Rattle.written_modules.proofs.grammar_reader.ItemPlaces.{all_at, known_item}
use Rattle.written_driven_models.proofs.NumberedDrives.{Numbered, ports_numbered}

-- a number names a port, among these ports
pub record IsPortAt (ports : List VPort) (k : ℕ) : Type 0 where
  pub port : VPort
  pub stands : slice_get ports k ≡ Some port

pub port_name_is : (ports : List VPort) (k : ℕ) (port : VPort) → slice_get ports k ≡ Some port → name_at ports k ≡ port.name
port_name_is ports k port e = rw e refl

-- the place of a driven output, and its port
pub record IsDriveAt (m : DriverModel) (k : ℕ) : Type 0 where
  pub place : ℕ
  pub driven : slice_get m.driver.drives k ≡ Some place
  pub output : IsPortAt (outputs m.ports) place

pub driven_name_is : (m : DriverModel) (k place : ℕ) (port : VPort) → slice_get m.driver.drives k ≡ Some place
    → slice_get (outputs m.ports) place ≡ Some port → driven_name m k ≡ port.name
driven_name_is m k place port e f = rw (e, f) refl

module _ (m : DriverModel) (h : IsSound m) where
  inputs_counted : m.driver.inputs ≡ length (inputs m.ports)
  inputs_counted = h.inputs ∙ sym (length-filter (λ (port : VPort). port.input) m.ports)

  outputs_counted : m.driver.outputs ≡ length (outputs m.ports)
  outputs_counted = h.outputs ∙ sym (length-filter (λ (port : VPort). not port.input) m.ports)

  pub drives_below : AllByRecursion (λ p. p < length (outputs m.ports)) m.driver.drives
  drives_below = subst (λ n. AllByRecursion (λ p. p < n) m.driver.drives) outputs_counted
      (recursion_from_All (λ p. p < m.driver.outputs) m.driver.drives h.driver.outputs)

  pub numbered : Numbered (length (outputs m.ports)) 0 0 m.driver.drives m.ports (ports_of m)
  numbered = ports_numbered m.ports m.driver.drives h.driver.ascending drives_below

  pub path_start : (path : DrivePath) → IsPathOf m.driver path → IsPortAt (inputs m.ports) path.from
  path_start path p =
      let start = known_item (inputs m.ports) path.from (subst (λ k. path.from < k) inputs_counted p.from) in
      record { port = start.0; stands = start.1 }

  pub drive_at : (k : ℕ) → k < length m.driver.drives → IsDriveAt m k
  drive_at k l =
      let drive = known_item m.driver.drives k l in
      let port = known_item (outputs m.ports) drive.0
      (all_at (λ p. p < length (outputs m.ports)) m.driver.drives k drive.0 drives_below drive.1) in
      record { place = drive.0; driven = drive.1; output = record { port = port.0; stands = port.1 } }
