-- The models of a cell's drivers are sound and fit the models of its core.
use Rattle.std.proofs.Common.{◌≡◌, ℕ, ◌+◌, ◌-◌, ◌≤◌, Bool, false, List, ◌++◌, length, map, refl, sym, ap, ◌∙◌, subst, arith}
use Rattle.std.proofs.Common.{replicate}
use Rattle.std.proofs.lemmas.List.{map-append, take-append-drop, length-drop}
use Rattle.std.proofs.lemmas.List.Sums.{count_by-le-length}
use Rattle.cell_machine.specs.declared.pins.Pin.{Pin}
use Rattle.cell_machine.specs.CellData.{CellData, data_of}
use Rattle.cell_machine.specs.Inputs.{is_input_at}
use Rattle.cell_machine.proofs.RuleLemmas.{cell_rules}
use Rattle.udp_tables.specs.declared.models.VPort.{VPort}
use Rattle.driven_traces.specs.declared.drivers.Driver.{Driver}
use Rattle.driven_traces.specs.Drivers as drivers
use Rattle.driver_models.specs.declared.model.DriverModel.{DriverModel}
use Rattle.driver_models.specs.Models.{directions, AreCorePorts, IsSound}
use Rattle.three_state_cells.specs.declared.driven_cell.DrivenCell.{DrivenCell}
use Rattle.three_state_cells.specs.Timing.{is_output_at}
use Rattle.three_state_cells.specs.Drivers.{own_pins, last_pins, IsDriverOf}
use Rattle.three_state_cells.specs.DrivenCells.{driven_data_of}
use Rattle.three_state_cells.specs.Laws.{KeepsOutputs}
use Rattle.three_state_cells.proofs.CoreDrivers.{count, flags_count, count_append, outputs_counted as core_outputs_counted}
use Rattle.generated_drivers.specs.Generated.{pins_of, verilog_driver_of, vital_driver_of}
use Rattle.generated_drivers.specs.Laws.{FitsCore, VerilogDriversFit, VitalDriversFit}
use Rattle.generated_drivers.proofs.PortDirections.{port_directions, verilog_directions, vital_directions, inputs_counted}
use Rattle.generated_drivers.proofs.PortDirections.{outputs_counted, directions_append, outputs_alone, inputs_none, outputs_all}
use Rattle.generated_drivers.proofs.PortDirections.{core_ports_pass}

module _ (core : CellData) (driver : Driver) (keeps : KeepsOutputs core) (is : IsDriverOf core driver) where
  abbrev driven : ℕ
  driven = length driver.drives

  abbrev own : List Pin
  own = own_pins core.pins driven

  abbrev enables : List Pin
  enables = last_pins core.pins driven

  -- there are no more driven outputs than pins
  pub few_drives : driven ≤ length core.pins
  few_drives =
      let all = core_outputs_counted core keeps in
      let whole = is.is_core.outputs in
      let few = count_by-le-length is_output_at core.pins in
      omega (arith, all, whole, few)

  parts : own ++ enables ≡ core.pins
  parts = take-append-drop (length core.pins - driven) core.pins

  enables_count : length enables ≡ driven
  enables_count =
      let rest = length-drop (length core.pins - driven) core.pins in
      let few = few_drives in
      omega (arith, rest, few)

  flags_split : (test : Pin → Bool) → count (map test core.pins) ≡ count (map test own) + count (map test enables)
  flags_split test =
      sym (ap (λ (pins : List Pin). count (map test pins)) parts)
      ∙ (ap count (map-append test own enables) ∙ count_append (map test own) (map test enables))

  own_inputs : driver.inputs ≡ count (map is_input_at own)
  own_inputs =
      let all = flags_count is_input_at core.pins in
      let split = flags_split is_input_at in
      let none = inputs_none enables is.enables in
      let whole = is.is_core.inputs in
      omega (arith, all, split, none, whole)

  own_outputs : driver.outputs ≡ count (map is_output_at own)
  own_outputs =
      let all = flags_count is_output_at core.pins in
      let numbered = core_outputs_counted core keeps in
      let split = flags_split is_output_at in
      let each = outputs_all enables is.enables in
      let sized = enables_count in
      let whole = is.is_core.outputs in
      omega (arith, all, numbered, split, each, sized, whole)

  -- a model of this driver, with ports of the cell's own pins, fits ports of all pins of the core
  pub fits :
      (model : DriverModel) (ports : List VPort) → model.driver ≡ driver → directions model.ports ≡ port_directions own
      → directions ports ≡ port_directions core.pins → FitsCore model ports
  fits model ports same of_own of_core =
      let core_ports : directions ports ≡ directions model.ports ++ replicate driven false =
      of_core
      ∙ (sym (ap port_directions parts)
      ∙ (directions_append own enables
      ∙ (ap (λ (bs : List Bool). bs ++ port_directions enables) (sym of_own)
      ∙ (ap (λ (bs : List Bool). directions model.ports ++ bs) (outputs_alone enables is.enables)
      ∙ ap (λ (n : ℕ). directions model.ports ++ replicate n false) enables_count)))) in
      let are : AreCorePorts model.ports (length model.driver.drives) ports =
      subst (λ (d : Driver). AreCorePorts model.ports (length d.drives) ports) (sym same) core_ports in
      record {
        sound = record {
          inputs = ap (λ (d : Driver). d.inputs) same ∙ (own_inputs ∙ sym (inputs_counted model.ports own of_own));
          outputs = ap (λ (d : Driver). d.outputs) same ∙ (own_outputs ∙ sym (outputs_counted model.ports own of_own));
          driver = subst drivers.IsSound (sym same) is.sound;
        };
        ports = are;
        tested = core_ports_pass model.ports (length model.driver.drives) ports are;
      }

pub verilog_drivers_fit : VerilogDriversFit
unfolding verilog_driver_of
verilog_drivers_fit cell keeps is =
    fits cell.core cell.driver keeps is _ _ refl (verilog_directions 1 (pins_of cell)) (verilog_directions 1 cell.core.pins)

pub vital_drivers_fit : VitalDriversFit
unfolding vital_driver_of
vital_drivers_fit cell name core keeps is =
    fits cell.core cell.driver keeps is _ _ refl (vital_directions name (pins_of cell)) (vital_directions core cell.core.pins)

-- the same of a cell that was read

pub driver_of_cell : (cell : DrivenCell) → IsDriverOf (data_of cell.core) cell.driver
driver_of_cell cell = record { sound = cell.sound; is_core = cell.is_core; enables = cell.has_enables }

pub few_drives_of : (cell : DrivenCell) → length cell.driver.drives ≤ length cell.core.pins
few_drives_of cell = few_drives (data_of cell.core) cell.driver (cell_rules cell.core).of_outputs (driver_of_cell cell)

pub verilog_driver_is_sound : (cell : DrivenCell) → IsSound (verilog_driver_of (driven_data_of cell))
verilog_driver_is_sound cell = (verilog_drivers_fit (driven_data_of cell) (cell_rules cell.core).of_outputs
    (driver_of_cell cell)).sound

pub vital_driver_is_sound : (cell : DrivenCell) (name : List ℕ) → IsSound (vital_driver_of (driven_data_of cell) name)
vital_driver_is_sound cell name =
    (vital_drivers_fit (driven_data_of cell) name name (cell_rules cell.core).of_outputs (driver_of_cell cell)).sound
