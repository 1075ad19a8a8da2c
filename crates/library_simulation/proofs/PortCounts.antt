-- As many names of inputs and of outputs as a cell and the models with its ports have inputs and outputs.
use Rattle.std.proofs.Common.{◌≡◌, ℕ, true, List, [], ◌∷◌, length, map, refl, sym, ◌∙◌, arith}
use Rattle.cell_machine.specs.declared.pins.Pin.{Pin}
use Rattle.cell_machine.specs.declared.pins.Direction.{Direction}
use Rattle.cell_machine.specs.declared.pins.Direction.TheVariants.{Input, Output, Internal}
use Rattle.cell_machine.specs.Inputs.{is_input_at}
use Rattle.cell_machine.specs.Lines.{Machine}
use Rattle.cell_machine.proofs.RuleLemmas.{rules_of}
use Rattle.three_state_cells.specs.DrivenCells.{DrivenData}
use Rattle.three_state_cells.specs.Timing.{is_output_at}
use Rattle.three_state_cells.specs.Laws.{KeepsOutputs}
use Rattle.three_state_cells.proofs.CoreDrivers.{count}
use Rattle.generated_drivers.specs.Generated.{pins_of, verilog_driver_of}
use Rattle.generated_drivers.proofs.PortDirections.{port_directions, pin_of, verilog_directions, vital_directions, inputs_counted}
use Rattle.generated_drivers.proofs.PortDirections.{outputs_counted}
use Rattle.generated_drivers.proofs.Fitting.{verilog_drivers_fit}
use Rattle.udp_tables.specs.declared.models.VPort.{VPort}
use Rattle.driver_models.specs.Models.{input_count, output_count, directions}
use Rattle.specify_blocks.specs.declared.model.VModule.{VModule}
use Rattle.specify_blocks.specs.Ports as in_verilog
use Rattle.specify_blocks.specs.Sound as modules_of
use Rattle.vital_models.specs.declared.model.VEntity.{VEntity}
use Rattle.vital_models.specs.Ports as in_vital
use Rattle.vital_models.specs.Sound as entities_of
use Rattle.file_models.specs.declared.file_model.FileModel.{FileModel}
use Rattle.file_models.specs.FileModels.{machine_by}
use Rattle.model_traces.specs.ModuleTrace.{module_machine}
use Rattle.model_traces.specs.EntityTrace.{entity_machine}
use Rattle.model_replay.proofs.PortCounts.{length-input_names, length-output_names}
use Rattle.stimulus.specs.declared.ports.Standing.{Standing}
use Rattle.stimulus.specs.Comparison.{HavePorts}
use Rattle.library_simulation.specs.declared.same_ports.Spelling.TheVariants.{Exact, AnyCase}
use Rattle.library_simulation.specs.PinNames.{directed_names, named_ports}
use Rattle.library_simulation.specs.SamePorts.{same_ports}
use Rattle.library_simulation.specs.Comparisons.{cell_machine}
use Rattle.library_simulation.specs.Sections.{RunsByPorts}
use Rattle.library_simulation.specs.Generated.{KeepsCellRules}
use Rattle.library_simulation.proofs.PortLemmas.{same_directions}

-- Pins have as many names of each direction as there are pins of it.

record CountsPins (pins : List Pin) (inputs outputs : ℕ) : Type 0 where
  of_inputs : length (directed_names Input pins) ≡ inputs
  of_outputs : length (directed_names Output pins) ≡ outputs

abbrev AreCounted : List Pin → Type 0
AreCounted pins = CountsPins pins (count (map is_input_at pins)) (count (map is_output_at pins))

pins_counted : (pins : List Pin) → AreCounted pins
pins_counted [] = record { of_inputs = refl; of_outputs = refl }
pins_counted (pin ∷ pins) = by pin.name pin.direction (pins_counted pins)
  where
    by : (name : List ℕ) (direction : Direction) → AreCounted pins → AreCounted (pin_of name direction ∷ pins)
    by name Input rest = record { of_inputs = omega (arith, rest.of_inputs); of_outputs = omega (arith, rest.of_outputs) }
    by name Output rest = record { of_inputs = omega (arith, rest.of_inputs); of_outputs = omega (arith, rest.of_outputs) }
    by name Internal rest = record { of_inputs = omega (arith, rest.of_inputs); of_outputs = omega (arith, rest.of_outputs) }

-- A model that can be run, with ports of these pins.

counts_ports : (pins : List Pin) (ports : List VPort) → directions ports ≡ port_directions pins
    → CountsPins pins (input_count ports) (output_count ports)
counts_ports pins ports same =
    let counted = pins_counted pins in
    record {
      of_inputs = counted.of_inputs ∙ sym (inputs_counted ports pins same);
      of_outputs = counted.of_outputs ∙ sym (outputs_counted ports pins same);
    }

counts_model :
    {M : Type 0} (is_sound : M → Type 0) (machine : M → Machine) (pins : List Pin) (f : FileModel M)
    → directions f.ports ≡ port_directions pins
    → RunsByPorts is_sound machine f → CountsPins pins f.driver.inputs f.driver.outputs
counts_model is_sound machine pins f same run =
    let counts = counts_ports pins f.ports same in
    record {
      of_inputs = counts.of_inputs ∙ sym (length-input_names f.ports) ∙ run.inputs;
      of_outputs = counts.of_outputs ∙ sym (length-output_names f.ports) ∙ run.outputs;
    }

-- the outputs of a core keep the rules of cells
pub outputs_keep : (cell : DrivenData) → KeepsCellRules cell → KeepsOutputs cell.core
outputs_keep cell keeps =
    (rules_of cell.core.name cell.core.pins cell.core.groups cell.core.outputs cell.core.checks cell.core.arcs
    keeps.core).of_outputs

counts_cell : (cell : DrivenData) → KeepsCellRules cell → CountsPins (pins_of cell) cell.driver.inputs cell.driver.outputs
unfolding verilog_driver_of
counts_cell cell keeps =
    let fits = verilog_drivers_fit cell (outputs_keep cell keeps) keeps.driver in
    let counts = counts_ports (pins_of cell) (in_verilog.ports_of (pins_of cell)) (verilog_directions 1 (pins_of cell)) in
    record { of_inputs = counts.of_inputs ∙ sym fits.sound.inputs; of_outputs = counts.of_outputs ∙ sym fits.sound.outputs }

-- A cell, and models with its ports that can be run, have as many inputs and outputs as it has named ports.
pub have_ports :
    (standing : Standing) (cell : DrivenData) (entity : List ℕ) (m : FileModel VModule) (e : FileModel VEntity)
    → KeepsCellRules cell
    → same_ports Exact (in_verilog.ports_of (pins_of cell)) m.ports ≡ true
    → same_ports AnyCase (in_vital.ports_of entity (pins_of cell)) e.ports ≡ true
    → RunsByPorts modules_of.IsSound module_machine m → RunsByPorts entities_of.IsSound entity_machine e
    → HavePorts (named_ports standing (pins_of cell)) (cell_machine cell) (machine_by module_machine m)
    (machine_by entity_machine e)
have_ports standing cell entity m e keeps same other run run_too =
    let pins = pins_of cell in
    let verilog =
    counts_model modules_of.IsSound module_machine pins m (sym (same_directions Exact (in_verilog.ports_of pins) m.ports same)
    ∙ verilog_directions 1 pins) run in
    let vital =
    counts_model entities_of.IsSound entity_machine pins e
    (sym (same_directions AnyCase (in_vital.ports_of entity pins) e.ports other) ∙ vital_directions entity pins) run_too in
    record {
      liberty_inputs = (counts_cell cell keeps).of_inputs;
      liberty_outputs = (counts_cell cell keeps).of_outputs;
      verilog_inputs = verilog.of_inputs;
      verilog_outputs = verilog.of_outputs;
      vital_inputs = vital.of_inputs;
      vital_outputs = vital.of_outputs;
    }
