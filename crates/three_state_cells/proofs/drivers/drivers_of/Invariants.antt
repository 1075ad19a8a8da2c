use Rattle.std.proofs.Common.{◌≡◌, ◌-◌, ◌++◌, map, drop, length}
use Rattle.std.specs.Prelude.{count_by}
use Rattle.cell_machine.specs.Inputs.{is_input_at}
use Rattle.cell_reader.specs.PinTimings.{subject_at}
use Rattle.core_groups.specs.Outputs.{shown}
use Rattle.three_state_cells.specs.Timing.{is_output_at, driven_of, paths_from, all_left_out}
use Rattle.three_state_cells.proofs.drivers.drivers_of.Given as goal

-- what drives the outputs so far, with what drives the others, is all
abbrev pub invariant-loop-output : goal.invariant-loop-output
invariant-loop-output l = record {
  inputs : l.drivers.driver.inputs ≡ count_by is_input_at l.fn.core.pins;
  outputs : l.drivers.driver.outputs ≡ count_by is_output_at l.fn.core.pins - length l.outputs;
  driven :
      l.drivers.driver.drives ++ driven_of l.fn.core.pins (map shown (drop l.output-index l.outputs))
      ≡ driven_of l.fn.core.pins (map shown l.outputs);
  paths :
      l.drivers.driver.paths ++ paths_from l.fn.core (length l.drivers.driver.drives) (map shown (drop l.output-index l.outputs))
      ≡ paths_from l.fn.core 0 (map shown l.outputs);
  left_out :
      l.drivers.left_out ++ all_left_out l.fn.core (map shown (drop l.output-index l.outputs))
      ≡ all_left_out l.fn.core (map shown l.outputs);
  same : l.core ≡ subject_at l.fn.core l.core.place;
}
