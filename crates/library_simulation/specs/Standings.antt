-- How a cell stands by the models that were found for it. (This project's rule.)
use Rattle.std.specs.Prelude.{ℕ, Option, Some, None}
use Rattle.stimulus.specs.declared.ports.Standing.{Standing}
use Rattle.stimulus.specs.declared.ports.Standing.TheVariants.{Ready, VerilogPorts, VitalPorts}
use Rattle.library_simulation.specs.declared.numbers.ModelNumbers.{ModelNumbers}

-- by the numbers of its Verilog and of its VITAL model: the Verilog model is looked at first
abbrev pub standing_by : Option ℕ → Option ℕ → Standing
standing_by None vital = VerilogPorts
standing_by (Some verilog) None = VitalPorts
standing_by (Some verilog) (Some vital) = Ready

-- both numbers, where both are there
abbrev pub numbers_by : Option ℕ → Option ℕ → Option ModelNumbers
numbers_by None vital = None
numbers_by (Some verilog) None = None
numbers_by (Some verilog) (Some vital) = Some (record { verilog = verilog; vital = vital })
