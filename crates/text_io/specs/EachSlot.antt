-- The values of each slot.
use Rattle.std.specs.Prelude.{ℕ, List}
use Rattle.text_io.specs.declared.each_slot.Inputs.{Inputs}
use Rattle.text_io.specs.declared.each_slot.Outputs.{Outputs}
use Rattle.text_io.specs.declared.sink.Sink.{Sink}
use Rattle.text_io.specs.declared.slots.InSlot.{InSlot}
use Rattle.text_io.specs.declared.slots.InSlot.TheVariants.{Library, Verilog, Vital, Stimulus}
use Rattle.text_io.specs.declared.slots.OutSlot.{OutSlot}
use Rattle.text_io.specs.declared.slots.OutSlot.TheVariants.{VerilogText, VitalText, Report, Faults}

-- the value at an input slot
abbrev pub input_of : {X : Type 0} → Inputs X → InSlot → X
input_of each Library = each.library
input_of each Verilog = each.verilog
input_of each Vital = each.vital
input_of each Stimulus = each.stimulus

-- what an output slot has of such a value for each
abbrev pub output_of : {X : Type 0} → Outputs X → OutSlot → X
output_of each VerilogText = each.verilog_text
output_of each VitalText = each.vital_text
output_of each Report = each.report
output_of each Faults = each.faults

-- the bytes in each sink
abbrev pub bytes_in : Outputs Sink → OutSlot → List ℕ
bytes_in sinks slot = (output_of sinks slot).bytes.items

-- how many bytes each sink has room for
abbrev pub room_in : Outputs Sink → OutSlot → ℕ
room_in sinks slot = (output_of sinks slot).room
