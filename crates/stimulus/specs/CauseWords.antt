-- The words of what is wrong with a line of a stimulus (this project's).
use Rattle.std.specs.Prelude.{ℕ, List, codes}
use Rattle.stimulus.specs.declared.faults.Cause.{Cause}
use Rattle.stimulus.specs.declared.faults.Cause.TheVariants as cause

abbrev pub word_of_cause : Cause → List ℕ
word_of_cause cause.Form = codes "form"
word_of_cause cause.UnknownCell = codes "unknown cell"
word_of_cause (cause.RefusedCell cell) = codes "refused cell"
word_of_cause (cause.VerilogPorts cell) = codes "verilog ports"
word_of_cause (cause.VitalPorts cell) = codes "vital ports"
word_of_cause cause.Count = codes "count"
word_of_cause cause.UnknownPin = codes "unknown pin"
word_of_cause cause.OutputPin = codes "output pin"
word_of_cause cause.Value = codes "value"
word_of_cause cause.Time = codes "time"
