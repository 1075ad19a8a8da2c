-- How a simulation ends at a bad line.
use Rattle.stimulus.specs.declared.faults.Cause.{Cause}
use Rattle.stimulus.specs.declared.faults.Cause.TheVariants as cause
use Rattle.run_outcome.proofs.FailureLaws.{IsPlain}
use Rattle.library_simulation.specs.FaultLines.{cause_status}

-- no call failed, and the words have a reading
pub cause_is_plain : (why : Cause) → IsPlain (cause_status why)
cause_is_plain cause.Form = record { no_failure = λ e. absurd cc; has_reading = λ e. absurd cc }
cause_is_plain cause.UnknownCell = record { no_failure = λ e. absurd cc; has_reading = λ e. absurd cc }
cause_is_plain (cause.RefusedCell number) = record { no_failure = λ e. absurd cc; has_reading = λ e. absurd cc }
cause_is_plain (cause.VerilogPorts number) = record { no_failure = λ e. absurd cc; has_reading = λ e. absurd cc }
cause_is_plain (cause.VitalPorts number) = record { no_failure = λ e. absurd cc; has_reading = λ e. absurd cc }
cause_is_plain cause.Count = record { no_failure = λ e. absurd cc; has_reading = λ e. absurd cc }
cause_is_plain cause.UnknownPin = record { no_failure = λ e. absurd cc; has_reading = λ e. absurd cc }
cause_is_plain cause.OutputPin = record { no_failure = λ e. absurd cc; has_reading = λ e. absurd cc }
cause_is_plain cause.Value = record { no_failure = λ e. absurd cc; has_reading = λ e. absurd cc }
cause_is_plain cause.Time = record { no_failure = λ e. absurd cc; has_reading = λ e. absurd cc }
