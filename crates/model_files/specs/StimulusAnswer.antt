-- What a stimulus is read as over a catalog of cells, or how it ends a run. This project's rules.
use Rattle.std.specs.Prelude.{ℕ, List, [], Result, Ok, Err}
use Rattle.stimulus.specs.declared.faults.Cause.{Cause}
use Rattle.stimulus.specs.declared.faults.StimulusFault.{StimulusFault}
use Rattle.stimulus.specs.declared.faults.StimulusFault.TheVariants as fault
use Rattle.stimulus.specs.declared.sections.Section.{Section}
use Rattle.stimulus.specs.PortEntries.{NamedCells, listed}
use Rattle.stimulus.specs.Stimulus.{stimulus_of}
use Rattle.run_outcome.specs.declared.status.Status.TheVariants as status
use Rattle.run_outcome.specs.FileSteps.{FileStop, FileAnswer, answer_within}
use Rattle.model_files.specs.Limits.{stimulus_limit}
use Rattle.model_files.specs.FaultLines.{stimulus_too_long_line}

-- how a stimulus with more bytes than its limit ends a run
abbrev pub long_stimulus_stop : FileStop
long_stimulus_stop = record { status = status.TooLong; line = stimulus_too_long_line }

-- how a run ends at its first bad line, by the line's number, from 1, and its cause
abbrev pub LineStop : Type 0
LineStop = ℕ → Cause → FileStop

-- how a stimulus with this fault ends a run
abbrev pub stimulus_fault_stop : LineStop → StimulusFault → FileStop
stimulus_fault_stop at_line (fault.Line line cause) = at_line line cause
stimulus_fault_stop at_line fault.Memory = record { status = status.Memory; line = [] }

-- the sections of a text, or how its fault ends a run
abbrev pub sections_or_stop : LineStop → Result (List Section) StimulusFault → Result (List Section) FileStop
sections_or_stop at_line (Ok sections) = Ok sections
sections_or_stop at_line (Err fault) = Err (stimulus_fault_stop at_line fault)

abbrev pub sections_in_text : LineStop → NamedCells → FileAnswer (List Section)
sections_in_text at_line catalog text = sections_or_stop at_line (stimulus_of (listed catalog) text)

-- the sections of a stimulus with these bytes over a catalog of any kind, or how they end a run
abbrev pub stimulus_answer : LineStop → NamedCells → FileAnswer (List Section)
stimulus_answer at_line catalog bytes = answer_within stimulus_limit long_stimulus_stop (sections_in_text at_line catalog) bytes
