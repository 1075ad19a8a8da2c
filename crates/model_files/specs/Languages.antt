-- A language of models: what is read of its files, and what runs of them.
use Rattle.std.specs.Prelude.{◌≡◌, ℕ, List, ◌++◌, Result, Err}
use Rattle.cell_machine.specs.declared.changes.Change.{Change}
use Rattle.stimulus.specs.declared.ports.Ports.{Ports}
use Rattle.stimulus.specs.DriveLines.{lines_along, DriveMachine}
use Rattle.udp_tables.specs.declared.models.ModelFault.{ModelFault}
use Rattle.udp_tables.specs.declared.models.ModelFault.TheVariants as fault
use Rattle.udp_tables.specs.declared.models.VPort.{VPort}
use Rattle.stimulus.specs.TraceText.{heading_text, trace_text}
use Rattle.model_files.specs.declared.format.ModelFormat.{ModelFormat}
use Rattle.model_files.specs.Formats.{tag_of}

-- The format of the language's files, the models of a text or its fault, the names of models and their ports as they are spelled,
-- what runs of a model, and which models a text can tell.
pub record Language (M : Type 0) : Type 1 where
  pub format : ModelFormat
  pub text : List ℕ → Result (List M) ModelFault
  pub name : M → List ℕ
  pub ports : M → List VPort
  pub machine : M → DriveMachine
  pub is_well_formed : M → Type 0

-- the language of these
abbrev pub language_of : {M : Type 0} → ModelFormat → (List ℕ → Result (List M) ModelFault) → (M → List ℕ) → (M → List VPort)
    → (M → DriveMachine) → (M → Type 0) → Language M
language_of format text name ports machine is_well_formed =
    record { format = format; text = text; name = name; ports = ports; machine = machine; is_well_formed = is_well_formed }

-- this is the fault of a text of which this is the answer; want of memory is told of no text
abbrev pub IsFaultIn : {M : Type 0} → Result (List M) ModelFault → ModelFault → Type 0
IsFaultIn answer fault.Memory = Unit {0}
IsFaultIn answer e = answer ≡ Err e

-- the section of a model: its name, and the lines of its trace on these changes, with these names of its ports
abbrev pub model_trace_text : {M : Type 0} → Language M → M → Ports → List Change → List ℕ
model_trace_text l m ports changes =
    heading_text (l.name m) ++ trace_text (tag_of l.format) ports changes (lines_along (l.machine m).line changes)
