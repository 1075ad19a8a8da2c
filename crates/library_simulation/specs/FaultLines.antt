-- How a simulation ends whose stimulus has a bad line: the status, and the line that tells it. (This project's rules and
-- formats.)
use Rattle.std.specs.Prelude.{ℕ, List, [], ◌++◌, codes, Option, Some, None, slice_get}
use Rattle.std.specs.Option.{option_map_or}
use Rattle.cell_reader.specs.declared.refusal.Refusal.{Refusal}
use Rattle.library_reader.specs.LibraryCells.{CellEntry, Accepted, Refused, name_of}
use Rattle.stimulus.specs.declared.faults.Cause.{Cause}
use Rattle.stimulus.specs.declared.faults.Cause.TheVariants as cause
use Rattle.library_reader.specs.CellLines.{printed_name, refusal_line}
use Rattle.run_outcome.specs.declared.status.Status.{Status}
use Rattle.run_outcome.specs.declared.status.Status.TheVariants as status
use Rattle.model_files.specs.FaultLines.{stimulus_fault_line}
use Rattle.model_files.specs.StimulusAnswer.{LineStop}

-- a cell that is refused: its name, and why
unfoldable pub refused_cell_line : List ℕ → Refusal → List ℕ
refused_cell_line name refusal = codes "cell " ++ (printed_name name ++ refusal_line refusal)

-- a cell whose Verilog model is absent or has other ports
unfoldable pub verilog_ports_line : List ℕ → List ℕ
verilog_ports_line name = codes "verilog ports: " ++ (name ++ codes "\n")

-- a cell whose VITAL model is absent or has other ports
unfoldable pub vital_ports_line : List ℕ → List ℕ
vital_ports_line name = codes "vital ports: " ++ (name ++ codes "\n")

-- the name of the cell with this number
abbrev pub name_at : List CellEntry → ℕ → List ℕ
name_at cells number = option_map_or name_of (slice_get cells number) []

-- the line on the refused cell with this number
abbrev pub refused_line_by : Option CellEntry → List ℕ
refused_line_by None = []
refused_line_by (Some (Accepted cell entity)) = []
refused_line_by (Some (Refused name refusal)) = refused_cell_line name refusal

-- The line on the first bad line of a stimulus, which has this number and cause: where a cell may not be given changes the line
-- tells this cell.
abbrev pub cause_line : List CellEntry → ℕ → Cause → List ℕ
cause_line cells line (cause.RefusedCell number) = refused_line_by (slice_get cells number)
cause_line cells line (cause.VerilogPorts number) = verilog_ports_line (name_at cells number)
cause_line cells line (cause.VitalPorts number) = vital_ports_line (name_at cells number)
cause_line cells line why = stimulus_fault_line line why

-- the status of a run whose first bad line has this cause
abbrev pub cause_status : Cause → Status
cause_status (cause.RefusedCell number) = status.Cells
cause_status (cause.VerilogPorts number) = status.Model
cause_status (cause.VitalPorts number) = status.Model
cause_status why = status.Stimulus

-- how a simulation of these cells ends at the first bad line of its stimulus
abbrev pub cause_stop : List CellEntry → LineStop
cause_stop cells line why = record { status = cause_status why; line = cause_line cells line why }
