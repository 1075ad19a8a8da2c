-- The text of declarations: an entity with its ports, and the variables of its process. (IEEE 1076-1993, 1.1, 1.2, 4.3.1.3 and
-- 9.2; IEEE 1076.4-2000, the types of checks and of path delays.)
use Rattle.std.specs.Prelude.{ℕ, ◌+◌, Bool, false, nat_eq, nat_lt, if◌then◌else◌, List, [], ◌∷◌, ◌++◌, length, Option, is_some}
use Rattle.std.specs.Prelude.{codes, decimal}
use Rattle.std.specs.List.{position}
use Rattle.std.specs.Option.{option_map_or}
use Rattle.cell_machine.specs.declared.checks.CheckKind.{CheckKind}
use Rattle.cell_machine.specs.declared.checks.CheckKind.TheVariants as check_kind
use Rattle.udp_tables.specs.declared.models.VPort.{VPort}
use Rattle.vital_models.specs.declared.table.VStateRow.{VStateRow}
use Rattle.vital_models.specs.declared.model.VState.{VState}
use Rattle.vital_models.specs.declared.model.VOutput.{VOutput}
use Rattle.udp_tables.specs.declared.timing_checks.TimingCheck.{TimingCheck}
use Rattle.vital_models.specs.declared.model.VEntity.{VEntity}
use Rattle.vhdl_writer.specs.Joined.{numbered_texts, apart_text}
use Rattle.vhdl_writer.specs.Assignments.{assigned_variables_text}

-- the direction of a port
abbrev pub direction_text : VPort → List ℕ
direction_text port = if port.input then codes " : in std_ulogic" else codes " : out std_ulogic"

-- a port in the list of ports
unfoldable pub port_text : ℕ → VPort → List ℕ
port_text n port = apart_text (codes "; ") n ++ (port.name ++ direction_text port)

-- the list of ports
abbrev pub some_ports_text : List VPort → List ℕ
some_ports_text ports = codes "  port (" ++ (numbered_texts port_text 1 ports ++ codes ");\n")

-- the list of ports, where there are ports
abbrev pub ports_text : List VPort → List ℕ
ports_text ports = if nat_lt 0 (length ports) then some_ports_text ports else []

-- the header of an entity with a name and this list of ports, behind the packages that it uses, and the line that begins its
-- architecture
abbrev pub entity_header_text : List ℕ → List ℕ → List ℕ → List ℕ → List ℕ
entity_header_text packages name ports architecture =
    packages ++ (name ++ (codes " is\n" ++ (ports ++ (codes "end " ++ (name ++ (architecture ++ (name ++ codes " is\n")))))))

-- the packages that an entity uses, and its header
unfoldable pub header_text : VEntity → List ℕ
header_text e =
    entity_header_text
    (codes "library IEEE;\nuse IEEE.std_logic_1164.all;\nuse IEEE.VITAL_Timing.all;\nuse IEEE.VITAL_Primitives.all;\nentity ")
    e.name (ports_text e.ports) (codes ";\narchitecture vital of ")

abbrev pub is_input : VPort → Bool
is_input port = port.input

-- where, from 0, the first input stands
abbrev pub first_input : List VPort → Option ℕ
first_input ports = position is_input ports

-- what stands before the input with this number in the list of signals
abbrev pub signal_start : Option ℕ → ℕ → List ℕ
signal_start first n = if option_map_or (λ k. nat_eq (k + 1) n) first false then codes " (" else codes ", "

-- a port in the list of signals, where it is an input
unfoldable pub signal_text : Option ℕ → ℕ → VPort → List ℕ
signal_text first n port = if port.input then signal_start first n ++ port.name else []

-- the end of the list of signals, where there is one
abbrev pub signals_end : Option ℕ → List ℕ
signals_end first = if is_some first then codes ")\n" else codes "\n"

-- the signals to which the process responds: the inputs
unfoldable pub process_text : VEntity → List ℕ
process_text e =
    codes "begin\n  process"
    ++ (numbered_texts (signal_text (first_input e.ports)) 1 e.ports ++ signals_end (first_input e.ports))

-- the type of the data of a check, and what they are at first
abbrev pub data_text : CheckKind → List ℕ
data_text check_kind.Width = codes " : VitalPeriodDataType := VitalPeriodDataInit;\n"
data_text check_kind.Period = codes " : VitalPeriodDataType := VitalPeriodDataInit;\n"
data_text _ = codes " : VitalTimingDataType := VitalTimingDataInit;\n"

-- the variables of a check: its report and its data
unfoldable pub check_variables_text : ℕ → TimingCheck → List ℕ
check_variables_text n k =
    codes "    variable x_" ++ (decimal n ++ (codes " : X01 := '0';\n    variable d_" ++ (decimal n ++ data_text k.kind)))

-- the variable of the violation, where there are checks
abbrev pub violation_variable_text : List TimingCheck → List ℕ
violation_variable_text checks = if nat_lt 0 (length checks) then codes "    variable viol : X01 := '0';\n" else []

-- how many columns the first row has
abbrev pub width_of : List VStateRow → ℕ
width_of [] = 0
width_of (row ∷ rows) = length row.inputs

-- the variables of a state: its value, and the columns of its table as they were before
unfoldable pub state_variables_text : ℕ → VState → List ℕ
state_variables_text n state =
    codes "    variable s_"
    ++ (decimal n
    ++ (codes " : std_logic := 'X';\n    variable p_"
    ++ (decimal n ++ (codes " : std_logic_vector (1 to "
    ++ (decimal (width_of state.table.rows) ++ codes ") := (others => 'X');\n")))))

-- the variables of an output
abbrev pub output_variables_text : ℕ → VOutput → List ℕ
output_variables_text n output = assigned_variables_text n (nat_lt 0 (length output.paths))

-- the variables: of the checks, of the violation, of the states, of the outputs
unfoldable pub variables_text : VEntity → List ℕ
variables_text e =
    numbered_texts check_variables_text 1 e.checks
    ++ (violation_variable_text e.checks
    ++ (numbered_texts state_variables_text 1 e.states ++ numbered_texts output_variables_text 1 e.outputs))
