-- VHDL texts, and what they are by computing.
use Rattle.std.proofs.Common.{◌≡◌, ℕ, true, false, List, [], ◌∷◌, ◌++◌, Ok, codes, refl}
use Rattle.std.specs.Fmt.{digits}
use Rattle.trit_cubes.specs.declared.trits.Trit.TheVariants as trit
use Rattle.cell_machine.specs.declared.outputs.Source.TheVariants as source
use Rattle.udp_tables.proofs.FlipFlop.{flip-flop-ports, flip-flop-checks}
use Rattle.udp_tables.specs.declared.models.ModelFault.TheVariants.{Lexical, Syntax, Twice, TwoEdges, Undefined, Undriven}
use Rattle.udp_tables.specs.declared.models.ModelFault.TheVariants.{Unequal, Width}
use Rattle.udp_tables.proofs.FaultCases.{at, behind, AreFaults}
use Rattle.vhdl_tokens.specs.Words.{vhdl_words, used_words, is_reserved, is_used}
use Rattle.vital_tables.specs.declared.table.Trits.TheVariants as trits
use Rattle.vital_tables.specs.declared.model.OutValue.{OutValue}
use Rattle.vital_tables.specs.declared.model.OutValue.TheVariants as value
use Rattle.vital_tables.specs.declared.model.HGate.TheVariants as gate
use Rattle.vital_tables.specs.declared.model.VEntity.{VEntity}
use Rattle.vital_tables.specs.Rows.{state_rows}
use Rattle.udp_tables.proofs.SequentialRows.{flip_flop}
use Rattle.vhdl_grammar.specs.VhdlRules as rule
use Rattle.vhdl_grammar.specs.VhdlTables as table
use Rattle.vhdl_grammar.specs.VhdlDeclarations as declared
use Rattle.vhdl_grammar.specs.VhdlNames as name
use Rattle.vhdl_grammar.specs.VhdlChecks as check
use Rattle.vhdl_grammar.specs.VhdlOutputs as output
use Rattle.vhdl_grammar.specs.VhdlText as text
use Rattle.vhdl_grammar.specs.VhdlText.{vhdl_text}

-- the bytes are these entities
abbrev Reads : List ℕ → List VEntity → Type 0
Reads bytes entities = vhdl_text bytes ≡ Ok entities

-- A flip-flop with a setup of 50 of D before rising CK, and delays of 100 and 120 from CK to Q: its ports, its tables, its
-- variables and its statements.
abbrev flip-flop-head : List ℕ
flip-flop-head = codes "library IEEE;\nuse IEEE.std_logic_1164.all;\nuse IEEE.VITAL_Timing.all;\nuse IEEE.VITAL_Primitives.all;\nentity DFFT is\n  port (CK : in std_ulogic; D : in std_ulogic; Q : out std_ulogic);\nend DFFT;\narchitecture vital of DFFT is\n"

abbrev flip-flop-tables : List ℕ
flip-flop-tables = codes "  constant k_1 : VitalStateTableType := (\n    ('0', 'S', 'S', '-', 'S'),\n    ('X', '-', '-', '-', 'X'),\n    ('-', '/', '1', '-', '1'),\n    ('-', 'n', '-', '1', '1'),\n    ('-', 'N', '-', '1', '1'),\n    ('-', '*', '1', '1', '1'),\n    ('-', '/', '0', '-', '0'),\n    ('-', 'n', '-', '0', '0'),\n    ('-', 'N', '-', '0', '0'),\n    ('-', '*', '0', '0', '0'),\n    ('-', '-', '*', '1', '1'),\n    ('-', '-', '*', '0', '0'),\n    ('-', '-', '-', '-', 'X'));\n  constant k_2 : VitalTruthTableType := (\n    ('1', '1'),\n    ('0', '0'));\n"

abbrev flip-flop-variables : List ℕ
flip-flop-variables = codes "begin\n  process (CK, D)\n    variable x_1 : X01 := '0';\n    variable d_1 : VitalTimingDataType := VitalTimingDataInit;\n    variable viol : X01 := '0';\n    variable s_1 : std_logic := 'X';\n    variable p_1 : std_logic_vector (1 to 3) := (others => 'X');\n    variable z_1 : std_logic := 'X';\n    variable g_1 : VitalGlitchDataType;\n"

abbrev flip-flop-statements : List ℕ
flip-flop-statements = codes "  begin\n    VitalSetupHoldCheck (Violation => x_1, TimingData => d_1, TestSignal => D, RefSignal => CK, SetupHigh => 50 ps, SetupLow => 50 ps, CheckEnabled => true, RefTransition => 'R');\n    viol := x_1;\n    VitalStateTable (Result => s_1, PreviousDataIn => p_1, StateTable => k_1, DataIn => (viol, CK, D));\n    z_1 := VitalTruthTable (TruthTable => k_2, DataIn => (0 => s_1));\n    VitalPathDelay01 (OutSignal => Q, GlitchData => g_1, OutSignalName => \"Q\", OutTemp => z_1, Paths => (0 => (CK'last_event, (100 ps, 120 ps), true)), Mode => VitalTransport);\n  end process;\nend vital;\n"

-- the value of a state
kept : OutValue
kept = value.Table (record {
  rows =
      record { inputs = trits.One ∷ []; result = trit.One } ∷ record { inputs = trits.Zero ∷ []; result = trit.Zero } ∷ [];
})
    (source.State 0 ∷ [])

flip-flop : VEntity
flip-flop =
    record {
      name = codes "DFFT";
      ports = flip-flop-ports;
      states = record { table = record { rows = state_rows true 2 flip_flop }; violation = true; inputs = 0 ∷ 1 ∷ [] } ∷ [];
      conditions = [];
      outputs = record { port = 2; value = kept; paths = record { from = 0; rise = 100; fall = 120; gate = gate.Always } ∷ [] }
          ∷ [];
      checks = flip-flop-checks;
    }

-- the packages of an entity
abbrev packages : List ℕ
packages = codes "library IEEE;\nuse IEEE.std_logic_1164.all;\nuse IEEE.VITAL_Timing.all;\nuse IEEE.VITAL_Primitives.all;\n"

-- the flip-flop up to the signals of its process
abbrev in-process : List ℕ
in-process = flip-flop-head ++ (flip-flop-tables ++ codes "begin process ")

-- the flip-flop up to its statements
abbrev in-statements : List ℕ
in-statements = flip-flop-head ++ (flip-flop-tables ++ flip-flop-variables)

-- the flip-flop behind its check and its violation
abbrev behind-checks : List ℕ
behind-checks = in-statements ++ codes
    "begin VitalSetupHoldCheck (Violation => x_1, TimingData => d_1, TestSignal => D, RefSignal => CK, SetupHigh => 50 ps, SetupLow => 050 ps, CheckEnabled => true, RefTransition => 'R'); viol := x_1; "

-- an entity with two conditions up to the gate of its first path
abbrev in-gate : List ℕ
in-gate = codes "library IEEE;\nuse IEEE.std_logic_1164.all;\nuse IEEE.VITAL_Timing.all;\nuse IEEE.VITAL_Primitives.all;\nentity C is port (A : in std_ulogic; B : in std_ulogic; Y : out std_ulogic); end C; architecture vital of C is constant c_1 : VitalTruthTableType := (0 => ('-', '-', 'X')); constant c_2 : VitalTruthTableType := (0 => ('-', 'X')); begin process (A, B) variable z_1 : std_logic := 'X'; variable g_1 : VitalGlitchDataType; begin z_1 := '0'; VitalPathDelay01 (OutSignal => Y, GlitchData => g_1, OutSignalName => \"Y\", OutTemp => z_1, Paths => (0 => (A'last_event, (1 ps, 2 ps), "

-- an entity whose output has the name of the procedure of path delays and no paths, up to the line of the output
abbrev in-assignment : List ℕ
in-assignment = packages ++ codes
    "entity E is port (vitalpathdelay01 : out std_ulogic); end E; architecture vital of E is begin process variable z_1 : std_logic := 'X'; begin z_1 := '1'; "

-- the same with a path
abbrev in-call : List ℕ
in-call = packages ++ codes "entity F is port (A : in std_ulogic; VITALPATHDELAY01 : out std_ulogic); end F; architecture vital of F is begin process (A) variable z_1 : std_logic := 'X'; variable g_1 : VitalGlitchDataType; begin z_1 := '0'; "

-- The faults of texts, as they are by computing.
faults : AreFaults vhdl_text (
    -- Names and ports of an entity, and the end of the text.
    behind packages (
    at "entity viol is" Syntax 7
    ∷ at "entity A is port (A : in" Twice 18
    ∷ at "entity A is port (a : in" Twice 18
    ∷ at "entity A is port (B : in std_ulogic; b : in" Twice 37
    ∷ at "entity A is port (B_1 : in" Undefined 18
    ∷ at "entity A is port (B : inout" Syntax 22
    ∷ at "entity A is end B;" Undefined 16
    ∷ at "entity A is" Syntax 11
    ∷ at "entity A is ?" Lexical 12 ∷ []
    )
    -- Constants: their order, their rows and symbols.
    ++ behind flip-flop-head (
    at "constant k_2" Undefined 9
    ∷ at "constant viol" Syntax 9
    ∷ at "constant c_1 : VitalStateTableType" Syntax 15
    ∷ at "constant k_1 : VitalStateTableType := (('0', '1'), " Syntax 48
    ∷ at "constant k_1 : VitalStateTableType := (('0', '1', '-'), " Syntax 53
    ∷ at "constant k_1 : VitalStateTableType := (('0', '/', '1'), " Syntax 53
    ∷ at "constant k_1 : VitalStateTableType := (('/', 'P', '-', '1'), " TwoEdges 45
    ∷ at "constant k_1 : VitalStateTableType := (('/', '-', '1'), ('0', '0', '-', '1'), " Width 75
    ∷ at "constant k_1 : VitalStateTableType := (('/', '-', '1'));" Syntax 54
    ∷ at "constant k_1 : VitalStateTableType := (1 => ('/', '-', '1'));" Syntax 39
    ∷ at "constant k_1 : VitalStateTableType := (00 => ('/', '-', '1'), " Syntax 60
    ∷ at "constant k_1 : VitalTruthTableType := (('0', 'S'), " Syntax 45
    ∷ at "constant k_1 : VitalTruthTableType := (('0', 'B'), " Syntax 48
    ∷ at "constant k_1 : VitalTruthTableType := (('0', 'x'), " Syntax 45
    ∷ at "constant k_1 : VitalTruthTableType := (('0'), " Syntax 43 ∷ []
    )
    -- The signals of a process, and its variables.
    ++ behind in-process (
    at "(D" Undefined 1
    ∷ at "(CK)" Syntax 3
    ∷ at "(CK, D, Q" Undefined 8
    ∷ at "variable" Syntax 0
    ∷ at "(CK, D) begin" Syntax 8
    ∷ at "(CK, D) variable y_1" Undefined 17
    ∷ at "(CK, D) variable viol" Syntax 17
    ∷ at "(CK, D) variable s_1 : std_logic := 'X'; variable p_1 : std_logic_vector (1 to 2)" Syntax 79
    ∷ at "(CK, D) variable x_1 : X01 := '0'; variable d_1 : VitalTimingDataType := VitalTimingDataInit; variable s_1" Undefined
    103
    ∷ at "(CK, D) variable x_1 : X01 := '0'; variable d_1 : VitalTimingDataType := VitalPeriodDataInit" Syntax 73 ∷ []
    )
    -- Calls of checks, and the violation.
    ++ behind in-statements (
    at "begin VitalPeriodPulseCheck (Violation => x_1, PeriodData => d_1" Undefined 61
    ∷ at "begin VitalSetupHoldCheck (Violation => x_2" Undefined 40
    ∷ at "begin VitalSetupHoldCheck (Violation => x_1, TimingData => d_1, TestSignal => Q" Undefined 78
    ∷ at "begin VitalSetupHoldCheck (Violation => x_1, TimingData => d_1, TestSignal => D, RefSignal => CK, SetupHigh => 50 ps, SetupLow => 51 ps"
    Unequal 130
    ∷ at "begin VitalSetupHoldCheck (Violation => x_1, TimingData => d_1, TestSignal => D, RefSignal => CK, SetupHigh => 50 ps, HoldLow => 50 ps"
    Syntax 118
    ∷ at "begin VitalSetupHoldCheck (Violation => x_1, TimingData => d_1, TestSignal => D, RefSignal => CK, SetupHigh => 0000000000000050 ps"
    Lexical 111
    ∷ at "begin VitalSetupHoldCheck (Violation => x_1, TimingData => d_1, TestSignal => D, RefSignal => CK, SetupHigh => 50 ps, SetupLow => 50 ps, CheckEnabled => false"
    Syntax 153
    ∷ at "begin viol" Syntax 6
    ∷ at "begin VitalSetupHoldCheck (Violation => x_1, TimingData => d_1, TestSignal => D, RefSignal => CK, SetupHigh => 50 ps, SetupLow => 050 ps, CheckEnabled => true, RefTransition => 'R'); VitalSetupHoldCheck (Violation => x_2"
    Undefined 217
    ∷ at "begin VitalSetupHoldCheck (Violation => x_1, TimingData => d_1, TestSignal => D, RefSignal => CK, SetupHigh => 50 ps, SetupLow => 050 ps, CheckEnabled => true, RefTransition => 'R'); viol := x_2"
    Undefined 191
    ∷ at "begin VitalSetupHoldCheck (Violation => x_1, TimingData => d_1, TestSignal => D, RefSignal => CK, SetupHigh => 50 ps, SetupLow => 050 ps, CheckEnabled => true, RefTransition => 'R'); viol := x_1 or x_2"
    Undefined 198 ∷ []
    )
    -- Calls of tables, and the lines of outputs.
    ++ behind behind-checks (
    at "VitalStateTable (Result => s_1, PreviousDataIn => p_1, StateTable => k_1, DataIn => (viol, CK)" Width 93
    ∷ at "VitalStateTable (Result => s_1, PreviousDataIn => p_1, StateTable => k_1, DataIn => (viol, CK, ck" Twice 95
    ∷ at "VitalStateTable (Result => s_1, PreviousDataIn => p_1, StateTable => k_1, DataIn => (CK, viol" Syntax 89
    ∷ at "VitalStateTable (Result => s_1, PreviousDataIn => p_1, StateTable => k_1, DataIn => (CK, Q" Undefined 89
    ∷ at "VitalStateTable (Result => s_1, PreviousDataIn => p_1, StateTable => k_1, DataIn => (CK)" Syntax 87
    ∷ at "z_1" Syntax 0
    ∷ at "VitalStateTable (Result => s_1, PreviousDataIn => p_1, StateTable => k_1, DataIn => (viol, CK, D)); VitalStateTable (Result => s_2"
    Undefined 127
    ∷ at "VitalStateTable (Result => s_1, PreviousDataIn => p_1, StateTable => k_1, DataIn => (viol, CK, D)); z_2" Undefined 100
    ∷ at "VitalStateTable (Result => s_1, PreviousDataIn => p_1, StateTable => k_1, DataIn => (viol, CK, D)); z_1 := VitalTruthTable (TruthTable => k_1"
    Undefined 138
    ∷ at "VitalStateTable (Result => s_1, PreviousDataIn => p_1, StateTable => k_1, DataIn => (viol, CK, D)); z_1 := VitalTruthTable (TruthTable => k_2, DataIn => (s_1)"
    Syntax 157
    ∷ at "VitalStateTable (Result => s_1, PreviousDataIn => p_1, StateTable => k_1, DataIn => (viol, CK, D)); z_1 := '0'; Q"
    Undefined 112
    ∷ at "VitalStateTable (Result => s_1, PreviousDataIn => p_1, StateTable => k_1, DataIn => (viol, CK, D)); z_1 := '0'; end"
    Syntax 112
    ∷ at "VitalStateTable (Result => s_1, PreviousDataIn => p_1, StateTable => k_1, DataIn => (viol, CK, D)); z_1 := VitalTruthTable (TruthTable => k_2, DataIn => (0 => s_1)); Q"
    Undefined 166
    ∷ at "VitalStateTable (Result => s_1, PreviousDataIn => p_1, StateTable => k_1, DataIn => (viol, CK, D)); z_1 := VitalTruthTable (TruthTable => k_2, DataIn => (0 => s_1)); end"
    Syntax 166
    ∷ at "VitalStateTable (Result => s_1, PreviousDataIn => p_1, StateTable => k_1, DataIn => (viol, CK, D)); z_1 := VitalTruthTable (TruthTable => k_2, DataIn => (0 => s_1)); VitalPathDelay01 (OutSignal => Q, GlitchData => g_1, OutSignalName => \"R\""
    Undefined 236
    ∷ at "VitalStateTable (Result => s_1, PreviousDataIn => p_1, StateTable => k_1, DataIn => (viol, CK, D)); z_1 := VitalTruthTable (TruthTable => k_2, DataIn => (0 => s_1)); VitalPathDelay01 (OutSignal => Q, GlitchData => g_1, OutSignalName => Q"
    Syntax 236
    ∷ at "VitalStateTable (Result => s_1, PreviousDataIn => p_1, StateTable => k_1, DataIn => (viol, CK, D)); z_1 := VitalTruthTable (TruthTable => k_2, DataIn => (0 => s_1)); VitalPathDelay01 (OutSignal => Q, GlitchData => g_1, OutSignalName => \"q\", OutTemp => z_1, Paths => (1 =>"
    Syntax 267
    ∷ at "VitalStateTable (Result => s_1, PreviousDataIn => p_1, StateTable => k_1, DataIn => (viol, CK, D)); z_1 := VitalTruthTable (TruthTable => k_2, DataIn => (0 => s_1)); VitalPathDelay01 (OutSignal => Q, GlitchData => g_1, OutSignalName => \"q\", OutTemp => z_1, Paths => (0 => (Q"
    Undefined 273 ∷ []
    )
    -- Look-ups of conditions: their order, their lists, and one that is not used.
    ++ behind in-gate (
    at "VitalTruthTable (TruthTable => c_2" Undefined 31
    ∷ at "VitalTruthTable (TruthTable => c_1, DataIn => (0 => A)" Width 53
    ∷ at "VitalTruthTable (TruthTable => c_1, DataIn => (A)" Syntax 48
    ∷ at "VitalTruthTable (TruthTable => c_1, DataIn => (A, Y" Undefined 50
    ∷ at "VitalTruthTable (TruthTable => c_1, DataIn => (A, B)) = '0' and VitalTruthTable (TruthTable => C_1, DataIn => (B"
    Undefined 111
    ∷ at "VitalTruthTable (TruthTable => c_1, DataIn => (A, B)) = '0' and VitalTruthTable (TruthTable => c_1, DataIn => (0 => A)"
    Syntax 117
    ∷ at "VitalTruthTable (TruthTable => c_1, DataIn => (A, B)) = '0' and VitalTruthTable (TruthTable => c_1, DataIn => (A, B, A"
    Undefined 117
    ∷ at "VitalTruthTable (TruthTable => c_1, DataIn => (A, B)) = '1'" Syntax 56
    ∷ at "VitalTruthTable (TruthTable => c_1, DataIn => (A, B)) /= '0')), Mode => VitalTransport); end process" Undriven 89
    ∷ at "true)), Mode => VitalTransport); end process" Undriven 33 ∷ []
    )
    -- Lines of outputs with the name of the procedure of path delays.
    ++ behind in-assignment (
    at "VitalPathDelay01 (OutSignal => VitalPathDelay01, GlitchData => g_1" Undefined 63
    ∷ at "VitalPathDelay01 <= z_2" Undefined 20
    ∷ at "VitalPathDelay01 := z_1" Syntax 17
    ∷ at "VitalPathDelay01 <= z_1; VitalPathDelay01 <= z_1" Syntax 42 ∷ []
    )
    ++ behind in-call (
    at "VitalPathDelay01 <= z_1" Syntax 17 ∷ []
    )
    )
unfolding digits vhdl_words used_words is_reserved is_used rule.a_number rule.a_time rule.only_element rule.more_elements
    rule.several_elements rule.elements table.next_symbol table.symbols table.state_row table.state_table table.next_level
    table.levels table.truth_row table.truth_table table.assigned_truth_table table.condition_constant table.output_constant
    table.state_constant table.constant table.constants declared.packages declared.next_port declared.port_list declared.ports_of
    declared.entity_header declared.architecture_header declared.listed_name declared.listed_names declared.check_variables
    declared.violation_variable declared.state_variables declared.output_variable declared.glitch_variable declared.variable
    declared.variables declared.scope_of name.an_input name.listed_input name.first_list name.same_input name.same_list
    name.list_by name.condition name.next_column name.columns_of name.listed_source name.sources_of check.tested check.referred
    check.enabling_condition check.always_enabled check.enabled check.transition check.same_number check.both_limits
    check.setup_hold check.one_limit check.active_low check.recovery_removal check.period_pulse check.checks check.next_report
    check.any_report check.state_call_start check.state_call check.state_calls output.lookup output.a_constant output.next_value
    output.values_of output.next_zero output.all_zero output.not_zero output.equals_zero output.gate_of_conditions output.always
    output.gate_of output.delays output.next_path output.paths output.path_call_start output.path_call output.assigned_value
    output.assignment output.call_or_assignment output.output_lines text.entity_end text.statements text.entity text.next_entity
    text.file text.vhdl_text
faults = refl

-- Outputs with the name of the procedure of path delays: one without paths that is assigned 1, and one that a call gives 0.
assigned-so-named : VEntity
assigned-so-named =
    record {
      name = codes "E";
      ports = record { name = codes "vitalpathdelay01"; input = false } ∷ [];
      states = [];
      conditions = [];
      outputs = record { port = 0; value = value.Constant true; paths = [] } ∷ [];
      checks = [];
    }

called-so-named : VEntity
called-so-named =
    record {
      name = codes "F";
      ports = record { name = codes "A"; input = true } ∷ record { name = codes "VITALPATHDELAY01"; input = false } ∷ [];
      states = [];
      conditions = [];
      outputs = record {
        port = 1;
        value = value.Constant false;
        paths =
            record { from = 0; rise = 1; fall = 2; gate = gate.Always } ∷ [];
      } ∷ [];
      checks = [];
    }

-- the rest of each behind the line of its output
abbrev assignment-end : List ℕ
assignment-end = codes "VitalPathDelay01 <= z_1; wait; end process; end vital;\n"

abbrev call-end : List ℕ
call-end = codes "VitalPathDelay01 (OutSignal => VitalPathDelay01, GlitchData => g_1, OutSignalName => \"VitalPathDelay01\", OutTemp => z_1, Paths => (0 => (A'last_event, (1 ps, 2 ps), true)), Mode => VitalTransport); end process; end vital;\n"

-- the texts of these, and no bytes, which are no entities
reads :
    Reads (flip-flop-head ++ (flip-flop-tables ++ (flip-flop-variables ++ flip-flop-statements))) (flip-flop ∷ [])
    × Reads (in-assignment ++ (assignment-end ++ (in-call ++ call-end))) (assigned-so-named ∷ called-so-named ∷ [])
    × Reads [] []
unfolding kept flip-flop assigned-so-named called-so-named digits vhdl_words used_words is_reserved is_used rule.a_number
    rule.a_time rule.only_element rule.more_elements rule.several_elements rule.elements table.next_symbol table.symbols table.state_row
    table.state_table table.next_level table.levels table.truth_row table.truth_table table.assigned_truth_table
    table.condition_constant table.output_constant table.state_constant table.constant table.constants declared.packages
    declared.next_port declared.port_list declared.ports_of declared.entity_header declared.architecture_header
    declared.listed_name declared.listed_names declared.check_variables declared.violation_variable declared.state_variables
    declared.output_variable declared.glitch_variable declared.variable declared.variables declared.scope_of name.an_input
    name.listed_input name.first_list name.same_input name.same_list name.list_by name.condition name.next_column name.columns_of
    name.listed_source name.sources_of check.tested check.referred check.enabling_condition check.always_enabled check.enabled
    check.transition check.same_number check.both_limits check.setup_hold check.one_limit check.active_low check.recovery_removal
    check.period_pulse check.checks check.next_report check.any_report check.state_call_start check.state_call check.state_calls
    output.lookup output.a_constant output.next_value output.values_of output.next_zero output.all_zero output.not_zero
    output.equals_zero output.gate_of_conditions output.always output.gate_of output.delays output.next_path output.paths
    output.path_call_start output.path_call output.assigned_value output.assignment output.call_or_assignment output.output_lines
    text.entity_end text.statements text.entity text.next_entity text.file text.vhdl_text
reads = (refl, refl, refl)
