-- The text of the statements that assign outputs. (IEEE 1076.4-2000, VitalTruthTable and VitalPathDelay01; IEEE 1076-1993, 8.4
-- and 8.5.)
use Rattle.std.specs.Prelude.{ℕ, ◌-◌, nat_lt, if◌then◌else◌, List, ◌++◌, length, codes, decimal}
use Rattle.cell_machine.specs.declared.outputs.Source.{Source}
use Rattle.vital_models.specs.declared.model.OutValue.{OutValue}
use Rattle.vital_models.specs.declared.model.OutValue.TheVariants as value
use Rattle.vital_models.specs.declared.model.VOutput.{VOutput}
use Rattle.vital_models.specs.declared.model.HGate.{HGate}
use Rattle.vital_models.specs.declared.model.HGate.TheVariants as gate
use Rattle.vital_models.specs.declared.model.HPath.{HPath}
use Rattle.vital_models.specs.declared.model.VEntity.{VEntity}
use Rattle.vhdl_writer.specs.Joined.{numbered_texts, apart_text}
use Rattle.vhdl_writer.specs.Assignments.{assignment_text}
use Rattle.vhdl_writer.specs.Names.{port_at, look_up_text, sources_text, condition_text}
use Rattle.vhdl_writer.specs.Tables.{table_number}

-- the look-up of the table of the output with this number
unfoldable pub lookup_text : VEntity → ℕ → List Source → List ℕ
lookup_text e n sources =
    look_up_text (codes "VitalTruthTable (TruthTable => k_") (table_number e n) (sources_text e sources)

-- the value of the output with this number
abbrev pub assigned_text : VEntity → ℕ → OutValue → List ℕ
assigned_text e n (value.Constant one) = if one then codes "'1'" else codes "'0'"
assigned_text e n (value.Table table sources) = lookup_text e n sources

-- the assignment of the variable of the output with this number
unfoldable pub value_line : VEntity → ℕ → VOutput → List ℕ
value_line e n output = codes "    z_" ++ (decimal n ++ (codes " := " ++ (assigned_text e n output.value ++ codes ";\n")))

-- a condition that is not 0
unfoldable pub not_zero_text : VEntity → ℕ → List ℕ
not_zero_text e i = condition_text e i ++ codes " /= '0'"

-- a condition that is 0, among others
abbrev pub zero_text : VEntity → ℕ → ℕ → List ℕ
zero_text e n i = apart_text (codes " and ") n ++ (condition_text e i ++ codes " = '0'")

-- conditions that are all 0
unfoldable pub all_zero_text : VEntity → List ℕ → List ℕ
all_zero_text e is = numbered_texts (zero_text e) 1 is

-- when a path counts
abbrev pub gate_text : VEntity → HGate → List ℕ
gate_text e gate.Always = codes "true"
gate_text e (gate.NotZero i) = not_zero_text e i
gate_text e (gate.AllZero is) = all_zero_text e is

-- a path with this number among those of its output: its index is one less
unfoldable pub path_text : VEntity → ℕ → HPath → List ℕ
path_text e n path =
    apart_text (codes ", ") n
    ++ (decimal (n - 1)
    ++ (codes " => ("
    ++ (port_at e path.from
    ++ (codes "'last_event, ("
    ++ (decimal path.rise ++ (codes " ps, "
    ++ (decimal path.fall ++ (codes " ps), " ++ (gate_text e path.gate ++ codes ")")))))))))

-- the line of the output with this number
abbrev pub output_line : VEntity → ℕ → VOutput → List ℕ
output_line e n output =
    assignment_text n (port_at e output.port) (nat_lt 0 (length output.paths)) (numbered_texts (path_text e) 1 output.paths)
