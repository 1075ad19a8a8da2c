-- Wholes of two parts, from a list of the first parts and one of the second.
use Rattle.std.specs.Prelude.{ℕ, List, [], ◌∷◌}
use Rattle.vhdl_declarations_reader.specs.vital_tables.declared.table.TruthTable.{TruthTable}
use Rattle.vhdl_declarations_reader.specs.vital_tables.declared.table.VStateTable.{VStateTable}
use Rattle.vhdl_declarations_reader.specs.vital_tables.declared.model.VState.{VState}
use Rattle.vhdl_declarations_reader.specs.vital_tables.declared.model.VTruth.{VTruth}
use Rattle.vhdl_declarations_reader.specs.vital_tables.declared.model.OutValue.{OutValue}
use Rattle.vhdl_declarations_reader.specs.vital_tables.declared.model.VOutput.{VOutput}
use Rattle.vhdl_declarations_reader.specs.vital_tables.declared.model.HPath.{HPath}
use Rattle.vhdl_declarations_reader.specs.vhdl_grammar.declared.scope.Columns.{Columns}
use Rattle.vhdl_reader.specs.declared.driven.Driven.{Driven}

-- item by item, up to the end of the shorter list
abbrev pub joined : {A B C : Type 0} → (A → B → C) → List A → List B → List C
joined join [] seconds = []
joined join (first ∷ firsts) [] = []
joined join (first ∷ firsts) (second ∷ seconds) = join first second ∷ joined join firsts seconds

-- a state of a table with these columns
abbrev pub state_of : VStateTable → Columns → VState
state_of table columns = record { table = table; violation = columns.violation; inputs = columns.inputs }

-- a condition of a table with these inputs
abbrev pub condition_of : TruthTable → List ℕ → VTruth
condition_of table inputs = record { table = table; inputs = inputs }

-- what drives an output
abbrev pub driven_of : OutValue → List HPath → Driven
driven_of value paths = record { value = value; paths = paths }

-- an output of a port
abbrev pub output_of : ℕ → Driven → VOutput
output_of port driven = record { port = port; value = driven.value; paths = driven.paths }
