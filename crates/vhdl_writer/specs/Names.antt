-- The names of an entity's parts by their numbers, and lists of them in calls. In a sound entity each number has a name; a number
-- that has none is written as nothing. A list of one name has its index before it. (IEEE 1076-1993, 7.3.2, aggregates.)
use Rattle.std.specs.Prelude.{ℕ, ◌+◌, nat_eq, if◌then◌else◌, List, [], ◌++◌, length, slice_get, codes, decimal}
use Rattle.std.specs.Option.{option_map_or}
use Rattle.cell_machine.specs.declared.outputs.Source.{Source}
use Rattle.cell_machine.specs.declared.outputs.Source.TheVariants as source
use Rattle.udp_tables.specs.declared.models.VPort.{VPort}
use Rattle.vital_models.specs.declared.model.VTruth.{VTruth}
use Rattle.vital_models.specs.declared.model.VState.{VState}
use Rattle.vital_models.specs.declared.model.VEntity.{VEntity}
use Rattle.vhdl_writer.specs.Joined.{numbered_texts, apart_text}

-- the name of a port
abbrev pub port_at : VEntity → ℕ → List ℕ
port_at e p = option_map_or (λ (port : VPort). port.name) (slice_get e.ports p) []

-- the inputs of a condition
abbrev pub inputs_at : VEntity → ℕ → List ℕ
inputs_at e i = option_map_or (λ (truth : VTruth). truth.inputs) (slice_get e.conditions i) []

-- what a list of so many names begins with
abbrev pub list_start : ℕ → List ℕ
list_start n = if nat_eq n 1 then codes "(0 => " else codes "("

-- a list of names, each of which this function writes
abbrev pub listed_text : {X : Type 0} → (ℕ → X → List ℕ) → List X → List ℕ
listed_text f items = list_start (length items) ++ (numbered_texts f 1 items ++ codes ")")

-- the name of an input in a list of such
unfoldable pub input_text : VEntity → ℕ → ℕ → List ℕ
input_text e n p = apart_text (codes ", ") n ++ port_at e p

-- a list of inputs
unfoldable pub inputs_text : VEntity → List ℕ → List ℕ
inputs_text e inputs = listed_text (input_text e) inputs

-- the name of an input behind another name
unfoldable pub next_input_text : VEntity → ℕ → ℕ → List ℕ
next_input_text e n p = codes ", " ++ port_at e p

-- what a list of the violation and so many inputs begins with
abbrev pub violated_start : ℕ → List ℕ
violated_start n = if nat_eq n 0 then codes "(0 => viol" else codes "(viol"

-- a list of the violation and inputs
unfoldable pub violated_text : VEntity → List ℕ → List ℕ
violated_text e inputs = violated_start (length inputs) ++ (numbered_texts (next_input_text e) 1 inputs ++ codes ")")

-- the columns of the table of a state
abbrev pub columns_text : VEntity → VState → List ℕ
columns_text e state = if state.violation then violated_text e state.inputs else inputs_text e state.inputs

-- the name of an input or of a state
unfoldable pub source_name : VEntity → Source → List ℕ
source_name e (source.Pin p) = port_at e p
source_name e (source.State g) = codes "s_" ++ decimal (g + 1)

-- the name of an input or of a state in a list of such
unfoldable pub source_text : VEntity → ℕ → Source → List ℕ
source_text e n s = apart_text (codes ", ") n ++ source_name e s

-- a list of inputs and states
unfoldable pub sources_text : VEntity → List Source → List ℕ
sources_text e sources = listed_text (source_text e) sources

-- a look-up, which begins so up to the number of its table: that number, and the list of what it looks up
abbrev pub look_up_text : List ℕ → ℕ → List ℕ → List ℕ
look_up_text start number listed = start ++ (decimal number ++ (codes ", DataIn => " ++ (listed ++ codes ")")))

-- the look-up of a condition (IEEE 1076.4-2000, VitalTruthTable)
unfoldable pub condition_text : VEntity → ℕ → List ℕ
condition_text e i =
    look_up_text (codes "VitalTruthTable (TruthTable => c_") (i + 1) (inputs_text e (inputs_at e i))
