-- The tokens of the variables of a written process.
use Rattle.std.proofs.Common.{◌≡◌, ℕ, ◌+◌, ◌≤◌, Bool, true, false, nat_lt, if◌then◌else◌, List, [], ◌∷◌, ◌++◌, length, refl, sym}
use Rattle.std.proofs.Common.{arith, subst, codes, decimal}
use Rattle.std.specs.List.{AllByRecursion}
use Rattle.std.proofs.lemmas.List.Elements.{recursion_from_All}
use Rattle.cell_machine.specs.declared.checks.CheckKind.{CheckKind}
use Rattle.cell_machine.specs.declared.checks.CheckKind.TheVariants as check_kind
use Rattle.vital_models.specs.declared.table.VStateRow.{VStateRow}
use Rattle.vital_models.specs.declared.model.VState.{VState}
use Rattle.vital_models.specs.declared.model.VOutput.{VOutput}
use Rattle.udp_tables.specs.declared.timing_checks.TimingCheck.{TimingCheck}
use Rattle.vital_models.specs.declared.model.VEntity.{VEntity}
use Rattle.vital_models.specs.Sound.{columns_of, IsState}
use Rattle.vhdl_tokens.specs.Words.{is_reserved, is_used, vhdl_words, used_words}
use Rattle.vhdl_grammar.specs.VhdlTables.{state_width}
use Rattle.vhdl_grammar.specs.VhdlDeclarations.{first_data}
use Rattle.vhdl_grammar.specs.WellFormed.{IsNumber, IsCount, IsWrittenState, IsWellFormedEntity}
use Rattle.vhdl_writer.specs.Declarations.{data_text, check_variables_text, violation_variable_text, width_of}
use Rattle.vhdl_writer.specs.Assignments.{glitch_data_text, assigned_variables_text}
use Rattle.vhdl_writer.specs.Declarations.{state_variables_text, output_variables_text, variables_text}
use Rattle.grammar_reader.proofs.Fronts.{Front, Anything}
use Rattle.grammar_reader.proofs.Spelling.{literal, joins, behind, nothing}
use Rattle.written_entities.proofs.Spelling.{Spells}
use Rattle.written_entities.proofs.Words.{number}
use Rattle.written_entities.proofs.Counting.{counted, counted_anywhere}
use Rattle.written_entities.proofs.Parts.{shown, part_behind, fact_at, place_below, output_number, state_number, check_number}
use Rattle.written_entities.proofs.Parts.{IsBehind, by_kind, counted_parts}
use Rattle.written_entities.proofs.Tests.{some_items}

-- Tokens.

abbrev pub is_period : CheckKind → Bool
is_period check_kind.Width = true
is_period check_kind.Period = true
is_period _ = false

abbrev pub data_type : Bool → List ℕ
data_type true = codes "VitalPeriodDataType"
data_type false = codes "VitalTimingDataType"

abbrev pub check_front : ℕ → TimingCheck → Front
check_front n k s =
    codes "variable" ∷ (120 ∷ 95 ∷ decimal n) ∷ codes ":" ∷ codes "X01" ∷ codes ":=" ∷ codes "'0'" ∷ codes ";" ∷ codes "variable"
    ∷ (100 ∷ 95 ∷ decimal n) ∷ codes ":"
    ∷ data_type (is_period k.kind) ∷ codes ":=" ∷ first_data (is_period k.kind) ∷ codes ";" ∷ s

abbrev pub violation_front : List TimingCheck → Front
violation_front [] s = s
violation_front (k ∷ checks) s = codes "variable" ∷ codes "viol" ∷ codes ":" ∷ codes "X01" ∷ codes ":=" ∷ codes "'0'" ∷ codes ";"
    ∷ s

abbrev pub state_front : ℕ → VState → Front
state_front n state s =
    codes "variable" ∷ (115 ∷ 95 ∷ decimal n) ∷ codes ":" ∷ codes "std_logic" ∷ codes ":=" ∷ codes "'X'" ∷ codes ";" ∷ codes
    "variable" ∷ (112 ∷ 95 ∷ decimal n) ∷ codes ":"
    ∷ codes "std_logic_vector" ∷ codes "(" ∷ codes "1" ∷ codes "to" ∷ decimal (columns_of state) ∷ codes ")" ∷ codes ":=" ∷ codes
    "(" ∷ codes "others" ∷ codes "=>" ∷ codes "'X'" ∷ codes ")" ∷ codes ";" ∷ s

abbrev pub glitch_front : {A : Type 0} → ℕ → List A → Front
glitch_front n [] s = s
glitch_front n (path ∷ paths) s =
    codes "variable" ∷ (103 ∷ 95 ∷ decimal n) ∷ codes ":" ∷ codes "VitalGlitchDataType" ∷ codes ";" ∷ s

-- the variables of an output with these paths
abbrev pub assigned_front : {A : Type 0} → ℕ → List A → Front
assigned_front n paths s = codes "variable" ∷ (122 ∷ 95 ∷ decimal n) ∷ codes ":" ∷ codes "std_logic" ∷ codes ":=" ∷ codes "'X'"
    ∷ codes ";" ∷ glitch_front n paths s

abbrev pub output_front : ℕ → VOutput → Front
output_front n output s = assigned_front n output.paths s

abbrev pub variables_front : VEntity → Front
variables_front e s = counted check_front 1 e.checks
    (violation_front e.checks (counted state_front 1 e.states (counted output_front 1 e.outputs s)))

variable_word : {t : Bool} → Spells Anything t (codes "    variable ") (λ s. codes "variable" ∷ s) false
unfolding is_reserved is_used vhdl_words used_words
variable_word = literal (λ r. refl) refl

report_type : {t : Bool} → Spells Anything t (codes " : X01 := '0';\n    variable ")
    (λ s. codes ":" ∷ codes "X01" ∷ codes ":=" ∷ codes "'0'" ∷ codes ";" ∷ codes "variable" ∷ s) false
unfolding is_reserved is_used vhdl_words used_words
report_type = literal (λ r. refl) refl

timing_type : IsBehind (codes " : VitalTimingDataType := VitalTimingDataInit;\n")
    (λ s. codes ":" ∷ codes "VitalTimingDataType" ∷ codes ":=" ∷ codes "VitalTimingDataInit" ∷ codes ";" ∷ s)
timing_type = record { spelled = literal (λ r. refl) refl; begins = λ r. refl }

period_type : IsBehind (codes " : VitalPeriodDataType := VitalPeriodDataInit;\n")
    (λ s. codes ":" ∷ codes "VitalPeriodDataType" ∷ codes ":=" ∷ codes "VitalPeriodDataInit" ∷ codes ";" ∷ s)
period_type = record { spelled = literal (λ r. refl) refl; begins = λ r. refl }

violation_line : {t : Bool} → Spells Anything t (codes "    variable viol : X01 := '0';\n")
    (λ s. codes "variable" ∷ codes "viol" ∷ codes ":" ∷ codes "X01" ∷ codes ":=" ∷ codes "'0'" ∷ codes ";" ∷ s) false
violation_line = literal (λ r. refl) refl

state_type : {t : Bool} → Spells Anything t (codes " : std_logic := 'X';\n    variable ")
    (λ s. codes ":" ∷ codes "std_logic" ∷ codes ":=" ∷ codes "'X'" ∷ codes ";" ∷ codes "variable" ∷ s) false
unfolding is_reserved is_used vhdl_words used_words
state_type = literal (λ r. refl) refl

columns_type : {t : Bool} → Spells Anything t
    (codes " : std_logic_vector (1 to ")
    (λ s. codes ":" ∷ codes "std_logic_vector" ∷ codes "(" ∷ codes "1" ∷ codes "to" ∷ s) false
unfolding is_reserved is_used vhdl_words used_words
columns_type = literal (λ r. refl) refl

columns_end : {t : Bool} → Spells Anything t (codes ") := (others => 'X');\n") (λ s. codes ")" ∷ codes ":=" ∷ codes
    "(" ∷ codes "others" ∷ codes "=>" ∷ codes "'X'" ∷ codes ")" ∷ codes ";" ∷ s) false
columns_end = literal (λ r. refl) refl

output_type : {t : Bool} → Spells Anything t (codes " : std_logic := 'X';\n")
    (λ s. codes ":" ∷ codes "std_logic" ∷ codes ":=" ∷ codes "'X'" ∷ codes ";" ∷ s) false
output_type = literal (λ r. refl) refl

glitch_type : {t : Bool} → Spells Anything t (codes " : VitalGlitchDataType;\n")
    (λ s. codes ":" ∷ codes "VitalGlitchDataType" ∷ codes ";" ∷ s) false
glitch_type = literal (λ r. refl) refl

data_behind : (kind : CheckKind) → IsBehind (data_text kind)
    (λ s. codes ":" ∷ data_type (is_period kind) ∷ codes ":=" ∷ first_data (is_period kind) ∷ codes ";" ∷ s)
data_behind =
    by_kind (λ (kind : CheckKind). IsBehind (data_text kind)
    (λ s. codes ":" ∷ data_type (is_period kind) ∷ codes ":=" ∷ first_data (is_period kind) ∷ codes ";" ∷ s))
    timing_type timing_type timing_type timing_type period_type period_type

check_spelled : (n : ℕ) (k : TimingCheck) → IsCount n → Spells Anything false (check_variables_text n k) (check_front n k) false
unfolding check_variables_text
check_spelled n k h =
    part_behind 120 n refl h variable_word (λ r q. refl)
    (part_behind 100 n refl h report_type (λ r q. (data_behind k.kind).begins r) (data_behind k.kind).spelled)

violation_spelled : (checks : List TimingCheck)
    → Spells Anything false (violation_variable_text checks) (violation_front checks) false
violation_spelled [] = nothing
violation_spelled (k ∷ checks) = shown (nat_lt 0 (length (k ∷ checks))) (some_items (length checks)) violation_line

-- the width of a table's rows
abbrev pub Wide : ℕ → VStateRow → Type 0
Wide columns row = length row.inputs ≡ columns

first_width : (columns : ℕ) (rows : List VStateRow) → 1 ≤ length rows → AllByRecursion (Wide columns) rows
    → width_of rows ≡ columns
first_width columns [] some all = absurd (omega (arith, some))
first_width columns (row ∷ rows) some all = all.0

pub read_width : (columns : ℕ) (rows : List VStateRow) → 1 ≤ length rows → AllByRecursion (Wide columns) rows
    → state_width rows ≡ columns
read_width columns [] some all = absurd (omega (arith, some))
read_width columns (row ∷ rows) some all = all.0

state_spelled : (n : ℕ) (state : VState) → IsCount n → width_of state.table.rows ≡ columns_of state → IsNumber (columns_of state)
    → Spells Anything false (state_variables_text n state) (state_front n state) false
unfolding state_variables_text
state_spelled n state h e m =
    subst (λ (w : ℕ). Spells Anything false
    (codes "    variable s_" ++ (decimal n
    ++ (codes " : std_logic := 'X';\n    variable p_"
    ++ (decimal n ++ (codes " : std_logic_vector (1 to " ++ (decimal w ++ codes ") := (others => 'X');\n"))))))
    (state_front n state) false) (sym e)
    (part_behind 115 n refl h variable_word (λ r q. refl) (part_behind 112 n refl h state_type (λ r q. refl)
    (behind columns_type (joins (number (columns_of state) m) (λ r q. refl) columns_end))))

-- the data of the delays of paths, where there are some
glitch_spelled : {A : Type 0} (n : ℕ) (paths : List A) → IsCount n
    → Spells Anything false (if nat_lt 0 (length paths) then glitch_data_text n else []) (glitch_front n paths) false
unfolding glitch_data_text
glitch_spelled n [] h = nothing
glitch_spelled n (path ∷ paths) h =
    shown (nat_lt 0 (length (path ∷ paths))) (some_items (length paths))
    (part_behind 103 n refl h variable_word (λ r q. refl) glitch_type)

-- the variables of an output with these paths
pub assigned_spelled : {A : Type 0} (n : ℕ) (paths : List A) → IsCount n
    → Spells Anything false (assigned_variables_text n (nat_lt 0 (length paths))) (assigned_front n paths) false
unfolding assigned_variables_text
assigned_spelled n paths h = part_behind 122 n refl h variable_word (λ r q. refl)
    (behind output_type (glitch_spelled n paths h))

pub wide_at : (e : VEntity) → IsWellFormedEntity e → (before : List VState) (state : VState) (after : List VState)
    → before ++ state ∷ after ≡ e.states → AllByRecursion (Wide (columns_of state)) state.table.rows
wide_at e w before state after same =
    recursion_from_All (Wide (columns_of state)) state.table.rows
    (fact_at (IsState e) e.states w.sound.states before state after same).rows

-- the variables of a well formed entity
pub variables_spelled : (e : VEntity) → IsWellFormedEntity e → Spells Anything false (variables_text e) (variables_front e) false
unfolding variables_text
variables_spelled e w =
    behind (counted_parts check_variables_text check_front e.checks (check_number e w) check_spelled)
    (behind (violation_spelled e.checks)
    (behind (counted_anywhere state_variables_text state_front e.states
    (λ before state after same. (let written : IsWrittenState state =
    fact_at IsWrittenState e.states w.states before state after same in
    state_spelled (length before + 1) state (state_number e w (length before + 1) (place_below before state after e.states same))
    (first_width (columns_of state) state.table.rows written.rows (wide_at e w before state after same)) written.width)))
    (counted_parts output_variables_text output_front e.outputs (output_number e w)
    (λ n output. assigned_spelled n output.paths))))

abbrev pub is_period_check : TimingCheck → Bool
is_period_check k = is_period k.kind
