-- The variables of a written process are read from their tokens.
use Rattle.std.proofs.Common.{◌≡◌, ℕ, ◌+◌, ◌≤◌, Bool, true, false, not, ◌&&◌, nat_eq, nat_lt, List, [], ◌∷◌, ◌++◌, length, map}
use Rattle.std.proofs.Common.{Option, Some, slice_get, refl, sym, ap, ◌∙◌, arith, subst, codes, decimal, length-append}
use Rattle.std.specs.Option.{option_map, option_map_or}
use Rattle.std.proofs.lemmas.List.{map-append, length-map}
use Rattle.std.proofs.lemmas.Option.{slice_get-map}
use Rattle.std.proofs.lemmas.Bool.{and_right as and_no, and_from as and_yes, eq-eqb as equal, lt-ltb as less}
use Rattle.std.proofs.Math.Bool.{and-not_self as and_not}
use Rattle.grammar_rules.specs.Rule.{Fits}
use Rattle.grammar_rules.specs.Rule as r
use Rattle.cell_machine.specs.declared.checks.CheckKind.{CheckKind}
use Rattle.cell_machine.specs.declared.checks.CheckKind.TheVariants as check_kind
use Rattle.udp_tables.specs.declared.models.VPort.{VPort}
use Rattle.vital_models.specs.declared.table.VStateTable.{VStateTable}
use Rattle.vital_models.specs.declared.model.VState.{VState}
use Rattle.vital_models.specs.declared.model.VOutput.{VOutput}
use Rattle.vital_models.specs.declared.model.HPath.{HPath}
use Rattle.udp_tables.specs.declared.timing_checks.TimingCheck.{TimingCheck}
use Rattle.vital_models.specs.declared.model.VEntity.{VEntity}
use Rattle.vital_models.specs.Sound.{columns_of}
use Rattle.grammar_reader.specs.declared.refusal.Refusal.TheVariants.{Undefined}
use Rattle.grammar_reader.specs.Words.{valued, allowed_by}
use Rattle.vhdl_tokens.specs.Tokens.{is_name}
use Rattle.vhdl_tokens.specs.Spelling.{is_same}
use Rattle.vhdl_grammar.specs.declared.scope.Tables.{Tables}
use Rattle.vhdl_grammar.specs.declared.scope.Variables.{Variables}
use Rattle.vhdl_grammar.specs.VhdlRules.{begins, this_number}
use Rattle.vhdl_grammar.specs.VhdlTables.{state_width}
use Rattle.vhdl_grammar.specs.VhdlDeclarations.{last_true, is_last_false, VariableOf, Check, Violation, State, Output, Glitch}
use Rattle.vhdl_grammar.specs.VhdlDeclarations.{is_before_states, awaits_violation, output_count, variable_of, variable_by}
use Rattle.vhdl_grammar.specs.VhdlDeclarations.{is_period_type, first_data, check_variables, violation_variable, width_at}
use Rattle.vhdl_grammar.specs.VhdlDeclarations.{state_variables, output_variable, glitch_variable, variable, are_declared}
use Rattle.vhdl_grammar.specs.VhdlDeclarations.{variables}
use Rattle.vhdl_grammar.specs.WellFormed.{IsNumber, IsCount, IsWrittenState, IsWellFormedEntity}
use Rattle.grammar_reader.proofs.Derivations.{Reads, to_same, gives, token, in_turn, no_turn, turn, turns, goes_on}
use Rattle.grammar_reader.proofs.ItemPlaces.{get_at, one_longer}
use Rattle.written_entities.proofs.Names.{IsNamed, part_named, same_self}
use Rattle.written_entities.proofs.Words.{number}
use Rattle.written_entities.proofs.NameReading.{expected, three_expected, five_expected, six_expected, eight_expected, so_named}
use Rattle.written_entities.proofs.NameReading.{this_number_read}
use Rattle.written_entities.proofs.Counting.{counted, over}
use Rattle.written_entities.proofs.Parts.{fact_at, place_below, output_number, state_number, check_number}
use Rattle.written_entities.proofs.ConstantReading.{tables_up_to}
use Rattle.written_entities.proofs.Tests.{if_true, if_false, some_items, no_less}
use Rattle.written_entities.proofs.VariableTokens.{is_period, data_type, check_front, violation_front, state_front, glitch_front}
use Rattle.written_entities.proofs.VariableTokens.{output_front, variables_front, read_width, wide_at, is_period_check}

abbrev pub has_paths : VOutput → Bool
has_paths output = nat_lt 0 (length output.paths)

abbrev pub all_tables : VEntity → Tables
all_tables e = tables_up_to e.states e.conditions e.outputs

abbrev checked : List TimingCheck → Variables
checked checks = record { periods = map is_period_check checks; violation = false; states = 0; glitches = [] }

abbrev violated : List TimingCheck → ℕ → List Bool → Variables
violated checks states glitches =
    record { periods = map is_period_check checks; violation = nat_lt 0 (length checks); states = states; glitches = glitches }

-- the variables of an entity
abbrev pub variables_of : VEntity → Variables
variables_of e = violated e.checks (length e.states) (map has_paths e.outputs)

same_part : (b m n : ℕ) → m ≡ n → is_same (b ∷ 95 ∷ decimal n) (b ∷ 95 ∷ decimal m) ≡ true
same_part b m n e = ap (λ (k : ℕ). is_same (b ∷ 95 ∷ decimal n) (b ∷ 95 ∷ decimal k)) e ∙ same_self (b ∷ 95 ∷ decimal n)

named_variable : (ports : List VPort) (tables : Tables) (v : Variables) (x : List ℕ) (of : VariableOf) → IsNamed x
    → is_same x (codes "viol") ≡ false → variable_of ports tables v x ≡ Some of
    → variable_by ports tables v x ≡ Fits of
named_variable ports tables v x of n other e =
    if_false (awaits_violation v && is_same x (codes "viol")) _ _ (and_no (awaits_violation v) (is_same x (codes "viol")) other)
    ∙ if_true (is_name x) _ _ n.named ∙ ap (allowed_by Undefined) e

type_read : (kind : CheckKind) {s : List (List ℕ)}
    → Reads (valued is_period_type) (data_type (is_period kind) ∷ s) (is_period kind) s
type_read check_kind.Setup = token refl
type_read check_kind.Hold = token refl
type_read check_kind.Recovery = token refl
type_read check_kind.Removal = token refl
type_read check_kind.Width = token refl
type_read check_kind.Period = token refl

check_read : (e : VEntity) → IsWellFormedEntity e
    → (before : List TimingCheck) (k : TimingCheck) (after : List TimingCheck) (q : List (List ℕ))
    → before ++ k ∷ after ≡ e.checks
    → Reads (variable e.ports (all_tables e) (checked before))
    ((120 ∷ 95 ∷ decimal (length before + 1)) ∷ codes ":" ∷ codes "X01" ∷ codes ":=" ∷ codes "'0'" ∷ codes ";" ∷ codes "variable"
    ∷ (100 ∷ 95 ∷ decimal (length before + 1)) ∷ codes ":" ∷ data_type (is_period k.kind) ∷ codes ":=" ∷ first_data
    (is_period k.kind) ∷ codes ";" ∷ q) (checked (before ++ k ∷ [])) q
unfolding variable check_variables
check_read e w before k after q same =
    let n : ℕ = length before + 1 in
    let number = check_number e w n (place_below before k after e.checks same) in
    let so_many : length (map is_period_check before) + 1 ≡ n = ap (λ (m : ℕ). m + 1) (length-map before is_period_check) in
    let fits : variable_of e.ports (all_tables e) (checked before) (120 ∷ 95 ∷ decimal n) ≡ Some Check =
    if_true (is_same (120 ∷ 95 ∷ decimal n) (120 ∷ 95 ∷ decimal (length (map is_period_check before) + 1))) _ _
    (same_part 120 (length (map is_period_check before) + 1) n so_many) in
    in_turn (token (named_variable e.ports (all_tables e) (checked before) (120 ∷ 95 ∷ decimal n) Check
    (part_named 120 n refl number) refl fits))
    (in_turn six_expected (in_turn (so_named (Some (100 ∷ 95 ∷ decimal (length (map is_period_check before) + 1)))
    (part_named 100 n refl number) (ap (λ (m : ℕ). Some (100 ∷ 95 ∷ decimal m)) so_many))
    (in_turn expected (in_turn (type_read k.kind) (in_turn three_expected
    (to_same (ap (λ (l : List Bool). record { periods = l; violation = false; states = 0; glitches = [] })
    (sym (map-append is_period_check before (k ∷ [])))) gives))))))

abbrev AllTurns : VEntity → Variables → List (List ℕ) → Variables → List (List ℕ) → Type 0
AllTurns e v s end left = Reads (r.Many (λ _. begins (codes "variable")) (λ v _. variable e.ports (all_tables e) v) v) s end left

violation_turn : (e : VEntity) (checks : List TimingCheck) {end : Variables} {left : List (List ℕ)} (q : List (List ℕ))
    → AllTurns e (violated checks 0 []) q end left → AllTurns e (checked checks) (violation_front checks q) end left
unfolding variable violation_variable
violation_turn e [] q rest = rest
violation_turn e (k ∷ checks) {end = end} {left = left} q rest =
    let v : Variables = checked (k ∷ checks) in
    let here : variable_by e.ports (all_tables e) v (codes "viol") ≡ Fits Violation =
    if_true (awaits_violation v && true) _ _
    (and_yes (awaits_violation v) true
    (and_yes (nat_lt 0 (length (map is_period_check (k ∷ checks)))) true (some_items (length (map is_period_check checks)))
    refl) refl) in
    let others : AllTurns e (record { periods = map is_period_check (k ∷ checks); violation = true; states = 0; glitches = [] }) q
    end left =
    subst (λ (b : Bool). AllTurns e (record {
      periods = map is_period_check (k ∷ checks);
      violation = b;
      states = 0;
      glitches =
          [];
    }) q end left) (some_items (length checks)) rest in
    turns (turn refl (in_turn (token here) (in_turn five_expected gives))) others

no_report : (checks : List TimingCheck) (states : ℕ) (glitches : List Bool)
    → awaits_violation (violated checks states glitches) ≡ false
no_report checks states glitches =
    ap (λ (n : ℕ). nat_lt 0 n && not (nat_lt 0 (length checks))) (length-map checks is_period_check)
    ∙ and_not (nat_lt 0 (length checks))

-- a name that is of no check is of a state or of an output
of_others : (e : VEntity) (checks : List TimingCheck) (states : ℕ) (glitches : List Bool) (x : List ℕ) (of : VariableOf)
    → is_same x (120 ∷ 95 ∷ decimal (length (map is_period_check checks) + 1)) ≡ false
    → Rattle.vhdl_grammar.specs.VhdlDeclarations.state_or_output e.ports (all_tables e) (violated checks states glitches) x ≡ Some
    of
    → variable_of e.ports (all_tables e) (violated checks states glitches) x ≡ Some of
of_others e checks states glitches x of other h =
    let v : Variables = violated checks states glitches in
    let report : Bool = is_same x (120 ∷ 95 ∷ decimal (length (map is_period_check checks) + 1)) in
    if_false (is_before_states v && (not v.violation && report)) _ _
    (and_no (is_before_states v) (not v.violation && report) (and_no (not v.violation) report other))
    ∙ if_false (awaits_violation v) _ _ (no_report checks states glitches) ∙ h

pub width_is : (e : VEntity) → IsWellFormedEntity e → (before : List VState) (state : VState) (after : List VState)
    → before ++ state ∷ after ≡ e.states → width_at (all_tables e) (length before) ≡ columns_of state
width_is e w before state after same =
    let here : slice_get (all_tables e).states (length before) ≡ Some state.table =
    slice_get-map (λ (s : VState). s.table) e.states (length before)
    ∙ ap (λ (l : List VState). option_map (λ (s : VState). s.table) (slice_get l (length before))) (sym same)
    ∙ ap (option_map (λ (s : VState). s.table)) (get_at before state after) in
    ap (λ (o : Option VStateTable). option_map_or (λ (table : VStateTable). state_width table.rows) o 0) here
    ∙ read_width (columns_of state) state.table.rows (fact_at IsWrittenState e.states w.states before state after same).rows
    (wide_at e w before state after same)

state_read : (e : VEntity) → IsWellFormedEntity e
    → (before : List VState) (state : VState) (after : List VState) (q : List (List ℕ)) → before ++ state ∷ after ≡ e.states
    → Reads (variable e.ports (all_tables e) (violated e.checks (length before) []))
    ((115 ∷ 95 ∷ decimal (length before + 1)) ∷ codes ":" ∷ codes "std_logic" ∷ codes ":=" ∷ codes "'X'" ∷ codes ";" ∷ codes
    "variable"
    ∷ (112 ∷ 95 ∷ decimal (length before + 1)) ∷ codes ":" ∷ codes "std_logic_vector" ∷ codes
    "(" ∷ codes "1" ∷ codes "to" ∷ decimal (columns_of state) ∷ codes ")" ∷ codes ":=" ∷ codes "(" ∷ codes "others"
    ∷ codes "=>" ∷ codes "'X'" ∷ codes ")" ∷ codes ";" ∷ q) (violated e.checks (length (before ++ state ∷ [])) []) q
unfolding variable state_variables
state_read e w before state after q same =
    let n : ℕ = length before + 1 in
    let below : n ≤ length e.states = place_below before state after e.states same in
    let number = state_number e w n below in
    let v : Variables = violated e.checks (length before) [] in
    let fewer : nat_lt (length before) (length (all_tables e).states) ≡ true =
    less (length before) (length (all_tables e).states) (omega (arith, below, length-map e.states (λ (s : VState). s.table))) in
    let fits : variable_of e.ports (all_tables e) v (115 ∷ 95 ∷ decimal n) ≡ Some State =
    of_others e e.checks (length before) [] (115 ∷ 95 ∷ decimal n) State refl
    (if_true (nat_lt (length before) (length (all_tables e).states)) _ _ fewer
    ∙ if_true (is_same (115 ∷ 95 ∷ decimal n) (115 ∷ 95 ∷ decimal n)) _ _ (same_self (115 ∷ 95 ∷ decimal n))) in
    let width : IsNumber (columns_of state) = (fact_at IsWrittenState e.states w.states before state after same).width in
    let counts : Reads (this_number (width_at (all_tables e) (length before))) (decimal (columns_of state) ∷ codes ")" ∷ codes
    ":=" ∷ codes "(" ∷ codes "others" ∷ codes "=>" ∷ codes "'X'" ∷ codes ")" ∷ codes ";" ∷ q) tt
    (codes ")" ∷ codes ":=" ∷ codes "(" ∷ codes "others" ∷ codes "=>" ∷ codes "'X'" ∷ codes ")" ∷ codes ";" ∷ q) =
    subst (λ (m : ℕ). Reads (this_number m) (decimal (columns_of state) ∷ codes ")" ∷ codes ":=" ∷ codes
    "(" ∷ codes "others" ∷ codes "=>" ∷ codes "'X'" ∷ codes ")" ∷ codes ";" ∷ q) tt
    (codes ")" ∷ codes ":=" ∷ codes "(" ∷ codes "others" ∷ codes "=>" ∷ codes "'X'" ∷ codes ")" ∷ codes ";" ∷ q))
    (sym (width_is e w before state after same)) (this_number_read (columns_of state) width) in
    in_turn (token (named_variable e.ports (all_tables e) v (115 ∷ 95 ∷ decimal n) State (part_named 115 n refl number) refl
    fits))
    (in_turn six_expected (in_turn (so_named (Some (112 ∷ 95 ∷ decimal n)) (part_named 112 n refl number) refl)
    (in_turn three_expected (in_turn (token refl) (in_turn expected (in_turn counts (in_turn eight_expected
    (to_same (ap (λ (m : ℕ). violated e.checks m []) (one_longer before state)) gives))))))))

last_is_true : (bs : List Bool) → last_true (bs ++ false ∷ []) ≡ bs ++ true ∷ []
last_is_true [] = refl
last_is_true (b ∷ []) = refl
last_is_true (b ∷ c ∷ bs) = ap (λ (l : List Bool). b ∷ l) (last_is_true (c ∷ bs))

last_is_false : (bs : List Bool) → is_last_false (bs ++ false ∷ []) ≡ true
last_is_false [] = refl
last_is_false (b ∷ []) = refl
last_is_false (b ∷ c ∷ bs) = last_is_false (c ∷ bs)

pub so_many_outputs : (e : VEntity) → IsWellFormedEntity e → length e.outputs ≡ output_count e.ports
so_many_outputs e w = sym (length-map e.outputs (λ (output : VOutput). output.port)) ∙ ap length w.sound.driven

all_states : (e : VEntity) → nat_lt (length e.states) (length (all_tables e).states) ≡ false
all_states e = no_less (length e.states) (length (all_tables e).states) (sym (length-map e.states (λ (s : VState). s.table)))

output_fits : (e : VEntity) → IsWellFormedEntity e → (before : List VOutput) (output : VOutput) (after : List VOutput)
    → before ++ output ∷ after ≡ e.outputs
    → variable_of e.ports (all_tables e) (violated e.checks (length e.states) (map has_paths before))
    (122 ∷ 95 ∷ decimal (length before + 1)) ≡ Some Output
output_fits e w before output after same =
    let n : ℕ = length before + 1 in
    let m : ℕ = length (map has_paths before) in
    let below : n ≤ length e.outputs = place_below before output after e.outputs same in
    let fewer : nat_lt m (output_count e.ports) ≡ true =
    less m (output_count e.ports) (omega (arith, below, length-map before has_paths, so_many_outputs e w)) in
    of_others e e.checks (length e.states) (map has_paths before) (122 ∷ 95 ∷ decimal n) Output refl
    (if_false (nat_lt (length e.states) (length (all_tables e).states)) _ _ (all_states e)
    ∙ if_true (nat_lt m (output_count e.ports) && is_same (122 ∷ 95 ∷ decimal n) (122 ∷ 95 ∷ decimal (m + 1))) _ _
    (and_yes (nat_lt m (output_count e.ports)) (is_same (122 ∷ 95 ∷ decimal n) (122 ∷ 95 ∷ decimal (m + 1))) fewer
    (same_part 122 (m + 1) n (ap (λ (k : ℕ). k + 1) (length-map before has_paths)))))

glitch_fits : (e : VEntity) (before : List VOutput)
    → variable_of e.ports (all_tables e) (violated e.checks (length e.states) (map has_paths before ++ false ∷ []))
    (103 ∷ 95 ∷ decimal (length before + 1)) ≡ Some Glitch
glitch_fits e before =
    let n : ℕ = length before + 1 in
    let gs : List Bool = map has_paths before ++ false ∷ [] in
    let so_many : length gs ≡ n = omega (arith, length-append (map has_paths before) (false ∷ []), length-map before has_paths) in
    of_others e e.checks (length e.states) gs (103 ∷ 95 ∷ decimal n) Glitch refl
    (if_false (nat_lt (length e.states) (length (all_tables e).states)) _ _ (all_states e)
    ∙ if_false (nat_lt (length gs) (output_count e.ports) && false) _ _
    (and_no (nat_lt (length gs) (output_count e.ports)) false refl)
    ∙ if_true (is_last_false gs && is_same (103 ∷ 95 ∷ decimal n) (103 ∷ 95 ∷ decimal (length gs))) _ _
    (and_yes (is_last_false gs) (is_same (103 ∷ 95 ∷ decimal n) (103 ∷ 95 ∷ decimal (length gs)))
    (last_is_false (map has_paths before)) (same_part 103 (length gs) n so_many)))

glitch_turn : (e : VEntity) → IsWellFormedEntity e
    → (before : List VOutput) (n : ℕ) (paths : List HPath) {end : Variables} {left : List (List ℕ)} (q : List (List ℕ))
    → n ≡ length before + 1 → IsCount n
    → AllTurns e (violated e.checks (length e.states) (map has_paths before ++ nat_lt 0 (length paths) ∷ [])) q end left
    → AllTurns e (violated e.checks (length e.states) (map has_paths before ++ false ∷ [])) (glitch_front n paths q) end left
unfolding variable glitch_variable
glitch_turn e w before n [] q same number rest = rest
glitch_turn e w before n (path ∷ paths) {end = end} {left = left} q same number rest =
    let v : Variables = violated e.checks (length e.states) (map has_paths before ++ false ∷ []) in
    let fits : variable_of e.ports (all_tables e) v (103 ∷ 95 ∷ decimal n) ≡ Some Glitch =
    subst (λ (m : ℕ). variable_of e.ports (all_tables e) v (103 ∷ 95 ∷ decimal m) ≡ Some Glitch) (sym same) (glitch_fits e before)
    in
    turns (turn refl (in_turn (token
    (named_variable e.ports (all_tables e) v (103 ∷ 95 ∷ decimal n) Glitch (part_named 103 n refl number) refl fits))
    (in_turn three_expected (to_same
    (ap (λ (l : List Bool). violated e.checks (length e.states) l) (last_is_true (map has_paths before))) gives))))
    (subst (λ (b : Bool). AllTurns e (violated e.checks (length e.states) (map has_paths before ++ b ∷ [])) q end left)
    (some_items (length paths)) rest)

output_turn : (e : VEntity) → IsWellFormedEntity e
    → (before : List VOutput) (output : VOutput) (after : List VOutput) {end : Variables} {left : List (List ℕ)}
    (q : List (List ℕ)) → before ++ output ∷ after ≡ e.outputs
    → AllTurns e (violated e.checks (length e.states) (map has_paths (before ++ output ∷ []))) q end left
    → AllTurns e (violated e.checks (length e.states) (map has_paths before)) (output_front (length before + 1) output q) end left
unfolding variable output_variable
output_turn e w before output after {end = end} {left = left} q same rest =
    let n : ℕ = length before + 1 in
    let number : IsCount n = output_number e w n (place_below before output after e.outputs same) in
    let v : Variables = violated e.checks (length e.states) (map has_paths before) in
    turns (turn refl (in_turn (token
    (named_variable e.ports (all_tables e) v (122 ∷ 95 ∷ decimal n) Output (part_named 122 n refl number) refl
    (output_fits e w before output after same)))
    (in_turn five_expected gives)))
    (glitch_turn e w before n output.paths q refl number
    (subst (λ (l : List Bool). AllTurns e (violated e.checks (length e.states) l) q end left)
    (map-append has_paths before (output ∷ [])) rest))

all_declared : (e : VEntity) → IsWellFormedEntity e → are_declared e.ports (all_tables e) (variables_of e) ≡ true
all_declared e w =
    let v : Variables = variables_of e in
    and_yes (not (awaits_violation v))
    (nat_eq v.states (length (all_tables e).states) && nat_eq (length v.glitches) (output_count e.ports))
    (ap not (no_report e.checks (length e.states) (map has_paths e.outputs)))
    (and_yes (nat_eq v.states (length (all_tables e).states)) (nat_eq (length v.glitches) (output_count e.ports))
    (equal v.states (length (all_tables e).states) (sym (length-map e.states (λ (s : VState). s.table))))
    (equal (length v.glitches) (output_count e.ports) (length-map e.outputs has_paths ∙ so_many_outputs e w)))

pub variables_read : (e : VEntity) → IsWellFormedEntity e → (s : List (List ℕ))
    → Reads (variables e.ports (all_tables e)) (variables_front e (codes "begin" ∷ s)) (variables_of e) (codes "begin" ∷ s)
unfolding variables
variables_read e w s =
    let outputs : List (List ℕ) = counted output_front 1 e.outputs (codes "begin" ∷ s) in
    let states : List (List ℕ) = counted state_front 1 e.states outputs in
    in_turn
    (over checked check_front [] e.checks
    (λ before k after q same rest. turns (turn refl (check_read e w before k after q same)) rest)
    (violation_front e.checks states)
    (violation_turn e e.checks states
    (over (λ (l : List VState). violated e.checks (length l) []) state_front [] e.states
    (λ before state after q same rest. turns (turn refl (state_read e w before state after q same)) rest) outputs
    (over (λ (l : List VOutput). violated e.checks (length e.states) (map has_paths l)) output_front [] e.outputs
    (λ before output after q same rest. output_turn e w before output after q same rest) (codes "begin" ∷ s)
    (no_turn refl)))))
    (in_turn (goes_on (are_declared e.ports (all_tables e) (variables_of e)) (codes "begin" ∷ s) (all_declared e w)) gives)
