-- The values of outputs in a written entity: their tokens and their reading.
use Rattle.std.proofs.Common.{◌≡◌, ℕ, ◌+◌, ◌<◌, ◌≤◌, Bool, true, false, ◌&&◌, cond, nat_eq, nat_lt, if◌then◌else◌, List, [], ◌∷◌}
use Rattle.std.proofs.Common.{◌++◌, length, map, Option, Some, None, slice_get, refl, sym, ap, ◌∙◌, arith, subst, codes, decimal}
use Rattle.std.proofs.Common.{length-append}
use Rattle.std.specs.List.{AllByRecursion, IsDistinct, list_all, list_any, position_from}
use Rattle.std.specs.Option.{option_map, option_map_or}
use Rattle.std.proofs.lemmas.List.{length-map, map-append}
use Rattle.std.proofs.lemmas.List.Sums.{sum_by-cons}
use Rattle.std.proofs.lemmas.List.Elements.{recursion_from_All}
use Rattle.std.proofs.lemmas.Grind.{flat_map-append}
use Rattle.std.proofs.lemmas.Iterator.Adapters.{position_from-zero}
use Rattle.std.proofs.lemmas.Bool.{ltb-true as below, and_from as and_yes, eq-eqb as equal, lt-ltb as less}
use Rattle.grammar_rules.specs.Rule.{Verdict, Fits, Stops}
use Rattle.grammar_rules.specs.Rule as r
use Rattle.cell_machine.specs.declared.outputs.Source.{Source}
use Rattle.cell_machine.specs.declared.outputs.Source.TheVariants as source
use Rattle.udp_tables.specs.declared.models.VPort.{VPort}
use Rattle.vital_models.specs.declared.table.TruthTable.{TruthTable}
use Rattle.vital_models.specs.declared.model.OutValue.{OutValue}
use Rattle.vital_models.specs.declared.model.OutValue.TheVariants as value
use Rattle.vital_models.specs.declared.model.VOutput.{VOutput}
use Rattle.vital_models.specs.declared.model.VState.{VState}
use Rattle.vital_models.specs.declared.model.VEntity.{VEntity}
use Rattle.vital_models.specs.Sound.{feeds, IsValue, IsOutput}
use Rattle.udp_tables.specs.Ports.{is_input_port}
use Rattle.grammar_reader.specs.declared.refusal.Refusal.{Refusal}
use Rattle.vhdl_tokens.specs.Tokens.{is_name}
use Rattle.vhdl_tokens.specs.Spelling.{is_same}
use Rattle.vhdl_grammar.specs.declared.scope.Assigned.{Assigned}
use Rattle.vhdl_grammar.specs.declared.scope.Assigned.TheVariants as assigned
use Rattle.vhdl_grammar.specs.VhdlRules.{begins, go_on_unnamed}
use Rattle.vhdl_grammar.specs.VhdlTables.{truth_width}
use Rattle.vhdl_grammar.specs.VhdlDeclarations.{port_names, output_count}
use Rattle.vhdl_grammar.specs.VhdlNames.{kept, port_of, input_of, same_source, source_or_state, source_of, listed_source}
use Rattle.vhdl_grammar.specs.VhdlNames.{sources_of}
use Rattle.vhdl_grammar.specs.VhdlOutputs.{is_lookup, lookups, output_width, output_table_name, lookup, a_constant, next_value}
use Rattle.vhdl_grammar.specs.VhdlOutputs.{is_this_value, begins_value, values_of}
use Rattle.vhdl_grammar.specs.WellFormed.{IsCount, IsPortName, IsWrittenValue, IsWrittenOutput, IsWellFormedEntity}
use Rattle.vhdl_writer.specs.Joined.{numbered_texts, apart_text}
use Rattle.vhdl_writer.specs.Names.{port_at, source_name, source_text, sources_text}
use Rattle.vhdl_writer.specs.Tables.{table_number}
use Rattle.vhdl_writer.specs.Outputs.{lookup_text, assigned_text, value_line}
use Rattle.grammar_reader.proofs.Fronts.{Front, Anything}
use Rattle.grammar_reader.proofs.Derivations.{Reads, to_same, gives, token, in_turn, chosen, passed, no_turn, turn, turns}
use Rattle.grammar_reader.proofs.Derivations.{goes_on}
use Rattle.grammar_reader.proofs.ItemPlaces.{get_at}
use Rattle.grammar_reader.proofs.Spelling.{literal, behind}
use Rattle.written_entities.proofs.Names.{IsNamed, part_named, unnumbered, same_self}
use Rattle.written_entities.proofs.Spelling.{Spells}
use Rattle.written_entities.proofs.NameReading.{expected, three_expected, four_expected, so_named, place_found, unlike_plain}
use Rattle.written_entities.proofs.Counting.{counted, counted_anywhere, over}
use Rattle.written_entities.proofs.Elements.{names_front, names_spelled, closed, elements_read, line_end, indented}
use Rattle.written_entities.proofs.Parts.{part_behind, fact_at, place_below, output_number, state_number}
use Rattle.written_entities.proofs.PortLookUps.{input_named, input_found}
use Rattle.written_entities.proofs.ConstantReading.{output_tables, its_number, its_number_fits}
use Rattle.written_entities.proofs.VariableReading.{all_tables, so_many_outputs}
use Rattle.written_entities.proofs.ConditionReading.{scope, lookup_word, data_word, passes_at, new_item, listed_fits}
use Rattle.written_entities.proofs.ConditionReading.{list_end_read, truth_wide}
use Rattle.written_entities.proofs.Tests.{if_true, no_less, numbers_turned}

-- Tokens.

abbrev bit_word : Bool → List ℕ
bit_word true = codes "'1'"
bit_word false = codes "'0'"

abbrev assigned_front : VEntity → ℕ → OutValue → Front
assigned_front e n (value.Constant one) s = bit_word one ∷ s
assigned_front e n (value.Table table sources) s =
    codes "VitalTruthTable" ∷ codes "(" ∷ codes "TruthTable" ∷ codes "=>" ∷ (107 ∷ 95 ∷ decimal (table_number e n)) ∷ codes ","
    ∷ codes "DataIn" ∷ codes "=>" ∷ codes "("
    ∷ names_front (source_name e) sources (codes ")" ∷ codes ")" ∷ s)

abbrev pub value_front : VEntity → ℕ → VOutput → Front
value_front e n output s = (122 ∷ 95 ∷ decimal n) ∷ codes ":=" ∷ assigned_front e n output.value (codes ";" ∷ s)

becomes : {t : Bool} → Spells Anything t (codes " := ") (λ s. codes ":=" ∷ s) false
becomes = literal (λ r. refl) refl

one_bit : Spells Anything false (codes "'1'") (λ s. codes "'1'" ∷ s) false
one_bit = literal (λ r. refl) refl

zero_bit : Spells Anything false (codes "'0'") (λ s. codes "'0'" ∷ s) false
zero_bit = literal (λ r. refl) refl

-- Sources.

source_named : (e : VEntity) → IsWellFormedEntity e → (s : Source) → feeds e s ≡ true → IsNamed (source_name e s)
unfolding source_name
source_named e w (source.Pin p) h = input_named e w p h
source_named e w (source.State g) h =
    let less : g < length e.states = below g (length e.states) h in
    part_named 115 (g + 1) refl (state_number e w (g + 1) (omega (arith, less)))

source_text_is : (e : VEntity) (n : ℕ) (s : Source) → source_text e n s ≡ apart_text (codes ", ") n ++ source_name e s
unfolding source_text
source_text_is e n s = refl

feeding_at : (e : VEntity) (sources : List Source) → list_all (feeds e) sources ≡ true
    → (before : List Source) (s : Source) (after : List Source) → before ++ s ∷ after ≡ sources → feeds e s ≡ true
feeding_at e sources h before s after same =
    passes_at (feeds e) before s after (subst (λ (l : List Source). list_all (feeds e) l ≡ true) (sym same) h)

assigned_spelled : (e : VEntity) → IsWellFormedEntity e → (n : ℕ) (v : OutValue) → IsCount (table_number e n) → IsValue e v
    → IsWrittenValue v → Spells Anything false (assigned_text e n v) (assigned_front e n v) false
unfolding lookup_text sources_text
assigned_spelled e w n (value.Constant true) m h k = one_bit
assigned_spelled e w n (value.Constant false) m h k = zero_bit
assigned_spelled e w n (value.Table table sources) m h k =
    part_behind 107 (table_number e n) refl m lookup_word (λ r q. refl)
    (behind data_word (behind (names_spelled (source_text e) (source_name e) sources (source_text_is e) k.columns
    (λ before s after same. source_named e w s (feeding_at e sources h.1 before s after same))) closed))

value_spelled : (e : VEntity) → IsWellFormedEntity e → (before : List VOutput) (output : VOutput) (after : List VOutput)
    → before ++ output ∷ after ≡ e.outputs
    → Spells Anything false (value_line e (length before + 1) output) (value_front e (length before + 1) output) false
unfolding value_line
value_spelled e w before output after same =
    let n : ℕ = length before + 1 in
    part_behind 122 n refl (output_number e w n (place_below before output after e.outputs same)) indented (λ r q. refl)
    (behind becomes (behind (assigned_spelled e w n output.value (its_number_fits e w before output after same)
    (fact_at (IsOutput e) e.outputs w.sound.outputs before output after same).valued
    (fact_at IsWrittenOutput e.outputs w.outputs before output after same).valued) line_end))

pub values_spelled : (e : VEntity) → IsWellFormedEntity e
    → Spells Anything false (numbered_texts (value_line e) 1 e.outputs) (counted (value_front e) 1 e.outputs) false
values_spelled e w = counted_anywhere (value_line e) (value_front e) e.outputs (value_spelled e w)

-- Reading.

nowhere : {A : Type 0} (test : A → Bool) (i : ℕ) (xs : List A) → AllByRecursion (λ x. test x ≡ false) xs
    → position_from test i xs ≡ None
nowhere test i [] h = refl
nowhere test i (x ∷ xs) h = rw h.0 (nowhere test (i + 1) xs h.1)

none_so_named : (g : ℕ) (ports : List VPort) → AllByRecursion IsPortName (port_names ports)
    → AllByRecursion (λ (port : VPort). is_same (115 ∷ 95 ∷ decimal (g + 1)) port.name ≡ false) ports
none_so_named g [] h = tt
none_so_named g (port ∷ ports) h = (unlike_plain 115 (decimal (g + 1)) port.name refl h.0.plain, none_so_named g ports h.1)

no_input : (e : VEntity) → IsWellFormedEntity e → (g : ℕ) → input_of e.ports (115 ∷ 95 ∷ decimal (g + 1)) ≡ None
no_input e w g =
    let none : port_of e.ports (115 ∷ 95 ∷ decimal (g + 1)) ≡ None =
    position_from-zero (λ (port : VPort). is_same (115 ∷ 95 ∷ decimal (g + 1)) port.name) e.ports
    ∙ nowhere (λ (port : VPort). is_same (115 ∷ 95 ∷ decimal (g + 1)) port.name) 0 e.ports
    (none_so_named g e.ports (recursion_from_All IsPortName (port_names e.ports) w.ports)) in
    ap (kept (is_input_port e.ports)) none

source_found : (e : VEntity) → IsWellFormedEntity e → (s : Source) → feeds e s ≡ true
    → source_of (scope e) (source_name e s) ≡ Some s
unfolding source_name
source_found e w (source.Pin p) h = ap (source_or_state (scope e) (port_at e p)) (input_found e w p h)
source_found e w (source.State g) h =
    let less : g < length e.states = below g (length e.states) h in
    let all : length (all_tables e).states ≡ length e.states = length-map e.states (λ (s : VState). s.table) in
    let few = state_number e w (length (all_tables e).states) (omega (arith, all)) in
    ap (source_or_state (scope e) (115 ∷ 95 ∷ decimal (g + 1))) (no_input e w g)
    ∙ ap (option_map source.State) (place_found 115 (length (all_tables e).states) g refl (omega (arith, less, all)) few)

sources_turned : (x y : Source) → same_source x y ≡ same_source y x
sources_turned (source.Pin p) (source.Pin q) = numbers_turned p q
sources_turned (source.Pin p) (source.State g) = refl
sources_turned (source.State g) (source.Pin p) = refl
sources_turned (source.State g) (source.State h) = numbers_turned g h

new_source : (sources : List Source) → IsDistinct same_source sources → (before : List Source) (s : Source) (after : List Source)
    → before ++ s ∷ after ≡ sources → list_any (same_source s) before ≡ false
new_source sources apart before s after same =
    new_item same_source sources_turned before s after (subst (IsDistinct same_source) (sym same) apart)

source_read : (e : VEntity) → IsWellFormedEntity e → (before : List Source) (s : Source) {q : List (List ℕ)} → feeds e s ≡ true
    → list_any (same_source s) before ≡ false
    → Reads (listed_source (scope e) before) (source_name e s ∷ q) (before ++ s ∷ []) q
unfolding listed_source
source_read e w before s fed new =
    in_turn (token (if_true (is_name (source_name e s)) _ _ (source_named e w s fed).named
    ∙ listed_fits (λ x. list_any (same_source x) before) (source_of (scope e) (source_name e s)) s
    (source_found e w s fed) new)) gives

sources_read : (e : VEntity) → IsWellFormedEntity e → (width : ℕ) (sources : List Source) (q : List (List ℕ)) → 1 ≤ length sources
    → list_all (feeds e) sources ≡ true → IsDistinct same_source sources → length sources ≡ width
    → Reads (sources_of (scope e) width) (names_front (source_name e) sources (codes ")" ∷ q)) sources q
unfolding sources_of
sources_read e w width sources q some fed apart wide =
    in_turn (elements_read (λ (l : List Source). l) (listed_source (scope e)) (source_name e) sources some
    (λ before s after same. unnumbered (source_name e s) (source_named e w s (feeding_at e sources fed before s after same)))
    (λ before s after s' same. source_read e w before s (feeding_at e sources fed before s after same)
    (new_source sources apart before s after same)) q)
    (in_turn (list_end_read width (length sources) wide) gives)

-- Values.

abbrev pub assigned_by : OutValue → Assigned
assigned_by (value.Constant one) = assigned.Constant one
assigned_by (value.Table table sources) = assigned.Lookup sources

abbrev pub assigned_of : VOutput → Assigned
assigned_of output = assigned_by output.value

one_lookup : (v : OutValue) → ◌≡◌ {A = ℕ} (cond (is_lookup (assigned_by v)) 1 0)
    (length (Rattle.written_entities.proofs.ConstantReading.value_tables v))
one_lookup (value.Constant one) = refl
one_lookup (value.Table table sources) = refl

so_many_lookups : (outputs : List VOutput) → lookups (map assigned_of outputs) ≡ length (output_tables outputs)
so_many_lookups [] = refl
so_many_lookups (output ∷ outputs) =
    omega (
      arith,
      sum_by-cons (λ (a : Assigned). cond (is_lookup a) 1 0) (assigned_of output) (map assigned_of outputs),
      one_lookup output.value,
      so_many_lookups outputs,
      length-append (Rattle.written_entities.proofs.ConstantReading.value_tables output.value) (output_tables outputs),
    )

bit_read : (one : Bool) {s : List (List ℕ)} → Reads a_constant (bit_word one ∷ s) (assigned.Constant one) s
unfolding a_constant
bit_read true = in_turn (token refl) gives
bit_read false = in_turn (token refl) gives

-- An output's table among all, behind those of the outputs before it.
record IsTableAt (e : VEntity) (t : ℕ) (n : ℕ) (table : TruthTable) : Type 0 where
  place : slice_get (output_tables e.outputs) t ≡ Some table
  fewer : t < length (output_tables e.outputs)
  named : length e.states + t + 1 ≡ table_number e n

lookup_read : (e : VEntity) → IsWellFormedEntity e → (n t : ℕ) (table : TruthTable) (sources : List Source) {s : List (List ℕ)}
    → IsTableAt e t n table → IsCount (table_number e n)
    → IsValue e (value.Table table sources) → IsWrittenValue (value.Table table sources)
    → Reads (lookup (scope e) t) (codes
    "(" ∷ codes "TruthTable" ∷ codes "=>" ∷ (107 ∷ 95 ∷ decimal (table_number e n)) ∷ codes "," ∷ codes "DataIn" ∷ codes "=>"
    ∷ codes "("
    ∷ names_front (source_name e) sources (codes ")" ∷ codes ")" ∷ s)) (assigned.Lookup sources) s
unfolding lookup
lookup_read e w n t table sources {s} at m h k =
    let states : length (all_tables e).states ≡ length e.states = length-map e.states (λ (x : VState). x.table) in
    let number : length (all_tables e).states + t + 1 ≡ table_number e n = ap (λ (j : ℕ). j + t + 1) states ∙ at.named in
    let its_name : output_table_name (scope e) t ≡ Some (107 ∷ 95 ∷ decimal (table_number e n)) =
    if_true (nat_lt t (length (output_tables e.outputs))) _ _ (less t (length (output_tables e.outputs)) at.fewer)
    ∙ ap (λ (j : ℕ). Some (107 ∷ 95 ∷ decimal j)) number in
    let width : output_width (scope e) t ≡ length sources =
    ap (λ (o : Option TruthTable). option_map_or (λ (x : TruthTable). truth_width x.rows) o 0) at.place
    ∙ truth_wide (length sources) table k.rows h.0 in
    in_turn three_expected (in_turn (so_named (output_table_name (scope e) t) (part_named 107 (table_number e n) refl m) its_name)
    (in_turn four_expected (in_turn (sources_read e w (output_width (scope e) t) sources (codes ")" ∷ s) k.columns h.1 k.apart
    (sym width)) (in_turn expected gives))))

assigned_read : (e : VEntity) → IsWellFormedEntity e → (n t : ℕ) (v : OutValue) {s : List (List ℕ)} → IsCount (table_number e n)
    → IsValue e v → IsWrittenValue v
    → ((table : TruthTable) (sources : List Source) → v ≡ value.Table table sources → IsTableAt e t n table)
    → Reads (r.Choice (begins (codes "VitalTruthTable")) (λ _. lookup (scope e) t) a_constant) (assigned_front e n v s)
    (assigned_by v) s
assigned_read e w n t (value.Constant true) m h k at = passed refl (bit_read true)
assigned_read e w n t (value.Constant false) m h k at = passed refl (bit_read false)
assigned_read e w n t (value.Table table sources) m h k at =
    chosen refl (lookup_read e w n t table sources (at table sources refl) m h k)

table_split : (before : List VOutput) (output : VOutput) (after : List VOutput) (table : TruthTable) (sources : List Source)
    → output.value ≡ value.Table table sources
    → output_tables (before ++ output ∷ after) ≡ output_tables before ++ table ∷ output_tables after
table_split before output after table sources h =
    flat_map-append Rattle.written_entities.proofs.ConstantReading.tables_of_output before (output ∷ after)
    ∙ ap (λ (v : OutValue). output_tables before
    ++ (Rattle.written_entities.proofs.ConstantReading.value_tables v ++ output_tables after)) h

its_table : (e : VEntity) (before : List VOutput) (output : VOutput) (after : List VOutput) → before ++ output ∷ after ≡ e.outputs
    → (t : ℕ) → t ≡ length (output_tables before)
    → (table : TruthTable) (sources : List Source) → output.value ≡ value.Table table sources
    → IsTableAt e t (length before + 1) table
its_table e before output after same t so_many table sources h =
    let split : output_tables e.outputs ≡ output_tables before ++ table ∷ output_tables after =
    ap output_tables (sym same) ∙ table_split before output after table sources h in
    record {
      place = ap (slice_get (output_tables e.outputs)) so_many
          ∙ ap (λ (l : List TruthTable). slice_get l (length (output_tables before))) split
          ∙ get_at (output_tables before) table (output_tables after);
      fewer = omega (arith, so_many, ap length split, length-append (output_tables before) (table ∷ output_tables after));
      named = omega (arith, so_many, its_number e before output after same);
    }

value_begins : (e : VEntity) → IsWellFormedEntity e → (before : List VOutput) (output : VOutput) (after : List VOutput)
    → before ++ output ∷ after ≡ e.outputs
    → begins_value (scope e) (map assigned_of before) (122 ∷ 95 ∷ decimal (length before + 1)) ≡ Some (Fits tt)
value_begins e w before output after same =
    let n : ℕ = length before + 1 in
    let x : List ℕ = 122 ∷ 95 ∷ decimal n in
    let m : ℕ = length (map assigned_of before) in
    let under : n ≤ length e.outputs = place_below before output after e.outputs same in
    let so_many : m ≡ length before = length-map before assigned_of in
    let its : is_same x (122 ∷ 95 ∷ decimal (m + 1)) ≡ true = ap (λ (k : ℕ). is_same x (122 ∷ 95 ∷ decimal (k + 1))) so_many
    ∙ same_self x in
    if_true (nat_lt m (output_count e.ports) && is_name x) _ _
    (and_yes (nat_lt m (output_count e.ports)) (is_name x)
    (less m (output_count e.ports) (omega (arith, under, so_many, so_many_outputs e w)))
    (part_named 122 n refl (output_number e w n under)).named)
    ∙ ap (λ (v : Verdict (Unit {0}) Refusal). Some v) (if_true (is_same x (122 ∷ 95 ∷ decimal (m + 1))) _ _ its)

value_read : (e : VEntity) → IsWellFormedEntity e
    → (before : List VOutput) (output : VOutput) (after : List VOutput) (s : List (List ℕ)) → before ++ output ∷ after ≡ e.outputs
    → Reads (next_value (scope e) (map assigned_of before))
    (codes ":=" ∷ assigned_front e (length before + 1) output.value (codes ";" ∷ s)) (map assigned_of (before ++ output ∷ [])) s
unfolding next_value
value_read e w before output after s same =
    in_turn expected (in_turn (assigned_read e w (length before + 1) (lookups (map assigned_of before)) output.value
    (its_number_fits e w before output after same)
    (fact_at (IsOutput e) e.outputs w.sound.outputs before output after same).valued
    (fact_at IsWrittenOutput e.outputs w.outputs before output after same).valued
    (its_table e before output after same (lookups (map assigned_of before)) (so_many_lookups before)))
    (in_turn expected (to_same (sym (map-append assigned_of before (output ∷ []))) gives)))

goes_unnamed : (b : Bool) (s : List (List ℕ)) → b ≡ true → Reads (go_on_unnamed b) s tt s
goes_unnamed true s e = gives
goes_unnamed false s e = absurd cc

no_value : (e : VEntity) → IsWellFormedEntity e → (s : List (List ℕ))
    → Stops (begins_value (scope e) (map assigned_of e.outputs)) s
no_value e w [] = tt
no_value e w (x ∷ s) =
    let m : ℕ = length (map assigned_of e.outputs) in
    let all : nat_lt m (output_count e.ports) ≡ false =
    no_less m (output_count e.ports) (length-map e.outputs assigned_of ∙ so_many_outputs e w) in
    ap (λ (b : Bool). if b && is_name x then Some (is_this_value (map assigned_of e.outputs) x) else None) all

pub values_read : (e : VEntity) → IsWellFormedEntity e → (s : List (List ℕ))
    → Reads (values_of (scope e)) (counted (value_front e) 1 e.outputs s) (map assigned_of e.outputs) s
unfolding values_of
values_read e w s =
    let all : List Assigned = map assigned_of e.outputs in
    in_turn (over (λ (l : List VOutput). map assigned_of l) (value_front e) [] e.outputs
    (λ before output after q same rest. turns
    (turn (value_begins e w before output after same) (value_read e w before output after q same)) rest) s
    (no_turn (no_value e w s)))
    (in_turn (goes_on (nat_eq (length all) (output_count e.ports)) s
    (equal (length all) (output_count e.ports) (length-map e.outputs assigned_of ∙ so_many_outputs e w)))
    (in_turn (goes_unnamed (nat_eq (lookups all) (length (output_tables e.outputs))) s
    (equal (lookups all) (length (output_tables e.outputs)) (so_many_lookups e.outputs))) gives))
