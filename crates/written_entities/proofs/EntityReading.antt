-- A written entity is read from the tokens of its text.
use Rattle.std.proofs.Common.{◌≡◌, ℕ, ◌+◌, ◌≤◌, Bool, true, false, cond, List, [], ◌∷◌, ◌++◌, length, map, take, filter, flat_map}
use Rattle.std.proofs.Common.{Option, Some, None, refl, sym, ap, ◌∙◌, arith, subst, codes}
use Rattle.std.specs.List.{position_from}
use Rattle.std.proofs.lemmas.List.{length-map}
use Rattle.std.proofs.lemmas.Iterator.Adapters.{position_from-zero}
use Rattle.std.proofs.Math.Seq.{take-length}
use Rattle.std.proofs.lemmas.Bool.{eq-eqb as equal}
use Rattle.grammar_rules.specs.Rule.{Stops}
use Rattle.udp_tables.specs.declared.models.VPort.{VPort}
use Rattle.vital_models.specs.declared.table.TruthTable.{TruthTable}
use Rattle.vital_models.specs.declared.model.VState.{VState}
use Rattle.vital_models.specs.declared.model.VTruth.{VTruth}
use Rattle.vital_models.specs.declared.model.OutValue.{OutValue}
use Rattle.vital_models.specs.declared.model.OutValue.TheVariants as value
use Rattle.vital_models.specs.declared.model.VOutput.{VOutput}
use Rattle.udp_tables.specs.declared.timing_checks.TimingCheck.{TimingCheck}
use Rattle.vital_models.specs.declared.model.VEntity.{VEntity}
use Rattle.vital_models.specs.Sound.{output_ports_from}
use Rattle.grammar_reader.specs.declared.refusal.Refusal.TheVariants.{Undriven}
use Rattle.grammar_reader.specs.Words.{begins_as}
use Rattle.vhdl_tokens.specs.Words.{is_reserved, is_used, vhdl_words, used_words}
use Rattle.vhdl_grammar.specs.declared.scope.Assigned.{Assigned}
use Rattle.vhdl_grammar.specs.VhdlRules.{begins, is_among}
use Rattle.vhdl_grammar.specs.VhdlDeclarations.{port_names, input_names, scope_of}
use Rattle.vhdl_grammar.specs.VhdlChecks.{procedure_of}
use Rattle.vhdl_grammar.specs.VhdlOutputs.{begins_line}
use Rattle.vhdl_grammar.specs.VhdlText.{states_with, conditions_with, values_with, outputs_with, entity_with, last_wait}
use Rattle.vhdl_grammar.specs.VhdlText.{are_looked_up, entity_end, statements, entity}
use Rattle.vhdl_grammar.specs.WellFormed.{IsWellFormedEntity, conditions_of_output}
use Rattle.vhdl_writer.specs.Declarations.{is_input, first_input}
use Rattle.vhdl_writer.specs.Entity.{end_text, statements_text, entity_text}
use Rattle.grammar_reader.proofs.Fronts.{Front, Anything}
use Rattle.grammar_reader.proofs.Derivations.{Reads, to_same, gives, in_turn}
use Rattle.grammar_reader.proofs.Spelling.{literal, behind}
use Rattle.written_entities.proofs.Names.{entity_named}
use Rattle.written_entities.proofs.Spelling.{Spells, SpellsOutside, outside}
use Rattle.written_entities.proofs.NameReading.{expected, two_expected, five_expected, expected_where, newly_named}
use Rattle.written_entities.proofs.Counting.{counted}
use Rattle.written_entities.proofs.HeaderReading.{package_front, entity_front, architecture_front, header_spelled, packages_read}
use Rattle.written_entities.proofs.HeaderReading.{entity_header_read, architecture_header_read}
use Rattle.written_entities.proofs.ConstantReading.{constants_front, value_tables, output_tables, constants_spelled}
use Rattle.written_entities.proofs.ConstantReading.{constants_read}
use Rattle.written_entities.proofs.SignalReading.{signals_front, process_spelled, sensitivity_read}
use Rattle.written_entities.proofs.VariableReading.{all_tables, variables_read}
use Rattle.written_entities.proofs.LookUpOrder.{behind_look_ups, all_seen}
use Rattle.written_entities.proofs.ConditionReading.{scope, inputs_of_truth, uses_of, so_many}
use Rattle.written_entities.proofs.CheckReading.{checks_read}
use Rattle.written_entities.proofs.StateReading.{state_front, columns_for, states_spelled, states_read}
use Rattle.written_entities.proofs.ValueReading.{value_front, assigned_by, assigned_of, values_spelled, values_read}
use Rattle.written_entities.proofs.OutputReading.{line_front, paths_of, lines_up_to, seen_by_checks, seen_before, lines_look}
use Rattle.written_entities.proofs.OutputReading.{lines_spelled, lines_read}
use Rattle.written_entities.proofs.ViolationReading.{violation_by, violation_front, violation_spelled, violation_read}
use Rattle.written_entities.proofs.CheckTokens.{check_front, checks_spelled}
use Rattle.written_entities.proofs.VariableTokens.{variables_front, variables_spelled}

-- Tokens.

abbrev end_front : List (List ℕ) → Front
end_front [] s = codes "wait" ∷ codes ";" ∷ codes "end" ∷ codes "process" ∷ codes ";" ∷ codes "end" ∷ codes "vital" ∷ codes ";"
    ∷ s
end_front (name ∷ names) s = codes "end" ∷ codes "process" ∷ codes ";" ∷ codes "end" ∷ codes "vital" ∷ codes ";" ∷ s

abbrev lines_front : VEntity → Front
lines_front e s = counted (line_front e) 1 e.outputs (end_front (input_names e.ports) s)

abbrev statements_front : VEntity → Front
statements_front e s = counted (check_front e) 1 e.checks
    (violation_front e (counted (state_front e) 1 e.states (counted (value_front e) 1 e.outputs (lines_front e s))))

abbrev process_front : VEntity → Front
process_front e s = signals_front (input_names e.ports) (variables_front e (codes "begin" ∷ statements_front e s))

-- the tokens behind "library"
abbrev pub entity_more : VEntity → Front
entity_more e s =
    package_front (codes "entity" ∷ e.name ∷ entity_front e
    (architecture_front e (constants_front e (codes "begin" ∷ codes "process" ∷ process_front e s))))

abbrev pub entity_tokens : VEntity → Front
entity_tokens e s = codes "library" ∷ entity_more e s

pub begin_word : {t : Bool} → Spells Anything t (codes "  begin\n") (λ s. codes "begin" ∷ s) false
unfolding is_reserved is_used vhdl_words used_words
begin_word = literal (λ r. refl) refl

process_end : {t : Bool} → Spells Anything t (codes "  end process;\nend vital;\n")
    (λ s. codes "end" ∷ codes "process" ∷ codes ";" ∷ codes "end" ∷ codes "vital" ∷ codes ";" ∷ s) false
process_end = literal (λ r. refl) refl

waiting_end : {t : Bool} → Spells Anything t (codes "    wait;\n  end process;\nend vital;\n")
    (λ s. codes "wait" ∷ codes ";" ∷ codes "end" ∷ codes "process" ∷ codes ";" ∷ codes "end" ∷ codes "vital" ∷ codes ";" ∷ s)
    false
waiting_end = literal (λ r. refl) refl

end_by : (i : ℕ) (ports : List VPort) (first : Option ℕ) → position_from is_input i ports ≡ first
    → Spells Anything false (end_text first) (end_front (input_names ports)) false
end_by i [] None h = waiting_end
end_by i [] (Some k) h = absurd cc
end_by i (port ∷ ports) first h = by port.input h (λ g. end_by (i + 1) ports first g)
  where
    by : (b : Bool) → cond b (Some i) (position_from is_input (i + 1) ports) ≡ first
        → (position_from is_input (i + 1) ports ≡ first
        → Spells Anything false (end_text first) (end_front (input_names ports)) false)
        → Spells Anything false (end_text first)
        (end_front (port_names (cond b (port ∷ filter (λ (p : VPort). p.input) ports) (filter (λ (p : VPort). p.input) ports))))
        false
    by true g rest = subst (λ (o : Option ℕ). Spells Anything false (end_text o) (end_front (port.name ∷ input_names ports))
        false) g process_end
    by false g rest = rest g

statements_spelled : (e : VEntity) → IsWellFormedEntity e
    → Spells Anything false (statements_text e)
    (λ s. counted (check_front e) 1 e.checks
    (violation_front e (counted (state_front e) 1 e.states
    (counted (value_front e) 1 e.outputs (counted (line_front e) 1 e.outputs s))))) false
unfolding statements_text
statements_spelled e w = behind (checks_spelled e w)
    (behind (violation_spelled e w) (behind (states_spelled e w) (behind (values_spelled e w) (lines_spelled e w))))

-- the text of a well formed entity
pub entity_spelled : (e : VEntity) → IsWellFormedEntity e → SpellsOutside Anything false (entity_text e) (entity_tokens e) false
unfolding entity_text
entity_spelled e w =
    behind (header_spelled e w) (outside
    (behind (constants_spelled e w) (behind (process_spelled e w) (behind (variables_spelled e w) (behind begin_word
    (behind (statements_spelled e w) (end_by 0 e.ports (first_input e.ports) (sym (position_from-zero is_input e.ports)))))))))

-- What follows each part.

ends_checks : (e : VEntity) (checks : List TimingCheck) (states : List VState) (outputs : List VOutput) (names : List (List ℕ))
    (s : List (List ℕ))
    → Stops (begins_as procedure_of)
    (violation_by checks (counted (state_front e) 1 states
    (counted (value_front e) 1 outputs (counted (line_front e) 1 outputs (end_front names s)))))
ends_checks e (k ∷ checks) states outputs names s = refl
ends_checks e [] (state ∷ states) outputs names s = refl
ends_checks e [] [] (output ∷ outputs) names s = refl
ends_checks e [] [] [] (name ∷ names) s = refl
ends_checks e [] [] [] [] s = refl

ends_states : (e : VEntity) (outputs : List VOutput) (names : List (List ℕ)) (s : List (List ℕ))
    → Stops (begins (codes "VitalStateTable"))
    (counted (value_front e) 1 outputs (counted (line_front e) 1 outputs (end_front names s)))
ends_states e (output ∷ outputs) names s = refl
ends_states e [] (name ∷ names) s = refl
ends_states e [] [] s = refl

ends_lines : (e : VEntity) (names : List (List ℕ)) (s : List (List ℕ))
    → Stops (begins_line (scope e) (lines_up_to e e.outputs)) (end_front names s)
unfolding is_reserved is_used vhdl_words used_words
ends_lines e (name ∷ names) s = refl
ends_lines e [] s = refl

-- The end.

all_looked_up : (e : VEntity) → IsWellFormedEntity e → seen_before e e.outputs ≡ length e.conditions
all_looked_up e w =
    all_seen (length e.conditions) (seen_before e e.outputs)
    (behind_look_ups (length e.conditions) (seen_by_checks e) (flat_map conditions_of_output e.outputs) [] (lines_look e w))

looked_up : (e : VEntity) → IsWellFormedEntity e → are_looked_up (scope e) (uses_of e (seen_before e e.outputs)) ≡ true
looked_up e w =
    let seen : ℕ = seen_before e e.outputs in
    let few : seen ≤ length e.conditions = omega (arith, all_looked_up e w) in
    equal (length (uses_of e seen)) (length (all_tables e).conditions)
    (so_many e seen few ∙ all_looked_up e w ∙ sym (length-map e.conditions (λ (t : VTruth). t.table)))

wait_read : (names s : List (List ℕ))
    → Reads (last_wait names) (end_front names s) tt
    (codes "end" ∷ codes "process" ∷ codes ";" ∷ codes "end" ∷ codes "vital" ∷ codes ";" ∷ s)
wait_read [] s = two_expected
wait_read (name ∷ names) s = gives

end_read : (e : VEntity) → IsWellFormedEntity e → (s : List (List ℕ))
    → Reads (entity_end (scope e) (uses_of e (seen_before e e.outputs))) (end_front (input_names e.ports) s) tt s
unfolding entity_end
end_read e w s =
    in_turn (wait_read (input_names e.ports) s)
    (in_turn (expected_where (are_looked_up (scope e) (uses_of e (seen_before e e.outputs))) Undriven (looked_up e w))
    five_expected)

-- The whole.

same_states : (states : List VState) → states_with (map (λ (x : VState). x.table) states) (map columns_for states) ≡ states
same_states [] = refl
same_states (state ∷ states) = ap (λ (l : List VState). state ∷ l) (same_states states)

same_conditions : (conditions : List VTruth)
    → conditions_with (map (λ (x : VTruth). x.table) conditions) (map inputs_of_truth conditions) ≡ conditions
same_conditions [] = refl
same_conditions (truth ∷ conditions) = ap (λ (l : List VTruth). truth ∷ l) (same_conditions conditions)

all_uses : (e : VEntity) → IsWellFormedEntity e → uses_of e (seen_before e e.outputs) ≡ map inputs_of_truth e.conditions
all_uses e w =
    ap (λ (n : ℕ). take n (map inputs_of_truth e.conditions)) (all_looked_up e w ∙ sym (length-map e.conditions inputs_of_truth))
    ∙ take-length (map inputs_of_truth e.conditions)

abbrev value_of : VOutput → OutValue
value_of output = output.value

one_value : (v : OutValue) (tables : List TruthTable) (values : List Assigned) (rest : List OutValue)
    → values_with tables values ≡ rest → values_with (value_tables v ++ tables) (assigned_by v ∷ values) ≡ v ∷ rest
one_value (value.Constant one) tables values rest h = ap (λ (l : List OutValue). value.Constant one ∷ l) h
one_value (value.Table table sources) tables values rest h = ap (λ (l : List OutValue). value.Table table sources ∷ l) h

same_values : (outputs : List VOutput) → values_with (output_tables outputs) (map assigned_of outputs) ≡ map value_of outputs
same_values [] = refl
same_values (output ∷ outputs) = one_value output.value (output_tables outputs) (map assigned_of outputs) (map value_of outputs)
    (same_values outputs)

same_outputs : (outputs : List VOutput)
    → outputs_with (map (λ (x : VOutput). x.port) outputs) (map value_of outputs) (map paths_of outputs) ≡ outputs
same_outputs [] = refl
same_outputs (output ∷ outputs) = ap (λ (l : List VOutput). output ∷ l) (same_outputs outputs)

whole : (e : VEntity) → IsWellFormedEntity e
    → entity_with (scope e) e.checks (map columns_for e.states) (map assigned_of e.outputs) (lines_up_to e e.outputs) ≡ e
whole e w =
    let conditions : conditions_with (map (λ (x : VTruth). x.table) e.conditions)
    (uses_of e (seen_before e e.outputs)) ≡ e.conditions =
    ap (conditions_with (map (λ (x : VTruth). x.table) e.conditions)) (all_uses e w) ∙ same_conditions e.conditions in
    let outputs : outputs_with (output_ports_from 0 e.ports) (values_with (output_tables e.outputs) (map assigned_of e.outputs))
    (map paths_of e.outputs) ≡ e.outputs =
    ap (λ (l : List ℕ). outputs_with l (values_with (output_tables e.outputs) (map assigned_of e.outputs))
    (map paths_of e.outputs)) (sym w.sound.driven)
    ∙ ap (λ (l : List OutValue). outputs_with (map (λ (x : VOutput). x.port) e.outputs) l (map paths_of e.outputs))
    (same_values e.outputs) ∙ same_outputs e.outputs in
    let read_conditions : List VTruth =
    conditions_with (map (λ (x : VTruth). x.table) e.conditions) (uses_of e (seen_before e e.outputs)) in
    let read_outputs : List VOutput =
    outputs_with (output_ports_from 0 e.ports) (values_with (output_tables e.outputs) (map assigned_of e.outputs))
    (map paths_of e.outputs) in
    ap (λ (l : List VState). record e { states = l; conditions = read_conditions; outputs = read_outputs }) (same_states e.states)
    ∙ ap (λ (l : List VTruth). record e { conditions = l; outputs = read_outputs }) conditions
    ∙ ap (λ (l : List VOutput). record e { outputs = l }) outputs

-- Reading.

statements_read : (e : VEntity) → IsWellFormedEntity e → (s : List (List ℕ))
    → Reads (statements (scope e)) (statements_front e s) e s
unfolding statements
statements_read e w s =
    let lines : List (List ℕ) = lines_front e s in
    let values : List (List ℕ) = counted (value_front e) 1 e.outputs lines in
    let states : List (List ℕ) = counted (state_front e) 1 e.states values in
    in_turn (checks_read e w (violation_front e states) (ends_checks e e.checks e.states e.outputs (input_names e.ports) s))
    (in_turn (violation_read e w states)
    (in_turn (states_read e w values (ends_states e e.outputs (input_names e.ports) s)) (in_turn (values_read e w lines)
    (in_turn (lines_read e w (end_front (input_names e.ports) s) (ends_lines e (input_names e.ports) s))
    (in_turn (end_read e w s) (to_same (whole e w) gives))))))

scope_read : (e : VEntity) → IsWellFormedEntity e → (s : List (List ℕ))
    → Reads (scope_of e.name) (entity_front e
    (architecture_front e (constants_front e
    (codes "begin" ∷ codes "process" ∷ signals_front (input_names e.ports) (variables_front e (codes "begin" ∷ s)))))) (scope e) s
unfolding scope_of
scope_read e w s =
    let variables : List (List ℕ) = variables_front e (codes "begin" ∷ s) in
    let signals : List (List ℕ) = signals_front (input_names e.ports) variables in
    in_turn (entity_header_read e w (architecture_front e (constants_front e (codes "begin" ∷ codes "process" ∷ signals))))
    (in_turn (architecture_header_read e w (constants_front e (codes "begin" ∷ codes "process" ∷ signals)))
    (in_turn (constants_read e w (codes "process" ∷ signals))
    (in_turn two_expected (in_turn (sensitivity_read e w variables)
    (in_turn (variables_read e w s) (in_turn expected gives))))))

-- an entity is read from its tokens behind the first
pub entity_read : (names : List (List ℕ)) (e : VEntity) → IsWellFormedEntity e → is_among names e.name ≡ false
    → (s : List (List ℕ)) → Reads (entity names) (entity_more e s) e s
unfolding entity
entity_read names e w new s =
    in_turn packages_read (in_turn expected
    (in_turn (newly_named names (entity_named e.name w.name) new)
    (in_turn (scope_read e w (statements_front e s)) (statements_read e w s))))
