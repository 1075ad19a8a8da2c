-- The values and the paths of outputs that are read.
use Rattle.std.proofs.Common.{◌≡◌, ℕ, zero, suc, ◌+◌, ◌<◌, ◌≤◌, ◌^◌, Bool, true, false, ◌&&◌, nat_eq, nat_lt, cond, IsTrue, List}
use Rattle.std.proofs.Common.{[], ◌∷◌, ◌++◌, length, slice_get, refl, sym, ap, subst, ◌∙◌, arith, codes, append_assoc}
use Rattle.std.proofs.Common.{length-append}
use Rattle.std.specs.Prelude.{All, flat_map}
use Rattle.std.specs.List.{list_all}
use Rattle.std.specs.Option.{option_map_or}
use Rattle.std.proofs.lemmas.Bool.{and_from, eqb-true, ltb-true as less}
use Rattle.std.proofs.lemmas.Bool.Decides.{nat_tests}
use Rattle.std.proofs.lemmas.List.{append-nil}
use Rattle.std.proofs.lemmas.List.Elements.{All-nil, All-push}
use Rattle.std.proofs.lemmas.List.Folds.{list_all-append}
use Rattle.std.proofs.lemmas.List.Sums.{sum_by-cons}
use Rattle.std.proofs.lemmas.Grind.{flat_map-append}
use Rattle.grammar_rules.proofs.Promises.{Promises, gives, in_turn, many, choice}
use Rattle.cell_machine.specs.declared.outputs.Source.{Source}
use Rattle.vital_tables.specs.declared.table.TruthTable.{TruthTable}
use Rattle.vital_tables.specs.declared.model.HGate.{HGate}
use Rattle.vital_tables.specs.declared.model.HGate.TheVariants as gate
use Rattle.vital_tables.specs.declared.model.HPath.{HPath}
use Rattle.udp_tables.specs.Ports.{is_input_port}
use Rattle.vhdl_grammar.specs.declared.scope.Assigned.{Assigned}
use Rattle.vhdl_grammar.specs.declared.scope.Assigned.TheVariants as assigned
use Rattle.vhdl_grammar.specs.declared.scope.Scope.{Scope}
use Rattle.vhdl_grammar.specs.VhdlTables.{truth_width}
use Rattle.vhdl_grammar.specs.VhdlDeclarations.{output_count}
use Rattle.vhdl_grammar.specs.VhdlNames.{Uses}
use Rattle.vhdl_grammar.specs.VhdlOutputs.{is_lookup, lookups, output_width, lookup, a_constant, next_value, values_of, next_zero}
use Rattle.vhdl_grammar.specs.VhdlOutputs.{all_zero, not_zero, equals_zero, gate_of_conditions, always, gate_of, delays}
use Rattle.vhdl_grammar.specs.VhdlOutputs.{next_path, paths, Lines, path_call, assigned_value, assignment, call_or_assignment}
use Rattle.vhdl_grammar.specs.VhdlOutputs.{line_by, output_lines}
use Rattle.vhdl_grammar.specs.WellFormed.{IsNumber, names_condition, IsWrittenPath, conditions_of_gate, conditions_of_path}
use Rattle.vhdl_grammar.proofs.ReadNames.{IsSpelled, these_numbers, goes_on, behind}
use Rattle.vhdl_grammar.proofs.ReadChecks.{times}
use Rattle.vhdl_grammar.proofs.ReadLists.{input_ports, AreLookedUp, IsNextLookUp, conditions}
use Rattle.vhdl_grammar.proofs.ReadColumns.{IsSourceList, source_lists, named_where}

-- Values.

-- the values of outputs, of which each look-up has as many sources as the next of these tables has inputs
abbrev pub AreValues : Scope → List TruthTable → List Assigned → Type 0
AreValues scope tables [] = Unit {0}
AreValues scope tables (assigned.Constant one ∷ values) = AreValues scope tables values
AreValues scope [] (assigned.Lookup sources ∷ values) = ⊥
AreValues scope (table ∷ tables) (assigned.Lookup sources ∷ values) = IsSourceList scope (truth_width table.rows) sources
    × AreValues scope tables values

abbrev width_in : List TruthTable → ℕ → ℕ
width_in tables t = option_map_or (λ (table : TruthTable). truth_width table.rows) (slice_get tables t) 0

lookups-cons : (value : Assigned) (values : List Assigned)
    → lookups (value ∷ values) ≡ cond (is_lookup value) 1 0 + lookups values
lookups-cons value values = sum_by-cons (λ value. cond (is_lookup value) 1 0) value values

push_constant : (scope : Scope) (tables : List TruthTable) (values : List Assigned) (one : Bool) → AreValues scope tables values
    → AreValues scope tables (values ++ assigned.Constant one ∷ [])
push_constant scope tables [] one h = tt
push_constant scope tables (assigned.Constant other ∷ values) one h = push_constant scope tables values one h
push_constant scope [] (assigned.Lookup sources ∷ values) one h = absurd h
push_constant scope (table ∷ tables) (assigned.Lookup sources ∷ values) one h = (h.0, push_constant scope tables values one h.1)

push_lookup : (scope : Scope) (tables : List TruthTable) (values : List Assigned) (sources : List Source) (t : ℕ)
    → lookups values ≡ t → AreValues scope tables values → t < length tables
    → IsSourceList scope (width_in tables t) sources → AreValues scope tables (values ++ assigned.Lookup sources ∷ [])
push_lookup scope [] values sources t same h below is = absurd (omega arith)
push_lookup scope (table ∷ tables) [] sources t same h below is =
    let none : 0 ≡ t = same in
    (subst (λ t. IsSourceList scope (width_in (table ∷ tables) t) sources) (sym none) is, tt)
push_lookup scope (table ∷ tables) (assigned.Constant one ∷ values) sources t same h below is =
    let rest : lookups values ≡ t = omega (arith, same, lookups-cons (assigned.Constant one) values) in
    push_lookup scope (table ∷ tables) values sources t rest h below is
push_lookup scope (table ∷ tables) (assigned.Lookup others ∷ values) sources zero same h below is =
    absurd (omega (arith, same, lookups-cons (assigned.Lookup others) values))
push_lookup scope (table ∷ tables) (assigned.Lookup others ∷ values) sources (suc t) same h below is =
    let rest : lookups values ≡ t = omega (arith, same, lookups-cons (assigned.Lookup others) values) in
    (h.0, push_lookup scope tables values sources t rest h.1 (omega arith) is)

-- a value behind those of other outputs
abbrev IsNextValue : Scope → List Assigned → Assigned → Type 0
IsNextValue scope values value = AreValues scope scope.tables.outputs (values ++ value ∷ [])

looked_up : (scope : Scope) (values : List Assigned) → AreValues scope scope.tables.outputs values
    → Promises IsSpelled (lookup scope (lookups values)) (IsNextValue scope values)
unfolding lookup
looked_up scope values h =
    behind (λ a. in_turn (named_where (nat_lt (lookups values) (length scope.tables.outputs)) (codes "k_")
    (length scope.tables.states + lookups values + 1)) (λ b t.
    behind (λ c. in_turn (source_lists scope (output_width scope (lookups values))) (λ sources s.
    behind (λ d. gives (push_lookup scope scope.tables.outputs values sources (lookups values) refl h
    (less (lookups values) (length scope.tables.outputs) t) s))))))

one_value : (scope : Scope) (values : List Assigned) → AreValues scope scope.tables.outputs values
    → Promises IsSpelled (next_value scope values) (AreValues scope scope.tables.outputs)
unfolding next_value a_constant
one_value scope values h =
    behind (λ a. in_turn
    (choice {Q = IsNextValue scope values} (λ x b p e. looked_up scope values h)
    (behind (λ one. gives (push_constant scope scope.tables.outputs values one h))))
    (λ value v.
    behind (λ c. gives v)))

-- the values of all outputs
pub record AreAllValues (scope : Scope) (values : List Assigned) : Type 0 where
  pub are : AreValues scope scope.tables.outputs values
  pub count : length values ≡ output_count scope.ports

pub all_values : (scope : Scope) → Promises IsSpelled (values_of scope) (AreAllValues scope)
unfolding values_of
all_values scope =
    in_turn (many {Q = AreValues scope scope.tables.outputs} tt (λ w x a q p e. one_value scope w q)) (λ values h.
    in_turn (goes_on (nat_eq (length values) (output_count scope.ports))) (λ a n.
    behind (λ b. gives (record { are = h; count = eqb-true (length values) (output_count scope.ports) n }))))

-- Gates.

-- the conditions of a gate are among so many
abbrev pub is_gate_in : ℕ → HGate → Bool
is_gate_in n gate.Always = true
is_gate_in n (gate.NotZero i) = nat_lt i n
is_gate_in n (gate.AllZero is) = list_all (λ i. nat_lt i n) is

-- a gate behind look-ups of these conditions
record IsToldGate (scope : Scope) (is : List ℕ) (when : HGate × Uses) : Type 0 where
  conditions : IsTrue (is_gate_in (length scope.tables.conditions) when.0)
  named : IsTrue (names_condition when.0)
  looked_up : AreLookedUp scope (is ++ conditions_of_gate when.0) when.1

-- conditions that have to be 0, of which there is at least one
record AreZeros (scope : Scope) (is : List ℕ) (found : List ℕ × Uses) : Type 0 where
  conditions : IsTrue (list_all (λ i. nat_lt i (length scope.tables.conditions)) found.0)
  some : 0 < length found.0
  looked_up : AreLookedUp scope (is ++ found.0) found.1

push_zero : (scope : Scope) (is : List ℕ) (before : List ℕ × Uses) (found : ℕ × Uses) → AreZeros scope is before
    → IsNextLookUp scope (is ++ before.0) found
    → AreZeros scope is (before.0 ++ found.0 ∷ [], found.1)
push_zero scope is before found h f = record {
  conditions = list_all-append (λ i. nat_lt i (length scope.tables.conditions)) before.0 (found.0 ∷ [])
      ∙ and_from (list_all (λ i. nat_lt i (length scope.tables.conditions)) before.0)
      (nat_lt found.0 (length scope.tables.conditions) && true) h.conditions (rw f.condition refl);
  some = omega (arith, length-append before.0 (found.0 ∷ []));
  looked_up = subst (λ (js : List ℕ). AreLookedUp scope js found.1) (append_assoc is before.0 (found.0 ∷ [])) f.looked_up;
}

one_zero : (scope : Scope) (is : List ℕ) (before : List ℕ × Uses) → AreZeros scope is before
    → Promises IsSpelled (next_zero scope before) (AreZeros scope is)
unfolding next_zero
one_zero scope is before h =
    behind (λ a. in_turn (conditions scope (is ++ before.0) before.1 h.looked_up) (λ found f.
    behind (λ b. gives (push_zero scope is before found h f))))

some_named : (n : ℕ) → 0 < n → nat_lt 0 n ≡ true
some_named n h = grind (arith, nat_tests)

zeros : (scope : Scope) (is : List ℕ) (first : ℕ × Uses) → IsNextLookUp scope is first
    → Promises IsSpelled (all_zero scope first) (IsToldGate scope is)
unfolding all_zero
zeros scope is first f =
    behind (λ a. in_turn
    (many {Q = AreZeros scope is} (record {
      conditions =
          and_from (nat_lt first.0 (length scope.tables.conditions)) true f.condition refl;
      some = omega arith;
      looked_up =
          f.looked_up;
    })
    (λ w x b z p e. one_zero scope is w z))
    (λ all z.
    gives (record { conditions = z.conditions; named = some_named (length all.0) z.some; looked_up = z.looked_up })))

gates : (scope : Scope) (is : List ℕ) (uses : Uses) → AreLookedUp scope is uses
    → Promises IsSpelled (gate_of scope uses) (IsToldGate scope is)
unfolding gate_of gate_of_conditions not_zero equals_zero always
gates scope is uses h =
    choice
    (λ x a p e.
    in_turn (conditions scope is uses h) (λ found f.
    choice
    (λ x a p e. behind (λ b. gives (record { conditions = f.condition; named = refl; looked_up = f.looked_up })))
    (behind (λ b. zeros scope is found f))))
    (behind (λ b. gives (record {
      conditions = refl;
      named = refl;
      looked_up =
          subst (λ (js : List ℕ). AreLookedUp scope js uses) (sym (append-nil is)) h;
    })))

-- Paths.

record AreDelays (times : ℕ × ℕ) : Type 0 where
  rise : IsNumber times.0
  fall : IsNumber times.1

all_delays : Promises IsSpelled delays AreDelays
unfolding delays
all_delays =
    behind (λ a. in_turn times (λ rise r. behind
    (λ b. in_turn times (λ fall f. behind (λ c. gives (record { rise = r; fall = f }))))))

-- a path that a text can tell
pub record IsToldPath (scope : Scope) (path : HPath) : Type 0 where
  pub starts : IsTrue (is_input_port scope.ports path.from)
  pub gated : IsTrue (is_gate_in (length scope.tables.conditions) path.gate)
  pub written : IsWrittenPath path

-- the paths of one output, behind look-ups of these conditions
record ArePaths (scope : Scope) (is : List ℕ) (found : List HPath × Uses) : Type 0 where
  told : All (IsToldPath scope) found.0
  few : length found.0 ≤ 10 ^ 15
  looked_up : AreLookedUp scope (is ++ flat_map conditions_of_path found.0) found.1

paths-push : (all : List HPath) (path : HPath)
    → flat_map conditions_of_path (all ++ path ∷ []) ≡ flat_map conditions_of_path all ++ conditions_of_gate path.gate
paths-push all path =
    flat_map-append conditions_of_path all (path ∷ []) ∙ ap (λ (is : List ℕ). flat_map conditions_of_path all ++ is)
    (append-nil (conditions_of_gate path.gate))

push_path : (scope : Scope) (is : List ℕ) (before : List HPath × Uses) (path : HPath) (uses : Uses) → ArePaths scope is before
    → IsNumber (length before.0) → IsToldPath scope path
    → AreLookedUp scope ((is ++ flat_map conditions_of_path before.0) ++ conditions_of_gate path.gate) uses
    → ArePaths scope is (before.0 ++ path ∷ [], uses)
push_path scope is before path uses h n told looked = record {
  told = All-push (IsToldPath scope) before.0 path h.told told;
  few = omega (arith, length-append before.0 (path ∷ []), n);
  looked_up = subst (λ (js : List ℕ). AreLookedUp scope js uses)
      (append_assoc is (flat_map conditions_of_path before.0) (conditions_of_gate path.gate)
      ∙ ap (λ (js : List ℕ). is ++ js) (sym (paths-push before.0 path))) looked;
}

one_path : (scope : Scope) (is : List ℕ) (before : List HPath × Uses) → ArePaths scope is before
    → Promises IsSpelled (next_path scope before) (ArePaths scope is)
unfolding next_path
one_path scope is before h =
    in_turn (these_numbers (length before.0)) (λ a n.
    behind (λ b. in_turn (input_ports scope.ports) (λ from p.
    behind (λ c. in_turn all_delays (λ times t.
    in_turn (gates scope (is ++ flat_map conditions_of_path before.0) before.1 h.looked_up) (λ when g.
    behind (λ d. gives (push_path scope is before (record { from = from; rise = times.0; fall = times.1; gate = when.0 }) when.1 h
    n
    (record { starts = p; gated = g.conditions; written = record { rise = t.rise; fall = t.fall; gated = g.named } })
    g.looked_up))))))))

no_paths : (scope : Scope) (is : List ℕ) (uses : Uses) → AreLookedUp scope is uses → ArePaths scope is ([], uses)
no_paths scope is uses h = record {
  told = All-nil (IsToldPath scope);
  few = zero_few;
  looked_up = subst (λ (js : List ℕ). AreLookedUp scope js uses) (sym (append-nil is)) h;
}
  where
    zero_few : 0 ≤ 10 ^ 15
    zero_few = omega arith

all_paths : (scope : Scope) (is : List ℕ) (uses : Uses) → AreLookedUp scope is uses
    → Promises IsSpelled (paths scope uses) (ArePaths scope is)
unfolding paths
all_paths scope is uses h =
    behind (λ a. in_turn (one_path scope is ([], uses) (no_paths scope is uses h)) (λ first f.
    in_turn (many f (λ w x b p q2 e. one_path scope is w p)) (λ all k.
    behind (λ c. gives k))))

-- Lines of outputs.

-- the paths of an output
pub record IsToldLine (scope : Scope) (line : List HPath) : Type 0 where
  pub told : All (IsToldPath scope) line
  pub few : length line ≤ 10 ^ 15

abbrev pub conditions_of_line : List HPath → List ℕ
conditions_of_line line = flat_map conditions_of_path line

-- the lines of outputs, behind look-ups of these conditions
pub record AreLines (scope : Scope) (is : List ℕ) (lines : Lines) : Type 0 where
  pub told : All (IsToldLine scope) lines.0
  pub looked_up : AreLookedUp scope (is ++ flat_map conditions_of_line lines.0) lines.1

lines-push : (all : List (List HPath)) (line : List HPath)
    → flat_map conditions_of_line (all ++ line ∷ []) ≡ flat_map conditions_of_line all ++ conditions_of_line line
lines-push all line =
    flat_map-append conditions_of_line all (line ∷ []) ∙ ap (λ (is : List ℕ). flat_map conditions_of_line all ++ is)
    (append-nil (conditions_of_line line))

push_line : (scope : Scope) (is : List ℕ) (lines : Lines) (found : List HPath × Uses) → AreLines scope is lines
    → ArePaths scope (is ++ flat_map conditions_of_line lines.0) found
    → AreLines scope is (lines.0 ++ found.0 ∷ [], found.1)
push_line scope is lines found h f = record {
  told = All-push (IsToldLine scope) lines.0 found.0 h.told (record { told = f.told; few = f.few });
  looked_up = subst (λ (js : List ℕ). AreLookedUp scope js found.1)
      (append_assoc is (flat_map conditions_of_line lines.0) (conditions_of_line found.0)
      ∙ ap (λ (js : List ℕ). is ++ js) (sym (lines-push lines.0 found.0))) f.looked_up;
}

unpathed_line : (scope : Scope) (is : List ℕ) (lines : Lines) → AreLines scope is lines
    → Promises IsSpelled (assigned_value lines) (AreLines scope is)
unfolding assigned_value
unpathed_line scope is lines h =
    behind (λ a. behind (λ b. gives (push_line scope is lines ([], lines.1) h
    (no_paths scope (is ++ flat_map conditions_of_line lines.0) lines.1 h.looked_up))))

pathed_line : (scope : Scope) (is : List ℕ) (lines : Lines) → AreLines scope is lines
    → Promises IsSpelled (path_call scope lines) (AreLines scope is)
unfolding path_call
pathed_line scope is lines h =
    behind (λ a. behind (λ b. in_turn (all_paths scope (is ++ flat_map conditions_of_line lines.0) lines.1 h.looked_up)
    (λ found f.
    behind (λ c. gives (push_line scope is lines found h f)))))

one_line : (scope : Scope) (is : List ℕ) (lines : Lines) → AreLines scope is lines → (b : Bool)
    → Promises IsSpelled (line_by scope lines b) (AreLines scope is)
unfolding call_or_assignment assignment
one_line scope is lines h true = choice (λ x a p e. unpathed_line scope is lines h) (pathed_line scope is lines h)
one_line scope is lines h false = behind (λ a. unpathed_line scope is lines h)

-- the lines of all outputs
pub record AreAllLines (scope : Scope) (is : List ℕ) (lines : Lines) : Type 0 where
  pub are : AreLines scope is lines
  pub count : length lines.0 ≡ output_count scope.ports

pub all_lines : (scope : Scope) (is : List ℕ) (uses : Uses) → AreLookedUp scope is uses
    → Promises IsSpelled (output_lines scope uses) (AreAllLines scope is)
unfolding output_lines
all_lines scope is uses h =
    in_turn
    (many {Q = AreLines scope is} (record {
      told = All-nil (IsToldLine scope);
      looked_up =
          subst (λ (js : List ℕ). AreLookedUp scope js uses) (sym (append-nil is)) h;
    })
    (λ w x b q p e. one_line scope is w q b))
    (λ lines l.
    in_turn (goes_on (nat_eq (length lines.0) (output_count scope.ports))) (λ a n.
    gives (record { are = l; count = eqb-true (length lines.0) (output_count scope.ports) n })))
