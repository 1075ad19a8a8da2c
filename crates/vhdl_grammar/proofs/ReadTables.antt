-- The tables of constants that are read.
use Rattle.std.proofs.Common.{◌≡◌, ℕ, zero, suc, ◌+◌, ◌-◌, ◌≤◌, ◌<◌, Bool, true, false, ◌&&◌, nat_lt, if◌then◌else◌, cond}
use Rattle.std.proofs.Common.{List, [], ◌∷◌, ◌++◌, length, take, slice_get, ◌⊎◌, inl, inr, Option, Some, None, refl, sym, ap}
use Rattle.std.proofs.Common.{subst, arith}
use Rattle.std.specs.Prelude.{All, count_by}
use Rattle.std.specs.List.{list_any}
use Rattle.std.specs.Option.{option_and_then}
use Rattle.std.proofs.lemmas.Bool.{cases_Bool, eqb-true, or_parts as neither}
use Rattle.std.proofs.lemmas.Bool.Decides.{nat_tests}
use Rattle.std.proofs.lemmas.List.Elements.{All-nil, All-push}
use Rattle.std.proofs.lemmas.List.Sums.{sum_by-append, sum_by-cons, sum_by-take-le}
use Rattle.grammar_rules.specs.Rule.{Fits, Foul}
use Rattle.grammar_rules.specs.Rule as rule
use Rattle.grammar_rules.proofs.Promises.{Promises, token, gives, in_turn, many, choice}
use Rattle.trit_cubes.specs.declared.trits.Trit.{Trit}
use Rattle.vital_tables.specs.declared.table.Trits.{Trits}
use Rattle.vital_tables.specs.declared.table.TruthRow.{TruthRow}
use Rattle.vital_tables.specs.declared.table.TruthTable.{TruthTable}
use Rattle.vital_tables.specs.declared.table.VSymbol.{VSymbol}
use Rattle.vital_tables.specs.declared.table.VNext.{VNext}
use Rattle.vital_tables.specs.declared.table.VStateRow.{VStateRow}
use Rattle.vital_tables.specs.declared.table.VStateTable.{VStateTable}
use Rattle.grammar_reader.specs.Words.{Grammar, ◌>>=◌}
use Rattle.grammar_reader.specs.declared.refusal.Refusal.TheVariants.{Syntax, TwoEdges, Width}
use Rattle.vhdl_tokens.specs.Spelling.{is_same}
use Rattle.vhdl_grammar.specs.declared.scope.Tables.{Tables}
use Rattle.std.specs.Prelude.{codes}
use Rattle.vhdl_grammar.specs.VhdlRules.{expect, only_element, more_elements, several_elements, elements}
use Rattle.vhdl_grammar.specs.VhdlTables.{symbol_of, is_edge, next_by, next_symbol, symbols, state_in, next_in, state_row_with}
use Rattle.vhdl_grammar.specs.VhdlTables.{state_row_of, row_end, state_width, is_as_long_as_state_rows, state_row, state_table}
use Rattle.vhdl_grammar.specs.VhdlTables.{value_of, truth_row_with, truth_row_of, truth_width, is_as_long_as_truth_rows}
use Rattle.vhdl_grammar.specs.VhdlTables.{truth_row, truth_table, ConstantOf, StateOrOutput, Condition, assigned_truth_table}
use Rattle.vhdl_grammar.specs.VhdlTables.{condition_constant, output_constant, state_constant, constant_by, constant, constants}
use Rattle.vhdl_grammar.specs.WellFormed.{HasOneEdge}
use Rattle.vhdl_grammar.proofs.ReadNames.{IsSpelled, fits_if, fits_unless, fits_where, behind}

-- Lists of elements.

-- Where each element behind such ones leads to more of them, all elements do.
pub all_elements : {S : Type 0} (element : S → Grammar S) (Q R : S → Type 0) (start : S) → Q start
    → ((w : S) → Q w → Promises IsSpelled (element w) R) → ((w : S) → R w → Q w) → Promises IsSpelled (elements element start) R
unfolding elements only_element several_elements more_elements
all_elements element Q R start q one back =
    choice
    (λ x a p e. behind (λ b. one start q))
    (in_turn (one start q) (λ first f.
    behind (λ b. in_turn (one first (back first f)) (λ second s.
    many s (λ w x a r p e. one w (back w r))))))

-- Rows of a table of a state.

edges-cons : (s : VSymbol) (all : List VSymbol) → count_by is_edge (s ∷ all) ≡ cond (is_edge s) 1 0 + count_by is_edge all
edges-cons s all = sum_by-cons (λ s. cond (is_edge s) 1 0) s all

edges-push : (all : List VSymbol) (s : VSymbol) → count_by is_edge (all ++ s ∷ []) ≡ count_by is_edge all + cond (is_edge s) 1 0
edges-push all s =
    let split : count_by is_edge (all ++ s ∷ []) ≡ count_by is_edge all + count_by is_edge (s ∷ []) =
    sum_by-append (λ s. cond (is_edge s) 1 0) all (s ∷ []) in
    let one : count_by is_edge (s ∷ []) ≡ cond (is_edge s) 1 0 + 0 = edges-cons s [] in
    omega (arith, split, one)

no_edges : (all : List VSymbol) → list_any is_edge all ≡ false → count_by is_edge all ≡ 0
no_edges [] h = refl
no_edges (s ∷ all) h =
    let parts = neither (is_edge s) (list_any is_edge all) h in
    let here : ◌≡◌ {A = ℕ} (cond (is_edge s) 1 0) 0 = rw parts.0 refl in
    let rest = no_edges all parts.1 in
    omega (arith, edges-cons s all, here, rest)

abbrev FewEdges : List VSymbol → Type 0
FewEdges all = count_by is_edge all ≤ 1

not_both : (a b : Bool) → (a && b) ≡ false → a ≡ true → b ≡ false
not_both true b h e = h
not_both false b h e = absurd cc

push_symbol : (all : List VSymbol) (s : VSymbol) → FewEdges all → (is_edge s && list_any is_edge all) ≡ false
    → FewEdges (all ++ s ∷ [])
push_symbol all s h second =
    elim (cases_Bool (is_edge s)) [
      | inl t ↦
          let here : ◌≡◌ {A = ℕ} (cond (is_edge s) 1 0) 1 = rw t refl in
          let none = no_edges all (not_both (is_edge s) (list_any is_edge all) second t) in
          omega (arith, edges-push all s, here, none)
      | inr t ↦
          let here : ◌≡◌ {A = ℕ} (cond (is_edge s) 1 0) 0 = rw t refl in
          omega (arith, edges-push all s, here, h)
    ]

next_fits : (all : List VSymbol) (o : Option VSymbol) (s : VSymbol) → next_by all o ≡ Fits s
    → (is_edge s && list_any is_edge all) ≡ false
next_fits all None s e = absurd cc
next_fits all (Some t) s e =
    let f = fits_unless (is_edge t && list_any is_edge all) TwoEdges t s e in
    subst (λ t. (is_edge t && list_any is_edge all) ≡ false) f.1 f.0

one_symbol : (all : List VSymbol) → FewEdges all → Promises IsSpelled (next_symbol all) FewEdges
unfolding next_symbol
one_symbol all h = in_turn (token (λ x s p e. next_fits all (symbol_of x) s e)) (λ s second. gives (push_symbol all s h second))

all_symbols : Promises IsSpelled symbols FewEdges
unfolding symbols
all_symbols = in_turn (one_symbol [] (omega arith)) (λ first f. many f (λ w x a q p e. one_symbol w q))

none_unless : {A : Type 0} (b : Bool) (o : Option A) (a : A) → (if b then o else None) ≡ Some a → (b ≡ true) × (o ≡ Some a)
none_unless true o a e = (refl, e)
none_unless false o a e = absurd cc

took : {X : Type 0} (n : ℕ) (xs : List X) → n ≤ length xs → length (take n xs) ≡ n
took zero xs h = refl
took (suc n) [] h = absurd (omega arith)
took (suc n) (x ∷ xs) h = let rest = took n xs (omega arith) in omega (arith, rest)

abbrev inputs_of : Option VStateRow → List VSymbol
inputs_of None = []
inputs_of (Some row) = row.inputs

state_inputs : (all : List VSymbol) (s : Option Trits) (n : Option VNext) (row : VStateRow) → state_row_with all s n ≡ Some row
    → row.inputs ≡ all
state_inputs all None n row e = absurd cc
state_inputs all (Some s) None row e = absurd cc
state_inputs all (Some s) (Some n) row e = ap inputs_of (sym e)

-- a row of a table of a state: an input, and one edge at most
record IsStateRow (row : VStateRow) : Type 0 where
  edge : HasOneEdge row
  wide : 1 ≤ length row.inputs

state_row_is : (all : List VSymbol) (row : VStateRow) → FewEdges all → state_row_of all ≡ Some row → IsStateRow row
state_row_is all row few e =
    let n = length all - 2 in
    let f = none_unless (nat_lt 2 (length all))
    (state_row_with (take (length all - 2) all) (option_and_then state_in (slice_get all (length all - 2)))
    (option_and_then next_in (slice_get all (length all - 1)))) row e in
    let same = state_inputs (take (length all - 2) all) (option_and_then state_in (slice_get all (length all - 2)))
    (option_and_then next_in (slice_get all (length all - 1))) row f.1 in
    let more : 2 < length all = grind (arith, nat_tests, f.0) in
    let count = took (length all - 2) all (omega arith) in
    record {
      edge = subst (λ (xs : List VSymbol). count_by is_edge xs ≤ 1) (sym same)
          (omega (arith, few, sum_by-take-le (λ s. cond (is_edge s) 1 0) all (length all - 2)));
      wide = subst (λ (xs : List VSymbol). 1 ≤ length xs) (sym same) (omega (arith, count, more));
    }

abbrev HasWidth : ℕ → VStateRow → Type 0
HasWidth n row = length row.inputs ≡ n

-- the rows of a table of a state, of which there is at least one
pub record AreStateRows (rows : List VStateRow) : Type 0 where
  pub some : 1 ≤ length rows
  pub edges : All HasOneEdge rows
  pub wide : 1 ≤ state_width rows
  pub even : All (λ row. length row.inputs ≡ state_width rows) rows

abbrev MayBeStateRows : List VStateRow → Type 0
MayBeStateRows rows = (rows ≡ []) ⊎ AreStateRows rows

push_state_row : (rows : List VStateRow) (row : VStateRow) → MayBeStateRows rows → IsStateRow row
    → is_as_long_as_state_rows rows row ≡ true → AreStateRows (rows ++ row ∷ [])
push_state_row [] row h is long = record {
  some = omega arith;
  edges = All-push HasOneEdge [] row (All-nil HasOneEdge) is.edge;
  wide = is.wide;
  even = All-push (HasWidth (length row.inputs)) [] row (All-nil (HasWidth (length row.inputs))) refl;
}
push_state_row (first ∷ rows) row (inl e) is long = absurd cc
push_state_row (first ∷ rows) row (inr h) is long = record {
  some = omega arith;
  edges = All-push HasOneEdge (first ∷ rows) row h.edges is.edge;
  wide = h.wide;
  even = All-push (HasWidth (length first.inputs)) (first ∷ rows) row h.even
      (eqb-true (length row.inputs) (length first.inputs) long);
}

-- the end of a row that passes
row_ends : {R : Type 0} (test : R → Bool) (o : Option R) (x : List ℕ) (row : R) → row_end test o x ≡ Fits row → (o ≡ Some row)
    × (test row ≡ true)
row_ends test None x row e = absurd cc
row_ends test (Some r) x row e =
    let f = fits_if (is_same x (codes ")")) (if test r then Fits r else Foul Width r) Syntax row e in
    let g = fits_where (test r) Width r row f.1 in
    (ap Some g.1, subst (λ r. test r ≡ true) g.1 g.0)

-- a table in parentheses, of rows each of which goes on with those before it
tables : {R T : Type 0} (row : List R → Grammar (List R)) (AreRows : List R → Type 0) (table : List R → T) (IsTable : T → Type 0)
    → ((rows : List R) → (rows ≡ []) ⊎ AreRows rows → Promises IsSpelled (row rows) AreRows)
    → ((rows : List R) → AreRows rows → IsTable (table rows))
    → Promises IsSpelled
    (expect (codes "(") >>= λ _. elements row [] >>= λ rows. expect (codes ")") >>= λ _. rule.Gives (table rows)) IsTable
tables row AreRows table IsTable one is = behind (λ a. in_turn
    (all_elements row (λ rows. (rows ≡ []) ⊎ AreRows rows) AreRows [] (inl refl) one (λ w r. inr r))
    (λ rows h. behind (λ b. gives (is rows h))))

one_state_row : (rows : List VStateRow) → MayBeStateRows rows → Promises IsSpelled (state_row rows) AreStateRows
unfolding state_row
one_state_row rows h =
    behind (λ a. in_turn all_symbols (λ all few.
    in_turn
    (token {Q = λ row. (state_row_of all ≡ Some row) × (is_as_long_as_state_rows rows row ≡ true)}
    (λ x row p e. row_ends (is_as_long_as_state_rows rows) (state_row_of all) x row e))
    (λ row f. gives (push_state_row rows row h (state_row_is all row few f.0) f.1))))

-- a table of a state
abbrev pub HasStateRows : VStateTable → Type 0
HasStateRows table = AreStateRows table.rows

state_tables : Promises IsSpelled state_table HasStateRows
unfolding state_table
state_tables = tables {T = VStateTable} state_row AreStateRows (λ rows. record { rows = rows }) HasStateRows one_state_row (λ rows h. h)

-- Rows of a truth table.

abbrev truth_inputs_of : Option TruthRow → List Trits
truth_inputs_of None = []
truth_inputs_of (Some row) = row.inputs

truth_inputs : (all : List Trits) (r : Option Trit) (row : TruthRow) → truth_row_with all r ≡ Some row → row.inputs ≡ all
truth_inputs all None row e = absurd cc
truth_inputs all (Some r) row e = ap truth_inputs_of (sym e)

truth_row_is : (all : List Trits) (row : TruthRow) → truth_row_of all ≡ Some row → 1 ≤ length row.inputs
truth_row_is all row e =
    let f = none_unless (nat_lt 1 (length all))
    (truth_row_with (take (length all - 1) all) (option_and_then value_of (slice_get all (length all - 1)))) row e in
    let same = truth_inputs (take (length all - 1) all) (option_and_then value_of (slice_get all (length all - 1))) row f.1 in
    let more : 1 < length all = grind (arith, nat_tests, f.0) in
    let count = took (length all - 1) all (omega arith) in
    subst (λ (xs : List Trits). 1 ≤ length xs) (sym same) (omega (arith, count, more))

abbrev HasTruthWidth : ℕ → TruthRow → Type 0
HasTruthWidth n row = length row.inputs ≡ n

-- the rows of a truth table, of which there is at least one
pub record AreTruthRows (rows : List TruthRow) : Type 0 where
  pub some : 1 ≤ length rows
  pub wide : 1 ≤ truth_width rows
  pub even : All (λ row. length row.inputs ≡ truth_width rows) rows

abbrev MayBeTruthRows : List TruthRow → Type 0
MayBeTruthRows rows = (rows ≡ []) ⊎ AreTruthRows rows

push_truth_row : (rows : List TruthRow) (row : TruthRow) → MayBeTruthRows rows → 1 ≤ length row.inputs
    → is_as_long_as_truth_rows rows row ≡ true → AreTruthRows (rows ++ row ∷ [])
push_truth_row [] row h wide long = record {
  some = omega arith;
  wide = wide;
  even = All-push (HasTruthWidth (length row.inputs)) [] row (All-nil (HasTruthWidth (length row.inputs))) refl;
}
push_truth_row (first ∷ rows) row (inl e) wide long = absurd cc
push_truth_row (first ∷ rows) row (inr h) wide long = record {
  some = omega arith;
  wide = h.wide;
  even = All-push (HasTruthWidth (length first.inputs)) (first ∷ rows) row h.even
      (eqb-true (length row.inputs) (length first.inputs) long);
}

one_truth_row : (rows : List TruthRow) → MayBeTruthRows rows → Promises IsSpelled (truth_row rows) AreTruthRows
unfolding truth_row
one_truth_row rows h =
    behind (λ a. behind (λ all. in_turn
    (token {Q = λ row. (truth_row_of all ≡ Some row) × (is_as_long_as_truth_rows rows row ≡ true)}
    (λ x row p e. row_ends (is_as_long_as_truth_rows rows) (truth_row_of all) x row e))
    (λ row f. gives (push_truth_row rows row h (truth_row_is all row f.0) f.1))))

-- a truth table
abbrev pub HasTruthRows : TruthTable → Type 0
HasTruthRows table = AreTruthRows table.rows

truth_tables : Promises IsSpelled truth_table HasTruthRows
unfolding truth_table
truth_tables = tables {T = TruthTable} truth_row AreTruthRows (λ rows. record { rows = rows }) HasTruthRows one_truth_row (λ rows h. h)

-- Constants.

pub record AreTables (tables : Tables) : Type 0 where
  pub states : All HasStateRows tables.states
  pub conditions : All HasTruthRows tables.conditions
  pub outputs : All HasTruthRows tables.outputs

assigned : Promises IsSpelled assigned_truth_table HasTruthRows
unfolding assigned_truth_table
assigned = behind (λ a. in_turn truth_tables (λ table t. behind (λ b. gives t)))

by_kind : (tables : Tables) → AreTables tables → (of : ConstantOf) → Promises IsSpelled (constant_by tables of) AreTables
unfolding state_constant output_constant condition_constant
by_kind tables h StateOrOutput =
    choice
    (λ x a p e. behind (λ b. in_turn state_tables
    (λ table t. behind (λ c. gives (record {
      states = All-push HasStateRows tables.states table h.states t;
      conditions =
          h.conditions;
      outputs = h.outputs;
    })))))
    (behind (λ b. in_turn assigned (λ table t.
    gives (record {
      states = h.states;
      conditions = h.conditions;
      outputs =
          All-push HasTruthRows tables.outputs table h.outputs t;
    }))))
by_kind tables h Condition =
    behind (λ b. in_turn assigned (λ table t.
    gives (record {
      states = h.states;
      conditions = All-push HasTruthRows tables.conditions table h.conditions t;
      outputs =
          h.outputs;
    })))

one_constant : (tables : Tables) → AreTables tables → Promises IsSpelled (constant tables) AreTables
unfolding constant
one_constant tables h = behind (λ of. behind (λ a. by_kind tables h of))

pub all_tables : Promises IsSpelled constants AreTables
unfolding constants
all_tables =
    many (record { states = All-nil HasStateRows; conditions = All-nil HasTruthRows; outputs = All-nil HasTruthRows })
    (λ w x a q p e. one_constant w q)
