-- The columns of states and the sources of outputs that are read.
use Rattle.std.proofs.Common.{◌≡◌, ℕ, ◌+◌, ◌<◌, Bool, true, false, ◌&&◌, nat_eq, nat_lt, if◌then◌else◌, IsTrue, List, [], ◌∷◌}
use Rattle.std.proofs.Common.{◌++◌, length, slice_get, Option, Some, None, refl, ap, subst, ◌∙◌, arith, codes}
use Rattle.std.specs.Cmp.{IsEquivalence}
use Rattle.std.specs.List.{IsDistinct, list_any, list_all}
use Rattle.std.specs.Option.{option_map, option_map_or}
use Rattle.std.proofs.lemmas.Bool.{and_parts, and_from, eq-eqb, eqb-true}
use Rattle.std.proofs.lemmas.Bool.Decides.{nat_tests}
use Rattle.std.proofs.lemmas.List.Folds.{list_all-append}
use Rattle.std.proofs.lemmas.Map.Keys.{IsDistinct-push}
use Rattle.grammar_rules.specs.Rule.{Verdict, Fits, Foul, Misfit}
use Rattle.grammar_rules.proofs.Promises.{Promises, token, gives, in_turn, many, weaker}
use Rattle.grammar_reader.specs.declared.refusal.Refusal.{Refusal}
use Rattle.grammar_reader.specs.declared.refusal.Refusal.TheVariants.{Syntax, Width}
use Rattle.grammar_reader.specs.Words.{name_by, is_this}
use Rattle.cell_machine.specs.declared.outputs.Source.{Source}
use Rattle.cell_machine.specs.declared.outputs.Source.TheVariants as source
use Rattle.vital_tables.specs.declared.table.VStateTable.{VStateTable}
use Rattle.udp_tables.specs.Ports.{is_input_port}
use Rattle.vhdl_tokens.specs.Tokens.{is_name}
use Rattle.vhdl_tokens.specs.Spelling.{is_same}
use Rattle.vhdl_grammar.specs.declared.scope.Columns.{Columns}
use Rattle.vhdl_grammar.specs.declared.scope.Scope.{Scope}
use Rattle.vhdl_grammar.specs.VhdlRules.{this_name, numbered_where, place_among}
use Rattle.vhdl_grammar.specs.VhdlTables.{state_width}
use Rattle.vhdl_grammar.specs.VhdlDeclarations.{width_at}
use Rattle.vhdl_grammar.specs.VhdlNames.{input_of, listed_by, input_by, violated_columns, no_columns, with_input, column_count}
use Rattle.vhdl_grammar.specs.VhdlNames.{behind_input, takes_violation, next_column, columns_of, same_source, source_or_state}
use Rattle.vhdl_grammar.specs.VhdlNames.{source_of, listed_source, sources_of}
use Rattle.vhdl_grammar.specs.VhdlChecks.{state_call_start, state_call, state_calls}
use Rattle.vhdl_grammar.proofs.ReadNames.{IsSpelled, fits_if, known_values, where_holds, goes_on, behind, surely}
use Rattle.vhdl_grammar.proofs.ReadTables.{all_elements}
use Rattle.vhdl_grammar.proofs.ReadLists.{input_port, listed_fits, AreInputs, no_inputs, new_input, push_input, place_below}

-- Columns of states.

-- columns that the scope allows: distinct inputs, and the violation where there are checks
pub record AreColumns (scope : Scope) (columns : Columns) : Type 0 where
  pub inputs : AreInputs scope.ports columns.inputs
  pub violated : IsTrue (if columns.violation then nat_lt 0 (length scope.variables.periods) else true)

behind_fits : (scope : Scope) (columns c : Columns) (v : Verdict ℕ Refusal) → behind_input columns v ≡ Fits c
    → ((p : ℕ) → v ≡ Fits p → AreColumns scope (with_input columns p)) → AreColumns scope c
behind_fits scope columns c (Fits p) e h = let same : with_input columns p ≡ c = cc in subst (AreColumns scope) same (h p refl)
behind_fits scope columns c (Foul k p) e h = absurd cc
behind_fits scope columns c (Misfit k) e h = absurd cc

column_fits : (scope : Scope) (columns c : Columns) (x : List ℕ) (b : Bool)
    → (takes_violation scope columns && is_same x (codes "viol")) ≡ b → AreColumns scope columns
    → (if b then Fits violated_columns
    else name_by is_name (λ x. behind_input columns (input_by scope.ports columns.inputs x)) x) ≡ Fits c → AreColumns scope c
column_fits scope columns c x true t h e =
    let takes = (and_parts (takes_violation scope columns) (is_same x (codes "viol")) t).0 in
    let checks = (and_parts (nat_lt 0 (length scope.variables.periods)) (nat_eq (column_count columns) 0) takes).0 in
    let same : violated_columns ≡ c = cc in
    subst (AreColumns scope) same (record { inputs = no_inputs scope.ports; violated = checks })
column_fits scope columns c x false t h e =
    behind_fits scope columns c (input_by scope.ports columns.inputs x)
    (fits_if (is_name x) (behind_input columns (input_by scope.ports columns.inputs x)) Syntax c e).1
    (λ p f. record {
      inputs = push_input scope.ports columns.inputs p h.inputs (new_input scope.ports columns.inputs x p f);
      violated = h.violated;
    })

one_column : (scope : Scope) (columns : Columns) → AreColumns scope columns
    → Promises IsSpelled (next_column scope columns) (AreColumns scope)
unfolding next_column
one_column scope columns h =
    token (λ x c p e. column_fits scope columns c x (takes_violation scope columns && is_same x (codes "viol")) refl h e)

-- as many columns as a table has
pub record AreSoMany (scope : Scope) (width : ℕ) (columns : Columns) : Type 0 where
  pub all : AreColumns scope columns
  pub count : column_count columns ≡ width

all_columns : (scope : Scope) (g : ℕ) → Promises IsSpelled (columns_of scope g) (AreSoMany scope (width_at scope.tables g))
unfolding columns_of
all_columns scope g =
    in_turn
    (all_elements (next_column scope) (AreColumns scope) (AreColumns scope) no_columns
    (record { inputs = no_inputs scope.ports; violated = refl }) (one_column scope) (λ w r. r))
    (λ columns h.
    in_turn (where_holds (nat_eq (column_count columns) (width_at scope.tables g)) Width (codes ")")) (λ a w.
    gives (record { all = h; count = eqb-true (column_count columns) (width_at scope.tables g) w })))

-- the columns of the first of these tables
abbrev pub AreStates : Scope → List VStateTable → List Columns → Type 0
AreStates scope tables [] = Unit {0}
AreStates scope [] (columns ∷ states) = ⊥
AreStates scope (table ∷ tables) (columns ∷ states) = AreSoMany scope (state_width table.rows) columns
    × AreStates scope tables states

abbrev pub width_in : List VStateTable → ℕ → ℕ
width_in tables g = option_map_or (λ (table : VStateTable). state_width table.rows) (slice_get tables g) 0

push_state : (scope : Scope) (tables : List VStateTable) (states : List Columns) (columns : Columns)
    → AreStates scope tables states → length states < length tables
    → AreSoMany scope (width_in tables (length states)) columns → AreStates scope tables (states ++ columns ∷ [])
push_state scope [] states columns h below is = absurd (omega arith)
push_state scope (table ∷ tables) [] columns h below is = (is, tt)
push_state scope (table ∷ tables) (other ∷ states) columns h below is =
    (h.0, push_state scope tables states columns h.1 (omega arith) is)

holds_where : (b : Bool) (word : List ℕ) (n : ℕ) (x : List ℕ) (a : Unit {0})
    → is_this is_same (numbered_where b word n) x ≡ Some a → b ≡ true
holds_where true word n x a e = refl
holds_where false word n x a e = absurd cc

-- a name of a numbered part, which is there
pub named_where : (b : Bool) (word : List ℕ) (n : ℕ) → Promises IsSpelled (this_name (numbered_where b word n)) (λ _. b ≡ true)
named_where b word n = weaker (known_values (is_this is_same (numbered_where b word n))) (λ a f. holds_where b word n f.0 a f.1)

starts : (scope : Scope) (g : ℕ) → Promises IsSpelled (state_call_start scope g)
    (λ _. nat_lt g (length scope.tables.states) ≡ true)
unfolding state_call_start
starts scope g =
    behind (λ a. in_turn (named_where (nat_lt g (length scope.tables.states)) (codes "s_") (g + 1)) (λ b h. surely (λ c. h)))

one_call : (scope : Scope) (states : List Columns) → AreStates scope scope.tables.states states
    → Promises IsSpelled (state_call scope states) (AreStates scope scope.tables.states)
unfolding state_call
one_call scope states h =
    in_turn (starts scope (length states)) (λ a t.
    in_turn (all_columns scope (length states)) (λ columns c.
    behind (λ b. gives (push_state scope scope.tables.states states columns h (below t) c))))
  where
    below : nat_lt (length states) (length scope.tables.states) ≡ true → length states < length scope.tables.states
    below t = grind (arith, nat_tests)

-- the columns of all states
pub record AreAllStates (scope : Scope) (states : List Columns) : Type 0 where
  pub are : AreStates scope scope.tables.states states
  pub count : length states ≡ length scope.tables.states

pub all_states : (scope : Scope) → Promises IsSpelled (state_calls scope) (AreAllStates scope)
unfolding state_calls
all_states scope =
    in_turn (many {Q = AreStates scope scope.tables.states} tt (λ w x a q p e. one_call scope w q)) (λ states h.
    in_turn (goes_on (nat_eq (length states) (length scope.tables.states))) (λ a n.
    gives (record { are = h; count = eqb-true (length states) (length scope.tables.states) n })))

-- Sources of outputs.

same_source-is : (a b : Source) → same_source a b ≡ true → a ≡ b
same_source-is (source.Pin p) (source.Pin q) e = ap source.Pin (eqb-true p q e)
same_source-is (source.Pin p) (source.State g) e = absurd cc
same_source-is (source.State g) (source.Pin p) e = absurd cc
same_source-is (source.State g) (source.State h) e = ap source.State (eqb-true g h e)

nat_eq-symm : (p q : ℕ) → nat_eq p q ≡ nat_eq q p
nat_eq-symm p q = grind (arith, nat_tests)

same_source-refl : (a : Source) → same_source a a ≡ true
same_source-refl (source.Pin p) = eq-eqb p p refl
same_source-refl (source.State g) = eq-eqb g g refl

same_source-symm : (a b : Source) → same_source a b ≡ same_source b a
same_source-symm (source.Pin p) (source.Pin q) = nat_eq-symm p q
same_source-symm (source.Pin p) (source.State g) = refl
same_source-symm (source.State g) (source.Pin p) = refl
same_source-symm (source.State g) (source.State h) = nat_eq-symm g h

source_equivalence : IsEquivalence same_source
source_equivalence = record {
  refl = same_source-refl;
  symm = same_source-symm;
  congr =
      λ x y z e. ap (λ (t : Source). same_source t z) (same_source-is x y e);
}

-- an input, or a state
abbrev pub feeds_in : Scope → Source → Bool
feeds_in scope (source.Pin p) = is_input_port scope.ports p
feeds_in scope (source.State g) = nat_lt g (length scope.tables.states)

source_feeds : (scope : Scope) (x : List ℕ) (s : Source) (o : Option ℕ) → input_of scope.ports x ≡ o
    → source_or_state scope x o ≡ Some s → feeds_in scope s ≡ true
source_feeds scope x s (Some p) i e = let same : source.Pin p ≡ s = cc
    in subst (λ (s : Source). feeds_in scope s ≡ true) same (input_port scope.ports x p i)
source_feeds scope x s None i e = by_state (place_among (codes "s_") (length scope.tables.states) x) refl e
  where
    by_state : (o : Option ℕ) → place_among (codes "s_") (length scope.tables.states) x ≡ o → option_map source.State o ≡ Some s
        → feeds_in scope s ≡ true
    by_state None f e = absurd cc
    by_state (Some g) f e =
        let below = place_below (codes "s_") (length scope.tables.states) x g f in
        let less : nat_lt g (length scope.tables.states) ≡ true = grind (arith, nat_tests) in
        let same : source.State g ≡ s = cc in
        subst (λ (s : Source). feeds_in scope s ≡ true) same less

pub record AreSources (scope : Scope) (sources : List Source) : Type 0 where
  pub fed : IsTrue (list_all (feeds_in scope) sources)
  pub apart : IsDistinct same_source sources

no_sources : (scope : Scope) → AreSources scope []
unfolding IsDistinct
no_sources scope = record { fed = refl; apart = tt }

record IsNewSource (scope : Scope) (sources : List Source) (s : Source) : Type 0 where
  feeds : feeds_in scope s ≡ true
  new : list_any (same_source s) sources ≡ false

new_source : (scope : Scope) (sources : List Source) (x : List ℕ) (s : Source)
    → listed_by (λ s. list_any (same_source s) sources) (source_of scope x) ≡ Fits s → IsNewSource scope sources s
new_source scope sources x s e =
    let f = listed_fits (λ s. list_any (same_source s) sources) (source_of scope x) s e in
    record { feeds = source_feeds scope x s (input_of scope.ports x) refl f.0; new = f.1 }

push_source : (scope : Scope) (sources : List Source) (s : Source) → AreSources scope sources → IsNewSource scope sources s
    → AreSources scope (sources ++ s ∷ [])
push_source scope sources s h n = record {
  fed = list_all-append (feeds_in scope) sources (s ∷ [])
      ∙ and_from (list_all (feeds_in scope) sources) (feeds_in scope s && true) h.fed (rw n.feeds refl);
  apart = IsDistinct-push source_equivalence sources s h.apart n.new;
}

one_source : (scope : Scope) (sources : List Source) → AreSources scope sources
    → Promises IsSpelled (listed_source scope sources) (AreSources scope)
unfolding listed_source
one_source scope sources h =
    in_turn
    (token {Q = IsNewSource scope sources}
    (λ x s q e. new_source scope sources x s
    (fits_if (is_name x) (listed_by (λ s. list_any (same_source s) sources) (source_of scope x)) Syntax s e).1))
    (λ s n. gives (push_source scope sources s h n))

-- so many sources
pub record IsSourceList (scope : Scope) (width : ℕ) (sources : List Source) : Type 0 where
  pub all : AreSources scope sources
  pub count : length sources ≡ width

pub source_lists : (scope : Scope) (width : ℕ) → Promises IsSpelled (sources_of scope width) (IsSourceList scope width)
unfolding sources_of
source_lists scope width =
    in_turn (all_elements (listed_source scope) (AreSources scope) (AreSources scope) [] (no_sources scope) (one_source scope)
    (λ w r. r)) (λ sources h.
    in_turn (where_holds (nat_eq (length sources) width) Width (codes ")")) (λ a w.
    gives (record { all = h; count = eqb-true (length sources) width w })))
