-- The groups from a `statetable` of which nothing is refused keep the rules of state groups.
use Rattle.std.proofs.Common.{◌≡◌, ℕ, suc, ◌+◌, ◌<◌, Bool, true, false, not, ◌||◌, ◌==◌, List, [], ◌∷◌, ◌++◌, length, map, refl}
use Rattle.std.proofs.Common.{sym, ◌∙◌, ap, subst, arith, IsTrue, Option, Some, None, Result, Ok, Err, inl, inr, nat_eq, nat_lt}
use Rattle.std.proofs.Common.{nat_le, slice_index, append-nil}
use Rattle.std.specs.Prelude.{codes, is_none, All}
use Rattle.std.specs.Option.{option_map_or}
use Rattle.std.specs.List.{list_all}
use Rattle.std.proofs.lemmas.Bool.{cases_Bool, and_from, and_parts, or_left, or_parts, eq-eqb, ne_eqb, lt-ltb}
use Rattle.std.proofs.lemmas.List.Elements.{All-head, All-tail}
use Rattle.liberty_groups.specs.declared.tree.Group.{Group}
use Rattle.bool_functions.specs.NameList.{number_of}
use Rattle.statetables.specs.declared.fault.TableFault.{TableFault}
use Rattle.statetables.specs.declared.table.StateTable.{StateTable}
use Rattle.statetables.specs.declared.table.TableRow.{TableRow}
use Rattle.statetables.specs.Reading.{table_of}
use Rattle.statetables.specs.Step.{HasWidths}
use Rattle.statetables.proofs.Widths.{tables_read}
use Rattle.cell_machine.specs.declared.groups.GroupKind.TheVariants as kind
use Rattle.cell_machine.specs.declared.groups.StateGroup.{StateGroup}
use Rattle.cell_machine.specs.declared.pins.Pin.{Pin}
use Rattle.cell_machine.specs.Names.{has}
use Rattle.cell_machine.specs.CellRules.{is_input_pin, is_support, names_support, has_widths, is_table as keeps_table_rules}
use Rattle.cell_machine.specs.CellRules.{is_kind, is_group, are_groups_from}
use Rattle.liberty_groups.specs.Attributes.{Attribute, attribute_of}
use Rattle.cell_attributes.specs.declared.vocabulary.Class.{Class}
use Rattle.cell_attributes.specs.declared.vocabulary.Class.TheVariants.{Input, Driven, Alias, Shared, Node, Variable}
use Rattle.cell_attributes.specs.declared.texts.Use.TheVariants as use_
use Rattle.cell_attributes.specs.declared.state_readings.StateReading.{StateReading}
use Rattle.cell_attributes.specs.Groups.{names_in}
use Rattle.cell_attributes.specs.States.{Arguments, StateName, arguments_of, is_table, states_with, node_named}
use Rattle.cell_attributes.specs.Vocabulary.{Vocabulary}
use Rattle.cell_attributes.specs.Texts.{control_use, class_at, is_unknown, is_coupled, malformed_at, coupled_at}
use Rattle.cell_attributes.specs.StateReadings.{word_use, input_words, has_unknown_word, has_coupled_word, is_uncoupled}
use Rattle.cell_attributes.specs.StateReadings.{table_judged, table_or, table_in, table_found, table_text, table_with, number_in, numbers_of, reading_of_table}
use Rattle.cell_attributes.specs.Limits.{no_support_in, wide_support_in}
use Rattle.cell_attributes.specs.Building.{node_groups, table_groups}
use Rattle.cell_attributes.proofs.Members.{stand_in, in_itself}
use Rattle.cell_attributes.proofs.Numbering.{NumberIs}
use Rattle.cell_attributes.proofs.TextNames.{is_allowed, allowed_use}
use Rattle.cell_attributes.proofs.GroupRules.{IsSoundReading, some_support, narrow_support, is_no_other_pin, inputs_in_support}
use Rattle.cell_attributes.proofs.GroupRules.{support_passes, is_support_from}
use Rattle.cell_attributes.proofs.TextGroups.{not_placed, lacks_none}

-- Tables.

row_widths : (inputs nodes : ℕ) (rows : List TableRow) → All (HasWidths inputs nodes) rows
    → IsTrue (list_all (has_widths inputs nodes) rows)
row_widths inputs nodes [] h = refl
row_widths inputs nodes (row ∷ rows) h =
    let first : HasWidths inputs nodes row = All-head (HasWidths inputs nodes) row rows h in
    and_from (has_widths inputs nodes row) (list_all (has_widths inputs nodes) rows)
    (and_from (nat_eq (length row.inputs) inputs) _ (eq-eqb (length row.inputs) inputs first.of_inputs)
    (and_from (nat_eq (length row.current) nodes) (nat_eq (length row.next) nodes)
    (eq-eqb (length row.current) nodes first.of_current)
    (eq-eqb (length row.next) nodes first.of_next)))
    (row_widths inputs nodes rows (All-tail (HasWidths inputs nodes) row rows h))

-- what holds of the table of a text
record TableIs (inputs nodes : ℕ) (table : StateTable) : Type 0 where
  pub with_inputs : table.inputs ≡ inputs
  pub with_nodes : table.nodes ≡ nodes
  pub keeps : IsTrue (keeps_table_rules table)

table_is :
    (text : List ℕ) (inputs nodes at : ℕ) (answer : Result StateTable TableFault) → table_of text inputs nodes ≡ answer
    → malformed_at (table_judged at answer) ≡ [] → coupled_at (table_judged at answer) ≡ []
    → TableIs inputs nodes (table_or inputs nodes answer)
table_is text inputs nodes at (Err e) h k l = absurd cc
table_is text inputs nodes at (Ok table) h k l =
    let law = tables_read text inputs nodes table h in
    let apart : IsTrue (is_uncoupled table) =
    elim (cases_Bool (is_uncoupled table)) [
      | inl e ↦ e
      | inr e ↦ absurd (let q : at ∷ [] ≡ [] = rw e at l in cc)
    ] in
    record {
      with_inputs = law.0;
      with_nodes = law.1;
      keeps = and_from (list_all (has_widths table.inputs table.nodes) table.rows) (is_uncoupled table)
          (row_widths table.inputs table.nodes table.rows law.2) apart;
    }

table_in_is :
    (inputs nodes : ℕ) (attribute : Option Attribute) → is_none attribute ≡ false
    → malformed_at (table_text inputs nodes attribute) ≡ []
    → coupled_at (table_text inputs nodes attribute) ≡ [] → TableIs inputs nodes (table_in inputs nodes attribute)
table_in_is inputs nodes None h k l = absurd cc
table_in_is inputs nodes (Some attribute) h k l =
    table_is attribute.text inputs nodes attribute.at (table_of attribute.text inputs nodes) refl k l

-- The nodes of a table, from one on.
nodes_hold :
    (pins : List Pin) (n : ℕ) (table : StateTable) (r : StateReading) (node : ℕ) (names : List (List ℕ))
    → IsTrue (is_support pins r.support) → IsTrue (stand_in r.support r.inputs) → IsTrue (stand_in r.inputs r.support)
    → length r.inputs ≡ table.inputs → IsTrue (keeps_table_rules table) → node + length names ≡ table.nodes
    → IsTrue (are_groups_from pins n (node_groups table r node names))
nodes_hold pins n table r node [] s a b c k e = refl
nodes_hold pins n table r node (name ∷ names) s a b c k e =
    let within : node < table.nodes = omega arith in
    let next : node + 1 + length names ≡ table.nodes = omega arith in
    let group : StateGroup = record { kind = kind.Table table node r.inputs; support = r.support } in
    let named : IsTrue (stand_in (r.inputs ++ []) r.support) =
    subst (λ xs. IsTrue (stand_in xs r.support)) (sym (append-nil r.inputs)) b in
    and_from (is_group pins n group) (are_groups_from pins (n + 2) (node_groups table r (node + 1) names))
    (and_from (is_support pins r.support) _ s
    (and_from (names_support n group) (is_kind group.kind)
    (and_from (stand_in r.support r.inputs) _ a (and_from true (stand_in (r.inputs ++ []) r.support) refl named))
    (and_from (nat_lt node table.nodes) _ (lt-ltb node table.nodes within)
    (and_from (nat_eq (length r.inputs) table.inputs) (keeps_table_rules table) (eq-eqb (length r.inputs) table.inputs c) k))))
    (nodes_hold pins (n + 2) table r (node + 1) names s a b c k next)

-- Inputs of a table.

input_number : (pins : List Pin) (states : List StateName) (names : List (List ℕ)) (i n : ℕ) (c : Class)
    → is_allowed (control_use c) ≡ true → NumberIs states pins names i n c → IsTrue (is_input_pin pins i)
input_number pins states names i n Input h k = k.1
input_number pins states names i n Driven h k = absurd cc
input_number pins states names i n Alias h k = absurd cc
input_number pins states names i n Shared h k = absurd cc
input_number pins states names i n Node h k = absurd cc
input_number pins states names i n Variable h k = absurd cc

module _
    (states : List StateName) (pins : List Pin) (v : Vocabulary) (to : List ℕ)
    (numbers : (i : ℕ) → NumberIs states pins v.names i (slice_index to i) (class_at v.classes i)) where
  -- the inputs that words name are as many, and input pins
  inputs_of_words :
      (words : List (List ℕ)) → has_unknown_word v words ≡ false → has_coupled_word v words ≡ false
      → (length (numbers_of v words) ≡ length words) × IsTrue (list_all (is_input_pin pins) (numbers_of v words))
  unfolding word_use number_in
  inputs_of_words [] h k = (refl, refl)
  inputs_of_words (word ∷ words) h k =
      let a = or_parts (is_unknown (word_use v word)) (has_unknown_word v words) h in
      let b = or_parts (is_coupled (word_use v word)) (has_coupled_word v words) k in
      let later = inputs_of_words words a.1 b.1 in
      by (number_of v.names word) refl (allowed_use (word_use v word) a.0 b.0) later.0 later.1
    where
      by :
          (o : Option ℕ) → number_of v.names word ≡ o
          → is_allowed (option_map_or (λ i. control_use (class_at v.classes i)) (number_of v.names word) use_.Unknown) ≡ true
          → length (numbers_of v words) ≡ length words → IsTrue (list_all (is_input_pin pins) (numbers_of v words))
          → (length (numbers_of v (word ∷ words)) ≡ suc (length words))
          × IsTrue (list_all (is_input_pin pins) (numbers_of v (word ∷ words)))
      by None e u l p = absurd (let q : false ≡ true = rw e at u in cc)
      by (Some i) e u l p =
          let q : is_allowed (control_use (class_at v.classes i)) ≡ true = rw e at u in
          let input : IsTrue (is_input_pin pins i) =
          input_number pins states v.names i (slice_index to i) (class_at v.classes i) q (numbers i) in
          let whole : numbers_of v (word ∷ words) ≡ i ∷ numbers_of v words = rw e refl in (
            ap length whole ∙ ap suc l,
            subst (λ xs. IsTrue (list_all (is_input_pin pins) xs)) (sym whole)
                (and_from (is_input_pin pins i) (list_all (is_input_pin pins) (numbers_of v words)) input p),
          )

more_than_none : (n : ℕ) → suc n == 0 ≡ false
more_than_none n = ne_eqb (suc n) 0 (λ h. absurd (omega arith))

some_nodes : (names : List (List ℕ)) → length names == 0 ≡ false → not (length (map node_named names) == 0) ≡ true
some_nodes [] h = absurd cc
some_nodes (name ∷ names) h = ap not (more_than_none (length (map node_named names)))

no_nodes : (pins : List Pin) (n : ℕ) (table : StateTable) (r : StateReading) (names : List (List ℕ)) → length names == 0 ≡ true
    → IsTrue (are_groups_from pins n (node_groups table r 0 names))
no_nodes pins n table r [] h = refl
no_nodes pins n table r (name ∷ names) h = absurd (let k : true ≡ false = sym h ∙ more_than_none (length names) in cc)

module _
    (states : List StateName) (pins : List Pin) (v : Vocabulary) (to : List ℕ)
    (numbers : (i : ℕ) → NumberIs states pins v.names i (slice_index to i) (class_at v.classes i))
    (group : Group) (a : Arguments) (n : ℕ)
    (e : arguments_of group ≡ Some a) (t : is_table group ≡ true)
    (sound : IsSoundReading (reading_of_table v (length pins) group)) where
  some_table : is_none (attribute_of group (codes "table")) ≡ false
  some_table = rw t at (lacks_none group sound.whole)

  inputs : (length (numbers_of v (names_in a.first)) ≡ length (names_in a.first))
      × IsTrue (list_all (is_input_pin pins) (numbers_of v (names_in a.first)))
  inputs =
      inputs_of_words states pins v to numbers (names_in a.first)
      (subst (λ (o : Option Arguments). has_unknown_word v (input_words o) ≡ false) e
      (not_placed (has_unknown_word v (input_words (arguments_of group))) group.at sound.inputs_known))
      (subst (λ (o : Option Arguments). has_coupled_word v (input_words o) ≡ false) e
      (not_placed (has_coupled_word v (input_words (arguments_of group))) group.at sound.inputs_apart))

  same_inputs : (reading_of_table v (length pins) group).inputs ≡ numbers_of v (names_in a.first)
  same_inputs = ap (λ (o : Option Arguments). numbers_of v (input_words o)) e

  are_inputs : IsTrue (list_all (is_input_pin pins) (reading_of_table v (length pins) group).inputs)
  are_inputs = subst (λ xs. IsTrue (list_all (is_input_pin pins) xs)) (sym same_inputs) inputs.1

  holds : length (names_in a.second) == 0 ≡ false → (reading_of_table v (length pins) group).holds ≡ true
  holds some =
      ap (λ b. not (length (states_with b (arguments_of group)) == 0)) t
      ∙ ap (λ o. not (length (states_with true o) == 0)) e
      ∙ some_nodes (names_in a.second) some

  same_table : (reading_of_table v (length pins) group).table
      ≡ table_in (length (names_in a.first)) (length (names_in a.second)) (attribute_of group (codes "table"))
  same_table = ap (λ (o : Option Arguments). table_found o (attribute_of group (codes "table"))) e

  pub table_groups_hold :
      no_support_in (reading_of_table v (length pins) group) ≡ [] → wide_support_in (reading_of_table v (length pins) group) ≡ []
      → IsTrue (are_groups_from pins n (table_groups (reading_of_table v (length pins) group) a))
  table_groups_hold some few =
      let inputs_count : ℕ = length (names_in a.first) in
      let nodes_count : ℕ = length (names_in a.second) in
      let attribute : Option Attribute = attribute_of group (codes "table") in
      elim (cases_Bool (length (names_in a.second) == 0)) [
        | inl empty ↦ no_nodes pins n (reading_of_table v (length pins) group).table (reading_of_table v (length pins) group)
            (names_in a.second) empty
        | inr full ↦
            let held = holds full in
            let well : malformed_at (table_text inputs_count nodes_count attribute) ≡ [] =
            subst (λ (o : Option Arguments). malformed_at (table_with o attribute) ≡ []) e sound.of_data.well_formed in
            let apart : coupled_at (table_text inputs_count nodes_count attribute) ≡ [] =
            subst (λ (o : Option Arguments). coupled_at (table_with o attribute) ≡ []) e sound.of_data.apart in
            let table : TableIs inputs_count nodes_count (reading_of_table v (length pins) group).table =
            subst (λ t. TableIs inputs_count nodes_count t) (sym same_table)
            (table_in_is inputs_count nodes_count attribute some_table well apart) in
            let all_inputs : List ℕ = (reading_of_table v (length pins) group).inputs in
            nodes_hold pins n (reading_of_table v (length pins) group).table (reading_of_table v (length pins) group) 0
            (names_in a.second)
            (is_support_from pins all_inputs (some_support (reading_of_table v (length pins) group) held some)
            (narrow_support (reading_of_table v (length pins) group) held few)
            (no_others all_inputs are_inputs))
            (inputs_in_support pins all_inputs all_inputs (in_itself all_inputs) are_inputs)
            (support_passes pins (has all_inputs) all_inputs (held_or_past all_inputs))
            (ap length same_inputs ∙ inputs.0 ∙ sym table.with_inputs)
            table.keeps
            (let zero_more : 0 + nodes_count ≡ nodes_count = omega arith in zero_more ∙ sym table.with_nodes)
      ]
    where
      in_both : (p : ℕ → Bool) (xs : List ℕ) → IsTrue (list_all p xs) → IsTrue (list_all (λ i. p i || nat_le (length pins) i) xs)
      in_both p [] h = refl
      in_both p (x ∷ xs) h =
          let parts = and_parts (p x) (list_all p xs) h in
          and_from (p x || nat_le (length pins) x) _ (or_left (p x) (nat_le (length pins) x) parts.0) (in_both p xs parts.1)

      no_others : (xs : List ℕ) → IsTrue (list_all (is_input_pin pins) xs) → IsTrue (list_all (is_no_other_pin pins) xs)
      no_others xs h = in_both (is_input_pin pins) xs h

      held_or_past : (xs : List ℕ) → IsTrue (list_all (λ i. has xs i || nat_le (length pins) i) xs)
      held_or_past xs = in_both (has xs) xs (in_itself xs)
