-- The look-ups of conditions in a written entity: their tokens and their reading.
use Rattle.std.proofs.Common.{◌≡◌, ℕ, ◌+◌, ◌<◌, ◌≤◌, Bool, true, false, nat_eq, nat_lt, min, if◌then◌else◌, IsTrue, List, [], ◌∷◌}
use Rattle.std.proofs.Common.{◌++◌, length, map, take, Option, Some, None, slice_get, refl, sym, ap, ◌∙◌, arith, subst, codes}
use Rattle.std.proofs.Common.{decimal}
use Rattle.std.specs.List.{AllByRecursion, IsDistinct, list_all, list_any}
use Rattle.std.specs.Option.{option_map, option_map_or}
use Rattle.std.proofs.lemmas.Bool.{and_parts, eq-eqb as equal}
use Rattle.std.proofs.lemmas.Bool.Decides.{nat_tests}
use Rattle.std.proofs.lemmas.List.{length-map, length-take-le}
use Rattle.std.proofs.lemmas.List.Elements.{recursion_from_All}
use Rattle.std.proofs.lemmas.Option.{slice_get-map, slice_get_past}
use Rattle.grammar_rules.specs.Rule.{Fits}
use Rattle.vital_models.specs.declared.table.TruthRow.{TruthRow}
use Rattle.vital_models.specs.declared.table.TruthTable.{TruthTable}
use Rattle.vital_models.specs.declared.model.VTruth.{VTruth}
use Rattle.vital_models.specs.declared.model.VEntity.{VEntity}
use Rattle.vital_models.specs.Sound.{IsTruth}
use Rattle.udp_tables.specs.Ports.{is_input_port}
use Rattle.grammar_reader.specs.declared.refusal.Refusal.TheVariants.{Width}
use Rattle.vhdl_tokens.specs.Tokens.{is_name}
use Rattle.vhdl_grammar.specs.declared.scope.Scope.{Scope}
use Rattle.vhdl_grammar.specs.VhdlTables.{truth_width}
use Rattle.vhdl_grammar.specs.VhdlNames.{kept, input_of, listed_by, input_by, listed_input, Uses, condition_of, condition_width}
use Rattle.vhdl_grammar.specs.VhdlNames.{first_list, stands_at, same_input, same_list, list_by, condition}
use Rattle.vhdl_grammar.specs.WellFormed.{IsWrittenTruth, IsWellFormedEntity, looks_up_in_order}
use Rattle.vhdl_writer.specs.Joined.{apart_text}
use Rattle.vhdl_writer.specs.Names.{port_at, inputs_at, input_text, inputs_text, condition_text}
use Rattle.grammar_reader.proofs.Fronts.{Front, Anything}
use Rattle.grammar_reader.proofs.Derivations.{Reads, from_same, to_same, gives, token, in_turn, goes_on}
use Rattle.grammar_reader.proofs.ItemPlaces.{at_place, all_at, get_at, one_longer, known_item}
use Rattle.grammar_reader.proofs.Spelling.{literal, behind}
use Rattle.written_entities.proofs.Names.{part_named, unnumbered}
use Rattle.written_entities.proofs.Spelling.{Spells}
use Rattle.written_entities.proofs.NameReading.{expected, three_expected, four_expected, expected_where, known_as, place_found}
use Rattle.written_entities.proofs.Elements.{names_front, names_spelled, closed, elements_read}
use Rattle.written_entities.proofs.Parts.{part_behind, condition_number}
use Rattle.written_entities.proofs.PortLookUps.{input_named, input_found, kept_one}
use Rattle.written_entities.proofs.VariableReading.{all_tables, variables_of}
use Rattle.written_entities.proofs.LookUpOrder.{seen_with, next_look_up, no_more, at_front, take_next}
use Rattle.written_entities.proofs.Tests.{if_true, equal_self, numbers_turned}

-- the declarations of a written entity
abbrev pub scope : VEntity → Scope
scope e = record { name = e.name; ports = e.ports; tables = all_tables e; variables = variables_of e }

-- the lists of the conditions below a number
abbrev pub inputs_of_truth : VTruth → List ℕ
inputs_of_truth truth = truth.inputs

abbrev pub uses_of : VEntity → ℕ → Uses
uses_of e seen = take seen (map inputs_of_truth e.conditions)

-- the look-ups from a place on are in order
abbrev pub Looks : VEntity → ℕ → List ℕ → Type 0
Looks e seen is = looks_up_in_order (length e.conditions) seen is ≡ true

-- Tokens.

abbrev pub condition_front : VEntity → ℕ → Front
condition_front e i s =
    codes "(" ∷ codes "TruthTable" ∷ codes "=>" ∷ (99 ∷ 95 ∷ decimal (i + 1)) ∷ codes "," ∷ codes "DataIn" ∷ codes "=>" ∷ codes
    "("
    ∷ names_front (port_at e) (inputs_at e i) (codes ")" ∷ codes ")" ∷ s)

pub lookup_word : {t : Bool} → Spells Anything t
    (codes "VitalTruthTable (TruthTable => ")
    (λ s. codes "VitalTruthTable" ∷ codes "(" ∷ codes "TruthTable" ∷ codes "=>" ∷ s) false
lookup_word = literal (λ r. refl) refl

pub data_word : {t : Bool} → Spells Anything t (codes ", DataIn => ") (λ s. codes "," ∷ codes "DataIn" ∷ codes "=>" ∷ s) false
data_word = literal (λ r. refl) refl

-- Lists of inputs.

pub passes_at : {A : Type 0} (test : A → Bool) (before : List A) (x : A) (after : List A)
    → list_all test (before ++ x ∷ after) ≡ true → test x ≡ true
passes_at test [] x after h = (and_parts (test x) (list_all test after) h).0
passes_at test (y ∷ before) x after h =
    passes_at test before x after (and_parts (test y) (list_all test (before ++ x ∷ after)) h).1

-- the input at a place of a list
pub input_at : (e : VEntity) (inputs : List ℕ) → IsTrue (list_all (is_input_port e.ports) inputs)
    → (before : List ℕ) (p : ℕ) (after : List ℕ) → before ++ p ∷ after ≡ inputs → IsTrue (is_input_port e.ports p)
input_at e inputs h before p after same =
    passes_at (is_input_port e.ports) before p after
    (subst (λ (l : List ℕ). list_all (is_input_port e.ports) l ≡ true) (sym same) h)

input_text_is : (e : VEntity) (n p : ℕ) → input_text e n p ≡ apart_text (codes ", ") n ++ port_at e p
unfolding input_text
input_text_is e n p = refl

pub inputs_spelled : (e : VEntity) → IsWellFormedEntity e → (inputs : List ℕ) → 1 ≤ length inputs
    → IsTrue (list_all (is_input_port e.ports) inputs)
    → Spells Anything false (inputs_text e inputs) (λ s. codes "(" ∷ names_front (port_at e) inputs (codes ")" ∷ s)) false
unfolding inputs_text
inputs_spelled e w inputs some fed =
    names_spelled (input_text e) (port_at e) inputs (input_text_is e) some
    (λ before p after same. input_named e w p (input_at e inputs fed before p after same))

-- an item of a list in which none stands twice is none of those before it
pub new_item : {A : Type 0} (E : A → A → Bool) → ((x y : A) → E x y ≡ E y x) → (before : List A) (x : A) (after : List A)
    → IsDistinct E (before ++ x ∷ after) → list_any (E x) before ≡ false
unfolding IsDistinct
new_item E turned [] x after h = refl
new_item E turned (y ∷ before) x after h =
    let other : E x y ≡ false = turned x y ∙ at_place (λ z. E y z ≡ false) before x after h.0 in
    rw other (new_item E turned before x after h.1)

pub new_input : (inputs : List ℕ) → IsDistinct nat_eq inputs → (before : List ℕ) (p : ℕ) (after : List ℕ)
    → before ++ p ∷ after ≡ inputs → list_any (nat_eq p) before ≡ false
new_input inputs apart before p after same =
    new_item nat_eq numbers_turned before p after (subst (IsDistinct nat_eq) (sym same) apart)

pub listed_fits : {A : Type 0} (is_listed : A → Bool) (o : Option A) (a : A) → o ≡ Some a → is_listed a ≡ false
    → listed_by is_listed o ≡ Fits a
listed_fits is_listed o a e f = rw (e, f) refl

pub input_fits : (e : VEntity) → IsWellFormedEntity e → (before : List ℕ) (p : ℕ) → IsTrue (is_input_port e.ports p)
    → list_any (nat_eq p) before ≡ false → input_by e.ports before (port_at e p) ≡ Fits p
input_fits e w before p fed new =
    listed_fits (λ q. list_any (nat_eq q) before) (input_of e.ports (port_at e p)) p (input_found e w p fed) new

listed_read : (e : VEntity) → IsWellFormedEntity e → (before : List ℕ) (p : ℕ) {s : List (List ℕ)}
    → IsTrue (is_input_port e.ports p) → list_any (nat_eq p) before ≡ false
    → Reads (listed_input e.ports before) (port_at e p ∷ s) (before ++ p ∷ []) s
unfolding listed_input
listed_read e w before p fed new =
    in_turn (token (if_true (is_name (port_at e p)) _ _ (input_named e w p fed).named ∙ input_fits e w before p fed new)) gives

pub list_end_read : (width n : ℕ) {s : List (List ℕ)} → n ≡ width
    → Reads (Rattle.vhdl_grammar.specs.VhdlNames.list_end width n) (codes ")" ∷ s) tt s
list_end_read width n e = expected_where (nat_eq n width) Width (equal n width e)

-- A list that is read for the first time.

wide : (columns : ℕ) (rows : List TruthRow) → 1 ≤ length rows
    → AllByRecursion (λ (row : TruthRow). length row.inputs ≡ columns) rows → truth_width rows ≡ columns
wide columns [] some all = absurd (omega (arith, some))
wide columns (row ∷ rows) some all = all.0

pub truth_wide : (columns : ℕ) (table : TruthTable) → 1 ≤ length table.rows
    → Rattle.vital_models.specs.Sound.IsTruthTable columns table → truth_width table.rows ≡ columns
truth_wide columns table some all =
    wide columns table.rows some (recursion_from_All (λ (row : TruthRow). length row.inputs ≡ columns) table.rows all)

-- A condition that is there: its table and inputs.
record IsThere (e : VEntity) (i : ℕ) (truth : VTruth) : Type 0 where
  place : slice_get e.conditions i ≡ Some truth
  inputs : inputs_at e i ≡ truth.inputs
  sound : IsTruth e truth
  written : IsWrittenTruth truth

inputs_are : (e : VEntity) (i : ℕ) (truth : VTruth) → slice_get e.conditions i ≡ Some truth → inputs_at e i ≡ truth.inputs
inputs_are e i truth h = rw h refl

there : (e : VEntity) → IsWellFormedEntity e → (i : ℕ) → i < length e.conditions → (truth : VTruth) × IsThere e i truth
there e w i h =
    let at = known_item e.conditions i h in (
      at.0,
      record {
        place = at.1;
        inputs = inputs_are e i at.0 at.1;
        sound = all_at (IsTruth e) e.conditions i at.0 (recursion_from_All (IsTruth e) e.conditions w.sound.conditions) at.1;
        written = all_at IsWrittenTruth e.conditions i at.0 (recursion_from_All IsWrittenTruth e.conditions w.conditions) at.1;
      },
    )

width_is : (e : VEntity) → IsWellFormedEntity e → (i : ℕ) (truth : VTruth) → IsThere e i truth
    → condition_width (scope e) i ≡ length truth.inputs
width_is e w i truth h =
    let here : slice_get (all_tables e).conditions i ≡ Some truth.table =
    slice_get-map (λ (t : VTruth). t.table) e.conditions i ∙ ap (option_map (λ (t : VTruth). t.table)) h.place in
    ap (λ (o : Option TruthTable). option_map_or (λ (table : TruthTable). truth_width table.rows) o 0) here
    ∙ truth_wide (length truth.inputs) truth.table h.written.rows h.sound.rows

first_read : (e : VEntity) → IsWellFormedEntity e → (i : ℕ) (truth : VTruth) (s : List (List ℕ)) → IsThere e i truth
    → Reads (first_list (scope e) i) (names_front (port_at e) truth.inputs (codes ")" ∷ s)) truth.inputs s
unfolding first_list
first_read e w i truth s h =
    in_turn (elements_read (λ (l : List ℕ). l) (listed_input e.ports) (port_at e) truth.inputs h.written.columns
    (λ before p after same. unnumbered (port_at e p)
    (input_named e w p (input_at e truth.inputs h.sound.fed before p after same)))
    (λ before p after q same. listed_read e w before p (input_at e truth.inputs h.sound.fed before p after same)
    (new_input truth.inputs h.written.apart before p after same)) s)
    (in_turn (list_end_read (condition_width (scope e) i) (length truth.inputs) (sym (width_is e w i truth h))) gives)

stands : (inputs before : List ℕ) (p : ℕ) (after : List ℕ) → before ++ p ∷ after ≡ inputs
    → stands_at inputs (length before) p ≡ true
stands inputs before p after same =
    let here : slice_get inputs (length before) ≡ Some p = ap (λ (l : List ℕ). slice_get l (length before)) (sym same)
    ∙ get_at before p after in
    ap (λ (o : Option ℕ). option_map_or (nat_eq p) o false) here ∙ equal_self p

same_read : (e : VEntity) → IsWellFormedEntity e → (inputs : List ℕ) → IsTrue (list_all (is_input_port e.ports) inputs)
    → (before : List ℕ) (p : ℕ) (after : List ℕ) (q : List (List ℕ)) → before ++ p ∷ after ≡ inputs
    → Reads (same_input e.ports inputs (length before)) (port_at e p ∷ q) (length (before ++ p ∷ [])) q
unfolding same_input
same_read e w inputs fed before p after q same =
    let input = input_at e inputs fed before p after same in
    to_same (one_longer before p)
    (in_turn (known_as (λ x. kept (stands_at inputs (length before)) (input_of e.ports x)) (input_named e w p input)
    (ap (kept (stands_at inputs (length before))) (input_found e w p input)
    ∙ kept_one (stands_at inputs (length before)) p (stands inputs before p after same))) gives)

again_read : (e : VEntity) → IsWellFormedEntity e → (inputs : List ℕ) (s : List (List ℕ)) → 1 ≤ length inputs
    → IsTrue (list_all (is_input_port e.ports) inputs)
    → Reads (same_list (scope e) inputs) (names_front (port_at e) inputs (codes ")" ∷ s)) tt s
unfolding same_list
again_read e w inputs s some fed =
    in_turn (elements_read (λ (l : List ℕ). length l) (same_input e.ports inputs) (port_at e) inputs some
    (λ before p after same. unnumbered (port_at e p) (input_named e w p (input_at e inputs fed before p after same)))
    (same_read e w inputs fed) s)
    (in_turn (goes_on (nat_eq (length inputs) (length inputs)) (codes ")" ∷ s) (equal_self (length inputs))) expected)

-- Look-ups.

pub so_many : (e : VEntity) (seen : ℕ) → seen ≤ length e.conditions → length (uses_of e seen) ≡ seen
so_many e seen h = length-take-le seen (map inputs_of_truth e.conditions)
    (omega (arith, h, length-map e.conditions inputs_of_truth))

its_inputs : (e : VEntity) (i : ℕ) (truth : VTruth) → slice_get e.conditions i ≡ Some truth
    → slice_get (map inputs_of_truth e.conditions) i ≡ Some truth.inputs
its_inputs e i truth h = slice_get-map inputs_of_truth e.conditions i ∙ ap (option_map inputs_of_truth) h

list_read : (e : VEntity) → IsWellFormedEntity e → (seen i : ℕ) (truth : VTruth) (s : List (List ℕ)) → IsThere e i truth
    → i ≤ seen → seen ≤ length e.conditions
    → Reads (list_by (scope e) (uses_of e seen) i (slice_get (uses_of e seen) i))
    (names_front (port_at e) truth.inputs (codes ")" ∷ s)) (uses_of e (seen_with seen i)) s
unfolding list_by
list_read e w seen i truth s h among few = by (nat_lt i seen) refl
  where
    again : i < seen → slice_get (uses_of e seen) i ≡ Some truth.inputs
    again l = at_front seen i (map inputs_of_truth e.conditions) l ∙ its_inputs e i truth h.place

    new : i ≡ seen → slice_get (uses_of e seen) i ≡ None
    new l = slice_get_past (uses_of e seen) i (omega (arith, l, so_many e seen few))

    by : (b : Bool) → nat_lt i seen ≡ b
        → Reads (list_by (scope e) (uses_of e seen) i (slice_get (uses_of e seen) i))
        (names_front (port_at e) truth.inputs (codes ")" ∷ s)) (uses_of e (if b then seen else seen + 1)) s
    by true b =
        let less : i < seen = grind (arith, nat_tests, b) in
        subst (λ (o : Option (List ℕ)). Reads (list_by (scope e) (uses_of e seen) i o)
        (names_front (port_at e) truth.inputs (codes ")" ∷ s)) (uses_of e seen) s) (sym (again less))
        (in_turn (again_read e w truth.inputs s h.written.columns h.sound.fed) gives)
    by false b =
        let same : i ≡ seen = grind (arith, nat_tests, b, among) in
        let place : slice_get (map inputs_of_truth e.conditions) seen ≡ Some truth.inputs =
        subst (λ (n : ℕ). slice_get (map inputs_of_truth e.conditions) n ≡ Some truth.inputs) same (its_inputs e i truth h.place)
        in
        subst (λ (o : Option (List ℕ)). Reads (list_by (scope e) (uses_of e seen) i o)
        (names_front (port_at e) truth.inputs (codes ")" ∷ s)) (uses_of e (seen + 1)) s) (sym (new same))
        (in_turn (first_read e w i truth s h)
        (to_same (take_next (map inputs_of_truth e.conditions) seen truth.inputs place) gives))

is_there : (all seen i : ℕ) (is : List ℕ) → looks_up_in_order all seen (i ∷ is) ≡ true → i < all
is_there all seen i is h =
    let next = next_look_up all seen i is h in
    by (nat_lt i seen) refl next.among (no_more all (seen_with seen i) is next.later)
  where
    by : (b : Bool) → nat_lt i seen ≡ b → i ≤ seen → (if b then seen else seen + 1) ≤ all → i < all
    by true e l m = let less : i < seen = grind (arith, nat_tests, e) in omega (arith, less, m)
    by false e l m = omega (arith, l, m)

-- a look-up is read
pub condition_read : (e : VEntity) → IsWellFormedEntity e → (seen i : ℕ) (is : List ℕ) {s : List (List ℕ)} → Looks e seen (i ∷ is)
    → Reads (condition (scope e) (uses_of e seen)) (condition_front e i s) (i, uses_of e (seen_with seen i)) s
unfolding condition
condition_read e w seen i is {s} h =
    let next = next_look_up (length e.conditions) seen i is h in
    let few : seen ≤ length e.conditions = no_more (length e.conditions) seen (i ∷ is) h in
    let below : i < length e.conditions = is_there (length e.conditions) seen i is h in
    let truth = there e w i below in
    let number = condition_number e w (i + 1) (omega (arith, below)) in
    let most : ℕ = min (length (uses_of e seen) + 1) (length (all_tables e).conditions) in
    let tables : length (all_tables e).conditions ≡ length e.conditions = length-map e.conditions (λ (t : VTruth). t.table) in
    let found : condition_of (scope e) (uses_of e seen) (99 ∷ 95 ∷ decimal (i + 1)) ≡ Some i =
    place_found 99 most i refl (omega (arith, next.among, below, so_many e seen few, tables))
    (condition_number e w most (omega (arith, tables))) in
    in_turn three_expected (in_turn (known_as (condition_of (scope e) (uses_of e seen)) (part_named 99 (i + 1) refl number) found)
    (in_turn four_expected (in_turn (from_same (ap (λ (l : List ℕ). names_front (port_at e) l (codes ")" ∷ codes ")" ∷ s))
    truth.1.inputs) (list_read e w seen i truth.0 (codes ")" ∷ s) truth.1 next.among few))
    (in_turn expected gives))))

-- a look-up is spelled
pub condition_spelled : (e : VEntity) → IsWellFormedEntity e → (i : ℕ) → i < length e.conditions
    → Spells Anything false (condition_text e i) (λ s. codes "VitalTruthTable" ∷ condition_front e i s) false
unfolding condition_text
condition_spelled e w i below =
    let truth = there e w i below in
    let some : 1 ≤ length (inputs_at e i) = subst (λ (l : List ℕ). 1 ≤ length l) (sym truth.1.inputs) truth.1.written.columns in
    let fed : IsTrue (list_all (is_input_port e.ports) (inputs_at e i)) =
    subst (λ (l : List ℕ). IsTrue (list_all (is_input_port e.ports) l)) (sym truth.1.inputs) truth.1.sound.fed in
    part_behind 99 (i + 1) refl (condition_number e w (i + 1) (omega (arith, below))) lookup_word (λ r q. refl)
    (behind data_word (behind (inputs_spelled e w (inputs_at e i) some fed) closed))

pub looks_below : (e : VEntity) (seen i : ℕ) (is : List ℕ) → Looks e seen (i ∷ is) → i < length e.conditions
looks_below e seen i is h = is_there (length e.conditions) seen i is h
