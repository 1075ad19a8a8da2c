-- The numbers of the names of a text that reads are below the number of names.
use Rattle.std.proofs.Common.{◌≡◌, ℕ, ◌<◌, ◌≤◌, Bool, true, false, ◌&&◌, ◌==◌, List, [], ◌∷◌, length, map, refl, sym, subst}
use Rattle.std.proofs.Common.{arith, IsTrue, Option, Some, None, nat_lt, inl, inr, eqb-true, Result, Ok, Err}
use Rattle.std.specs.Prelude.{codes}
use Rattle.std.specs.List.{list_all, list_any, AllByRecursion}
use Rattle.std.proofs.lemmas.Bool.{cases_Bool, and_parts, and_from, ltb-true}
use Rattle.std.proofs.lemmas.Option.{slice_get_past}
use Rattle.bool_functions.specs.declared.tree.Node.{Node as Tree}
use Rattle.bool_functions.specs.declared.faults.FunctionFault.{FunctionFault}
use Rattle.bool_functions.specs.declared.faults.FunctionFault.TheVariants as fault
use Rattle.bool_functions.specs.Tree.{names_of, bound_step}
use Rattle.bool_functions.specs.Support.{inserted, insert_all, support_of}
use Rattle.bool_functions.proofs.Trees.{fold-Name}
use Rattle.cell_machine.proofs.CellFacts.{name_bound-below}
use Rattle.cell_attributes.specs.declared.vocabulary.Class.{Class}
use Rattle.cell_attributes.specs.declared.vocabulary.Class.TheVariants.{Driven}
use Rattle.cell_attributes.specs.declared.texts.Scope.{Scope}
use Rattle.cell_attributes.specs.declared.texts.Scope.TheVariants as scope
use Rattle.liberty_groups.specs.declared.tree.Group.{Group}
use Rattle.bool_functions.specs.NameList.{number_of}
use Rattle.bool_functions.specs.FunctionText.{reading_of}
use Rattle.statetables.specs.declared.fault.TableFault.{TableFault}
use Rattle.statetables.specs.declared.table.StateTable.{StateTable}
use Rattle.statetables.specs.Reading.{table_of}
use Rattle.liberty_groups.specs.Attributes.{Attribute, attribute_of}
use Rattle.cell_attributes.specs.Groups.{names_in}
use Rattle.cell_attributes.specs.States.{Arguments, arguments_of, is_table}
use Rattle.cell_attributes.specs.Vocabulary.{Vocabulary}
use Rattle.cell_attributes.specs.declared.texts.Text.{Text}
use Rattle.cell_attributes.specs.Texts.{text_as, node_text, use_at, use_of, class_at, is_unknown, is_node_class, has_unknown}
use Rattle.cell_attributes.specs.Texts.{has_coupled, judged_tree, judged, node_at}
use Rattle.cell_machine.specs.declared.pins.Direction.{Direction}
use Rattle.cell_machine.specs.declared.pins.Direction.TheVariants as direction
use Rattle.cell_attributes.specs.Pins.{direction_of}
use Rattle.cell_attributes.specs.Outputs.{node_as, output_with, pin_text_as, pin_text}
use Rattle.cell_attributes.specs.StateReadings.{is_uncoupled, table_judged, table_text, table_with, own_scope, data_name}
use Rattle.cell_attributes.specs.StateReadings.{control_name, state_reading}
use Rattle.cell_attributes.specs.Building.{FitsText, FitsReading}

-- what all numbers pass that were put into a list, and all that were there, all pass
pub inserted_all :
    (p : ℕ → Bool) (i : ℕ) (js : List ℕ) → IsTrue (list_all p (inserted i js)) → IsTrue (p i) × IsTrue (list_all p js)
inserted_all p i [] h = ((and_parts (p i) true h).0, refl)
inserted_all p i (j ∷ js) h =
    elim (cases_Bool (i == j)) [
      | inl e ↦
          let k : IsTrue (list_all p (j ∷ js)) = rw e at h in
          (subst (λ x. IsTrue (p x)) (sym (eqb-true i j e)) (and_parts (p j) (list_all p js) k).0, k)
      | inr e ↦
          elim (cases_Bool (nat_lt i j)) [
            | inl l ↦ let k : IsTrue (p i && list_all p (j ∷ js)) = rw (e, l) at h in and_parts (p i) (list_all p (j ∷ js)) k
            | inr l ↦
                let k : IsTrue (p j && list_all p (inserted i js)) = rw (e, l) at h in
                let parts = and_parts (p j) (list_all p (inserted i js)) k in
                let more = inserted_all p i js parts.1 in
                (more.0, and_from (p j) (list_all p js) parts.0 more.1)
          ]
    ]

pub insert_all_all :
    (p : ℕ → Bool) (is js : List ℕ) → IsTrue (list_all p (insert_all js is)) → IsTrue (list_all p js) × IsTrue (list_all p is)
insert_all_all p [] js h = (h, refl)
insert_all_all p (i ∷ is) js h =
    let later = insert_all_all p is (inserted i js) h in
    let parts = inserted_all p i js later.0 in
    (parts.1, and_from (p i) (list_all p is) parts.0 later.1)

-- what all names of a function's support pass, all written names pass
pub support_all : (p : ℕ → Bool) (f : Tree) → IsTrue (list_all p (support_of f)) → IsTrue (list_all p (names_of f))
support_all p f h = (insert_all_all p (names_of f) [] h).1

-- a number that no name has is a pin that nothing reads
past_is_driven : (classes : List Class) (i : ℕ) → length classes ≤ i → class_at classes i ≡ Driven
past_is_driven classes i h = rw (slice_get_past classes i h) refl

-- which no text may name
driven_is_unknown : (s : Scope) (i : ℕ) → is_unknown (use_of s i Driven) ≡ true
driven_is_unknown scope.Control i = refl
driven_is_unknown (scope.Data first second) i = refl
driven_is_unknown scope.Function i = refl
driven_is_unknown scope.StateFunction i = refl

known_is_below : (classes : List Class) (s : Scope) (i : ℕ) → is_unknown (use_at classes s i) ≡ false
    → IsTrue (nat_lt i (length classes))
known_is_below classes s i h =
    elim (cases_Bool (nat_lt i (length classes))) [
      | inl e ↦ e
      | inr e ↦
          let past : length classes ≤ i = grind arith in
          let unknown : is_unknown (use_at classes s i) ≡ true = rw (past_is_driven classes i past) (driven_is_unknown s i) in
          absurd cc
    ]

known_are_below :
    (classes : List Class) (s : Scope) (xs : List ℕ) → list_any (λ i. is_unknown (use_at classes s i)) xs ≡ false
    → IsTrue (list_all (λ i. nat_lt i (length classes)) xs)
known_are_below classes s [] h = refl
known_are_below classes s (x ∷ xs) h =
    elim (cases_Bool (is_unknown (use_at classes s x))) [
      | inl e ↦ absurd (let k : true ≡ false = rw e at h in cc)
      | inr e ↦
          let k : list_any (λ i. is_unknown (use_at classes s i)) xs ≡ false = rw e at h in
          and_from (nat_lt x (length classes)) (list_all (λ i. nat_lt i (length classes)) xs) (known_is_below classes s x e)
          (known_are_below classes s xs k)
    ]

judged_tree_fits : (classes : List Class) (s : Scope) (at : ℕ) (f : Tree) → FitsText (length classes) (judged_tree classes s at f)
judged_tree_fits classes s at f =
    elim (cases_Bool (has_unknown classes s f)) [
      | inl e ↦ rw e tt
      | inr e ↦
          elim (cases_Bool (has_coupled classes s f)) [
            | inl k ↦ rw (e, k) tt
            | inr k ↦
                rw (e, k)
                (name_bound-below (length classes) f
                (support_all (λ i. nat_lt i (length classes)) f (known_are_below classes s (support_of f) e)))
          ]
    ]

pub judged_fits :
    (classes : List Class) (s : Scope) (at : ℕ) (r : Result Tree FunctionFault)
    → FitsText (length classes) (judged classes s at r)
judged_fits classes s at (Ok f) = judged_tree_fits classes s at f
judged_fits classes s at (Err fault.TooLong) = tt
judged_fits classes s at (Err (fault.Malformed n)) = tt
judged_fits classes s at (Err (fault.UnknownName n)) = tt
judged_fits classes s at (Err fault.Memory) = tt

node_at_fits : (classes : List Class) (at : ℕ) (number : Option ℕ) → FitsText (length classes) (node_at classes at number)
node_at_fits classes at None = tt
node_at_fits classes at (Some i) =
    elim (cases_Bool (is_node_class (class_at classes i))) [
      | inl e ↦
          let below : i < length classes =
          elim (cases_Bool (nat_lt i (length classes))) [
            | inl l ↦ ltb-true i (length classes) l
            | inr l ↦
                let past : length classes ≤ i = grind arith in
                let k : false ≡ true = rw (past_is_driven classes i past) at e in
                absurd cc
          ] in
          rw e (rw (fold-Name ℕ bound_step i) (omega arith))
      | inr e ↦ rw e tt
    ]

pub text_as_fits : (v : Vocabulary) (s : Scope) (attribute : Option Attribute)
    → FitsText (length v.classes) (text_as v s attribute)
text_as_fits v s None = tt
text_as_fits v s (Some attribute) = judged_fits v.classes s attribute.at (reading_of v.names attribute.text)

pub node_text_fits : (v : Vocabulary) (attribute : Attribute) → FitsText (length v.classes) (node_text v attribute)
node_text_fits v attribute = node_at_fits v.classes attribute.at (number_of v.names attribute.text)

table_judged_fits : (n at : ℕ) (r : Result StateTable TableFault) → FitsText n (table_judged at r)
table_judged_fits n at (Ok table) =
    elim (cases_Bool (is_uncoupled table)) [ inl e ↦ rw e tt | inr e ↦ rw e tt ]
table_judged_fits n at (Err e) = tt

table_text_fits : (n inputs nodes : ℕ) (attribute : Option Attribute) → FitsText n (table_text inputs nodes attribute)
table_text_fits n inputs nodes None = tt
table_text_fits n inputs nodes (Some attribute) = table_judged_fits n attribute.at (table_of attribute.text inputs nodes)

table_with_fits : (n : ℕ) (arguments : Option Arguments) (attribute : Option Attribute)
    → FitsText n (table_with arguments attribute)
table_with_fits n None attribute = tt
table_with_fits n (Some arguments) attribute =
    table_text_fits n (length (names_in arguments.first)) (length (names_in arguments.second)) attribute

pub reading_fits : (v : Vocabulary) (pins : ℕ) (group : Group) → FitsReading (length v.classes) (state_reading v pins group)
reading_fits v pins group =
    elim (cases_Bool (is_table group)) [
      | inl e ↦
          rw e
          (record {
            data_fits = table_with_fits (length v.classes) (arguments_of group) (attribute_of group (codes "table"));
            control_fits = tt;
            clear_fits = tt;
            preset_fits = tt;
          })
      | inr e ↦
          rw e
          (record {
            data_fits = text_as_fits v (own_scope v (arguments_of group)) (attribute_of group (data_name group));
            control_fits = text_as_fits v scope.Control (attribute_of group (control_name group));
            clear_fits = text_as_fits v scope.Control (attribute_of group (codes "clear"));
            preset_fits = text_as_fits v scope.Control (attribute_of group (codes "preset"));
          })
    ]

pub readings_fit :
    (v : Vocabulary) (pins : ℕ) (groups : List Group)
    → AllByRecursion (FitsReading (length v.classes)) (map (state_reading v pins) groups)
readings_fit v pins [] = tt
readings_fit v pins (group ∷ groups) = (reading_fits v pins group, readings_fit v pins groups)

output_fits : (v : Vocabulary) (state node function : Option Attribute)
    → FitsText (length v.classes) (output_with v state node function)
output_fits v (Some state) internal function = text_as_fits v scope.StateFunction (Some state)
output_fits v None (Some internal) function = node_text_fits v internal
output_fits v None None function = text_as_fits v scope.Function function

node_as_fits : (v : Vocabulary) (attribute : Option Attribute) → FitsText (length v.classes) (node_as v attribute)
node_as_fits v None = tt
node_as_fits v (Some attribute) = node_text_fits v attribute

pin_text_as_fits : (v : Vocabulary) (group : Group) (d : Option Direction) → FitsText (length v.classes) (pin_text_as v group d)
pin_text_as_fits v group None = tt
pin_text_as_fits v group (Some direction.Input) = tt
pin_text_as_fits v group (Some direction.Output) =
    output_fits v (attribute_of group (codes "state_function")) (attribute_of group (codes "internal_node"))
    (attribute_of group (codes "function"))
pin_text_as_fits v group (Some direction.Internal) = node_as_fits v (attribute_of group (codes "internal_node"))

pub pin_text_fits : (v : Vocabulary) (group : Group) → FitsText (length v.classes) (pin_text v group)
pin_text_fits v group = pin_text_as_fits v group (direction_of group)

-- so it does where it is read, over as many numbers as there are names
pub read_text_fits : (n : ℕ) (v : Vocabulary) (group : Group) (t : Text) → n ≡ length v.classes → t ≡ pin_text v group
    → FitsText n t
read_text_fits n v group t count is =
    subst (λ m. FitsText m t) (sym count) (subst (λ u. FitsText (length v.classes) u) (sym is) (pin_text_fits v group))
