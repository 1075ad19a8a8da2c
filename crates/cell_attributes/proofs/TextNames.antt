-- What the names of a text that reads are, by what the text may name.
use Rattle.std.proofs.Common.{◌≡◌, ℕ, ◌+◌, Bool, true, false, ◌&&◌, ◌||◌, List, [], ◌∷◌, ◌++◌, length, map, refl, sym, ◌∙◌, ap}
use Rattle.std.proofs.Common.{subst, IsTrue, Option, Some, None, Result, Ok, Err, inl, inr, nat_eq, nat_le, slice_index, eqb-true}
use Rattle.std.specs.Prelude.{is_none, unwrap_or}
use Rattle.std.specs.List.{list_all, list_any}
use Rattle.std.proofs.lemmas.Bool.{cases_Bool, and_from, or_left, or_right, or_cases, or_parts, eq-eqb, le-leb}
use Rattle.std.proofs.lemmas.List.{map-append}
use Rattle.bool_functions.specs.declared.tree.Node.{Node as Tree}
use Rattle.bool_functions.specs.declared.faults.FunctionFault.{FunctionFault}
use Rattle.bool_functions.specs.declared.faults.FunctionFault.TheVariants as fault
use Rattle.bool_functions.specs.Tree.{names_of, renamed_step, renamed_by}
use Rattle.bool_functions.specs.Support.{support_of}
use Rattle.bool_functions.specs.NameList.{number_of}
use Rattle.bool_functions.specs.FunctionText.{reading_of}
use Rattle.bool_functions.proofs.Trees.{every_tree, names_Zero, names_One, names_Name, names_Not, names_Xor, names_And, names_Or}
use Rattle.bool_functions.proofs.Trees.{fold-Zero, fold-One, fold-Name, fold-Not, fold-Xor, fold-And, fold-Or}
use Rattle.cell_machine.specs.declared.pins.Pin.{Pin}
use Rattle.cell_machine.specs.Names.{names_of_optional}
use Rattle.cell_machine.specs.CellRules.{is_input_pin}
use Rattle.cell_machine.proofs.CellFacts.{list_all-implied}
use Rattle.liberty_groups.specs.Attributes.{Attribute}
use Rattle.cell_attributes.specs.declared.vocabulary.Class.{Class}
use Rattle.cell_attributes.specs.declared.vocabulary.Class.TheVariants.{Input, Driven, Alias, Shared, Node, Variable}
use Rattle.cell_attributes.specs.declared.texts.Use.{Use}
use Rattle.cell_attributes.specs.declared.texts.Use.TheVariants as use_
use Rattle.cell_attributes.specs.declared.texts.Scope.{Scope}
use Rattle.cell_attributes.specs.declared.texts.Scope.TheVariants as scope
use Rattle.cell_attributes.specs.declared.texts.Text.{Text}
use Rattle.cell_attributes.specs.declared.texts.Text.TheVariants as text
use Rattle.cell_attributes.specs.States.{Arguments, StateName}
use Rattle.cell_attributes.specs.Vocabulary.{Vocabulary}
use Rattle.cell_attributes.specs.Texts.{control_use, own_use, function_use, state_function_use, is_number, is_unknown, is_coupled}
use Rattle.cell_attributes.specs.Texts.{class_at, use_at, has_unknown, has_coupled, judged_tree, judged, text_as, is_node_class}
use Rattle.cell_attributes.specs.Texts.{node_at, node_text, malformed_at, unknown_at, coupled_at, text_support}
use Rattle.cell_attributes.specs.StateReadings.{own_scope}
use Rattle.cell_attributes.specs.Building.{number_in, function_in, function_of}
use Rattle.cell_attributes.proofs.Fits.{support_all}
use Rattle.cell_attributes.proofs.Members.{stand_in, placed_in, in_placed}
use Rattle.cell_attributes.proofs.Numbering.{state_flags, is_variable, NumberIs}

-- A renamed tree names the new numbers.
module _ (to : List ℕ) where
  abbrev Renamed : Tree → Type 0
  Renamed f = names_of (renamed_by to f) ≡ map (slice_index to) (names_of f)

  two : (f g : Tree) → Renamed f → Renamed g
      → names_of (renamed_by to f) ++ names_of (renamed_by to g) ≡ map (slice_index to) (names_of f ++ names_of g)
  two f g p q =
      ap (λ xs. xs ++ names_of (renamed_by to g)) p
      ∙ ap (λ xs. map (slice_index to) (names_of f) ++ xs) q
      ∙ sym (map-append (slice_index to) (names_of f) (names_of g))

  pub names_of_renamed : (f : Tree) → names_of (renamed_by to f) ≡ map (slice_index to) (names_of f)
  names_of_renamed = every_tree Renamed (record {
    zero_leaf = ap names_of (fold-Zero Tree (renamed_step to)) ∙ names_Zero ∙ ap (map (slice_index to)) (sym names_Zero);
    one_leaf = ap names_of (fold-One Tree (renamed_step to)) ∙ names_One ∙ ap (map (slice_index to)) (sym names_One);
    name_leaf = λ i. ap names_of (fold-Name Tree (renamed_step to) i) ∙ names_Name (slice_index to i)
        ∙ ap (map (slice_index to)) (sym (names_Name i));
    not_of = λ f p. ap names_of (fold-Not Tree (renamed_step to) f) ∙ names_Not (renamed_by to f) ∙ p
        ∙ ap (map (slice_index to)) (sym (names_Not f));
    xor_of = λ f g p q. ap names_of (fold-Xor Tree (renamed_step to) f g) ∙ names_Xor (renamed_by to f) (renamed_by to g)
        ∙ two f g p q
        ∙ ap (map (slice_index to)) (sym (names_Xor f g));
    and_of = λ f g p q. ap names_of (fold-And Tree (renamed_step to) f g) ∙ names_And (renamed_by to f) (renamed_by to g)
        ∙ two f g p q
        ∙ ap (map (slice_index to)) (sym (names_And f g));
    or_of = λ f g p q. ap names_of (fold-Or Tree (renamed_step to) f g) ∙ names_Or (renamed_by to f) (renamed_by to g)
        ∙ two f g p q
        ∙ ap (map (slice_index to)) (sym (names_Or f g));
  })

-- the numbers of the names of a text, as they are written
abbrev pub text_names : Text → List ℕ
text_names (text.Reads f at) = names_of f
text_names _ = []

pub names_in_support : (t : Text) → IsTrue (stand_in (text_support t) (text_names t))
names_in_support (text.Reads f at) = in_placed (names_of f)
names_in_support _ = refl

pub support_in_names : (t : Text) → IsTrue (stand_in (text_names t) (text_support t))
support_in_names (text.Reads f at) = placed_in (names_of f)
support_in_names _ = refl

-- the function of a text names the numbers of its names
pub names_of_function : (to : List ℕ) (t : Text) → names_of_optional (function_in to t) ≡ map (slice_index to) (text_names t)
names_of_function to (text.Reads f at) = names_of_renamed to f
names_of_function to _ = refl

-- whether a text is not written
abbrev pub is_absent : Text → Bool
is_absent text.Absent = true
is_absent _ = false

-- nothing is wrong with a text
pub record IsSound (t : Text) : Type 0 where
  pub well_formed : malformed_at t ≡ []
  pub known : unknown_at t ≡ []
  pub apart : coupled_at t ≡ []

-- a written text with which nothing is wrong has a function
pub sound_has_function : (to : List ℕ) (t : Text) → IsSound t → is_none (function_in to t) ≡ is_absent t
sound_has_function to text.Absent s = refl
sound_has_function to (text.Reads f at) s = refl
sound_has_function to _ s = let h = s.well_formed in let k = s.known in let l = s.apart in absurd cc

pub names_of_written :
    (to : List ℕ) (t : Text) → IsSound t → is_absent t ≡ false
    → names_of (function_of to t) ≡ map (slice_index to) (text_names t)
names_of_written to text.Absent s h = absurd cc
names_of_written to (text.Reads f at) s h = names_of_renamed to f
names_of_written to _ s h = let k = s.well_formed in let l = s.known in let m = s.apart in absurd cc

-- a text is absent where its attribute is
tree_is_there : (classes : List Class) (s : Scope) (at : ℕ) (f : Tree) → is_absent (judged_tree classes s at f) ≡ false
tree_is_there classes s at f =
    elim (cases_Bool (has_unknown classes s f)) [
      | inl e ↦ rw e refl
      | inr e ↦ elim (cases_Bool (has_coupled classes s f)) [ inl k ↦ rw (e, k) refl | inr k ↦ rw (e, k) refl ]
    ]

judged_is_there : (classes : List Class) (s : Scope) (at : ℕ) (r : Result Tree FunctionFault)
    → is_absent (judged classes s at r) ≡ false
judged_is_there classes s at (Ok f) = tree_is_there classes s at f
judged_is_there classes s at (Err fault.TooLong) = refl
judged_is_there classes s at (Err _) = refl

pub absent_text : (v : Vocabulary) (s : Scope) (attribute : Option Attribute)
    → is_absent (text_as v s attribute) ≡ is_none attribute
absent_text v s None = refl
absent_text v s (Some attribute) = judged_is_there v.classes s attribute.at (reading_of v.names attribute.text)

-- Uses of names.

abbrev pub is_allowed : Use → Bool
is_allowed use_.Allowed = true
is_allowed _ = false

pub allowed_use : (u : Use) → is_unknown u ≡ false → is_coupled u ≡ false → IsTrue (is_allowed u)
allowed_use use_.Allowed h k = refl
allowed_use _ h k = absurd cc

allowed_all :
    (u : ℕ → Use) (xs : List ℕ) → list_any (λ i. is_unknown (u i)) xs ≡ false → list_any (λ i. is_coupled (u i)) xs ≡ false
    → IsTrue (list_all (λ i. is_allowed (u i)) xs)
allowed_all u [] h k = refl
allowed_all u (x ∷ xs) h k =
    let a = or_parts (is_unknown (u x)) (list_any (λ i. is_unknown (u i)) xs) h in
    let b = or_parts (is_coupled (u x)) (list_any (λ i. is_coupled (u i)) xs) k in
    and_from (is_allowed (u x)) (list_all (λ i. is_allowed (u i)) xs) (allowed_use (u x) a.0 b.0) (allowed_all u xs a.1 b.1)

tree_allowed :
    (classes : List Class) (s : Scope) (at : ℕ) (f : Tree)
    → IsTrue (list_all (λ i. is_allowed (use_at classes s i)) (text_names (judged_tree classes s at f)))
tree_allowed classes s at f =
    elim (cases_Bool (has_unknown classes s f)) [
      | inl e ↦ rw e refl
      | inr e ↦ elim (cases_Bool (has_coupled classes s f)) [
        | inl k ↦ rw (e, k) refl
        | inr k ↦ rw (e, k) (support_all (λ i. is_allowed (use_at classes s i)) f
            (allowed_all (use_at classes s) (support_of f) e k))
      ]
    ]

judged_allowed :
    (classes : List Class) (s : Scope) (at : ℕ) (r : Result Tree FunctionFault)
    → IsTrue (list_all (λ i. is_allowed (use_at classes s i)) (text_names (judged classes s at r)))
judged_allowed classes s at (Ok f) = tree_allowed classes s at f
judged_allowed classes s at (Err fault.TooLong) = refl
judged_allowed classes s at (Err _) = refl

-- all names of a text are allowed in it
text_allowed :
    (v : Vocabulary) (s : Scope) (attribute : Option Attribute)
    → IsTrue (list_all (λ i. is_allowed (use_at v.classes s i)) (text_names (text_as v s attribute)))
text_allowed v s None = refl
text_allowed v s (Some attribute) = judged_allowed v.classes s attribute.at (reading_of v.names attribute.text)

-- no text of an output makes a state hang on another
pub function_apart : (c : Class) → is_coupled (function_use c) ≡ false
function_apart Input = refl
function_apart _ = refl

pub state_function_apart : (c : Class) → is_coupled (state_function_use c) ≡ false
state_function_apart Input = refl
state_function_apart _ = refl

number_is_there : (i : ℕ) (number : Option ℕ) → is_number i number ≡ true → number ≡ Some i
number_is_there i None h = absurd cc
number_is_there i (Some j) h = ap Some (sym (eqb-true i j h))

-- an input pin, which has its own number in the cell
abbrev pub is_kept_input : List Pin → List ℕ → ℕ → Bool
is_kept_input pins to i = nat_eq (slice_index to i) i && is_input_pin pins i

-- an input pin, or a variable of the group whose state has the number m
abbrev pub is_input_or_own : List Pin → List ℕ → ℕ → ℕ → Bool
is_input_or_own pins to m i =
    is_kept_input pins to i || nat_le (length pins) i && (nat_eq (slice_index to i) m || nat_eq (slice_index to i) (m + 1))

-- the number of an input pin, a state or a second variable
abbrev pub is_value_number : List Bool → List Pin → ℕ → Bool
is_value_number flags pins n = is_input_pin pins n || is_variable flags (length pins) n

-- whether the names of a text have numbers of input pins, states and second variables
abbrev pub names_values : List Bool → List Pin → List ℕ → Text → Bool
names_values flags pins to t = list_all (λ i. is_value_number flags pins (slice_index to i)) (text_names t)

-- Over the names of a vocabulary, with their numbers in the cell.
module _
    (states : List StateName) (pins : List Pin) (v : Vocabulary) (to : List ℕ)
    (numbers : (i : ℕ) → NumberIs states pins v.names i (slice_index to i) (class_at v.classes i)) where
  control_number :
      (i n : ℕ) (c : Class) → is_allowed (control_use c) ≡ true → NumberIs states pins v.names i n c
      → IsTrue (nat_eq n i && is_input_pin pins i)
  control_number i n Input h k = and_from (nat_eq n i) (is_input_pin pins i) (eq-eqb n i k.0) k.1
  control_number i n Driven h k = absurd cc
  control_number i n Alias h k = absurd cc
  control_number i n Shared h k = absurd cc
  control_number i n Node h k = absurd cc
  control_number i n Variable h k = absurd cc

  -- the names of a text that names pins alone
  pub control_names_are : (attribute : Option Attribute)
      → IsTrue (list_all (is_kept_input pins to) (text_names (text_as v scope.Control attribute)))
  control_names_are attribute =
      list_all-implied (λ i. is_allowed (use_at v.classes scope.Control i)) (is_kept_input pins to)
      (text_names (text_as v scope.Control attribute))
      (λ i h. control_number i (slice_index to i) (class_at v.classes i) h (numbers i)) (text_allowed v scope.Control attribute)

  own_number :
      (m i n : ℕ) (a : Arguments) (own : Bool)
      → number_in states (length pins) a.first ≡ Some m → number_in states (length pins) a.second ≡ Some (m + 1)
      → (is_number i (number_of v.names a.first) || is_number i (number_of v.names a.second)) ≡ own
      → (c : Class) → is_allowed (own_use own c) ≡ true → NumberIs states pins v.names i n c
      → IsTrue (nat_eq n i && is_input_pin pins i || nat_le (length pins) i && (nat_eq n m || nat_eq n (m + 1)))
  own_number m i n a own f s e Input h k =
      or_left (nat_eq n i && is_input_pin pins i) (nat_le (length pins) i && (nat_eq n m || nat_eq n (m + 1)))
      (and_from (nat_eq n i) (is_input_pin pins i) (eq-eqb n i k.0) k.1)
  own_number m i n a own f s e Driven h k = absurd cc
  own_number m i n a own f s e Alias h k = absurd cc
  own_number m i n a own f s e Shared h k = absurd cc
  own_number m i n a own f s e Node h k = absurd cc
  own_number m i n a false f s e Variable h k = absurd cc
  own_number m i n a true f s e Variable h k =
      let place : IsTrue (nat_eq n m || nat_eq n (m + 1)) =
      elim (or_cases (is_number i (number_of v.names a.first)) (is_number i (number_of v.names a.second)) e) [
        | inl one ↦
            let same : n ≡ m = k.2 a.first (number_is_there i (number_of v.names a.first) one) ∙ ap (λ x. unwrap_or x i) f in
            or_left (nat_eq n m) (nat_eq n (m + 1)) (eq-eqb n m same)
        | inr one ↦
            let same : n ≡ m + 1 = k.2 a.second (number_is_there i (number_of v.names a.second) one) ∙ ap (λ x. unwrap_or x i) s
            in
            or_right (nat_eq n m) (nat_eq n (m + 1)) (eq-eqb n (m + 1) same)
      ] in
      or_right (nat_eq n i && is_input_pin pins i) (nat_le (length pins) i && (nat_eq n m || nat_eq n (m + 1)))
      (and_from (nat_le (length pins) i) (nat_eq n m || nat_eq n (m + 1)) (le-leb (length pins) i k.1) place)

  -- the names of a text that may name the own variables beside pins
  pub data_names_are :
      (m : ℕ) (a : Arguments) → number_in states (length pins) a.first ≡ Some m
      → number_in states (length pins) a.second ≡ Some (m + 1)
      → (attribute : Option Attribute)
      → IsTrue (list_all (is_input_or_own pins to m) (text_names (text_as v (own_scope v (Some a)) attribute)))
  data_names_are m a f s attribute =
      list_all-implied (λ i. is_allowed (use_at v.classes (own_scope v (Some a)) i)) (is_input_or_own pins to m)
      (text_names (text_as v (own_scope v (Some a)) attribute))
      (λ i h. own_number m i (slice_index to i) a
      (is_number i (number_of v.names a.first) || is_number i (number_of v.names a.second)) f s refl
      (class_at v.classes i) h (numbers i))
      (text_allowed v (own_scope v (Some a)) attribute)

  pin_value : (i n : ℕ) → n ≡ i → IsTrue (is_input_pin pins i) → IsTrue (is_value_number (state_flags states) pins n)
  pin_value i n e h =
      or_left (is_input_pin pins n) (is_variable (state_flags states) (length pins) n)
      (subst (λ x. IsTrue (is_input_pin pins x)) (sym e) h)

  variable_value : (n : ℕ) → IsTrue (is_variable (state_flags states) (length pins) n)
      → IsTrue (is_value_number (state_flags states) pins n)
  variable_value n h = or_right (is_input_pin pins n) (is_variable (state_flags states) (length pins) n) h

  function_number : (i n : ℕ) (c : Class) → is_allowed (function_use c) ≡ true → NumberIs states pins v.names i n c
      → IsTrue (is_value_number (state_flags states) pins n)
  function_number i n Input h k = pin_value i n k.0 k.1
  function_number i n Driven h k = absurd cc
  function_number i n Alias h k = absurd cc
  function_number i n Shared h k = absurd cc
  function_number i n Node h k = absurd cc
  function_number i n Variable h k = variable_value n k.0

  state_function_number : (i n : ℕ) (c : Class) → is_allowed (state_function_use c) ≡ true → NumberIs states pins v.names i n c
      → IsTrue (is_value_number (state_flags states) pins n)
  state_function_number i n Input h k = pin_value i n k.0 k.1
  state_function_number i n Driven h k = absurd cc
  state_function_number i n Alias h k = variable_value n k
  state_function_number i n Shared h k = variable_value n k
  state_function_number i n Node h k = absurd cc
  state_function_number i n Variable h k = absurd cc

  node_number : (i n : ℕ) (c : Class) → is_node_class c ≡ true → NumberIs states pins v.names i n c
      → IsTrue (is_value_number (state_flags states) pins n)
  node_number i n Input h k = absurd cc
  node_number i n Driven h k = absurd cc
  node_number i n Alias h k = absurd cc
  node_number i n Shared h k = variable_value n k
  node_number i n Node h k = variable_value n k
  node_number i n Variable h k = absurd cc

  names_are : (s : Scope)
      → ((i : ℕ) → is_allowed (use_at v.classes s i) ≡ true
      → IsTrue (is_value_number (state_flags states) pins (slice_index to i)))
      → (attribute : Option Attribute) → IsTrue (names_values (state_flags states) pins to (text_as v s attribute))
  names_are s number attribute =
      list_all-implied (λ i. is_allowed (use_at v.classes s i))
      (λ i. is_value_number (state_flags states) pins (slice_index to i)) (text_names (text_as v s attribute)) number
      (text_allowed v s attribute)

  pub function_names_are : (attribute : Option Attribute)
      → IsTrue (names_values (state_flags states) pins to (text_as v scope.Function attribute))
  function_names_are =
      names_are scope.Function (λ i h. function_number i (slice_index to i) (class_at v.classes i) h (numbers i))

  pub state_function_names_are : (attribute : Option Attribute)
      → IsTrue (names_values (state_flags states) pins to (text_as v scope.StateFunction attribute))
  state_function_names_are =
      names_are scope.StateFunction (λ i h. state_function_number i (slice_index to i) (class_at v.classes i) h (numbers i))

  node_names_at : (at : ℕ) (number : Option ℕ) → IsTrue (names_values (state_flags states) pins to (node_at v.classes at number))
  node_names_at at None = refl
  node_names_at at (Some i) =
      elim (cases_Bool (is_node_class (class_at v.classes i))) [
        | inl e ↦
            let here : IsTrue (is_value_number (state_flags states) pins (slice_index to i)) =
            node_number i (slice_index to i) (class_at v.classes i) e (numbers i) in
            let one : IsTrue (list_all (λ j. is_value_number (state_flags states) pins (slice_index to j)) (i ∷ [])) =
            and_from (is_value_number (state_flags states) pins (slice_index to i)) true here refl in
            rw e (subst (λ xs. IsTrue (list_all (λ j. is_value_number (state_flags states) pins (slice_index to j)) xs))
            (sym (names_Name i)) one)
        | inr e ↦ rw e refl
      ]

  pub node_names_are : (attribute : Attribute) → IsTrue (names_values (state_flags states) pins to (node_text v attribute))
  node_names_are attribute = node_names_at attribute.at (number_of v.names attribute.text)
