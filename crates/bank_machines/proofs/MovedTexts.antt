-- The attributes of statements at a position, and the functions of their texts.
use Rattle.std.proofs.Common.{◌≡◌, ℕ, Bool, true, false, List, [], ◌∷◌, map, Option, None, Some, if◌then◌else◌, refl, sym, ap}
use Rattle.std.proofs.Common.{◌∙◌, codes}
use Rattle.std.specs.Prelude.{bytes_eq}
use Rattle.std.specs.Option.{option_map}
use Rattle.std.specs.List.{cons_option, AllByRecursion}
use Rattle.std.proofs.lemmas.Iterator.Adapters.{option_map_id}
use Rattle.std.proofs.lemmas.Slice.Eq.{bytes_eq-Decides}
use Rattle.liberty_groups.specs.declared.tree.Value.{Value}
use Rattle.liberty_groups.specs.declared.tree.Item.{Item, out-Item}
use Rattle.liberty_groups.specs.declared.tree.Item.TheOpen.{Item-F, Group-F}
use Rattle.liberty_groups.specs.declared.tree.Item.TheOpen as layer
use Rattle.liberty_groups.specs.declared.tree.Item.TheVariants as made
use Rattle.liberty_groups.specs.declared.tree.Item.TheViews.{outs-Simple, outs-Complex, outs-Inner}
use Rattle.liberty_groups.specs.declared.tree.Group.{Group}
use Rattle.liberty_groups.specs.Attributes.{Attribute, text_of, simple_named, attributes_named, last_or}
use Rattle.bool_functions.specs.FunctionText.{reading_of}
use Rattle.bus_texts.specs.declared.vectors.Vector.{Vector}
use Rattle.bus_texts.specs.Vectors.{is_called}
use Rattle.bus_texts.specs.Texts.{is_misplaced, rewritten, text_for, text_fails}
use Rattle.bank_cells.specs.Faults.{pin_texts, fault_of}
use Rattle.bank_cells.specs.Expanded.{values_at, values_if, is_one_of, text_as as statement_as, text_at, timing_at, pin_item_as}
use Rattle.bank_cells.specs.Expanded.{pin_item}
use Rattle.cell_attributes.specs.declared.texts.Scope.{Scope}
use Rattle.cell_attributes.specs.Building.{function_in}
use Rattle.cell_attributes.specs.Texts.{judged, text_as}
use Rattle.cell_attributes.specs.Vocabulary.{Vocabulary}
use Rattle.cell_attributes.proofs.TextNames.{IsSound}
pub use Rattle.cell_attributes.proofs.Distinct.{no_place as unfaulted}
use Rattle.bank_machines.specs.BankTexts.{CellNames, function_if}
use Rattle.bank_machines.proofs.TextLemmas.{Spells, read_same, IsRead, judged_reads}

-- a group with these statements, which is like another one in all else
abbrev pub made_of : Group → List Item → Group-F Item Group
made_of group items = record { name = group.name; arguments = group.arguments; items = items; at = group.at }

-- an attribute whose text is rewritten
abbrev pub moved : List Vector → Option ℕ → Attribute → Attribute
moved vectors position attribute = record { text = text_for vectors position attribute.text; at = attribute.at }

module _ (vectors : List Vector) (position : Option ℕ) where
  no_text : (p : Option ℕ) → [] ≡ text_for vectors p []
  no_text None = refl
  no_text (Some at) = refl

  text_of_values : (value : List Value) → text_of (values_at vectors position value) ≡ text_for vectors position (text_of value)
  text_of_values [] = no_text position
  text_of_values (value ∷ []) = refl
  text_of_values (value ∷ other ∷ more) = no_text position

  -- what becomes of an attribute, where its text is rewritten and where it is not
  abbrev changed : Bool → Attribute → Attribute
  changed true attribute = moved vectors position attribute
  changed false attribute = attribute

  abbrev named_as : Bool → List Value → ℕ → Option Attribute
  named_as same value at = if same then Some (record { text = text_of value; at = at }) else None

  changed_text : (is_text : Bool) (value : List Value) (at : ℕ)
      → named_as true (values_if vectors position is_text value) at ≡ option_map (changed is_text) (named_as true value at)
  changed_text true value at = ap (λ t. Some (record { text = t; at = at })) (text_of_values value)
  changed_text false value at = refl

  module _ (names : List (List ℕ)) (name : List ℕ) where
    changed_simple :
        (is_text : Bool) → is_one_of names name ≡ is_text → (one : Item-F Item Group)
        → simple_named name (out-Item (statement_as vectors position names one)) ≡ option_map (changed is_text)
        (simple_named name one)
    changed_simple is_text h (layer.Simple n value at) =
        ap (simple_named name) (outs-Simple n (values_if vectors position (is_one_of names n) value) at)
        ∙ by (bytes_eq n name) refl
      where
        by : (same : Bool) → bytes_eq n name ≡ same
            → named_as (bytes_eq n name) (values_if vectors position (is_one_of names n) value) at ≡ option_map
            (changed is_text) (named_as (bytes_eq n name) value at)
        by true e =
            let named : n ≡ name = (bytes_eq-Decides n name).0 e in
            let text : is_one_of names n ≡ is_text = ap (is_one_of names) named ∙ h in
            ap (λ text. named_as (bytes_eq n name) (values_if vectors position text value) at) text
            ∙ (ap (λ same. named_as same (values_if vectors position is_text value) at) e
            ∙ (changed_text is_text value at
            ∙ sym (ap (λ same. option_map (changed is_text) (named_as same value at)) e)))
        by false e =
            ap (λ same. named_as same (values_if vectors position (is_one_of names n) value) at) e
            ∙ sym (ap (λ same. option_map (changed is_text) (named_as same value at)) e)
    changed_simple is_text h (layer.Complex n arguments at) = ap (simple_named name) (outs-Complex n arguments at)
    changed_simple is_text h (layer.Inner group) = ap (simple_named name) (outs-Inner group)

  -- a statement of a pin
  pin_simple : (name : List ℕ) (item : Item)
      → simple_named name (out-Item (pin_item vectors position item)) ≡ simple_named name
      (out-Item (text_at vectors position pin_texts item))
  pin_simple name item = by (out-Item item) refl
    where
      timing : (b : Bool) (group : Group) → out-Item item ≡ layer.Inner group
          → simple_named name (out-Item (if b then made.Inner (timing_at vectors position group) else item)) ≡ None
      timing true group e = ap (simple_named name) (outs-Inner (timing_at vectors position group))
      timing false group e = ap (simple_named name) e

      by : (one : Item-F Item Group) → out-Item item ≡ one
          → simple_named name (out-Item (pin_item_as vectors position one item)) ≡ simple_named name
          (out-Item (statement_as vectors position pin_texts one))
      by (layer.Simple n value at) e = ap (λ one. simple_named name (out-Item (statement_as vectors position pin_texts one))) e
      by (layer.Complex n arguments at) e = ap (simple_named name) e ∙ sym (ap (simple_named name) (outs-Complex n arguments at))
      by (layer.Inner group) e = timing (is_called (codes "timing") group) group e
          ∙ sym (ap (simple_named name) (outs-Inner group))

-- all statements of a group
moved_cons : (g : Attribute → Attribute) (o : Option Attribute) (xs : List Attribute)
    → cons_option (option_map g o) (map g xs) ≡ map g (cons_option o xs)
moved_cons g None xs = refl
moved_cons g (Some a) xs = refl

attributes_by :
    (name : List ℕ) (f : Item → Item) (g : Attribute → Attribute)
    → ((item : Item) → simple_named name (out-Item (f item)) ≡ option_map g (simple_named name (out-Item item)))
    → (items : List Item) → attributes_named name (map f items) ≡ map g (attributes_named name items)
attributes_by name f g each [] = refl
attributes_by name f g each (item ∷ items) =
    ap (λ o. cons_option o (attributes_named name (map f items))) (each item)
    ∙ (ap (cons_option (option_map g (simple_named name (out-Item item)))) (attributes_by name f g each items)
    ∙ moved_cons g (simple_named name (out-Item item)) (attributes_named name items))

last_moved : (g : Attribute → Attribute) (earlier : Option Attribute) (xs : List Attribute)
    → last_or (option_map g earlier) (map g xs) ≡ option_map g (last_or earlier xs)
last_moved g earlier [] = refl
last_moved g earlier (x ∷ xs) = last_moved g (Some x) xs

last_by :
    (name : List ℕ) (f : Item → Item) (g : Attribute → Attribute)
    → ((item : Item) → simple_named name (out-Item (f item)) ≡ option_map g (simple_named name (out-Item item)))
    → (items : List Item)
    → last_or None (attributes_named name (map f items)) ≡ option_map g (last_or None (attributes_named name items))
last_by name f g each items =
    ap (last_or None) (attributes_by name f g each items) ∙ last_moved g None (attributes_named name items)

-- the attribute of a name that counts, where it is one of a text and where it is none
pub text_moved :
    (vectors : List Vector) (position : Option ℕ) (names : List (List ℕ)) (name : List ℕ) (items : List Item)
    → is_one_of names name ≡ true
    → last_or None (attributes_named name (map (text_at vectors position names) items)) ≡ option_map (moved vectors position)
    (last_or None (attributes_named name items))
text_moved vectors position names name items h =
    last_by name (text_at vectors position names) (moved vectors position)
    (λ item. changed_simple vectors position names name true h (out-Item item)) items

pub other_kept :
    (vectors : List Vector) (position : Option ℕ) (names : List (List ℕ)) (name : List ℕ) (items : List Item)
    → is_one_of names name ≡ false
    → last_or None (attributes_named name (map (text_at vectors position names) items)) ≡ last_or None
    (attributes_named name items)
other_kept vectors position names name items h =
    last_by name (text_at vectors position names) (λ a. a)
    (λ item. changed_simple vectors position names name false h (out-Item item)) items
    ∙ option_map_id (last_or None (attributes_named name items))

pub pin_text_moved :
    (vectors : List Vector) (position : Option ℕ) (name : List ℕ) (items : List Item) → is_one_of pin_texts name ≡ true
    → last_or None (attributes_named name (map (pin_item vectors position) items)) ≡ option_map (moved vectors position)
    (last_or None (attributes_named name items))
pin_text_moved vectors position name items h =
    last_by name (pin_item vectors position) (moved vectors position)
    (λ item. pin_simple vectors position name item ∙ changed_simple vectors position pin_texts name true h (out-Item item)) items

pub pin_other_kept :
    (vectors : List Vector) (position : Option ℕ) (name : List ℕ) (items : List Item) → is_one_of pin_texts name ≡ false
    → last_or None (attributes_named name (map (pin_item vectors position) items)) ≡ last_or None (attributes_named name items)
pin_other_kept vectors position name items h =
    last_by name (pin_item vectors position) (λ a. a)
    (λ item. pin_simple vectors position name item ∙ changed_simple vectors position pin_texts name false h (out-Item item)) items
    ∙ option_map_id (last_or None (attributes_named name items))

-- the function of a rewritten text that reads is that of the text at the position
abbrev pub cell_names : List Vector → Vocabulary → List ℕ → CellNames
cell_names vectors v numbers = record { vectors = vectors; names = v.names; numbers = numbers }

pub text_is :
    (vectors : List Vector) (v : Vocabulary) (numbers : List ℕ) (at : ℕ) → AllByRecursion Spells vectors
    → (scope : Scope) (o : Option Attribute)
    → fault_of vectors (Some at) o ≡ [] → IsSound (text_as v scope (option_map (moved vectors (Some at)) o))
    → function_in numbers (text_as v scope (option_map (moved vectors (Some at)) o)) ≡ function_if (cell_names vectors v numbers)
    at o
text_is vectors v numbers at spell scope None h s = refl
text_is vectors v numbers at spell scope (Some a) h s =
    let made : List ℕ = rewritten vectors at a.text in
    let read : IsRead (reading_of v.names made) (judged v.classes scope a.at (reading_of v.names made)) a.at =
    judged_reads v.classes scope a.at (reading_of v.names made) s in
    let placed : is_misplaced vectors at a.text ≡ false = unfaulted (text_fails vectors (Some at) a.text) a.at h in
    ap (function_in numbers) read.reads
    ∙ ap Some (read_same (cell_names vectors v numbers) at spell a.text read.function placed read.answer)
