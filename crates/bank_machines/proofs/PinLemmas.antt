-- The output of a pin of an expanded cell is that of its statements as they stand.
use Rattle.std.proofs.Common.{◌≡◌, ℕ, ◌+◌, Bool, true, false, List, [], ◌∷◌, ◌++◌, map, slice_index, Option, None, Some}
use Rattle.std.proofs.Common.{if◌then◌else◌, refl, sym, ap, ◌∙◌, codes, unwrap_or, length}
use Rattle.std.specs.Option.{option_map}
use Rattle.std.specs.List.{AllByRecursion}
use Rattle.liberty_groups.specs.declared.tree.Item.{Item}
use Rattle.liberty_groups.specs.declared.tree.Item.TheOpen.{Group-F}
use Rattle.liberty_groups.specs.declared.tree.Item.TheViews.{out-roll-Group}
use Rattle.liberty_groups.specs.declared.tree.Group.{Group, roll-Group}
use Rattle.liberty_groups.specs.Attributes.{Attribute, attributes_named, last_or, attribute_of}
use Rattle.bool_functions.specs.declared.tree.Node.{Node}
use Rattle.bool_functions.specs.declared.tree.Node.TheVariants as tree
use Rattle.bool_functions.specs.FunctionText.{reading_of}
use Rattle.bool_functions.specs.NameList.{number_of}
use Rattle.bool_functions.specs.Tree.{renamed_step}
use Rattle.bool_functions.proofs.Trees.{fold-Name}
use Rattle.cell_machine.specs.declared.groups.StateGroup.{StateGroup}
use Rattle.cell_machine.specs.declared.pins.Direction.{Direction}
use Rattle.cell_machine.specs.declared.pins.Direction.TheVariants as direction
use Rattle.cell_attributes.specs.declared.texts.Scope.{Scope}
use Rattle.cell_attributes.specs.declared.texts.Scope.TheVariants as scope
use Rattle.cell_attributes.specs.declared.texts.Text.{Text}
use Rattle.cell_attributes.specs.declared.texts.Text.TheVariants as text
use Rattle.cell_attributes.specs.declared.vocabulary.Class.{Class}
use Rattle.cell_attributes.specs.Pins.{direction_as, direction_of}
use Rattle.cell_attributes.specs.Scans.{is_output_group}
use Rattle.cell_attributes.specs.Vocabulary.{Vocabulary}
use Rattle.cell_attributes.specs.Texts.{is_coupled, use_of, class_at, text_as, is_node_class, node_at, malformed_at, unknown_at}
use Rattle.cell_attributes.specs.Texts.{coupled_at}
use Rattle.cell_attributes.specs.Outputs.{output_with, output_text, pin_text_as, pin_text}
use Rattle.cell_attributes.specs.Building.{function_in, function_of, output_pin, output_in, outputs_from}
use Rattle.cell_attributes.proofs.Distinct.{nil_parts}
use Rattle.cell_attributes.proofs.TextNames.{IsSound, function_apart, state_function_apart}
use Rattle.bus_texts.specs.declared.vectors.Vector.{Vector}
use Rattle.bank_cells.specs.Faults.{pin_texts, fault_of, fault_named, text_faults}
use Rattle.bank_cells.specs.Expanded.{is_one_of, pin_item}
use Rattle.bank_machines.specs.BankTexts.{CellNames, number_in_cell, function_if}
use Rattle.bank_machines.specs.BankOutputs.{WrittenPin, driven_by, function_by, output_by, output_of, outputs_among}
use Rattle.bank_machines.proofs.TextLemmas.{Spells, judged_apart}
use Rattle.bank_machines.proofs.MovedTexts.{made_of, moved, pin_text_moved, pin_other_kept, cell_names, text_is}

-- the group of a pin in the expanded cell
abbrev pub owner_of : List Vector → WrittenPin → Group
owner_of vectors pin =
    roll-Group (made_of pin.group (map (pin_item vectors pin.position) pin.group.items))

-- the texts of a pin have no fault at its position
abbrev pub unfaulted_at : List Vector → Group → Option ℕ → Type 0
unfaulted_at vectors group None = Unit {0}
unfaulted_at vectors group (Some at) = text_faults vectors (Some at) pin_texts group.items ≡ []

abbrev pub Placed : List Vector → WrittenPin → Type 0
Placed vectors pin = unfaulted_at vectors pin.group pin.position

-- the text of a pin's group reads
abbrev pub ReadsText : Vocabulary → Group → Type 0
ReadsText v owner = (malformed_at (pin_text v owner) ≡ []) × (unknown_at (pin_text v owner) ≡ [])

pub apart_text :
    (v : Vocabulary) (s : Scope) → ((i : ℕ) (class : Class) → is_coupled (use_of s i class) ≡ false) → (o : Option Attribute)
    → coupled_at (text_as v s o) ≡ []
apart_text v s h None = refl
apart_text v s h (Some a) = judged_apart v.classes s a.at h (reading_of v.names a.text)

module _ (vectors : List Vector) (v : Vocabulary) (numbers : List ℕ) (spell : AllByRecursion Spells vectors) where
  abbrev names : CellNames
  names = cell_names vectors v numbers

  sound_text : (t : Text) → malformed_at t ≡ [] → unknown_at t ≡ [] → coupled_at t ≡ [] → IsSound t
  sound_text t a b c = record { well_formed = a; known = b; apart = c }

  node_function :
      (node : Attribute) (number : Option ℕ) → number_of v.names node.text ≡ number
      → unknown_at (node_at v.classes node.at number) ≡ []
      → function_of numbers (node_at v.classes node.at number) ≡ tree.Name (number_in_cell names node.text)
  node_function node None e h = absurd cc
  node_function node (Some i) e h = by (is_node_class (class_at v.classes i)) h
    where
      by : (b : Bool) → unknown_at (if b then text.Reads (tree.Name i) node.at else text.Unknown node.at) ≡ []
          → function_of numbers (if b then text.Reads (tree.Name i) node.at else text.Unknown node.at) ≡ tree.Name
          (number_in_cell names node.text)
      by true h =
          fold-Name Node (renamed_step numbers) i
          ∙ sym (ap (λ o. tree.Name (slice_index numbers (unwrap_or o (length v.names)))) e)
      by false h = absurd cc

  module _ (at : ℕ) where
    abbrev move : Option Attribute → Option Attribute
    move o = option_map (moved vectors (Some at)) o

    or_first : (t : Text) (o : Option Node) → function_in numbers t ≡ o → function_of numbers t ≡ unwrap_or o (tree.Name 0)
    or_first t o e = ap (λ f. unwrap_or f (tree.Name 0)) e

    driven_same :
        (state internal function : Option Attribute) → fault_of vectors (Some at) state ≡ []
        → fault_of vectors (Some at) function ≡ []
        → malformed_at (output_with v (move state) internal (move function)) ≡ []
        → unknown_at (output_with v (move state) internal (move function)) ≡ []
        → function_of numbers (output_with v (move state) internal (move function)) ≡ driven_by names at state internal function
    driven_same (Some state) internal function f g a b =
        let t : Text = text_as v scope.StateFunction (move (Some state)) in
        let apart : coupled_at t ≡ [] = apart_text v scope.StateFunction (λ i c. state_function_apart c) (move (Some state)) in
        or_first t (function_if names at (Some state))
        (text_is vectors v numbers at spell scope.StateFunction (Some state) f (sound_text t a b apart))
    driven_same None (Some node) function f g a b = node_function node (number_of v.names node.text) refl b
    driven_same None None function f g a b =
        let t : Text = text_as v scope.Function (move function) in
        let apart : coupled_at t ≡ [] = apart_text v scope.Function (λ i c. function_apart c) (move function) in
        or_first t (function_if names at function)
        (text_is vectors v numbers at spell scope.Function function g (sound_text t a b apart))

  -- the attributes of a pin
  module _ (group : Group) (position : Option ℕ) where
    abbrev pin : WrittenPin
    pin = record { group = group; position = position }

    abbrev owner : Group
    owner = owner_of vectors pin

    owner_items : owner.items ≡ map (pin_item vectors position) group.items
    owner_items =
        ap (λ (one : Group-F Item Group). one.items)
        (out-roll-Group (made_of group (map (pin_item vectors position) group.items)))

    pub text_attribute : (name : List ℕ) → is_one_of pin_texts name ≡ true
        → attribute_of owner name ≡ option_map (moved vectors position) (attribute_of group name)
    text_attribute name h =
        ap (λ (items : List Item). last_or None (attributes_named name items)) owner_items
        ∙ pin_text_moved vectors position name group.items h

    other_attribute : (name : List ℕ) → is_one_of pin_texts name ≡ false → attribute_of owner name ≡ attribute_of group name
    other_attribute name h =
        ap (λ (items : List Item). last_or None (attributes_named name items)) owner_items
        ∙ pin_other_kept vectors position name group.items h

    pub direction_same : direction_of owner ≡ direction_of group
    direction_same = ap direction_as (other_attribute (codes "direction") refl)

    output_same :
        output_text v owner
        ≡ output_with v (option_map (moved vectors position) (attribute_of group (codes "state_function")))
        (attribute_of group (codes "internal_node"))
        (option_map (moved vectors position) (attribute_of group (codes "function")))
    output_same =
        ap (λ o. output_with v o (attribute_of owner (codes "internal_node")) (attribute_of owner (codes "function")))
        (text_attribute (codes "state_function") refl)
        ∙ (ap
        (λ o. output_with v (option_map (moved vectors position) (attribute_of group (codes "state_function"))) o
        (attribute_of owner (codes "function")))
        (other_attribute (codes "internal_node") refl)
        ∙ ap
        (output_with v (option_map (moved vectors position) (attribute_of group (codes "state_function")))
        (attribute_of group (codes "internal_node")))
        (text_attribute (codes "function") refl))

    drives : direction_of group ≡ Some direction.Output → pin_text v owner ≡ output_text v owner
    drives d = ap (pin_text_as v owner) (direction_same ∙ d)

  pub unmoved : (o : Option Attribute) → option_map (moved vectors None) o ≡ o
  unmoved None = refl
  unmoved (Some a) = refl

  -- the function of an output
  function_same :
      (group : Group) (position : Option ℕ) → unfaulted_at vectors group position
      → ReadsText v (owner_of vectors (record { group = group; position = position }))
      → direction_of group ≡ Some direction.Output
      → function_of numbers (pin_text v (owner_of vectors (record { group = group; position = position }))) ≡ function_by names v
      group position
  function_same group None placed reads d =
      let single : Group = owner_of vectors (record { group = group; position = None }) in
      let own : pin_text v group ≡ output_text v group = ap (pin_text_as v group) d in
      let same : output_text v single ≡ output_text v group =
      output_same group None
      ∙ (ap (λ o. output_with v o (attribute_of group (codes "internal_node"))
      (option_map (moved vectors None) (attribute_of group (codes "function"))))
      (unmoved (attribute_of group (codes "state_function")))
      ∙ ap (output_with v (attribute_of group (codes "state_function")) (attribute_of group (codes "internal_node")))
      (unmoved (attribute_of group (codes "function")))) in
      ap (function_of numbers) (drives group None d ∙ (same ∙ sym own))
  function_same group (Some at) placed reads d =
      let single : Group = owner_of vectors (record { group = group; position = Some at }) in
      let made : Text = output_with v (move at (attribute_of group (codes "state_function")))
      (attribute_of group (codes "internal_node")) (move at (attribute_of group (codes "function"))) in
      let same : pin_text v single ≡ made = drives group (Some at) d ∙ output_same group (Some at) in
      let one = nil_parts (fault_named vectors (Some at) group.items (codes "function")) _ placed in
      let two = nil_parts (fault_named vectors (Some at) group.items (codes "state_function")) _ one.1 in
      ap (function_of numbers) same
      ∙ driven_same at (attribute_of group (codes "state_function")) (attribute_of group (codes "internal_node"))
      (attribute_of group (codes "function"))
      two.0 one.0 (sym (ap malformed_at same) ∙ reads.0) (sym (ap unknown_at same) ∙ reads.1)

  module _ (pins : ℕ) (states : List StateGroup) where
    -- the output that a pin makes, where it makes one
    pub pin_same :
        (number : ℕ) (pin : WrittenPin) → Placed vectors pin → ReadsText v (owner_of vectors pin)
        → output_in v pins states numbers number (owner_of vectors pin) ≡ output_of names v pins states number pin
    pin_same number pin placed reads =
        ap (λ d. if is_output_group d then output_pin pins states numbers number (pin_text v (owner_of vectors pin)) ∷ [] else [])
        (direction_same pin.group pin.position)
        ∙ by (direction_of pin.group) refl
      where
        by : (d : Option Direction) → direction_of pin.group ≡ d
            → (if is_output_group d then output_pin pins states numbers number (pin_text v (owner_of vectors pin)) ∷ [] else [])
            ≡ (if is_output_group d then output_by pins states number (function_by names v pin.group pin.position) ∷ [] else [])
        by None e = refl
        by (Some direction.Input) e = refl
        by (Some direction.Internal) e = refl
        by (Some direction.Output) e =
            ap (λ f. output_by pins states number f ∷ []) (function_same pin.group pin.position placed reads e)

    -- all pins
    pub outputs_are :
        (made : List WrittenPin) → AllByRecursion (Placed vectors) made
        → AllByRecursion (ReadsText v) (map (owner_of vectors) made) → (number : ℕ)
        → outputs_from v pins states numbers number (map (owner_of vectors) made) ≡ outputs_among names v pins states number made
    outputs_are [] placed reads number = refl
    outputs_are (pin ∷ made) placed reads number =
        ap (λ os. os ++ outputs_from v pins states numbers (number + 1) (map (owner_of vectors) made))
        (pin_same number pin placed.0 reads.0)
        ∙ ap (λ os. output_of names v pins states number pin ++ os) (outputs_are made placed.1 reads.1 (number + 1))
