-- The statements of a core: its states, its pins and their texts.
use Rattle.std.proofs.Common.{◌≡◌, ℕ, ◌+◌, Bool, true, false, List, [], ◌∷◌, ◌++◌, length, map, filter, Option, None, Some}
use Rattle.std.proofs.Common.{if◌then◌else◌, refl, sym, ap, subst, ◌∙◌, codes, append-nil, arith, append_assoc}
use Rattle.std.specs.Prelude.{flat_map, bytes_eq}
use Rattle.std.specs.List.{cons_option, AllByRecursion}
use Rattle.std.proofs.lemmas.Bool.{and_parts}
use Rattle.liberty_groups.specs.declared.tree.Item.{Item, out-Item}
use Rattle.liberty_groups.specs.declared.tree.Item.TheOpen.{Item-F, Group-F}
use Rattle.liberty_groups.specs.declared.tree.Item.TheOpen as layer
use Rattle.liberty_groups.specs.declared.tree.Item.TheVariants as made
use Rattle.liberty_groups.specs.declared.tree.Item.TheViews.{out-roll-Group}
use Rattle.liberty_groups.specs.declared.tree.Group.{Group}
use Rattle.liberty_groups.specs.Attributes.{Attribute, simple_named, attributes_named, last_or, attribute_of}
use Rattle.cell_machine.specs.declared.groups.StateGroup.{StateGroup}
use Rattle.cell_machine.specs.declared.pins.Direction.{Direction}
use Rattle.cell_machine.specs.declared.pins.Direction.TheVariants as direction
use Rattle.cell_attributes.specs.Groups.{inner_of, inner_groups, is_pin, is_state}
use Rattle.cell_attributes.specs.Pins.{direction_as, direction_of, owner_as, owners_in}
use Rattle.cell_attributes.specs.Scans.{is_output_group}
use Rattle.cell_attributes.specs.Vocabulary.{Vocabulary}
use Rattle.cell_attributes.specs.Texts.{malformed_at, unknown_at}
use Rattle.cell_attributes.specs.Outputs.{node_as, output_with, pin_text_as, pin_text}
use Rattle.cell_attributes.specs.Building.{output_pin, output_in, outputs_from}
use Rattle.three_state_cells.specs.Outputs.{ThreeStateOutput, three_state_of, is_three_state}
use Rattle.three_state_cells.specs.CoreGroups.{stays_in_core, core_pin, core_statement_as, core_statement, one_value}
use Rattle.three_state_cells.specs.CoreGroups.{enable_function, enable_pin_of, enable_pins}
use Rattle.three_state_cells.specs.Trimmed.{in_core}
use Rattle.three_state_cells.proofs.Statements.{attributes_kept}
use Rattle.three_state_cells.proofs.CorePins.{core_as, enable_as}
use Rattle.three_state_cells.proofs.Cores.{inner_in_core}
use Rattle.three_state_cells.proofs.CoreOwners.{owners_in_core, enable_group}
use Rattle.three_state_cells.proofs.UntimedCores.{gone, its_attributes}
use Rattle.bus_texts.specs.Vectors.{is_called}
use Rattle.bank_machines.proofs.StateLists.{single_states, states_append, inner_cons, state_word, pin_apart}
use Rattle.bank_machines.proofs.PinLists.{owner_list, owners_append, inner_cons as owner_cons, pin_word}
use Rattle.bank_machines.proofs.PinLemmas.{ReadsText}

-- Texts of a pin of the core.

pub three_state_pin : (group : Group) → is_three_state group ≡ true → is_called (codes "pin") group ≡ true
unfolding is_three_state
three_state_pin group h = (and_parts (is_called (codes "pin") group) _ (and_parts (is_pin group) _ h).0).0

core_attribute : (name : List ℕ) → bytes_eq (codes "three_state") name ≡ false → (pin : Group)
    → attribute_of (core_pin pin) name ≡ attribute_of pin name
core_attribute name other pin =
    ap (λ (one : Group-F Item Group). last_or None (attributes_named name one.items)) (out-roll-Group (core_as pin))
    ∙ ap (λ (found : List Attribute). last_or None found) (attributes_kept name stays_in_core (gone name other) pin.items)

core_direction : (pin : Group) → direction_of (core_pin pin) ≡ direction_of pin
core_direction pin = ap direction_as (core_attribute (codes "direction") refl pin)

core_text : (v : Vocabulary) (pin : Group) → pin_text v (core_pin pin) ≡ pin_text v pin
core_text v pin = ap (pin_text_as v (core_pin pin)) (core_direction pin) ∙ by (direction_of pin)
  where
    by : (d : Option Direction) → pin_text_as v (core_pin pin) d ≡ pin_text_as v pin d
    by None = refl
    by (Some direction.Input) = refl
    by (Some direction.Output) =
        ap (λ o. output_with v o (attribute_of (core_pin pin) (codes "internal_node"))
        (attribute_of (core_pin pin) (codes "function")))
        (core_attribute (codes "state_function") refl pin)
        ∙ (ap (λ o. output_with v (attribute_of pin (codes "state_function")) o (attribute_of (core_pin pin) (codes "function")))
        (core_attribute (codes "internal_node") refl pin)
        ∙ ap (output_with v (attribute_of pin (codes "state_function")) (attribute_of pin (codes "internal_node")))
        (core_attribute (codes "function") refl pin))
    by (Some direction.Internal) = ap (node_as v) (core_attribute (codes "internal_node") refl pin)

core_named : (pin : Group) → (core_pin pin).name ≡ pin.name
core_named pin = ap (λ (one : Group-F Item Group). one.name) (out-roll-Group (core_as pin))

owner_text : (v : Vocabulary) (group : Group) → pin_text v (in_core group) ≡ pin_text v group
owner_text v group = by (is_three_state group)
  where
    by : (b : Bool) → pin_text v (if b then core_pin group else group) ≡ pin_text v group
    by true = core_text v group
    by false = refl

owner_direction : (group : Group) → direction_of (in_core group) ≡ direction_of group
owner_direction group = by (is_three_state group)
  where
    by : (b : Bool) → direction_of (if b then core_pin group else group) ≡ direction_of group
    by true = core_direction group
    by false = refl

-- States.

by_state : (item : Item) (group : Group) (b : Bool) → out-Item item ≡ layer.Inner group → is_three_state group ≡ b
    → single_states ((if b then made.Inner (core_pin group) else item) ∷ []) ≡ single_states (item ∷ [])
by_state item group false e t = refl
by_state item group true e t =
    let own : is_state group ≡ false = pin_apart group (three_state_pin group t) in
    let core : is_state (core_pin group) ≡ false = ap state_word (core_named group) ∙ own in
    inner_cons (core_pin group) []
    ∙ (ap (λ b. (if b then core_pin group ∷ [] else []) ++ []) core
    ∙ sym (ap (λ one. filter is_state (cons_option (inner_of one) [])) e ∙ ap (λ b. if b then group ∷ [] else []) own))

state_statement : (item : Item) → single_states (core_statement item ∷ []) ≡ single_states (item ∷ [])
state_statement item = by (out-Item item) refl
  where
    by : (one : Item-F Item Group) → out-Item item ≡ one
        → single_states (core_statement_as item one ∷ []) ≡ single_states (item ∷ [])
    by (layer.Simple name value at) e = refl
    by (layer.Complex name arguments at) e = refl
    by (layer.Inner group) e = by_state item group (is_three_state group) e refl

core_states : (items : List Item) → single_states (map core_statement items) ≡ single_states items
core_states [] = refl
core_states (item ∷ items) =
    states_append (core_statement item ∷ []) (map core_statement items)
    ∙ (ap (λ gs. gs ++ single_states (map core_statement items)) (state_statement item)
    ∙ (ap (λ gs. single_states (item ∷ []) ++ gs) (core_states items) ∙ sym (states_append (item ∷ []) items)))

-- The pins that are added.

abbrev pub enable_owner_of : ℕ → Option Attribute → List Group
enable_owner_of number None = []
enable_owner_of number (Some floats) = enable_group number floats ∷ []

abbrev pub enable_owners : ℕ → List ThreeStateOutput → List Group
enable_owners number [] = []
enable_owners number (output ∷ outputs) = enable_owner_of number (three_state_of output.group)
    ++ enable_owners (number + 1) outputs

enable_no_state : (number : ℕ) (floats : Attribute) → is_state (enable_group number floats) ≡ false
enable_no_state number floats = ap (λ (one : Group-F Item Group). state_word one.name) (out-roll-Group (enable_as number floats))

by_enable_state : (number : ℕ) (floats : Option Attribute) → single_states (enable_pin_of number floats) ≡ []
by_enable_state number None = refl
by_enable_state number (Some floats) =
    inner_cons (enable_group number floats) []
    ∙ ap (λ b. (if b then enable_group number floats ∷ [] else []) ++ []) (enable_no_state number floats)

enable_states : (number : ℕ) (outputs : List ThreeStateOutput) → single_states (enable_pins number outputs) ≡ []
enable_states number [] = refl
enable_states number (output ∷ outputs) =
    states_append (enable_pin_of number (three_state_of output.group)) (enable_pins (number + 1) outputs)
    ∙ (ap (λ gs. gs ++ single_states (enable_pins (number + 1) outputs)) (by_enable_state number (three_state_of output.group))
    ∙ enable_states (number + 1) outputs)

-- the states of a core are those of its cell
pub states_of_core :
    (items : List Item) (outputs : List ThreeStateOutput)
    → single_states (map core_statement items ++ enable_pins 0 outputs) ≡ single_states items
states_of_core items outputs =
    states_append (map core_statement items) (enable_pins 0 outputs)
    ∙ (ap (λ gs. single_states (map core_statement items) ++ gs) (enable_states 0 outputs)
    ∙ (append-nil (single_states (map core_statement items)) ∙ core_states items))

-- Pins.

core_owners : (items : List Item) → owner_list (map core_statement items) ≡ map in_core (owner_list items)
core_owners items =
    ap (λ groups. flat_map owners_in (filter is_pin groups)) (inner_in_core items) ∙ owners_in_core (inner_groups items)

by_enable_owner : (number : ℕ) (floats : Option Attribute)
    → owner_list (enable_pin_of number floats) ≡ enable_owner_of number floats
by_enable_owner number None = refl
by_enable_owner number (Some floats) =
    owner_cons (enable_group number floats) []
    ∙ ap (λ (one : Group-F Item Group).
    (if pin_word one.name one.arguments then map (owner_as (enable_group number floats)) one.arguments else []) ++ [])
    (out-roll-Group (enable_as number floats))

enables_owned : (number : ℕ) (outputs : List ThreeStateOutput)
    → owner_list (enable_pins number outputs) ≡ enable_owners number outputs
enables_owned number [] = refl
enables_owned number (output ∷ outputs) =
    owners_append (enable_pin_of number (three_state_of output.group)) (enable_pins (number + 1) outputs)
    ∙ (ap (λ gs. gs ++ owner_list (enable_pins (number + 1) outputs)) (by_enable_owner number (three_state_of output.group))
    ∙ ap (λ gs. enable_owner_of number (three_state_of output.group) ++ gs) (enables_owned (number + 1) outputs))

-- the pins of a core
pub owners_of_core :
    (items : List Item) (outputs : List ThreeStateOutput)
    → owner_list (map core_statement items ++ enable_pins 0 outputs) ≡ map in_core (owner_list items)
    ++ enable_owners 0 outputs
owners_of_core items outputs =
    owners_append (map core_statement items) (enable_pins 0 outputs)
    ∙ (ap (λ gs. gs ++ owner_list (enable_pins 0 outputs)) (core_owners items)
    ∙ ap (λ gs. map in_core (owner_list items) ++ gs) (enables_owned 0 outputs))

-- Outputs.

module _ (v : Vocabulary) (pins : ℕ) (states : List StateGroup) (to : List ℕ) where
  pub outputs_append :
      (number : ℕ) (xs ys : List Group)
      → outputs_from v pins states to number (xs ++ ys) ≡ outputs_from v pins states to number xs
      ++ outputs_from v pins states to (number + length xs) ys
  outputs_append number [] ys = let e : number + 0 ≡ number = omega arith in ap (λ n. outputs_from v pins states to n ys) (sym e)
  outputs_append number (x ∷ xs) ys =
      let e : number + 1 + length xs ≡ number + length (x ∷ xs) = omega arith in
      ap (λ os. output_in v pins states to number x ++ os)
      (outputs_append (number + 1) xs ys
      ∙ ap (λ n. outputs_from v pins states to (number + 1) xs ++ outputs_from v pins states to n ys) e)
      ∙ sym
      (append_assoc (output_in v pins states to number x) (outputs_from v pins states to (number + 1) xs)
      (outputs_from v pins states to (number + length (x ∷ xs)) ys))

  core_output : (number : ℕ) (group : Group)
      → output_in v pins states to number (in_core group) ≡ output_in v pins states to number group
  core_output number group =
      ap (λ d. if is_output_group d then output_pin pins states to number (pin_text v (in_core group)) ∷ [] else [])
      (owner_direction group)
      ∙ ap (λ t. if is_output_group (direction_of group) then output_pin pins states to number t ∷ [] else [])
      (owner_text v group)

  pub core_outputs :
      (groups : List Group) (number : ℕ)
      → outputs_from v pins states to number (map in_core groups) ≡ outputs_from v pins states to number groups
  core_outputs [] number = refl
  core_outputs (group ∷ groups) number =
      ap (λ os. os ++ outputs_from v pins states to (number + 1) (map in_core groups)) (core_output number group)
      ∙ ap (λ os. output_in v pins states to number group ++ os) (core_outputs groups (number + 1))

pub core_reads : (v : Vocabulary) (groups : List Group) → AllByRecursion (ReadsText v) (map in_core groups)
    → AllByRecursion (ReadsText v) groups
core_reads v [] h = tt
core_reads v (group ∷ groups) h =
    (subst (λ t. (malformed_at t ≡ []) × (unknown_at t ≡ [])) (owner_text v group) h.0, core_reads v groups h.1)

-- the attributes of a pin that is added
pub enable_attribute :
    (number : ℕ) (floats : Attribute) (name : List ℕ)
    → attribute_of (enable_group number floats) name
    ≡ last_or None
    (cons_option (simple_named name (layer.Simple (codes "direction") (one_value (codes "output")) floats.at))
    (cons_option (simple_named name (layer.Simple (codes "function") (one_value (enable_function floats.text)) floats.at)) []))
enable_attribute number floats name = ap (last_or None) (its_attributes number floats name)
