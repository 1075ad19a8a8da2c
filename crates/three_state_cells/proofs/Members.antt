-- The pins of a bus or bundle, one by one and gathered.
use Rattle.std.proofs.Common.{◌≡◌, ℕ, ◌+◌, Bool, true, false, List, [], ◌∷◌, ◌++◌, map, if◌then◌else◌, refl, sym, ap, ◌∙◌, codes}
use Rattle.std.proofs.Common.{append_assoc}
use Rattle.std.specs.Prelude.{flat_map, bytes_eq}
use Rattle.std.specs.List.{cons_option}
use Rattle.std.proofs.lemmas.List.{map-append}
use Rattle.liberty_groups.specs.declared.tree.Value.{Value}
use Rattle.liberty_groups.specs.declared.tree.Item.{Item, out-Item}
use Rattle.liberty_groups.specs.declared.tree.Item.TheOpen.{Item-F, Group-F}
use Rattle.liberty_groups.specs.declared.tree.Item.TheOpen as layer
use Rattle.liberty_groups.specs.declared.tree.Item.TheVariants as made
use Rattle.liberty_groups.specs.declared.tree.Item.TheViews.{outs-Inner, out-roll-Group}
use Rattle.liberty_groups.specs.declared.tree.Group.{Group, roll-Group, out-Group}
use Rattle.cell_attributes.specs.Groups.{inner_of, inner_groups}
use Rattle.bus_texts.specs.declared.bus_types.BusType.{BusType}
use Rattle.bus_texts.specs.declared.vectors.Vector.{Vector}
use Rattle.bus_texts.specs.Vectors.{is_bank, pin_vectors, cell_vectors}
use Rattle.bank_cells.specs.Refusals.{is_pins, has_many, along}
use Rattle.bank_cells.specs.Expanded.{member_pins, vector_pins, bank_states, single_group, expanded_group}
use Rattle.bank_cells.specs.Expanded.{expanded_as, expanded_item, expanded_cell, expanded}
use Rattle.bank_cells.specs.Runs.{Member, members_along, members_in, members_of, have_same, Run, name_of, run_of, items_at}
use Rattle.bank_cells.specs.Runs.{run_pin, run_pins, run_with, pins_from, pins_of}
use Rattle.bank_cells.specs.Gathered.{gathered_group, gathered_as, gathered_item, gathered_cell, gathered}
use Rattle.bank_cells.proofs.AlikeLemmas.{same_items}
use Rattle.three_state_cells.specs.Gathering.{IsReadAs}
use Rattle.three_state_cells.proofs.Lists.{apart, apart_in, apart_append}
use Rattle.three_state_cells.proofs.Floating.{read_alike}

-- A pin with one name is apart already.
abbrev pin_with : Value → List Item → ℕ → Group
pin_with value items at = roll-Group (record { name = codes "pin"; arguments = value ∷ []; items = items; at = at })

abbrev shape : List Value → List Item → ℕ → Group-F Item Group
shape names items at = record { name = codes "pin"; arguments = names; items = items; at = at }

pins_apart : (names : List Value) (items : List Item) (at : ℕ)
    → apart (roll-Group (shape names items at)) ≡ map (λ value. pin_with value items at) names
pins_apart names items at =
    ap (λ (one : Group-F Item Group). if bytes_eq one.name (codes "pin")
    then map (λ value. pin_with value one.items one.at) one.arguments else roll-Group (shape names items at) ∷ [])
    (out-roll-Group (shape names items at))

inner_apart : (group : Group) (items : List Item) → apart_in (made.Inner group ∷ items) ≡ apart group ++ apart_in items
inner_apart group items = ap (λ one. flat_map apart (cons_option (inner_of one) (inner_groups items))) (outs-Inner group)

module _ (vectors : List Vector) (group : Group) where
  -- the pin of a name with the statements of a member, and that of a member
  abbrev pin_as : Member → Value → Group
  pin_as member value = pin_with value (items_at vectors group member) group.at

  abbrev its_pin : Member → Group
  its_pin member = pin_as member (name_of member)

  -- Neighbours with the same statements, and those behind them, are apart as each for itself.
  pins_from_apart : (run : Run) (members : List Member)
      → apart_in (pins_from vectors group run members) ≡ map (pin_as run.first) run.names ++ map its_pin members
  pins_from_apart run [] =
      inner_apart (run_pin vectors group run) []
      ∙ ap (λ l. l ++ []) (pins_apart run.names (items_at vectors group run.first) group.at)
  pins_from_apart run (member ∷ members) =
      by (have_same vectors group run.first member) refl (λ other. pins_from_apart other members)
    where
      by : (b : Bool) → have_same vectors group run.first member ≡ b
          → ((other : Run) → apart_in (pins_from vectors group other members)
          ≡ map (pin_as other.first) other.names ++ map its_pin members)
          → apart_in ((if b then [] else run_pins vectors group run)
          ++ pins_from vectors group (run_with b run member) members)
          ≡ map (pin_as run.first) run.names ++ (its_pin member ∷ map its_pin members)
      by true same rest =
          rest (record { first = run.first; names = run.names ++ name_of member ∷ [] })
          ∙ (ap (λ l. l ++ map its_pin members) (map-append (pin_as run.first) run.names (name_of member ∷ []))
          ∙ (append_assoc (map (pin_as run.first) run.names) (pin_as run.first (name_of member) ∷ []) (map its_pin members)
          ∙ ap (λ items. map (pin_as run.first) run.names
          ++ (pin_with (name_of member) items group.at ∷ map its_pin members))
          (same_items vectors run.first member group same)))
      by false unlike rest =
          inner_apart (run_pin vectors group run) (pins_from vectors group (run_of member) members)
          ∙ (ap (λ l. l ++ apart_in (pins_from vectors group (run_of member) members))
          (pins_apart run.names (items_at vectors group run.first) group.at)
          ∙ ap (λ l. map (pin_as run.first) run.names ++ l) (rest (run_of member)))

  gathered_apart : (members : List Member) → apart_in (pins_of vectors group members) ≡ map its_pin members
  gathered_apart [] = refl
  gathered_apart (member ∷ members) = pins_from_apart (run_of member) members

  along_apart : (vector : Vector) (at : ℕ) (names : List (List ℕ))
      → apart_in (along (member_pins vectors group vector) at names) ≡ map its_pin (members_along vector at names)
  along_apart vector at [] = refl
  along_apart vector at (name ∷ names) =
      let member : Member = record { vector = vector; at = at; name = name } in
      inner_apart (its_pin member) (along (member_pins vectors group vector) (at + 1) names)
      ∙ (ap (λ l. l ++ apart_in (along (member_pins vectors group vector) (at + 1) names))
      (pins_apart (name_of member ∷ []) (items_at vectors group member) group.at)
      ∙ ap (λ l. its_pin member ∷ l) (along_apart vector (at + 1) names))

  vectors_apart : (several : List Vector)
      → apart_in (flat_map (vector_pins vectors group) several) ≡ map its_pin (members_of several)
  vectors_apart [] = refl
  vectors_apart (vector ∷ several) =
      apart_append (vector_pins vectors group vector) (flat_map (vector_pins vectors group) several)
      ∙ (ap (λ l. l ++ apart_in (flat_map (vector_pins vectors group) several)) (along_apart vector 0 vector.members)
      ∙ (ap (λ l. map its_pin (members_in vector) ++ l) (vectors_apart several)
      ∙ sym (map-append its_pin (members_in vector) (members_of several))))

-- the statements of a cell
module _ (types : List BusType) (vectors : List Vector) where
  group_apart : (group : Group) → apart_in (gathered_group types vectors group) ≡ apart_in (expanded_group types vectors group)
  group_apart group = by (is_pins group)
    where
      others : List Item
      others = if is_bank group then bank_states vectors group else single_group vectors group

      by : (b : Bool)
          → apart_in (if b then pins_of vectors group (members_of (pin_vectors types group)) else others)
          ≡ apart_in (if b then flat_map (vector_pins vectors group) (pin_vectors types group) else others)
      by true = gathered_apart vectors group (members_of (pin_vectors types group))
          ∙ sym (vectors_apart vectors group (pin_vectors types group))
      by false = refl

  statement_apart : (y : Item-F Item Group) → apart_in (gathered_as types vectors y) ≡ apart_in (expanded_as types vectors y)
  statement_apart (layer.Simple name value offset) = refl
  statement_apart (layer.Complex name arguments offset) = refl
  statement_apart (layer.Inner group) = group_apart group

  statements_apart : (items : List Item)
      → apart_in (flat_map (gathered_item types vectors) items) ≡ apart_in (flat_map (expanded_item types vectors) items)
  statements_apart [] = refl
  statements_apart (item ∷ items) =
      apart_append (gathered_item types vectors item) (flat_map (gathered_item types vectors) items)
      ∙ (ap (λ l. l ++ apart_in (flat_map (gathered_item types vectors) items)) (statement_apart (out-Item item))
      ∙ (ap (λ l. apart_in (expanded_item types vectors item) ++ l) (statements_apart items)
      ∙ sym (apart_append (expanded_item types vectors item) (flat_map (expanded_item types vectors) items))))

-- the cell
module _ (types : List BusType) (cell : Group) where
  abbrev cell_with : List Item → Group-F Item Group
  cell_with items = record { name = cell.name; arguments = cell.arguments; items = items; at = cell.at }

  abbrev in_gathered : Group-F Item Group
  in_gathered = cell_with (flat_map (gathered_item types (cell_vectors types cell)) cell.items)

  abbrev in_expanded : Group-F Item Group
  in_expanded = cell_with (flat_map (expanded_item types (cell_vectors types cell)) cell.items)

  same : {A : Type 0} (f : Group-F Item Group → A) → f in_gathered ≡ f in_expanded
      → f (out-Group (gathered_cell types cell)) ≡ f (out-Group (expanded_cell types cell))
  same f e = ap f (out-roll-Group in_gathered) ∙ (e ∙ sym (ap f (out-roll-Group in_expanded)))

  cell_read : IsReadAs (gathered_cell types cell) (expanded_cell types cell)
  cell_read =
      read_alike (gathered_cell types cell) (expanded_cell types cell) (same (λ one. one.arguments) refl)
      (same (λ one. one.at) refl)
      (same (λ one. apart_in one.items) (statements_apart types (cell_vectors types cell) cell.items))

  read_by : (b : Bool) → IsReadAs (if b then gathered_cell types cell else cell) (if b then expanded_cell types cell else cell)
  read_by true = cell_read
  read_by false = record { same_refusal = λ unit earlier. refl; same_data = λ unit number. refl }

  pub gathered_read : IsReadAs (gathered types cell) (expanded types cell)
  unfolding gathered expanded
  gathered_read = read_by (has_many cell)
