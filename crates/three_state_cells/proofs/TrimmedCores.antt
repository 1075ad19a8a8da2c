-- The core of a trimmed cell is the trimmed core of the cell.
use Rattle.std.proofs.Common.{◌≡◌, ℕ, ◌+◌, Bool, true, false, ◌&&◌, List, [], ◌∷◌, ◌++◌, length, map, Option, Some, None}
use Rattle.std.proofs.Common.{if◌then◌else◌, refl, sym, ap, ◌∙◌}
use Rattle.std.specs.Prelude.{nat_le}
use Rattle.liberty_groups.specs.declared.tree.Item.{Item, out-Item}
use Rattle.liberty_groups.specs.declared.tree.Item.TheOpen.{Item-F, Group-F}
use Rattle.liberty_groups.specs.declared.tree.Item.TheOpen as layer
use Rattle.liberty_groups.specs.declared.tree.Item.TheVariants as made
use Rattle.liberty_groups.specs.declared.tree.Item.TheViews.{outs-Simple, outs-Complex, outs-Inner, out-roll-Group}
use Rattle.liberty_groups.specs.declared.tree.Group.{Group, roll-Group}
use Rattle.liberty_groups.specs.Attributes.{Attribute}
use Rattle.cell_attributes.specs.Groups.{is_pin}
use Rattle.cell_attributes.specs.Pins.{owners_of}
use Rattle.core_groups.specs.Outputs.{ThreeStateOutput, three_state_of, is_three_state, outputs_from, three_state_outputs}
use Rattle.core_groups.specs.CoreGroups.{core_pin, core_statement_as, core_statement, enable_pin, enable_pin_of, enable_pins}
use Rattle.core_groups.specs.CoreGroups.{core_group}
use Rattle.three_state_cells.specs.PinAttributes.{untimed}
use Rattle.three_state_cells.specs.Trimmed.{has_one, is_trimmed, trimmed_pin, pins_made, pins_in_item, trimmed_item}
use Rattle.three_state_cells.specs.Trimmed.{trimmed_items}
use Rattle.three_state_cells.specs.Trimmed.{trimmed, in_core}
use Rattle.three_state_cells.proofs.Groups.{same_of}
use Rattle.three_state_cells.proofs.Owners.{trimmed_owners}
use Rattle.three_state_cells.proofs.Untimed.{same_floats, same_floating}
use Rattle.three_state_cells.proofs.UntimedCores.{untimed_core, untimed_enable}
use Rattle.three_state_cells.proofs.CoreOwners.{core_names, core_is_pin, enable_group, AreEnables}
use Rattle.three_state_cells.proofs.CorePins.{core_of_cell}
use Rattle.three_state_cells.proofs.Refused.{shape, owners}

-- A trimmed pin in the core.
trimmed_as_core : (pin : ℕ) (group : Group) → is_trimmed pin (in_core group) ≡ is_trimmed pin group
trimmed_as_core pin group = λ i. nat_le 64 pin && (core_is_pin group i && has_one (core_names group i))

pub trimmed_in_core : (pin : ℕ) (group : Group) → trimmed_pin pin (in_core group) ≡ in_core (trimmed_pin pin group)
trimmed_in_core pin group =
    ap (λ b. if b then untimed (in_core group) else in_core group) (trimmed_as_core pin group) ∙ by (is_trimmed pin group)
  where
    floats : (c : Bool) → untimed (if c then core_pin group else group) ≡ (if c then core_pin (untimed group) else untimed group)
    floats true = untimed_core group
    floats false = refl

    by : (b : Bool) → (if b then untimed (in_core group) else in_core group) ≡ in_core (if b then untimed group else group)
    by true =
        floats (is_three_state group)
        ∙ sym (ap (λ c. if c then core_pin (untimed group) else untimed group) (same_floating group))
    by false = refl

-- Statement by statement.
abbrev layer_in_core : Item-F Item Group → Item-F Item Group
layer_in_core (layer.Simple name value at) = layer.Simple name value at
layer_in_core (layer.Complex name arguments at) = layer.Complex name arguments at
layer_in_core (layer.Inner group) = layer.Inner (in_core group)

statement_by : (b : Bool) (whole : Item) (group : Group) → out-Item whole ≡ layer.Inner group
    → out-Item (if b then made.Inner (core_pin group) else whole) ≡ layer.Inner (if b then core_pin group else group)
statement_by true whole group e = outs-Inner (core_pin group)
statement_by false whole group e = e

statement_as : (whole : Item) (y : Item-F Item Group) → out-Item whole ≡ y
    → out-Item (core_statement_as whole y) ≡ layer_in_core y
statement_as whole (layer.Simple name value at) e = e
statement_as whole (layer.Complex name arguments at) e = e
statement_as whole (layer.Inner group) e = statement_by (is_three_state group) whole group e

made_by : (b : Bool) (group : Group)
    → (if b then made.Inner (core_pin group) else made.Inner group) ≡ made.Inner (if b then core_pin group else group)
made_by true group = refl
made_by false group = refl

statement_trimmed : (pin : ℕ) (y : Item-F Item Group)
    → core_statement (trimmed_item pin y) ≡ trimmed_item pin (layer_in_core y)
statement_trimmed pin (layer.Simple name value at) =
    ap (core_statement_as (made.Simple name value at)) (outs-Simple name value at)
statement_trimmed pin (layer.Complex name arguments at) =
    ap (core_statement_as (made.Complex name arguments at)) (outs-Complex name arguments at)
statement_trimmed pin (layer.Inner group) =
    ap (core_statement_as (made.Inner (trimmed_pin pin group))) (outs-Inner (trimmed_pin pin group))
    ∙ (made_by (is_three_state (trimmed_pin pin group)) (trimmed_pin pin group)
    ∙ ap made.Inner (sym (trimmed_in_core pin group)))

pins_as_core : (y : Item-F Item Group) → pins_in_item (layer_in_core y) ≡ pins_in_item y
pins_as_core (layer.Simple name value at) = refl
pins_as_core (layer.Complex name arguments at) = refl
pins_as_core (layer.Inner group) = by (in_core group) (core_is_pin group) (core_names group)
  where
    by : (core : Group) → is_pin core ≡ is_pin group → core.arguments ≡ group.arguments → pins_made core ≡ pins_made group
    by core is names = λ i. if is i then length (names i) else 0

statements_trimmed : (pin : ℕ) (items : List Item)
    → map core_statement (trimmed_items pin items) ≡ trimmed_items pin (map core_statement items)
statements_trimmed pin [] = refl
statements_trimmed pin (item ∷ items) =
    let y : Item-F Item Group = out-Item item in
    (λ i. statement_trimmed pin y i ∷ statements_trimmed (pin + pins_in_item y) items i)
    ∙ ((λ i. trimmed_item pin (layer_in_core y) ∷ trimmed_items (pin + sym (pins_as_core y) i) (map core_statement items))
    ∙ (λ i. trimmed_item pin (sym (statement_as item y refl) i)
    ∷ trimmed_items (pin + pins_in_item (sym (statement_as item y refl) i)) (map core_statement items)))

-- The outputs for three-state outputs stay.
pub enable_stays : (pin number : ℕ) (floats : Attribute) → trimmed_pin pin (enable_group number floats) ≡ enable_group number floats
enable_stays pin number floats = by (is_trimmed pin (enable_group number floats))
  where
    by : (b : Bool) → (if b then untimed (enable_group number floats) else enable_group number floats) ≡ enable_group number floats
    by true = untimed_enable number floats
    by false = refl

pub owners_stay : (pin : ℕ) (owners : List Group) → AreEnables owners → trimmed_owners pin owners ≡ owners
owners_stay pin [] h = refl
owners_stay pin (owner ∷ owners) h =
    let stays : trimmed_pin pin owner ≡ owner =
    ap (trimmed_pin pin) h.0.1.1 ∙ (enable_stays pin h.0.0 h.0.1.0 ∙ sym h.0.1.1) in
    λ i. stays i ∷ owners_stay (pin + 1) owners h.1 i

enables_stay : (pin number : ℕ) (outputs : List ThreeStateOutput)
    → trimmed_items pin (enable_pins number outputs) ≡ enable_pins number outputs
enables_stay pin number [] = refl
enables_stay pin number (output ∷ outputs) = by (three_state_of output.group) (λ p. enables_stay p (number + 1) outputs)
  where
    one : (floats : Attribute) → trimmed_item pin (out-Item (enable_pin number floats)) ≡ enable_pin number floats
    one floats =
        ap (trimmed_item pin) (outs-Inner (enable_group number floats)) ∙ ap made.Inner (enable_stays pin number floats)

    by : (o : Option Attribute)
        → ((p : ℕ) → trimmed_items p (enable_pins (number + 1) outputs) ≡ enable_pins (number + 1) outputs)
        → trimmed_items pin (enable_pin_of number o ++ enable_pins (number + 1) outputs)
        ≡ enable_pin_of number o ++ enable_pins (number + 1) outputs
    by None rest = rest pin
    by (Some floats) rest = λ i.
        one floats i ∷ rest (pin + pins_in_item (out-Item (enable_pin number floats))) i

trimmed_join : (pin : ℕ) (xs ys : List Item) → ((p : ℕ) → trimmed_items p ys ≡ ys)
    → trimmed_items pin (xs ++ ys) ≡ trimmed_items pin xs ++ ys
trimmed_join pin [] ys stay = stay pin
trimmed_join pin (x ∷ xs) ys stay =
    ap (λ l. trimmed_item pin (out-Item x) ∷ l) (trimmed_join (pin + pins_in_item (out-Item x)) xs ys stay)

-- They are as many, and drive at the same texts.
pub same_enables : (number pin : ℕ) (owners : List Group)
    → enable_pins number (outputs_from pin (trimmed_owners pin owners)) ≡ enable_pins number (outputs_from pin owners)
same_enables number pin [] = refl
same_enables number pin (owner ∷ owners) =
    ap (λ b. enable_pins number ((if b then record { pin = pin; group = trimmed_pin pin owner } ∷ [] else []) ++ outputs_from (pin + 1) (trimmed_owners (pin + 1) owners)))
    (same_of is_three_state (λ group is. same_floating group) pin owner)
    ∙ by (is_three_state owner) (λ n. same_enables n (pin + 1) owners)
  where
    by : (b : Bool)
        → ((n : ℕ) → enable_pins n (outputs_from (pin + 1) (trimmed_owners (pin + 1) owners))
        ≡ enable_pins n (outputs_from (pin + 1) owners))
        → enable_pins number ((if b then record { pin = pin; group = trimmed_pin pin owner } ∷ [] else []) ++ outputs_from (pin + 1) (trimmed_owners (pin + 1) owners))
        ≡ enable_pins number ((if b then record { pin = pin; group = owner } ∷ [] else []) ++ outputs_from (pin + 1) owners)
    by true rest = λ i.
        enable_pin_of number (same_of three_state_of (λ group is. same_floats group) pin owner i)
        ++ rest (number + 1) i
    by false rest = rest number

module _ (cell : Group) where
  abbrev with_core : Group-F Item Group → List Item → Group
  with_core one items = roll-Group (record { name = one.name; arguments = one.arguments; items = items; at = one.at })

  pub core_trimmed : core_group (trimmed cell) ≡ trimmed (core_group cell)
  unfolding core_group
  core_trimmed =
      let enables : List Item = enable_pins 0 (three_state_outputs cell) in
      (λ i. with_core (out-roll-Group (shape cell) i)
      (map core_statement (out-roll-Group (shape cell) i).items
      ++ (ap (λ l. enable_pins 0 (outputs_from 0 l)) (owners cell) ∙ same_enables 0 0 (owners_of cell)) i))
      ∙ ((λ i. with_core (shape cell)
      ((ap (λ l. l ++ enables) (statements_trimmed 0 cell.items)
      ∙ sym (trimmed_join 0 (map core_statement cell.items) enables (λ p. enables_stay p 0 (three_state_outputs cell)))) i))
      ∙ sym (ap (λ (one : Group-F Item Group). with_core one (trimmed_items 0 one.items)) (out-roll-Group (core_of_cell cell))))
