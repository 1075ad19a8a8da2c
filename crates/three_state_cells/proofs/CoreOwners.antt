-- The groups that make the pins of a core: those of its cell as they stand in the core, and behind them the outputs for the
-- three-state outputs.
use Rattle.std.proofs.Common.{◌≡◌, ℕ, ◌+◌, Bool, true, false, not, ◌&&◌, ◌||◌, ◌==◌, List, [], ◌∷◌, ◌++◌, length, map, filter}
use Rattle.std.proofs.Common.{codes}
use Rattle.std.proofs.Common.{Option, Some, None, if◌then◌else◌, refl, sym, ap, ◌∙◌, subst}
use Rattle.std.specs.Prelude.{⊤, flat_map, bytes_eq, is_some}
use Rattle.std.specs.List.{list_any, cons_option}
use Rattle.std.proofs.lemmas.List.Elements.{filter_map-append}
use Rattle.std.proofs.lemmas.Bool.{not-true as not_true}
use Rattle.liberty_groups.specs.declared.tree.Value.{Value}
use Rattle.liberty_groups.specs.declared.tree.Item.{Item, out-Item}
use Rattle.liberty_groups.specs.declared.tree.Item.TheOpen.{Item-F, Group-F}
use Rattle.liberty_groups.specs.declared.tree.Item.TheOpen as layer
use Rattle.liberty_groups.specs.declared.tree.Item.TheViews.{outs-Inner, out-roll-Group}
use Rattle.liberty_groups.specs.declared.tree.Group.{Group, roll-Group}
use Rattle.liberty_groups.specs.Attributes.{Attribute}
use Rattle.cell_attributes.specs.Groups.{is_pin, inner_of, inner_groups}
use Rattle.cell_attributes.specs.Pins.{direction_of, owner_as, owners_in, owners_of}
use Rattle.cell_attributes.specs.Scans.{is_output_group}
use Rattle.core_groups.specs.Outputs.{ThreeStateOutput, three_state_of, is_three_state, three_state_outputs}
use Rattle.core_groups.specs.CoreGroups.{stays_in_core, core_pin, core_statement, enable_pin, enable_pin_of, enable_pins}
use Rattle.core_groups.specs.CoreGroups.{core_group}
use Rattle.three_state_cells.specs.Trimmed.{has_groups, is_timing, is_timed, in_core}
use Rattle.three_state_cells.proofs.CorePins.{core_as, enable_as, core_statements}
use Rattle.three_state_cells.proofs.Lists.{of_pins, of_pins_join}
use Rattle.three_state_cells.proofs.Cores.{called_by, names_by, inner_in_core}

pub no_output : (group : Group) → is_pin group ≡ false → is_three_state group ≡ false
unfolding is_three_state
no_output group e = ap (λ b. b && (is_output_group (direction_of group) && is_some (three_state_of group))) e

-- the statements that stay in the core
abbrev pub stay : List Item → List Item
stay items = filter (λ item. stays_in_core (out-Item item)) items

-- A group as it stands in the core.
module _ (group : Group) where
  pub core_items : (core_pin group).items ≡ stay group.items
  core_items = ap (λ (one : Group-F Item Group). one.items) (out-roll-Group (core_as group))

  pub core_names : (in_core group).arguments ≡ group.arguments
  core_names = names_by (is_three_state group) group

  pub core_place : (in_core group).at ≡ group.at
  core_place = by (is_three_state group)
    where
      by : (b : Bool) → (if b then core_pin group else group).at ≡ group.at
      by true = ap (λ (one : Group-F Item Group). one.at) (out-roll-Group (core_as group))
      by false = refl

  pub core_is_pin : is_pin (in_core group) ≡ is_pin group
  core_is_pin = λ i. called_by (is_three_state group) group i && not (length (core_names i) == 0)

-- It has no timing groups where it makes three-state outputs.
stays_untimed : (y : Item-F Item Group) → stays_in_core y ≡ true → is_timing y ≡ false
stays_untimed (layer.Simple name value at) e = refl
stays_untimed (layer.Complex name arguments at) e = refl
stays_untimed (layer.Inner group) e = ap (λ b. b && has_groups group) (not_true (bytes_eq group.name (codes "timing")) e)

none_timed : (items : List Item)
    → list_any (λ item. is_timing (out-Item item)) (stay items) ≡ false
none_timed [] = refl
none_timed (one ∷ items) = by (stays_in_core (out-Item one)) refl (none_timed items)
  where
    by : (b : Bool) → stays_in_core (out-Item one) ≡ b → list_any (λ item. is_timing (out-Item item)) (stay items) ≡ false
        → list_any (λ item. is_timing (out-Item item)) (if b then one ∷ stay items else stay items) ≡ false
    by true e h =
        ap (λ b. b || list_any (λ item. is_timing (out-Item item)) (stay items)) (stays_untimed (out-Item one) e) ∙ h
    by false e h = h

pub core_untimed : (group : Group) → is_timed (core_pin group) ≡ false
core_untimed group = ap (list_any (λ item. is_timing (out-Item item))) (core_items group) ∙ none_timed group.items

-- The groups that make the pins.
pub owners_as_core : (group : Group) (values : List Value) (owners : List Group)
    → map in_core (map (owner_as group) values ++ owners) ≡ map (owner_as (in_core group)) values ++ map in_core owners
owners_as_core group [] owners = refl
owners_as_core group (value ∷ values) owners = ap (λ l. in_core group ∷ l) (owners_as_core group values owners)

pub owners_in_core : (groups : List Group) → of_pins owners_in (map in_core groups) ≡ map in_core (of_pins owners_in groups)
owners_in_core [] = refl
owners_in_core (group ∷ groups) =
    ap (λ b. flat_map owners_in (if b then in_core group ∷ filter is_pin (map in_core groups)
    else filter is_pin (map in_core groups))) (core_is_pin group)
    ∙ by (is_pin group) (owners_in_core groups)
  where
    by : (b : Bool) → of_pins owners_in (map in_core groups) ≡ map in_core (of_pins owners_in groups)
        → flat_map owners_in (if b then in_core group ∷ filter is_pin (map in_core groups)
        else filter is_pin (map in_core groups))
        ≡ map in_core (flat_map owners_in (if b then group ∷ filter is_pin groups else filter is_pin groups))
    by true rest =
        (λ i. map (owner_as (in_core group)) (core_names group i) ++ rest i)
        ∙ sym (owners_as_core group group.arguments (of_pins owners_in groups))
    by false rest = rest

abbrev pub enable_owners : ℕ → List ThreeStateOutput → List Group
enable_owners number outputs = of_pins owners_in (inner_groups (enable_pins number outputs))

pub owners_of_core : (cell : Group)
    → owners_of (core_group cell) ≡ map in_core (owners_of cell) ++ enable_owners 0 (three_state_outputs cell)
owners_of_core cell =
    let own : List Item = map core_statement cell.items in
    let enables : List Item = enable_pins 0 (three_state_outputs cell) in
    ap (λ items. of_pins owners_in (inner_groups items)) (core_statements cell)
    ∙ (ap (of_pins owners_in) (filter_map-append (λ item. inner_of (out-Item item)) own enables)
    ∙ (of_pins_join owners_in (inner_groups own) (inner_groups enables)
    ∙ ap (λ l. l ++ of_pins owners_in (inner_groups enables))
    (ap (of_pins owners_in) (inner_in_core cell.items) ∙ owners_in_core (inner_groups cell.items))))

-- The outputs for three-state outputs.
abbrev pub enable_group : ℕ → Attribute → Group
enable_group number floats = roll-Group (enable_as number floats)

abbrev pub IsEnable : Group → Type 0
IsEnable owner = (number : ℕ) × ((floats : Attribute) × (owner ≡ enable_group number floats))

abbrev pub AreEnables : List Group → Type 0
AreEnables [] = ⊤
AreEnables (owner ∷ owners) = IsEnable owner × AreEnables owners

owner_more : (number : ℕ) (floats : Attribute) (items : List Item)
    → of_pins owners_in (inner_groups (enable_pin number floats ∷ items))
    ≡ enable_group number floats ∷ of_pins owners_in (inner_groups items)
owner_more number floats items =
    let enable : Group = enable_group number floats in
    let rest : List Group = filter is_pin (inner_groups items) in
    ap (λ y. of_pins owners_in (cons_option (inner_of y) (inner_groups items))) (outs-Inner enable)
    ∙ (ap (λ (one : Group-F Item Group). flat_map owners_in (if bytes_eq one.name (codes "pin")
    && not (length one.arguments == 0) then enable ∷ rest else rest)) (out-roll-Group (enable_as number floats))
    ∙ ap (λ (one : Group-F Item Group). map (owner_as enable) one.arguments ++ flat_map owners_in rest)
    (out-roll-Group (enable_as number floats)))

pub are_enables : (number : ℕ) (outputs : List ThreeStateOutput) → AreEnables (enable_owners number outputs)
are_enables number [] = tt
are_enables number (output ∷ outputs) = by (three_state_of output.group) (are_enables (number + 1) outputs)
  where
    by : (o : Option Attribute) → AreEnables (enable_owners (number + 1) outputs)
        → AreEnables (of_pins owners_in (inner_groups (enable_pin_of number o ++ enable_pins (number + 1) outputs)))
    by None rest = rest
    by (Some floats) rest =
        subst AreEnables (sym (owner_more number floats (enable_pins (number + 1) outputs))) ((number, (floats, refl)), rest)
