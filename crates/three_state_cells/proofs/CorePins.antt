-- The pins of a core are those of its cell and behind them one output for each three-state output.
use Rattle.std.proofs.Common.{◌≡◌, ℕ, ◌+◌, Bool, true, false, not, ◌&&◌, ◌==◌, List, [], ◌∷◌, ◌++◌, length, refl, sym, ap, ◌∙◌}
use Rattle.std.proofs.Common.{append_assoc, map, filter, codes, decimal, Option, Some, None, is_some, unwrap_or}
use Rattle.std.specs.Prelude.{flat_map, bytes_eq, if◌then◌else◌}
use Rattle.std.specs.List.{cons_option}
use Rattle.std.proofs.lemmas.Bool.{and_parts}
use Rattle.std.proofs.lemmas.Slice.Eq.{bytes_eq-Decides}
use Rattle.liberty_groups.specs.declared.tree.Value.{Value}
use Rattle.liberty_groups.specs.declared.tree.Item.{Item, out-Item}
use Rattle.liberty_groups.specs.declared.tree.Item.TheOpen.{Item-F, Group-F}
use Rattle.liberty_groups.specs.declared.tree.Item.TheOpen as layer
use Rattle.liberty_groups.specs.declared.tree.Item.TheVariants as item
use Rattle.liberty_groups.specs.declared.tree.Item.TheViews.{outs-Simple, outs-Inner, out-roll-Group}
use Rattle.liberty_groups.specs.declared.tree.Group.{Group, roll-Group}
use Rattle.liberty_groups.specs.Attributes.{Attribute, simple_named, attributes_named, last_or}
use Rattle.cell_machine.specs.declared.pins.Direction.{Direction}
use Rattle.cell_machine.specs.declared.pins.Direction.TheVariants.{Input, Output}
use Rattle.cell_machine.specs.declared.pins.Pin.{Pin}
use Rattle.cell_attributes.specs.Groups.{inner_of, inner_groups, is_pin}
use Rattle.cell_attributes.specs.Scans.{is_output_group}
use Rattle.cell_attributes.specs.Pins.{direction_as, direction_of, pins_in, pins_of, owners_of}
use Rattle.core_groups.specs.Outputs.{ThreeStateOutput, three_state_of, is_three_state, outputs_from, three_state_outputs}
use Rattle.core_groups.specs.CoreGroups.{stays_in_core, core_pin, core_statement_as, core_statement, one_value, enable_function}
use Rattle.core_groups.specs.CoreGroups.{enable_statements, enable_pin, enable_pin_of, enable_pins, core_group}
use Rattle.three_state_cells.specs.Laws.{enable_output, enable_outputs, CorePinsAre}
use Rattle.core_groups.proofs.Statements.{not_false, attributes_kept}

-- The pins of a group statement by statement.

abbrev pins_among : List Item → List Pin
pins_among items = flat_map pins_in (filter is_pin (inner_groups items))

abbrev pins_by : Item-F Item Group → List Pin
pins_by (layer.Simple name value at) = []
pins_by (layer.Complex name arguments at) = []
pins_by (layer.Inner group) = if is_pin group then pins_in group else []

by_pin : (b : Bool) (group : Group) (groups : List Group)
    → flat_map pins_in (if b then group ∷ filter is_pin groups else filter is_pin groups) ≡ (if b then pins_in group else [])
    ++ flat_map pins_in (filter is_pin groups)
by_pin true group groups = refl
by_pin false group groups = refl

by_layer : (one : Item-F Item Group) (groups : List Group)
    → flat_map pins_in (filter is_pin (cons_option (inner_of one) groups)) ≡ pins_by one
    ++ flat_map pins_in (filter is_pin groups)
by_layer (layer.Simple name value at) groups = refl
by_layer (layer.Complex name arguments at) groups = refl
by_layer (layer.Inner group) groups = by_pin (is_pin group) group groups

among_cons : (one : Item) (items : List Item) → pins_among (one ∷ items) ≡ pins_by (out-Item one) ++ pins_among items
among_cons one items = by_layer (out-Item one) (inner_groups items)

among_append : (xs ys : List Item) → pins_among (xs ++ ys) ≡ pins_among xs ++ pins_among ys
among_append [] ys = refl
among_append (x ∷ xs) ys =
    among_cons x (xs ++ ys)
    ∙ (ap (λ (pins : List Pin). pins_by (out-Item x) ++ pins) (among_append xs ys)
    ∙ (sym (append_assoc (pins_by (out-Item x)) (pins_among xs) (pins_among ys))
    ∙ ap (λ (pins : List Pin). pins ++ pins_among ys) (sym (among_cons x xs))))

-- What stays of a three-state output makes the same pins.

gone_is_no_direction : (one : Item-F Item Group) → stays_in_core one ≡ false → simple_named (codes "direction") one ≡ None
gone_is_no_direction (layer.Simple name value at) h =
    let named : name ≡ codes "three_state" =
    (bytes_eq-Decides name (codes "three_state")).0 (not_false (bytes_eq name (codes "three_state")) h) in
    rw named refl
gone_is_no_direction (layer.Complex name arguments at) h = refl
gone_is_no_direction (layer.Inner group) h = refl

abbrev pub core_as : Group → Group-F Item Group
core_as pin = record {
  name = pin.name;
  arguments = pin.arguments;
  items =
      filter (λ item. stays_in_core (out-Item item)) pin.items;
  at = pin.at;
}

core_direction : (pin : Group) → direction_of (core_pin pin) ≡ direction_of pin
core_direction pin =
    ap (λ (one : Group-F Item Group). direction_as (last_or None (attributes_named (codes "direction") one.items)))
    (out-roll-Group (core_as pin))
    ∙ ap (λ (found : List Attribute). direction_as (last_or None found))
    (attributes_kept (codes "direction") stays_in_core gone_is_no_direction pin.items)

core_is_pin : (pin : Group) → is_pin (core_pin pin) ≡ is_pin pin
core_is_pin pin =
    ap (λ (one : Group-F Item Group). bytes_eq one.name (codes "pin") && not (length one.arguments == 0))
    (out-roll-Group (core_as pin))

abbrev named_pin : Option Direction → Value → Pin
named_pin direction value = record { name = value.bytes; direction = unwrap_or direction Input }

abbrev named_pins : Option Direction → List Value → List Pin
named_pins direction arguments = map (named_pin direction) arguments

core_pins_in : (pin : Group) → pins_in (core_pin pin) ≡ pins_in pin
core_pins_in pin =
    ap (λ (direction : Option Direction). named_pins direction (core_pin pin).arguments) (core_direction pin)
    ∙ ap (λ (one : Group-F Item Group). named_pins (direction_of pin) one.arguments) (out-roll-Group (core_as pin))

stays_by : (b : Bool) (whole : Item) (pin : Group) → out-Item whole ≡ layer.Inner pin
    → pins_by (out-Item (if b then item.Inner (core_pin pin) else whole)) ≡ pins_by (layer.Inner pin)
stays_by true whole pin e =
    ap pins_by (outs-Inner (core_pin pin))
    ∙ (ap (λ (b : Bool). if b then pins_in (core_pin pin) else []) (core_is_pin pin)
    ∙ ap (λ (pins : List Pin). if is_pin pin then pins else []) (core_pins_in pin))
stays_by false whole pin e = ap pins_by e

by_core : (whole : Item) (one : Item-F Item Group) → out-Item whole ≡ one
    → pins_by (out-Item (core_statement_as whole one)) ≡ pins_by one
by_core whole (layer.Simple name value at) e = ap pins_by e
by_core whole (layer.Complex name arguments at) e = ap pins_by e
by_core whole (layer.Inner pin) e = stays_by (is_three_state pin) whole pin e

same_among : (items : List Item) → pins_among (map core_statement items) ≡ pins_among items
same_among [] = refl
same_among (one ∷ items) =
    among_cons (core_statement one) (map core_statement items)
    ∙ (ap (λ (pins : List Pin). pins ++ pins_among (map core_statement items)) (by_core one (out-Item one) refl)
    ∙ (ap (λ (pins : List Pin). pins_by (out-Item one) ++ pins) (same_among items) ∙ sym (among_cons one items)))

-- The outputs that are added.

abbrev pub enable_as : ℕ → Attribute → Group-F Item Group
enable_as number floats = record {
  name = codes "pin";
  arguments = one_value (codes "-e" ++ decimal (number + 1));
  items =
      enable_statements floats;
  at = floats.at;
}

enable_direction : (floats : Attribute)
    → last_or None (attributes_named (codes "direction") (enable_statements floats)) ≡ Some
    (record { text = codes "output"; at = floats.at })
enable_direction floats =
    ap (λ (one : Item-F Item Group). last_or None
    (cons_option (simple_named (codes "direction") one)
    (attributes_named (codes "direction")
    (item.Simple (codes "function") (one_value (enable_function floats.text)) floats.at ∷ []))))
    (outs-Simple (codes "direction") (one_value (codes "output")) floats.at)
    ∙ ap (λ (one : Item-F Item Group). last_or (Some (record { text = codes "output"; at = floats.at }))
    (cons_option (simple_named (codes "direction") one) []))
    (outs-Simple (codes "function") (one_value (enable_function floats.text)) floats.at)

enabled_pin : (number : ℕ) (floats : Attribute) → pins_by (out-Item (enable_pin number floats)) ≡ enable_output number ∷ []
enabled_pin number floats =
    let group : Group = roll-Group (enable_as number floats) in
    let direction : direction_of group ≡ Some Output =
    ap (λ (one : Group-F Item Group). direction_as (last_or None (attributes_named (codes "direction") one.items)))
    (out-roll-Group (enable_as number floats))
    ∙ ap direction_as (enable_direction floats) in
    let pin : is_pin group ≡ true =
    ap (λ (one : Group-F Item Group). bytes_eq one.name (codes "pin") && not (length one.arguments == 0))
    (out-roll-Group (enable_as number floats)) in
    ap pins_by (outs-Inner group)
    ∙ (ap (λ (b : Bool). if b then pins_in group else []) pin
    ∙ (ap (λ (d : Option Direction). named_pins d group.arguments) direction
    ∙ ap (λ (one : Group-F Item Group). named_pins (Some Output) one.arguments) (out-roll-Group (enable_as number floats))))

pub three_state_floats : (group : Group) → is_three_state group ≡ true → is_some (three_state_of group) ≡ true
unfolding is_three_state
three_state_floats group h =
    (and_parts (is_output_group (direction_of group)) (is_some (three_state_of group))
    (and_parts (is_pin group) (is_output_group (direction_of group) && is_some (three_state_of group)) h).1).1

enabled_by : (floats : Option Attribute) (number : ℕ) (items : List Item) → is_some floats ≡ true
    → pins_among (enable_pin_of number floats ++ items) ≡ enable_output number ∷ pins_among items
enabled_by None number items h = absurd cc
enabled_by (Some floats) number items h =
    among_cons (enable_pin number floats) items ∙ ap (λ (pins : List Pin). pins ++ pins_among items) (enabled_pin number floats)

abbrev IsEnabled : ℕ → List ThreeStateOutput → Type 0
IsEnabled number outputs = pins_among (enable_pins number outputs) ≡ enable_outputs number outputs

enabled_all : (number pin : ℕ) (groups : List Group) → IsEnabled number (outputs_from pin groups)
enabled_all number pin [] = refl
enabled_all number pin (group ∷ groups) =
    by (is_three_state group) refl (enabled_all number (pin + 1) groups) (enabled_all (number + 1) (pin + 1) groups)
  where
    by : (b : Bool) → is_three_state group ≡ b → IsEnabled number (outputs_from (pin + 1) groups)
        → IsEnabled (number + 1) (outputs_from (pin + 1) groups)
        → IsEnabled number (outputs_from pin (group ∷ groups))
    by true e same more =
        rw e
        (enabled_by (three_state_of group) number (enable_pins (number + 1) (outputs_from (pin + 1) groups))
        (three_state_floats group e)
        ∙ ap (λ (pins : List Pin). enable_output number ∷ pins) more)
    by false e same more = rw e same

abbrev pub core_of_cell : Group → Group-F Item Group
core_of_cell cell = record {
  name = cell.name;
  arguments = cell.arguments;
  items = map core_statement cell.items ++ enable_pins 0 (three_state_outputs cell);
  at = cell.at;
}

pub core_statements : (cell : Group)
    → (core_group cell).items ≡ map core_statement cell.items ++ enable_pins 0 (three_state_outputs cell)
unfolding core_group
core_statements cell = ap (λ (one : Group-F Item Group). one.items) (out-roll-Group (core_of_cell cell))

pub core_pins_are : CorePinsAre
core_pins_are cell =
    ap pins_among (core_statements cell)
    ∙ (among_append (map core_statement cell.items) (enable_pins 0 (three_state_outputs cell))
    ∙ (ap (λ (pins : List Pin). pins ++ pins_among (enable_pins 0 (three_state_outputs cell))) (same_among cell.items)
    ∙ ap (λ (pins : List Pin). pins_of cell ++ pins) (enabled_all 0 0 (owners_of cell))))
