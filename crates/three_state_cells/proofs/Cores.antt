-- The core of a cell whose pin groups are taken apart: it is the core of the cell, with its pin groups taken apart.
use Rattle.std.proofs.Common.{◌≡◌, Bool, true, false, ◌&&◌, List, [], ◌∷◌, ◌++◌, map, filter, codes, Option, Some, None, refl}
use Rattle.std.proofs.Common.{if◌then◌else◌, length, not, ◌==◌, sym, ap, ◌∙◌}
use Rattle.std.specs.Prelude.{flat_map, bytes_eq}
use Rattle.std.specs.Option.{option_map}
use Rattle.std.specs.List.{cons_option}
use Rattle.std.proofs.lemmas.List.{map-append}
use Rattle.liberty_groups.specs.declared.tree.Value.{Value}
use Rattle.liberty_groups.specs.declared.tree.Item.{Item, out-Item}
use Rattle.liberty_groups.specs.declared.tree.Item.TheOpen.{Item-F, Group-F}
use Rattle.liberty_groups.specs.declared.tree.Item.TheOpen as layer
use Rattle.liberty_groups.specs.declared.tree.Item.TheVariants as item
use Rattle.liberty_groups.specs.declared.tree.Item.TheViews.{outs-Inner, out-roll-Group}
use Rattle.liberty_groups.specs.declared.tree.Group.{Group, roll-Group}
use Rattle.cell_attributes.specs.Groups.{is_called, is_pin, inner_of, inner_groups}
use Rattle.core_groups.specs.Outputs.{is_three_state, three_state_outputs}
use Rattle.core_groups.specs.CoreGroups.{stays_in_core, core_pin, core_statement_as, core_statement, enable_pins, core_group}
use Rattle.three_state_cells.specs.Trimmed.{in_core}
use Rattle.three_state_cells.proofs.CorePins.{core_as, core_of_cell, core_statements}
use Rattle.three_state_cells.proofs.Single.{single, same_floating}
use Rattle.three_state_cells.proofs.Lists.{apart, apart_by, apart_in, apart_append, some_name}

pub called_by : (b : Bool) (group : Group)
    → is_called (codes "pin") (if b then core_pin group else group) ≡ is_called (codes "pin") group
called_by true group = ap (λ (one : Group-F Item Group). bytes_eq one.name (codes "pin")) (out-roll-Group (core_as group))
called_by false group = refl

pub names_by : (b : Bool) (group : Group) → (if b then core_pin group else group).arguments ≡ group.arguments
names_by true group = ap (λ (one : Group-F Item Group). one.arguments) (out-roll-Group (core_as group))
names_by false group = refl

-- One of several names stands in the core as they all do.
abbrev shape_of : Group → Value → Group-F Item Group
shape_of group value = record { name = codes "pin"; arguments = value ∷ []; items = group.items; at = group.at }

abbrev pub kept : Group-F Item Group → Group
kept one =
    roll-Group (record {
      name = one.name;
      arguments = one.arguments;
      items = filter (λ item. stays_in_core (out-Item item)) one.items;
      at = one.at;
    })

abbrev named : Value → Group-F Item Group → Group
named value one = roll-Group (record { name = codes "pin"; arguments = value ∷ []; items = one.items; at = one.at })

single_by : (b : Bool) (group : Group) (value : Value)
    → (if b then core_pin (single group value) else single group value) ≡ single (if b then core_pin group else group) value
single_by true group value =
    ap kept (out-roll-Group (shape_of group value)) ∙ sym (ap (named value) (out-roll-Group (core_as group)))
single_by false group value = refl

single_in_core : (group : Group) (value : Value) → is_pin group ≡ true
    → in_core (single group value) ≡ single (in_core group) value
single_in_core group value is =
    ap (λ b. if b then core_pin (single group value) else single group value) (same_floating group value is)
    ∙ single_by (is_three_state group) group value

singles_in_core : (group : Group) → is_pin group ≡ true → (values : List Value)
    → map in_core (map (single group) values) ≡ map (single (in_core group)) values
singles_in_core group is [] = refl
singles_in_core group is (value ∷ values) = λ i. single_in_core group value is i ∷ singles_in_core group is values i

apart_as_core : (group : Group) → apart (in_core group) ≡ map in_core (apart group)
apart_as_core group = by (is_called (codes "pin") group) group.arguments refl refl
  where
    whole : apart (in_core group) ≡ (if is_called (codes "pin") group then map (single (in_core group)) group.arguments
        else in_core group ∷ [])
    whole = λ i.
        if called_by (is_three_state group) group i then map (single (in_core group)) (names_by (is_three_state group) group i)
        else in_core group ∷ []

    by : (b : Bool) (values : List Value) → is_called (codes "pin") group ≡ b → group.arguments ≡ values
        → apart (in_core group) ≡ map in_core (apart group)
    by false values e f =
        whole
        ∙ (ap (λ b. if b then map (single (in_core group)) group.arguments else in_core group ∷ []) e
        ∙ sym (ap (λ b. map in_core (apart_by b group)) e))
    by true [] e f =
        whole
        ∙ ((λ i. if e i then map (single (in_core group)) (f i) else in_core group ∷ [])
        ∙ sym (λ i. map in_core (if e i then map (single group) (f i) else group ∷ [])))
    by true (value ∷ values) e f =
        let is : is_pin group ≡ true = (λ i. e i && not (length (f i) == 0)) ∙ ap not (some_name value values) in
        whole
        ∙ (ap (λ b. if b then map (single (in_core group)) group.arguments else in_core group ∷ []) e
        ∙ (sym (singles_in_core group is group.arguments) ∙ sym (ap (λ b. map in_core (apart_by b group)) e)))

all_apart_as_core : (groups : List Group) → flat_map apart (map in_core groups) ≡ map in_core (flat_map apart groups)
all_apart_as_core [] = refl
all_apart_as_core (group ∷ groups) =
    (λ i. apart_as_core group i ++ all_apart_as_core groups i) ∙ sym (map-append in_core (apart group) (flat_map apart groups))

-- the groups among the statements of the core
statement_by : (b : Bool) (whole : Item) (group : Group) → out-Item whole ≡ layer.Inner group
    → inner_of (out-Item (if b then item.Inner (core_pin group) else whole)) ≡ Some (if b then core_pin group else group)
statement_by true whole group e = ap inner_of (outs-Inner (core_pin group))
statement_by false whole group e = ap inner_of e

statement_inner : (whole : Item) (y : Item-F Item Group) → out-Item whole ≡ y
    → inner_of (out-Item (core_statement_as whole y)) ≡ option_map in_core (inner_of y)
statement_inner whole (layer.Simple name value at) e = ap inner_of e
statement_inner whole (layer.Complex name arguments at) e = ap inner_of e
statement_inner whole (layer.Inner group) e = statement_by (is_three_state group) whole group e

cons_in_core : (o : Option Group) (groups : List Group)
    → cons_option (option_map in_core o) (map in_core groups) ≡ map in_core (cons_option o groups)
cons_in_core None groups = refl
cons_in_core (Some group) groups = refl

pub inner_in_core : (items : List Item) → inner_groups (map core_statement items) ≡ map in_core (inner_groups items)
inner_in_core [] = refl
inner_in_core (one ∷ items) =
    (λ i. cons_option (statement_inner one (out-Item one) refl i) (inner_in_core items i))
    ∙ cons_in_core (inner_of (out-Item one)) (inner_groups items)

-- The core of a cell.
module _ (cell : Group) where
  pub core_arguments : (core_group cell).arguments ≡ cell.arguments
  unfolding core_group
  core_arguments = ap (λ (one : Group-F Item Group). one.arguments) (out-roll-Group (core_of_cell cell))

  pub core_at : (core_group cell).at ≡ cell.at
  unfolding core_group
  core_at = ap (λ (one : Group-F Item Group). one.at) (out-roll-Group (core_of_cell cell))

  pub core_apart : apart_in (core_group cell).items
      ≡ map in_core (flat_map apart (inner_groups cell.items)) ++ apart_in (enable_pins 0 (three_state_outputs cell))
  core_apart =
      ap apart_in (core_statements cell)
      ∙ (apart_append (map core_statement cell.items) (enable_pins 0 (three_state_outputs cell))
      ∙ ap (λ groups. groups ++ apart_in (enable_pins 0 (three_state_outputs cell)))
      (ap (flat_map apart) (inner_in_core cell.items) ∙ all_apart_as_core (inner_groups cell.items)))
