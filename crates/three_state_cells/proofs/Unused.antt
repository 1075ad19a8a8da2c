-- Timing groups without groups in them have no tables, so that nothing of them is read.
use Rattle.std.proofs.Common.{◌≡◌, ℕ, Bool, true, false, not, ◌&&◌, ◌||◌, ◌==◌, List, [], ◌∷◌, ◌++◌, length, map, filter}
use Rattle.std.proofs.Common.{if◌then◌else◌, refl, ap, ◌∙◌, codes, Option, Some, None}
use Rattle.std.specs.Prelude.{bytes_eq, flat_map, slice_get}
use Rattle.std.specs.Option.{option_map_or}
use Rattle.std.specs.List.{list_any, cons_option}
use Rattle.std.proofs.Math.Bool.{and-false as no_and}
use Rattle.std.proofs.lemmas.Bool.{or_parts}
use Rattle.liberty_groups.specs.declared.tree.Item.{Item, out-Item}
use Rattle.liberty_groups.specs.declared.tree.Item.TheOpen.{Item-F, Group-F}
use Rattle.liberty_groups.specs.declared.tree.Item.TheOpen as layer
use Rattle.liberty_groups.specs.declared.tree.Item.TheViews.{outs-Inner, out-roll-Group}
use Rattle.liberty_groups.specs.declared.tree.Group.{Group}
use Rattle.liberty_groups.specs.Attributes.{Attribute, simple_named, group_named, attributes_named, groups_named, attribute_of}
use Rattle.liberty_groups.specs.Attributes.{place_of}
use Rattle.cell_machine.specs.declared.pins.Pin.{Pin}
use Rattle.cell_machine.specs.Names.{has}
use Rattle.timing_arcs.specs.declared.subject.Subject.{Subject}
use Rattle.timing_arcs.specs.TimingTypes.{type_of, stands_under, rise_table, fall_table, has_table, is_used}
use Rattle.timing_arcs.specs.RelatedPins.{related_of, inputs_of, is_driven, is_unknown, is_read}
use Rattle.timing_arcs.specs.Conditions.{condition_of, is_malformed, has_unknown}
use Rattle.timing_arcs.specs.Tables.{bad_numbers_at}
use Rattle.timing_arcs.specs.Timing.{malformed_in, unknown_in, bad_numbers_in}
use Rattle.cell_reader.specs.Written.{numbers_written, own_written, own_in}
use Rattle.cell_attributes.specs.Groups.{is_called}
use Rattle.core_groups.specs.DriverGroups.{has_type, is_unread, is_no_type, read_items, driver_timing, driver_item}
use Rattle.three_state_cells.specs.Trimmed.{is_group, has_groups, is_timing}

-- Whether one of some statements is a group, and a timing group with groups in it.
abbrev some_group : List Item → Bool
some_group items = list_any (λ item. is_group (out-Item item)) items

abbrev some_timing : List Item → Bool
some_timing items = list_any (λ item. is_timing (out-Item item)) items

no_group_named : (name : List ℕ) (items : List Item) → some_group items ≡ false → groups_named name items ≡ []
no_group_named name [] e = refl
no_group_named name (item ∷ items) e =
    let parts = or_parts (is_group (out-Item item)) (some_group items) e in
    by (out-Item item) parts.0 (no_group_named name items parts.1)
  where
    by : (y : Item-F Item Group) → is_group y ≡ false → groups_named name items ≡ []
        → cons_option (group_named name y) (groups_named name items) ≡ []
    by (layer.Simple n value at) e rest = rest
    by (layer.Complex n arguments at) e rest = rest
    by (layer.Inner group) e rest = absurd cc

no_table : (group : Group) → has_groups group ≡ false → has_table group ≡ false
no_table group e =
    λ i. not (length (no_group_named (rise_table (type_of group)) group.items e i) == 0)
    || not (length (no_group_named (fall_table (type_of group)) group.items e i) == 0)

module _ (s : Subject) (group : Group) (none : has_groups group ≡ false) where
  unused : is_used s group ≡ false
  unfolding is_used
  unused =
      let stands : Bool =
      option_map_or (λ (pin : Pin). stands_under (type_of group) pin.direction) (slice_get s.pins s.place) false in
      ap (λ b. stands && b) (no_table group none) ∙ no_and stands

  unread : is_read s group ≡ false
  unread = ap (λ b. b && list_any (λ related. not (is_driven related)) (related_of s group)) unused

  pub no_malformed_in : malformed_in s group ≡ []
  no_malformed_in =
      ap (λ b. if b && is_malformed (condition_of s group) then place_of (attribute_of group (codes "when")) else []) unread

  pub no_unknown_in : unknown_in s group ≡ []
  no_unknown_in =
      λ i. (if unused i && list_any is_unknown (related_of s group)
      then place_of (attribute_of group (codes "related_pin")) else [])
      ++ (if unread i && has_unknown (condition_of s group) then place_of (attribute_of group (codes "when")) else [])

  pub no_own_in : own_in s group ≡ []
  no_own_in = by (attribute_of group (codes "when"))
    where
      by : (o : Option Attribute) → own_written s group o ≡ []
      by None = refl
      by (Some attribute) =
          ap (λ b. if b && list_any (has (s.place ∷ inputs_of s group)) (numbers_written s.names attribute.text)
          then attribute.at ∷ [] else []) unread

  pub no_numbers_in : bad_numbers_in s group ≡ []
  no_numbers_in =
      ap (λ b. if b then bad_numbers_at s.unit (rise_table (type_of group)) group
      ++ bad_numbers_at s.unit (fall_table (type_of group)) group else []) unread

-- What is told of each timing group is nothing, where none has groups and nothing is told of such ones.
pub quiet_timings : (f : Group → List ℕ) → ((group : Group) → has_groups group ≡ false → f group ≡ []) → (items : List Item)
    → some_timing items ≡ false → flat_map f (groups_named (codes "timing") items) ≡ []
quiet_timings f none [] e = refl
quiet_timings f none (item ∷ items) e =
    let parts = or_parts (is_timing (out-Item item)) (some_timing items) e in
    by (out-Item item) parts.0 (quiet_timings f none items parts.1)
  where
    inner : (b : Bool) (group : Group) → (b && has_groups group) ≡ false
        → flat_map f (groups_named (codes "timing") items) ≡ []
        → flat_map f (cons_option (if b then Some group else None) (groups_named (codes "timing") items)) ≡ []
    inner true group e rest = λ i. none group e i ++ rest i
    inner false group e rest = rest

    by : (y : Item-F Item Group) → is_timing y ≡ false → flat_map f (groups_named (codes "timing") items) ≡ []
        → flat_map f (cons_option (group_named (codes "timing") y) (groups_named (codes "timing") items)) ≡ []
    by (layer.Simple name value at) e rest = rest
    by (layer.Complex name arguments at) e rest = rest
    by (layer.Inner group) e rest = inner (bytes_eq group.name (codes "timing")) group e rest

-- The delays of three-state outputs have no groups either.
untyped_groups : (items : List Item) → some_group items ≡ false
    → some_group (filter (λ item. is_no_type (out-Item item)) items) ≡ false
untyped_groups [] e = refl
untyped_groups (item ∷ items) e =
    let parts = or_parts (is_group (out-Item item)) (some_group items) e in
    by (is_no_type (out-Item item)) parts.0 (untyped_groups items parts.1)
  where
    by : (b : Bool) → is_group (out-Item item) ≡ false
        → some_group (filter (λ item. is_no_type (out-Item item)) items) ≡ false
        → some_group (if b then item ∷ filter (λ item. is_no_type (out-Item item)) items
        else filter (λ item. is_no_type (out-Item item)) items) ≡ false
    by true e rest = ap (λ b. b || some_group (filter (λ item. is_no_type (out-Item item)) items)) e ∙ rest
    by false e rest = rest

read_groups : (group : Group) → has_groups group ≡ false → some_group (read_items group) ≡ false
read_groups group e = by (is_unread group) (has_type (codes "three_state_enable") group)
  where
    by : (b c : Bool) → some_group (if b then []
        else (if c then filter (λ item. is_no_type (out-Item item)) group.items else group.items)) ≡ false
    by true c = refl
    by false true = untyped_groups group.items e
    by false false = e

driver_groups : (group : Group) → has_groups group ≡ false → has_groups (driver_timing group) ≡ false
driver_groups group e =
    ap (λ (one : Group-F Item Group). some_group one.items)
    (out-roll-Group (record { name = group.name; arguments = group.arguments; items = read_items group; at = group.at }))
    ∙ read_groups group e

quiet_driver : (group : Group) → has_groups group ≡ false → is_timing (out-Item (driver_item group)) ≡ false
quiet_driver group e =
    ap is_timing (outs-Inner (driver_timing group))
    ∙ (ap (λ b. is_called (codes "timing") (driver_timing group) && b) (driver_groups group e)
    ∙ no_and (is_called (codes "timing") (driver_timing group)))

pub quiet_drivers : (items : List Item) → some_timing items ≡ false
    → some_timing (map driver_item (groups_named (codes "timing") items)) ≡ false
quiet_drivers [] e = refl
quiet_drivers (item ∷ items) e =
    let parts = or_parts (is_timing (out-Item item)) (some_timing items) e in
    by (out-Item item) parts.0 (quiet_drivers items parts.1)
  where
    inner : (b : Bool) (group : Group) → (b && has_groups group) ≡ false
        → some_timing (map driver_item (groups_named (codes "timing") items)) ≡ false
        → some_timing (map driver_item (cons_option (if b then Some group else None) (groups_named (codes "timing") items)))
        ≡ false
    inner true group e rest =
        ap (λ b. b || some_timing (map driver_item (groups_named (codes "timing") items))) (quiet_driver group e) ∙ rest
    inner false group e rest = rest

    by : (y : Item-F Item Group) → is_timing y ≡ false
        → some_timing (map driver_item (groups_named (codes "timing") items)) ≡ false
        → some_timing (map driver_item (cons_option (group_named (codes "timing") y) (groups_named (codes "timing") items)))
        ≡ false
    by (layer.Simple name value at) e rest = rest
    by (layer.Complex name arguments at) e rest = rest
    by (layer.Inner group) e rest = inner (bytes_eq group.name (codes "timing")) group e rest

-- They are groups alone, so that there are no attributes.
pub no_attributes : (name : List ℕ) (groups : List Group) → attributes_named name (map driver_item groups) ≡ []
no_attributes name [] = refl
no_attributes name (group ∷ groups) =
    λ i. cons_option (simple_named name (outs-Inner (driver_timing group) i)) (no_attributes name groups i)
