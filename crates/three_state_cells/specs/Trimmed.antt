-- A cell with more pins than the limit, of which pins behind the limit lose their timing groups and what is not read of them, and
-- what is wrong in the timing. (This project's rule: such a cell is refused, by its number of pins or by a reason with a lesser
-- number.)
use Rattle.std.specs.Prelude.{◌≡◌, ℕ, ◌+◌, Bool, true, false, not, ◌&&◌, ◌||◌, nat_le, List, [], ◌∷◌, length, map, filter}
use Rattle.std.specs.Prelude.{flat_map}
use Rattle.std.specs.Prelude.{drop, codes, Option, Some, None, Ok, Err, if◌then◌else◌}
use Rattle.std.specs.List.{list_any, list_all}
use Rattle.liberty_groups.specs.declared.tree.Value.{Value}
use Rattle.liberty_groups.specs.declared.tree.Item.{Item, out-Item}
use Rattle.liberty_groups.specs.declared.tree.Item.TheOpen.{Item-F}
use Rattle.liberty_groups.specs.declared.tree.Item.TheOpen as layer
use Rattle.liberty_groups.specs.declared.tree.Item.TheVariants as made
use Rattle.liberty_groups.specs.declared.tree.Group.{Group, roll-Group}
use Rattle.timing_arcs.specs.declared.subject.Subject.{Subject}
use Rattle.timing_arcs.specs.declared.fault.TimingFault.TheVariants as fault
use Rattle.timing_arcs.specs.Timing.{reading_answer}
use Rattle.cell_attributes.specs.Groups.{is_called, is_pin, inner_groups, pin_groups}
use Rattle.cell_attributes.specs.Pins.{owners_in, owners_of}
use Rattle.cell_reader.specs.declared.refusal.Reason.{Reason}
use Rattle.cell_reader.specs.declared.refusal.Reason.TheVariants as reason
use Rattle.cell_reader.specs.declared.refusal.Refusal.{Refusal}
use Rattle.cell_reader.specs.PinTimings.{Answer, subject_at}
use Rattle.cell_reader.specs.Refusals.{refusal_of}
use Rattle.core_groups.specs.Outputs.{is_three_state, CanBeNumbered}
use Rattle.core_groups.specs.CoreGroups.{core_pin, core_group}
use Rattle.three_state_cells.specs.Refusals.{first_of_two, driver_refusal}
use Rattle.three_state_cells.specs.PinAttributes.{untimed}

-- The offset of a statement.
abbrev pub place_in : Item-F Item Group → ℕ
place_in (layer.Simple name value at) = at
place_in (layer.Complex name arguments at) = at
place_in (layer.Inner group) = group.at

-- No statement of a group stands before this offset.
abbrev pub is_behind : ℕ → Item → Bool
is_behind at item = nat_le at (place_in (out-Item item))

abbrev pub all_behind : ℕ → Group → Bool
all_behind at group = list_all (is_behind at) group.items

-- A pin group is trimmed where it makes one pin, which stands behind the limit.
abbrev pub has_one : List Value → Bool
has_one (value ∷ []) = true
has_one [] = false
has_one (value ∷ other ∷ more) = false

abbrev pub is_trimmed : ℕ → Group → Bool
is_trimmed pin group = nat_le 64 pin && (is_pin group && has_one group.arguments)

abbrev pub trimmed_pin : ℕ → Group → Group
trimmed_pin pin group = if is_trimmed pin group then untimed group else group

abbrev pub is_trimmed_item : ℕ → Item-F Item Group → Bool
is_trimmed_item pin (layer.Simple name value at) = false
is_trimmed_item pin (layer.Complex name arguments at) = false
is_trimmed_item pin (layer.Inner group) = is_trimmed pin group

-- It loses timing where it has timing groups with groups in them. One without any has no table, so that nothing of it is read.
abbrev pub is_group : Item-F Item Group → Bool
is_group (layer.Simple name value at) = false
is_group (layer.Complex name arguments at) = false
is_group (layer.Inner group) = true

abbrev pub has_groups : Group → Bool
has_groups group = list_any (λ item. is_group (out-Item item)) group.items

abbrev pub is_timing : Item-F Item Group → Bool
is_timing (layer.Simple name value at) = false
is_timing (layer.Complex name arguments at) = false
is_timing (layer.Inner group) = is_called (codes "timing") group && has_groups group

abbrev pub is_timed : Group → Bool
is_timed group = list_any (λ item. is_timing (out-Item item)) group.items

abbrev pub loses : ℕ → Group → Bool
loses pin group = is_trimmed pin group && is_timed group

-- It has timing that is read apart from the trimmed core: what it loses, or the delays of three-state outputs.
abbrev pub has_apart : ℕ → Group → Bool
has_apart pin group = loses pin group || (is_three_state group && is_timed group)

abbrev pub has_apart_in : ℕ → Item-F Item Group → Bool
has_apart_in pin (layer.Simple name value at) = false
has_apart_in pin (layer.Complex name arguments at) = false
has_apart_in pin (layer.Inner group) = has_apart pin group

-- It keeps the order where none of its statements stands before it.
abbrev pub keeps_order : ℕ → Group → Bool
keeps_order pin group = not (is_trimmed pin group) || all_behind group.at group

abbrev pub keeps_order_in : ℕ → Item-F Item Group → Bool
keeps_order_in pin (layer.Simple name value at) = true
keeps_order_in pin (layer.Complex name arguments at) = true
keeps_order_in pin (layer.Inner group) = keeps_order pin group

-- Those do that make the pins from this number on.
abbrev pub all_keep_order : ℕ → List Group → Bool
all_keep_order pin [] = true
all_keep_order pin (owner ∷ owners) = keeps_order pin owner && all_keep_order (pin + 1) owners

-- How many pins a group of a cell makes.
abbrev pub pins_made : Group → ℕ
pins_made group = if is_pin group then length group.arguments else 0

abbrev pub pins_in_item : Item-F Item Group → ℕ
pins_in_item (layer.Simple name value at) = 0
pins_in_item (layer.Complex name arguments at) = 0
pins_in_item (layer.Inner group) = pins_made group

-- The statements of a cell, trimmed, where the first pin has this number.
abbrev pub trimmed_item : ℕ → Item-F Item Group → Item
trimmed_item pin (layer.Simple name value at) = made.Simple name value at
trimmed_item pin (layer.Complex name arguments at) = made.Complex name arguments at
trimmed_item pin (layer.Inner group) = made.Inner (trimmed_pin pin group)

abbrev pub trimmed_items : ℕ → List Item → List Item
trimmed_items pin [] = []
trimmed_items pin (item ∷ items) =
    trimmed_item pin (out-Item item) ∷ trimmed_items (pin + pins_in_item (out-Item item)) items

abbrev pub trimmed : Group → Group
trimmed cell =
    roll-Group (record {
      name = cell.name;
      arguments = cell.arguments;
      items = trimmed_items 0 cell.items;
      at = cell.at;
    })

-- There are pins behind the limit, and no group of one of them, and no statement of it, stands before that of the first.
abbrev pub stands_behind : ℕ → Group → Bool
stands_behind at owner = nat_le at owner.at && all_behind at owner

abbrev pub are_behind : List Group → Bool
are_behind [] = false
are_behind (first ∷ owners) = list_all (stands_behind first.at) (first ∷ owners)

abbrev pub is_in_order : Group → Bool
is_in_order cell = are_behind (drop 64 (owners_of cell))

-- What is wrong in the timing that a trimmed pin lost, as reading it tells.
abbrev pub refused_for : Reason → ℕ → Option Refusal
refused_for r at = Some (record { reason = r; at = at })

abbrev pub timing_told : Answer → Option Refusal
timing_told (Ok timing) = None
timing_told (Err (fault.Malformed at)) = refused_for reason.Malformed at
timing_told (Err (fault.UnknownName at)) = refused_for reason.UnknownName at
timing_told (Err (fault.OwnCondition at)) = refused_for reason.OwnCondition at
timing_told (Err (fault.Number at)) = refused_for reason.Number at

abbrev pub wrong_pin : Subject → ℕ → Group → Option Refusal
wrong_pin cell pin owner = if loses pin owner then timing_told (reading_answer (subject_at cell pin) owner) else None

-- What decides of a refusal and of all that is wrong in the timing of trimmed pins, where these groups make the pins from this
-- number on.
abbrev pub wrong_with : Subject → Option Refusal → ℕ → List Group → Option Refusal
wrong_with cell found pin [] = found
wrong_with cell found pin (owner ∷ owners) =
    wrong_with cell (first_of_two found (wrong_pin cell pin owner)) (pin + 1) owners

-- what decides of all that is wrong in the timing of the trimmed pins that statements of a cell make
abbrev pub owners_among : List Item → List Group
owners_among items = flat_map owners_in (filter is_pin (inner_groups items))

-- a group of a cell as it stands in the core
abbrev pub in_core : Group → Group
in_core group = if is_three_state group then core_pin group else group

-- what decides of all that is wrong in the timing that the pins of the core of a cell lose
abbrev pub lost_wrong : Subject → Group → Option Refusal
lost_wrong core cell = wrong_with core None 0 (map in_core (owners_of cell))

-- Nothing is wrong in the timing of a cell that is read apart from its trimmed core.
pub record HasNoneApart (cell : Group) : Type 0 where
  pub lost : (core : Subject) → lost_wrong core cell ≡ None
  pub delays : (core : Subject) → driver_refusal core (pin_groups cell) ≡ None

-- The core of a cell is refused as this is, which is the same core, trimmed, or for what is wrong in the timing that it lost. The
-- trimmed core is always refused: it has more pins than a cell may have.
pub record IsTrimmedCore (cell core : Group) : Type 0 where
  pub trims : core ≡ trimmed (core_group cell)
  pub few : CanBeNumbered (pin_groups cell)
  pub decides : (s : Subject) (earlier : List (List ℕ))
      → refusal_of s earlier (core_group cell) ≡ first_of_two (refusal_of s earlier core) (lost_wrong s cell)
  pub never : (s : Subject) (earlier : List (List ℕ)) → refusal_of s earlier core ≡ None → ⊥
