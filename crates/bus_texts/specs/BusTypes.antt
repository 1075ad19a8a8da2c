-- The types of buses (Liberty Reference Manual, `type` group, `bit_from` and `bit_to`).
use Rattle.std.specs.Prelude.{◌≡◌, ◌<◌, ℕ, ◌+◌, ◌-◌, nat_le, List, [], ◌∷◌, length, filter, slice_get, codes, bytes_eq, Option}
use Rattle.std.specs.Prelude.{Some, None, IfSome, if◌then◌else◌}
use Rattle.std.specs.Option.{option_and_then}
use Rattle.first_names.specs.declared.places.FirstNames.{FirstNames}
use Rattle.first_names.specs.Places.{place_by}
use Rattle.liberty_groups.specs.declared.tree.Value.{Value}
use Rattle.liberty_groups.specs.declared.tree.Group.{Group}
use Rattle.liberty_groups.specs.Attributes.{Attribute, attribute_of, last_or}
use Rattle.bus_texts.specs.declared.bus_types.BusType.{BusType}
use Rattle.bus_texts.specs.Numbers.{short_number, bits_towards}

-- one to three digits (this project's rule: a number of more is none)
abbrev pub bit_of : Option Attribute → Option ℕ
bit_of None = None
bit_of (Some attribute) = short_number attribute.text

abbrev pub type_between : List Value → Option ℕ → Option ℕ → Option BusType
type_between (name ∷ []) (Some from) (Some to) = Some (record { name = name.bytes; from = from; to = to })
type_between (name ∷ []) (Some from) None = None
type_between (name ∷ []) None to = None
type_between [] from to = None
type_between (name ∷ other ∷ more) from to = None

-- The type that a `type` group of a library tells of.
abbrev pub bus_type_of : Group → Option BusType
bus_type_of group =
    type_between group.arguments (bit_of (attribute_of group (codes "bit_from"))) (bit_of (attribute_of group (codes "bit_to")))

-- how many positions a bus of a type has
abbrev pub bit_count : BusType → ℕ
bit_count kind = (if nat_le kind.from kind.to then kind.to - kind.from else kind.from - kind.to) + 1

-- The bits of a bus by their positions: position 0 is the bit `bit_from`, and the bit goes by one towards `bit_to`.
abbrev pub bits_of : BusType → List ℕ
bits_of kind = bits_towards kind.to (bit_count kind) kind.from

-- The type of this name that counts for a cell: the last of those that stand before it. (This project's rule.)
abbrev pub types_named : List ℕ → List BusType → List BusType
types_named name types = filter (λ (kind : BusType). bytes_eq kind.name name) types

abbrev pub last_type : List ℕ → List BusType → Option BusType
last_type name types = last_or None (types_named name types)

abbrev pub type_as : List BusType → Option Attribute → Option BusType
type_as types None = None
type_as types (Some attribute) = last_type attribute.text types

-- The type of a bus, which its `bus_type` names.
abbrev pub type_of : List BusType → Group → Option BusType
type_of types bus = type_as types (attribute_of bus (codes "bus_type"))

-- Each name stands for the place of the last of these types that has it.
pub record FindsLast (last : FirstNames) (types : List BusType) : Type 0 where
  pub same_length : length last.places ≡ length last.names
  pub within : (name : List ℕ) → IfSome (place_by last name) (λ place. place < length types)
  pub last_one : (name : List ℕ) → option_and_then (slice_get types) (place_by last name) ≡ last_type name types
