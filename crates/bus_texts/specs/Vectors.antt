-- The names in a cell that stand for several bits: buses, bundles and the variables of banks (Liberty Reference Manual,
-- `bus`, `bundle`, `ff_bank` and `latch_bank` groups).
use Rattle.std.specs.Prelude.{ℕ, Bool, ◌||◌, ◌&&◌, ◌==◌, nat_le, List, [], ◌∷◌, ◌++◌, length, map, flat_map, find, codes, decimal}
use Rattle.std.specs.Prelude.{bytes_eq}
use Rattle.std.specs.Prelude.{Option, Some, None, if◌then◌else◌}
use Rattle.liberty_groups.specs.declared.tree.Value.{Value}
use Rattle.liberty_groups.specs.declared.tree.Item.{Item, out-Item}
use Rattle.liberty_groups.specs.declared.tree.Item.TheOpen.{Item-F}
use Rattle.liberty_groups.specs.declared.tree.Item.TheOpen as layer
use Rattle.liberty_groups.specs.declared.tree.Group.{Group}
use Rattle.bus_texts.specs.declared.bus_types.BusType.{BusType}
use Rattle.bus_texts.specs.declared.vectors.Vector.{Vector}
use Rattle.bus_texts.specs.declared.vectors.VectorKind.{VectorKind}
use Rattle.bus_texts.specs.declared.vectors.VectorKind.TheVariants as kinds
use Rattle.bus_texts.specs.declared.vectors.Bank.{Bank as HeldBank}
use Rattle.bus_texts.specs.Numbers.{digits_number, bits_towards}
use Rattle.bus_texts.specs.BusTypes.{bits_of, type_of}

abbrev pub is_called : List ℕ → Group → Bool
is_called name group = bytes_eq group.name name

-- a group of several state variables
abbrev pub is_bank : Group → Bool
is_bank group = is_called (codes "ff_bank") group || is_called (codes "latch_bank") group

-- the member of a vector for a bit
abbrev pub member_name : List ℕ → ℕ → List ℕ
member_name name bit = name ++ (codes "_" ++ decimal bit)

-- the members of a bus, in the order of its positions
abbrev pub bits_in : Option BusType → List ℕ
bits_in None = []
bits_in (Some shape) = bits_of shape

-- a vector with a member for each bit
abbrev pub bit_vector : VectorKind → List ℕ → List ℕ → Vector
bit_vector kind bits name = record { name = name; kind = kind; bits = bits; members = map (member_name name) bits }

-- The buses of a group: each argument is a name of one.
abbrev pub bus_named : List ℕ → Value → Vector
bus_named bits name = bit_vector kinds.Bus bits name.bytes

abbrev pub buses_in : List BusType → Group → List Vector
buses_in types bus = map (bus_named (bits_in (type_of types bus))) bus.arguments

-- the members that a statement names
abbrev pub members_as : Item-F Item Group → List Value
members_as (layer.Simple name value at) = []
members_as (layer.Complex name arguments at) = if bytes_eq name (codes "members") then arguments else []
members_as (layer.Inner group) = []

-- The members of a bundle: all that its `members` statements name, in order.
abbrev pub members_in : Item → List (List ℕ)
members_in item = map (λ (value : Value). value.bytes) (members_as (out-Item item))

abbrev pub bundle_members : Group → List (List ℕ)
bundle_members bundle = flat_map members_in bundle.items

abbrev pub bundle_vector : List (List ℕ) → List ℕ → Vector
bundle_vector members name = record { name = name; kind = kinds.Bundle; bits = []; members = members }

-- The bundles of a group: each argument is a name of one.
abbrev pub bundle_named : List (List ℕ) → Value → Vector
bundle_named members name = bundle_vector members name.bytes

abbrev pub bundles_in : Group → List Vector
bundles_in bundle = map (bundle_named (bundle_members bundle)) bundle.arguments

-- The buses or bundles that a group makes.
abbrev pub pin_vectors : List BusType → Group → List Vector
pin_vectors types group =
    if is_called (codes "bus") group then buses_in types group
    else (if is_called (codes "bundle") group then bundles_in group else [])

-- A bank of states: its two variables and its width.
pub record Bank : Type 0 where
  pub first : List ℕ
  pub second : List ℕ
  pub width : ℕ

abbrev pub shown_bank : HeldBank → Bank
shown_bank bank = record { first = bank.first.now; second = bank.second.now; width = bank.width }

-- A width is a number from 1 to 16. (This project's rule.)
abbrev pub bank_with : List ℕ → List ℕ → Option ℕ → Option Bank
bank_with first second None = None
bank_with first second (Some width) =
    if nat_le 1 width && nat_le width 16 then Some (record { first = first; second = second; width = width }) else None

abbrev pub bank_between : List Value → Option Bank
bank_between (first ∷ second ∷ width ∷ []) = bank_with first.bytes second.bytes (digits_number width.bytes)
bank_between _ = None

abbrev pub bank_of : Group → Option Bank
bank_of group = bank_between group.arguments

-- the numbers from 0 on
abbrev pub positions : ℕ → List ℕ
positions width = bits_towards width width 0

-- A variable of a bank stands for one of each state: the bit is the position.
abbrev pub variables_of : Bank → List Vector
variables_of bank =
    bit_vector kinds.Variable (positions bank.width) bank.first ∷ bit_vector kinds.Variable (positions bank.width) bank.second
    ∷ []

abbrev pub variables_as : Option Bank → List Vector
variables_as None = []
variables_as (Some bank) = variables_of bank

abbrev pub variables_in : Group → List Vector
variables_in group = if is_bank group then variables_as (bank_of group) else []

-- those that one statement of a cell makes
abbrev pub item_pin_vectors : List BusType → Item-F Item Group → List Vector
item_pin_vectors types (layer.Simple name value at) = []
item_pin_vectors types (layer.Complex name arguments at) = []
item_pin_vectors types (layer.Inner group) = pin_vectors types group

abbrev pub item_variables : Item-F Item Group → List Vector
item_variables (layer.Simple name value at) = []
item_variables (layer.Complex name arguments at) = []
item_variables (layer.Inner group) = variables_in group

-- All of a cell: its buses and bundles, and behind them the variables of its banks.
abbrev pub pin_vectors_in : List BusType → Item → List Vector
pin_vectors_in types item = item_pin_vectors types (out-Item item)

abbrev pub variables_at : Item → List Vector
variables_at item = item_variables (out-Item item)

abbrev pub all_pin_vectors : List BusType → Group → List Vector
all_pin_vectors types cell = flat_map (pin_vectors_in types) cell.items

abbrev pub all_variables : Group → List Vector
all_variables cell = flat_map variables_at cell.items

abbrev pub cell_vectors : List BusType → Group → List Vector
cell_vectors types cell = all_pin_vectors types cell ++ all_variables cell

-- The vector of a name: of several the first. (This project's rule: a bus or bundle goes before a variable.)
abbrev pub has_name : List ℕ → Vector → Bool
has_name name vector = bytes_eq vector.name name

abbrev pub vector_named : List Vector → List ℕ → Option Vector
vector_named vectors name = if length name == 0 then None else find (has_name name) vectors
