-- Why the group of a cell is not expanded: two reasons, of each the offsets at which it is met on the group as it stands (this
-- project's rules).
use Rattle.std.specs.Prelude.{ℕ, ◌+◌, Bool, false, true, not, ◌||◌, ◌&&◌, ◌==◌}
use Rattle.std.specs.Prelude.{nat_le, List, [], ◌∷◌, ◌++◌, length, flat_map, codes}
use Rattle.std.specs.Prelude.{Option, Some, None, is_none, if◌then◌else◌}
use Rattle.std.specs.List.{list_any}
use Rattle.liberty_groups.specs.declared.tree.Item.{Item, out-Item}
use Rattle.liberty_groups.specs.declared.tree.Item.TheOpen.{Item-F}
use Rattle.liberty_groups.specs.declared.tree.Item.TheOpen as layer
use Rattle.liberty_groups.specs.declared.tree.Group.{Group}
use Rattle.cell_machine.specs.Delay.{least}
use Rattle.bus_texts.specs.declared.bus_types.BusType.{BusType}
use Rattle.bus_texts.specs.declared.vectors.Vector.{Vector}
use Rattle.bus_texts.specs.BusTypes.{bit_count, type_of}
use Rattle.bus_texts.specs.Vectors.{Bank, is_called, is_bank, bank_of, bundle_members, pin_vectors, cell_vectors, positions}
use Rattle.bank_refusals.specs.declared.refusal.BankReason.{BankReason}
use Rattle.bank_refusals.specs.declared.refusal.BankReason.TheVariants as reason
use Rattle.bank_refusals.specs.declared.refusal.BankRefusal.{BankRefusal}
use Rattle.bank_refusals.specs.Members.{member_items}
use Rattle.bank_refusals.specs.Faults.{pin_faults, text_faults, ff_texts, latch_texts}

-- The groups that stand for several pins or states at once.
abbrev pub is_pins : Group → Bool
is_pins group = is_called (codes "bus") group || is_called (codes "bundle") group

abbrev pub is_many : Group → Bool
is_many group = is_pins group || is_bank group

abbrev pub is_many_as : Item-F Item Group → Bool
is_many_as (layer.Simple name value at) = false
is_many_as (layer.Complex name arguments at) = false
is_many_as (layer.Inner group) = is_many group

abbrev pub is_many_item : Item → Bool
is_many_item item = is_many_as (out-Item item)

abbrev pub has_many : Group → Bool
has_many cell = list_any is_many_item cell.items

-- A bus has no type of at most 64 positions, a bundle has no members, or a bank has not three arguments of which the third is a
-- number from 1 to 16.
abbrev pub is_too_wide : Option BusType → Bool
is_too_wide None = true
is_too_wide (Some kind) = not (nat_le (bit_count kind) 64)

abbrev pub lacks_shape : List BusType → Group → Bool
lacks_shape types group =
    if is_called (codes "bus") group then is_too_wide (type_of types group)
    else (if is_called (codes "bundle") group then length (bundle_members group) == 0
    else (if is_bank group then is_none (bank_of group) else false))

abbrev pub shape_faults_as : List BusType → Item-F Item Group → List ℕ
shape_faults_as types (layer.Simple name value at) = []
shape_faults_as types (layer.Complex name arguments at) = []
shape_faults_as types (layer.Inner group) = if lacks_shape types group then group.at ∷ [] else []

abbrev pub shape_faults_in : List BusType → Item → List ℕ
shape_faults_in types item = shape_faults_as types (out-Item item)

abbrev pub shape_faults : List BusType → Group → List ℕ
shape_faults types cell = flat_map (shape_faults_in types) cell.items

-- what is made for each member, by its position
abbrev pub along : {A : Type 0} → (ℕ → List ℕ → List A) → ℕ → List (List ℕ) → List A
along make at [] = []
along make at (member ∷ members) = make at member ++ along make (at + 1) members

-- A bus, a bundle or a variable of a bank is named where it has no bit: in the texts of the pins that a bus or bundle makes, at
-- each position ..
abbrev pub member_faults : List Vector → Group → Vector → ℕ → List ℕ → List ℕ
member_faults vectors group vector at member = pin_faults vectors (Some at) (member_items group vector at member)

abbrev pub vector_faults : List Vector → Group → Vector → List ℕ
vector_faults vectors group vector = along (member_faults vectors group vector) 0 vector.members

-- .. in those of the states of a bank, at each position ..
abbrev pub is_flip_flop : Group → Bool
is_flip_flop group = is_called (codes "ff") group || is_called (codes "ff_bank") group

abbrev pub state_texts : Group → List (List ℕ)
state_texts group = if is_flip_flop group then ff_texts else latch_texts

abbrev pub state_faults : List Vector → Group → ℕ → List ℕ
state_faults vectors group at = text_faults vectors (Some at) (state_texts group) group.items

abbrev pub bank_faults : List Vector → Group → Option Bank → List ℕ
bank_faults vectors group None = []
bank_faults vectors group (Some bank) = flat_map (state_faults vectors group) (positions bank.width)

-- .. and in those of single pins and states, which have no position. A pin group without names makes no pin.
abbrev pub is_state : Group → Bool
is_state group = is_called (codes "ff") group || is_called (codes "latch") group

abbrev pub single_faults : List Vector → Group → List ℕ
single_faults vectors group =
    if is_called (codes "pin") group && not (length group.arguments == 0) then pin_faults vectors None group.items
    else (if is_state group then text_faults vectors None (state_texts group) group.items else [])

abbrev pub width_faults_of : List BusType → List Vector → Group → List ℕ
width_faults_of types vectors group =
    if is_pins group then flat_map (vector_faults vectors group) (pin_vectors types group)
    else (if is_bank group then bank_faults vectors group (bank_of group) else single_faults vectors group)

abbrev pub width_faults_as : List BusType → List Vector → Item-F Item Group → List ℕ
width_faults_as types vectors (layer.Simple name value at) = []
width_faults_as types vectors (layer.Complex name arguments at) = []
width_faults_as types vectors (layer.Inner group) = width_faults_of types vectors group

abbrev pub width_faults_in : List BusType → List Vector → Item → List ℕ
width_faults_in types vectors item = width_faults_as types vectors (out-Item item)

abbrev pub width_faults : List BusType → Group → List ℕ
width_faults types cell = flat_map (width_faults_in types (cell_vectors types cell)) cell.items

-- The first reason that is met decides, at the least of its offsets.
abbrev pub refused_at : BankReason → Option ℕ → Option BankRefusal → Option BankRefusal
refused_at reason None later = later
refused_at reason (Some at) later = Some (record { reason = reason; at = at })

abbrev pub first_refusal : List BusType → Group → Option BankRefusal
first_refusal types cell =
    refused_at reason.Bank (least (shape_faults types cell)) (refused_at reason.Width (least (width_faults types cell)) None)

-- Why the group of a cell is not expanded, if it is not. One without such groups stays as it is.
unfoldable pub bank_refusal : List BusType → Group → Option BankRefusal
bank_refusal types cell = if has_many cell then first_refusal types cell else None
