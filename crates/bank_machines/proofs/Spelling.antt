-- The members of the buses, bundles and banks of a cell have the names of their bits.
use Rattle.std.proofs.Common.{◌≡◌, ℕ, suc, ◌+◌, Bool, true, false, ◌==◌, List, [], ◌∷◌, map, Option, None, Some}
use Rattle.std.proofs.Common.{if◌then◌else◌, refl, sym, ap, ◌∙◌, arith, slice_get, eqb-true}
use Rattle.std.specs.Prelude.{flat_map, option_and_then, codes}
use Rattle.std.specs.List.{AllByRecursion}
use Rattle.liberty_groups.specs.declared.tree.Value.{Value}
use Rattle.liberty_groups.specs.declared.tree.Item.{Item, out-Item}
use Rattle.liberty_groups.specs.declared.tree.Item.TheOpen.{Item-F}
use Rattle.liberty_groups.specs.declared.tree.Item.TheOpen as layer
use Rattle.liberty_groups.specs.declared.tree.Group.{Group}
use Rattle.bus_texts.specs.declared.bus_types.BusType.{BusType}
use Rattle.bus_texts.specs.declared.vectors.VectorKind.{VectorKind}
use Rattle.bus_texts.specs.declared.vectors.VectorKind.TheVariants as kinds
use Rattle.bus_texts.specs.BusTypes.{type_of}
use Rattle.bus_texts.specs.Texts.{bit_place}
use Rattle.bus_texts.specs.Vectors.{is_called, is_bank, member_name, bits_in, bit_vector, bus_named, buses_in, bundle_members}
use Rattle.bus_texts.specs.Vectors.{bundle_vector, bundle_named, bundles_in, Bank, bank_of, positions, variables_as}
use Rattle.bus_texts.specs.Vectors.{item_pin_vectors, item_variables, pin_vectors_in, variables_at, all_pin_vectors}
use Rattle.bus_texts.specs.Vectors.{all_variables, cell_vectors}
use Rattle.bank_machines.proofs.Lists.{all_join}
use Rattle.bank_machines.proofs.TextLemmas.{Spells}

all_flat : {X Y : Type 0} (P : Y → Type 0) (f : X → List Y) (xs : List X) → ((x : X) → AllByRecursion P (f x))
    → AllByRecursion P (flat_map f xs)
all_flat P f [] h = tt
all_flat P f (x ∷ xs) h = all_join P (f x) (flat_map f xs) (h x) (all_flat P f xs h)

all_mapped : {X Y : Type 0} (P : Y → Type 0) (f : X → Y) (xs : List X) → ((x : X) → P (f x)) → AllByRecursion P (map f xs)
all_mapped P f [] h = tt
all_mapped P f (x ∷ xs) h = (h x, all_mapped P f xs h)

-- where a bit has a place, its member stands there
record IsAt (name : List ℕ) (bit from : ℕ) (bits : List ℕ) (place : ℕ) : Type 0 where
  pub behind : ℕ
  pub counted : place ≡ from + behind
  pub member : slice_get (map (member_name name) bits) behind ≡ Some (member_name name bit)

placed : (name : List ℕ) (bit from : ℕ) (bits : List ℕ) (place : ℕ) → bit_place bit from bits ≡ Some place
    → IsAt name bit from bits place
placed name bit from [] place e = absurd cc
placed name bit from (other ∷ bits) place e = by (other == bit) refl e (placed name bit (from + 1) bits place)
  where
    by :
        (here : Bool) → (other == bit) ≡ here → (if here then Some from else bit_place bit (from + 1) bits) ≡ Some place
        → (bit_place bit (from + 1) bits ≡ Some place → IsAt name bit (from + 1) bits place)
        → IsAt name bit from (other ∷ bits) place
    by true h e later =
        let same : from ≡ place = cc in
        record { behind = 0; counted = omega (arith, same); member = ap (λ b. Some (member_name name b)) (eqb-true other bit h) }
    by false h e later =
        let next : IsAt name bit (from + 1) bits place = later e in
        let count : place ≡ from + 1 + next.behind = next.counted in
        record { behind = suc next.behind; counted = omega (arith, count); member = next.member }

bits_spell : (kind : VectorKind) (bits : List ℕ) (name : List ℕ) → Spells (bit_vector kind bits name)
bits_spell kind bits name at bit member e = by (bit_place bit 0 bits) refl e
  where
    by : (place : Option ℕ) → bit_place bit 0 bits ≡ place
        → option_and_then (λ i. slice_get (map (member_name name) bits) i) place ≡ Some member → member ≡ member_name name bit
    by None p e = absurd cc
    by (Some place) p e =
        let is : IsAt name bit 0 bits place = placed name bit 0 bits place p in
        let count : place ≡ 0 + is.behind = is.counted in
        let same : place ≡ is.behind = omega (arith, count) in
        let found : Some member ≡ Some (member_name name bit) =
        sym e ∙ (ap (slice_get (map (member_name name) bits)) same ∙ is.member) in
        cc

bundle_spells : (members : List (List ℕ)) (name : List ℕ) → Spells (bundle_vector members name)
bundle_spells members name at bit member e = absurd cc

group_pins_spell : (types : List BusType) (group : Group) (bus bundle : Bool)
    → AllByRecursion Spells (if bus then buses_in types group else (if bundle then bundles_in group else []))
group_pins_spell types group true bundle =
    all_mapped Spells (bus_named (bits_in (type_of types group))) group.arguments
    (λ (value : Value). bits_spell kinds.Bus (bits_in (type_of types group)) value.bytes)
group_pins_spell types group false true =
    all_mapped Spells (bundle_named (bundle_members group)) group.arguments
    (λ (value : Value). bundle_spells (bundle_members group) value.bytes)
group_pins_spell types group false false = tt

pins_spell : (types : List BusType) (one : Item-F Item Group) → AllByRecursion Spells (item_pin_vectors types one)
pins_spell types (layer.Simple name value at) = tt
pins_spell types (layer.Complex name arguments at) = tt
pins_spell types (layer.Inner group) =
    group_pins_spell types group (is_called (codes "bus") group) (is_called (codes "bundle") group)

bank_spells : (bank : Option Bank) → AllByRecursion Spells (variables_as bank)
bank_spells None = tt
bank_spells (Some bank) = (
  bits_spell kinds.Variable (positions bank.width) bank.first,
  (bits_spell kinds.Variable (positions bank.width) bank.second, tt),
)

group_variables_spell : (group : Group) (b : Bool) → AllByRecursion Spells (if b then variables_as (bank_of group) else [])
group_variables_spell group true = bank_spells (bank_of group)
group_variables_spell group false = tt

variables_spell : (one : Item-F Item Group) → AllByRecursion Spells (item_variables one)
variables_spell (layer.Simple name value at) = tt
variables_spell (layer.Complex name arguments at) = tt
variables_spell (layer.Inner group) = group_variables_spell group (is_bank group)

pub cell_spells : (types : List BusType) (cell : Group) → AllByRecursion Spells (cell_vectors types cell)
cell_spells types cell =
    all_join Spells (all_pin_vectors types cell) (all_variables cell)
    (all_flat Spells (pin_vectors_in types) cell.items (λ item. pins_spell types (out-Item item)))
    (all_flat Spells variables_at cell.items (λ item. variables_spell (out-Item item)))
