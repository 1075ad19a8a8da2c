-- The inner pins of a bus or bundle, found by the names in their arguments.
use Rattle.std.specs.Prelude.{◌≡◌, ℕ, Bool, List, [], bytes_eq, codes, slice_get, Option, Some, None, if◌then◌else◌}
use Rattle.std.specs.List.{list_any}
use Rattle.liberty_groups.specs.declared.tree.Value.{Value}
use Rattle.liberty_groups.specs.declared.tree.Item.{Item}
use Rattle.liberty_groups.specs.declared.tree.Group.{Group}
use Rattle.bus_texts.specs.declared.vectors.Vector.{Vector}
use Rattle.bus_texts.specs.Vectors.{is_called}
use Rattle.cell_machine.specs.Places.{places_from}
use Rattle.first_names.specs.declared.all_places.AllPlaces.{AllPlaces}
use Rattle.first_names.specs.AllPlaces.{places_of}
use Rattle.first_names.specs.PutOnce.{with_place}
use Rattle.bank_refusals.specs.Members.{names_member}

-- One of these arguments is a name.
abbrev pub has_name : List ℕ → List Value → Bool
has_name name arguments = list_any (λ argument. bytes_eq argument.bytes name) arguments

-- Each name that is one of these arguments stands for one place more, and every other name for what it stood for.
pub record PutsPin (old : AllPlaces) (arguments : List Value) (at : ℕ) (new : AllPlaces) : Type 0 where
  pub stands :
      (name : List ℕ)
      → places_of new name ≡ (if has_name name arguments then with_place (places_of old name) at else places_of old name)

-- Each name stands for the places of the pins that have it as an argument.
pub record AreFound (places : AllPlaces) (pins : List Group) : Type 0 where
  pub found : (name : List ℕ) → places_of places name ≡ places_from (λ pin. has_name name pin.arguments) 0 pins

-- The places of those of these inner pins that name the member at a position.
abbrev pub pin_names : Vector → ℕ → List ℕ → Group → Bool
pin_names vector at member pin = list_any (names_member vector at member) pin.arguments

abbrev pub pin_places : Vector → ℕ → List ℕ → List Group → List ℕ
pin_places vector at member pins = places_from (pin_names vector at member) 0 pins

-- The statements of the pin at a place.
abbrev pub statements_of : Option Group → List Item
statements_of None = []
statements_of (Some pin) = if is_called (codes "pin") pin then pin.items else []

abbrev pub statements_at : List Group → ℕ → List Item
statements_at pins place = statements_of (slice_get pins place)
