-- The pins of a bus or bundle, of which neighbours with the same statements are one pin group with all their names (Liberty
-- Reference Manual, `pin` group: one with several names makes a pin for each).
use Rattle.std.specs.Prelude.{◌≡◌, ℕ, ◌+◌, Bool, true, not, ◌&&◌, ◌||◌, List, [], ◌∷◌, ◌++◌, map, flat_map, codes, Some}
use Rattle.std.specs.Prelude.{slice_get, unwrap_or, if◌then◌else◌}
use Rattle.std.specs.List.{list_any, list_all}
use Rattle.liberty_groups.specs.declared.tree.Value.{Value}
use Rattle.liberty_groups.specs.declared.tree.Item.{Item}
use Rattle.liberty_groups.specs.declared.tree.Item.TheVariants as made
use Rattle.liberty_groups.specs.declared.tree.Group.{Group, roll-Group}
use Rattle.bus_texts.specs.declared.vectors.Vector.{Vector}
use Rattle.bank_refusals.specs.declared.members.Member.{Member as HeldMember}
use Rattle.bank_refusals.specs.Members.{is_shared, names_member, inner_pins, member_items}
use Rattle.bank_refusals.specs.InnerPins.{pin_places}
use Rattle.bank_refusals.specs.Alike.{stays}
use Rattle.bank_cells.specs.declared.runs.Placed.{Placed}
use Rattle.bank_cells.specs.declared.runs.Run.{Run as HeldRun}
use Rattle.bank_cells.specs.declared.runs.Statements.{Statements}
use Rattle.bank_cells.specs.Expanded.{pin_item}
use Rattle.bank_cells.specs.Fixed.{shown_shared, shared_items}

-- A member of a bus or bundle: its position, and its name.
pub record Member : Type 0 where
  pub vector : Vector
  pub at : ℕ
  pub name : List ℕ

abbrev pub shown_member : HeldMember → Member
shown_member member = record { vector = member.vector.now; at = member.at; name = member.name.now }

-- All members of several, in order.
abbrev pub members_along : Vector → ℕ → List (List ℕ) → List Member
members_along vector at [] = []
members_along vector at (name ∷ names) =
    record { vector = vector; at = at; name = name } ∷ members_along vector (at + 1) names

abbrev pub members_in : Vector → List Member
members_in vector = members_along vector 0 vector.members

abbrev pub members_of : List Vector → List Member
members_of several = flat_map members_in several

-- The statements that each member has become the same at each position.
abbrev pub shared_stays : List Vector → Item → Bool
shared_stays vectors item = not (is_shared item) || stays vectors item

-- An inner pin, and whether its statements become the same at each position.
pub record InnerPin : Type 0 where
  pub group : Group
  pub stays : Bool

abbrev pub pin_stays : List Vector → Group → Bool
pin_stays vectors group = list_all (stays vectors) group.items

abbrev pub inner_pin : List Vector → Group → InnerPin
inner_pin vectors group = record { group = group; stays = pin_stays vectors group }

abbrev pub judged_pins : List Vector → List Item → List InnerPin
judged_pins vectors items = map (inner_pin vectors) (inner_pins items)

-- Two members have the same of an inner pin: it names neither, or it names both and becomes the same at each position.
abbrev pub is_named : Member → InnerPin → Bool
is_named member pin = list_any (names_member member.vector member.at member.name) pin.group.arguments

abbrev pub same_of : Member → Member → InnerPin → Bool
same_of one other pin = if is_named one pin then is_named other pin && pin.stays else not (is_named other pin)

-- Two members have the same statements, since what each member has becomes the same, and both have the same of each inner pin.
abbrev pub have_same : List Vector → Group → Member → Member → Bool
have_same vectors group one other =
    list_all (shared_stays vectors) group.items && list_all (same_of one other) (judged_pins vectors group.items)

-- What is held of the statements of a bus or bundle is of one group.
pub record AreOfOneGroup (statements : Statements) : Type 0 where
  pub shared : map shown_shared statements.shared.items ≡ shared_items statements.vectors.now statements.group.now.items
  pub stay : statements.stay ≡ list_all (shared_stays statements.vectors.now) statements.group.now.items
  pub pins : statements.pins ≡ inner_pins statements.group.now.items
  pub pins_stay : statements.pins_stay.items ≡ map (pin_stays statements.vectors.now) (inner_pins statements.group.now.items)

-- The inner pin at a place becomes the same at each position.
abbrev pub stays_at : List Bool → ℕ → Bool
stays_at stays place = unwrap_or (slice_get stays place) true

-- With a member are held the places of the inner pins of its bus or bundle that name it.
abbrev pub IsPlaced : Group → Placed → Type 0
IsPlaced group placed =
    placed.places.items ≡ pin_places placed.member.vector.now placed.member.at placed.member.name.now (inner_pins group.items)

-- Neighbours with the same statements: the first of them, and the names of all.
pub record Run : Type 0 where
  pub first : Member
  pub names : List Value

abbrev pub shown_run : HeldRun → Run
shown_run run = record { first = shown_member run.first.member; names = run.names }

abbrev pub name_of : Member → Value
name_of member = record { bytes = member.name; quoted = true }

abbrev pub run_of : Member → Run
run_of member = record { first = member; names = name_of member ∷ [] }

-- Their pin group.
abbrev pub items_at : List Vector → Group → Member → List Item
items_at vectors group member =
    map (pin_item vectors (Some member.at)) (member_items group member.vector member.at member.name)

abbrev pub run_pin : List Vector → Group → Run → Group
run_pin vectors group run =
    roll-Group (record {
      name = codes "pin";
      arguments = run.names;
      items = items_at vectors group run.first;
      at = group.at;
    })

abbrev pub run_pins : List Vector → Group → Run → List Item
run_pins vectors group run = made.Inner (run_pin vectors group run) ∷ []

-- A member goes on with the neighbours before it, or ends them and is the first of the next ones.
abbrev pub run_and : Run → Member → Run
run_and run member = record { first = run.first; names = run.names ++ name_of member ∷ [] }

abbrev pub run_with : Bool → Run → Member → Run
run_with same run member = if same then run_and run member else run_of member

abbrev pub run_after : List Vector → Group → Run → Member → Run
run_after vectors group run member = run_with (have_same vectors group run.first member) run member

abbrev pub ended_by : List Vector → Group → Run → Member → List Item
ended_by vectors group run member = if have_same vectors group run.first member then [] else run_pins vectors group run

abbrev pub pins_from : List Vector → Group → Run → List Member → List Item
pins_from vectors group run [] = run_pins vectors group run
pins_from vectors group run (member ∷ members) =
    ended_by vectors group run member ++ pins_from vectors group (run_after vectors group run member) members

-- The pin groups of members, in order.
abbrev pub pins_of : List Vector → Group → List Member → List Item
pins_of vectors group [] = []
pins_of vectors group (member ∷ members) = pins_from vectors group (run_of member) members
