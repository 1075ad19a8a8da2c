-- The outputs that a core has beside those of its cell are those that its statements make.
use Rattle.std.proofs.Common.{◌≡◌, ℕ, ◌+◌, Bool, true, false, ◌&&◌, List, [], ◌∷◌, ◌++◌, map, Option, None, Some, is_some}
use Rattle.std.proofs.Common.{if◌then◌else◌, refl, sym, ap, subst, ◌∙◌, codes}
use Rattle.std.specs.Option.{option_map}
use Rattle.std.specs.List.{AllByRecursion}
use Rattle.liberty_groups.specs.declared.tree.Item.{Item}
use Rattle.liberty_groups.specs.declared.tree.Item.TheOpen.{Group-F}
use Rattle.liberty_groups.specs.declared.tree.Item.TheViews.{out-roll-Group}
use Rattle.liberty_groups.specs.declared.tree.Group.{Group}
use Rattle.liberty_groups.specs.Attributes.{Attribute, attribute_of}
use Rattle.cell_machine.specs.declared.groups.StateGroup.{StateGroup}
use Rattle.cell_machine.specs.declared.outputs.OutputPin.{OutputPin}
use Rattle.cell_machine.specs.declared.pins.Direction.TheVariants as direction
use Rattle.cell_attributes.specs.declared.texts.Scope.TheVariants as scope
use Rattle.cell_attributes.specs.declared.texts.Text.{Text}
use Rattle.cell_attributes.specs.Groups.{is_pin}
use Rattle.cell_attributes.specs.Pins.{direction_as, direction_of}
use Rattle.cell_attributes.specs.Scans.{is_output_group}
use Rattle.cell_attributes.specs.Vocabulary.{Vocabulary}
use Rattle.cell_attributes.specs.Outputs.{output_with, pin_text_as, pin_text}
use Rattle.cell_attributes.specs.Texts.{text_as, malformed_at, unknown_at}
use Rattle.cell_attributes.specs.Building.{function_of, output_pin, output_in, outputs_from}
use Rattle.cell_attributes.proofs.Distinct.{nil_parts}
use Rattle.cell_attributes.proofs.TextNames.{IsSound, function_apart}
use Rattle.three_state_cells.specs.Outputs.{ThreeStateOutput, three_state_of, is_three_state, outputs_from as three_states_from}
use Rattle.three_state_cells.specs.CoreGroups.{enable_function}
use Rattle.three_state_cells.proofs.CorePins.{three_state_floats}
use Rattle.bus_texts.specs.declared.vectors.Vector.{Vector}
use Rattle.bank_cells.specs.Faults.{fault_of, fault_named}
use Rattle.bank_cells.specs.Expanded.{pin_item}
use Rattle.bank_machines.specs.BankTexts.{CellNames}
use Rattle.bank_machines.specs.BankOutputs.{WrittenPin, output_by}
use Rattle.bank_machines.specs.BankCores.{enabled_by, enable_with, enables_among}
use Rattle.bank_machines.proofs.TextLemmas.{Spells}
use Rattle.bank_machines.proofs.MovedTexts.{made_of, moved, cell_names}
use Rattle.bank_machines.proofs.PinLemmas.{owner_of, unfaulted_at, Placed, ReadsText, apart_text, text_attribute, direction_same}
use Rattle.bank_machines.proofs.PinLemmas.{unmoved}
use Rattle.bank_machines.proofs.PinLists.{pin_word}
use Rattle.bank_machines.proofs.EnableTexts.{enable_is}
use Rattle.three_state_cells.proofs.CoreOwners.{enable_group}
use Rattle.bank_machines.proofs.CoreLemmas.{enable_owner_of, enable_owners, enable_attribute}

-- the group of a pin says as its statements when the pin floats
pub record FloatsAs (vectors : List Vector) (owner : WrittenPin → Group) (pin : WrittenPin) : Type 0 where
  pub same : is_three_state (owner pin) ≡ is_three_state pin.group
  pub moves : three_state_of (owner pin) ≡ option_map (moved vectors pin.position) (three_state_of pin.group)

some_moved : (vectors : List Vector) (position : Option ℕ) (o : Option Attribute)
    → is_some (option_map (moved vectors position) o) ≡ is_some o
some_moved vectors position None = refl
some_moved vectors position (Some a) = refl

module _ (vectors : List Vector) (v : Vocabulary) (numbers : List ℕ) (spell : AllByRecursion Spells vectors) where
  owner_moves : (pin : WrittenPin) → three_state_of (owner_of vectors pin) ≡ option_map (moved vectors pin.position)
      (three_state_of pin.group)
  owner_moves pin = text_attribute vectors v numbers spell pin.group pin.position (codes "three_state") refl

  owner_is_pin : (pin : WrittenPin) → is_pin (owner_of vectors pin) ≡ is_pin pin.group
  owner_is_pin pin =
      ap (λ (one : Group-F Item Group). pin_word one.name one.arguments)
      (out-roll-Group (made_of pin.group (map (pin_item vectors pin.position) pin.group.items)))

  owner_same : (pin : WrittenPin) → is_three_state (owner_of vectors pin) ≡ is_three_state pin.group
  unfolding is_three_state
  owner_same pin =
      ap (λ b. b && (is_output_group (direction_of (owner_of vectors pin)) && is_some (three_state_of (owner_of vectors pin))))
      (owner_is_pin pin)
      ∙ (ap (λ d. is_pin pin.group && (is_output_group d && is_some (three_state_of (owner_of vectors pin))))
      (direction_same vectors v numbers spell pin.group pin.position)
      ∙ ap (λ b. is_pin pin.group && (is_output_group (direction_of pin.group) && b))
      (ap is_some (owner_moves pin) ∙ some_moved vectors pin.position (three_state_of pin.group)))

  pub owners_float : (made : List WrittenPin) → AllByRecursion (FloatsAs vectors (owner_of vectors)) made
  owners_float [] = tt
  owners_float (pin ∷ made) = (record { same = owner_same pin; moves = owner_moves pin }, owners_float made)

  pub scalars_float :
      (made : List WrittenPin) → AllByRecursion (λ (pin : WrittenPin). pin.position ≡ None) made
      → AllByRecursion (FloatsAs vectors (λ (pin : WrittenPin). pin.group)) made
  scalars_float [] h = tt
  scalars_float (pin ∷ made) h = (
    record {
      same = refl;
      moves =
          sym (unmoved vectors v numbers spell (three_state_of pin.group))
          ∙ ap (λ position. option_map (moved vectors position) (three_state_of pin.group)) (sym h.0);
    },
    scalars_float made h.1,
  )

  pub scalars_placed :
      (made : List WrittenPin) → AllByRecursion (λ (pin : WrittenPin). pin.position ≡ None) made
      → AllByRecursion (Placed vectors) made
  scalars_placed [] h = tt
  scalars_placed (pin ∷ made) h = (
    subst (λ position. unfaulted_at vectors pin.group position) (sym h.0) tt,
    scalars_placed made
        h.1,
  )

  abbrev names : CellNames
  names = cell_names vectors v numbers

  -- no fault in what says when a pin floats
  abbrev floats_well : Option ℕ → Attribute → Type 0
  floats_well None floats = Unit {0}
  floats_well (Some at) floats = fault_of vectors (Some at) (Some floats) ≡ []

  well : (group : Group) (position : Option ℕ) (floats : Attribute) → unfaulted_at vectors group position
      → three_state_of group ≡ Some floats → floats_well position floats
  well group None floats h e = tt
  well group (Some at) floats h e =
      let one = nil_parts (fault_named vectors (Some at) group.items (codes "function")) _ h in
      let two = nil_parts (fault_named vectors (Some at) group.items (codes "state_function")) _ one.1 in
      let three = nil_parts (fault_named vectors (Some at) group.items (codes "three_state")) _ two.1 in
      sym (ap (fault_of vectors (Some at)) e) ∙ three.0

  module _ (number : ℕ) (floats : Attribute) where
    abbrev added : Group
    added = enable_group number floats

    abbrev added_text : Text
    added_text = text_as v scope.Function (Some (record { text = enable_function floats.text; at = floats.at }))

    added_direction : direction_of added ≡ Some direction.Output
    added_direction = ap direction_as (enable_attribute number floats (codes "direction"))

    text_is_added : pin_text v added ≡ added_text
    text_is_added =
        ap (pin_text_as v added) added_direction
        ∙ (ap (λ o. output_with v o (attribute_of added (codes "internal_node")) (attribute_of added (codes "function")))
        (enable_attribute number floats (codes "state_function"))
        ∙ (ap (λ o. output_with v None o (attribute_of added (codes "function")))
        (enable_attribute number floats (codes "internal_node"))
        ∙ ap (output_with v None None) (enable_attribute number floats (codes "function"))))

    added_sound : ReadsText v added → IsSound added_text
    added_sound h = record {
      well_formed = sym (ap malformed_at text_is_added) ∙ h.0;
      known = sym (ap unknown_at text_is_added) ∙ h.1;
      apart = apart_text v scope.Function (λ i c. function_apart c)
          (Some (record { text = enable_function floats.text; at = floats.at }));
    }

  added_function :
      (number : ℕ) (position : Option ℕ) (floats : Attribute) → floats_well position floats
      → ReadsText v (added number (moved vectors position floats))
      → function_of numbers (added_text number (moved vectors position floats)) ≡ enabled_by names v position floats
  added_function number None floats h reads = refl
  added_function number (Some at) floats h reads =
      enable_is vectors v numbers at spell scope.Function floats h (added_sound number (moved vectors (Some at) floats) reads)

  module _ (pins : ℕ) (states : List StateGroup) where
    added_output :
        (k number : ℕ) (position : Option ℕ) (floats : Attribute) → floats_well position floats
        → ReadsText v (enable_group k (moved vectors position floats))
        → output_in v pins states numbers number (enable_group k (moved vectors position floats)) ≡ output_by pins states number
        (enabled_by names v position floats) ∷ []
    added_output k number position floats h reads =
        let group : Group = enable_group k (moved vectors position floats) in
        ap (λ d. if is_output_group d then output_pin pins states numbers number (pin_text v group) ∷ [] else [])
        (added_direction k (moved vectors position floats))
        ∙ (ap (λ t. output_pin pins states numbers number t ∷ []) (text_is_added k (moved vectors position floats))
        ∙ ap (λ f. output_by pins states number f ∷ []) (added_function k position floats h reads))

    abbrev Wants : (WrittenPin → Group) → List WrittenPin → Type 0
    Wants owner made =
        (place k number : ℕ) → AllByRecursion (ReadsText v) (enable_owners k (three_states_from place (map owner made)))
        → outputs_from v pins states numbers number (enable_owners k (three_states_from place (map owner made))) ≡ enables_among
        names v pins states number made

    module _ (owner : WrittenPin → Group) (pin : WrittenPin) (made : List WrittenPin) (as_written : FloatsAs vectors owner pin)
        (placed : Placed vectors pin) (later : Wants owner made) where
      abbrev rest : ℕ → List ThreeStateOutput
      rest place = three_states_from (place + 1) (map owner made)

      abbrev first : ℕ → Bool → List ThreeStateOutput
      first place b = (if b then record { pin = place; group = owner pin } ∷ [] else []) ++ rest place

      abbrev chosen : ℕ → Bool → List OutputPin
      chosen number b =
          (if b then enable_with names v pins states number pin.position (three_state_of pin.group) else [])
          ++ enables_among names v pins states (if b then number + 1 else number) made

      by_floats : (place k number : ℕ) (o : Option Attribute) → three_state_of pin.group ≡ o → is_three_state (owner pin) ≡ true
          → AllByRecursion (ReadsText v) (enable_owner_of k (three_state_of (owner pin)) ++ enable_owners (k + 1) (rest place))
          → outputs_from v pins states numbers number
          (enable_owner_of k (three_state_of (owner pin)) ++ enable_owners (k + 1) (rest place))
          ≡ enable_with names v pins states number pin.position (three_state_of pin.group)
          ++ enables_among names v pins states (number + 1) made
      by_floats place k number None e t reads =
          let none : three_state_of (owner pin) ≡ None = as_written.moves ∙ ap (option_map (moved vectors pin.position)) e in
          let some : is_some (three_state_of (owner pin)) ≡ true = three_state_floats (owner pin) t in
          let not_some : is_some (three_state_of (owner pin)) ≡ false = ap is_some none in
          absurd cc
      by_floats place k number (Some floats) e t reads =
          let group : Group = enable_group k (moved vectors pin.position floats) in
          let others : List Group = enable_owners (k + 1) (rest place) in
          let same : three_state_of (owner pin) ≡ Some (moved vectors pin.position floats) =
          as_written.moves ∙ ap (option_map (moved vectors pin.position)) e in
          let all : AllByRecursion (ReadsText v) (group ∷ others) =
          subst (λ o. AllByRecursion (ReadsText v) (enable_owner_of k o ++ others)) same reads in
          ap (λ o. outputs_from v pins states numbers number (enable_owner_of k o ++ others)) same
          ∙ (ap (λ os. os ++ outputs_from v pins states numbers (number + 1) others)
          (added_output k number pin.position floats (well pin.group pin.position floats placed e) all.0)
          ∙ (ap (λ os. output_by pins states number (enabled_by names v pin.position floats) ∷ os)
          (later (place + 1) (k + 1) (number + 1) all.1)
          ∙ sym (ap (λ o. enable_with names v pins states number pin.position o
          ++ enables_among names v pins states (number + 1) made) e)))

      enables_step : (place k number : ℕ) (b : Bool) → is_three_state (owner pin) ≡ b
          → AllByRecursion (ReadsText v) (enable_owners k (first place b))
          → outputs_from v pins states numbers number (enable_owners k (first place b)) ≡ chosen number b
      enables_step place k number true t reads = by_floats place k number (three_state_of pin.group) refl t reads
      enables_step place k number false t reads = later (place + 1) k number reads

    pub enables_are :
        (owner : WrittenPin → Group) (made : List WrittenPin) → AllByRecursion (FloatsAs vectors owner) made
        → AllByRecursion (Placed vectors) made → Wants owner made
    enables_are owner [] as_written placed place k number reads = refl
    enables_are owner (pin ∷ made) as_written placed place k number reads =
        let later : Wants owner made = enables_are owner made as_written.1 placed.1 in
        enables_step owner pin made as_written.0 placed.0 later place k number (is_three_state (owner pin)) refl reads
        ∙ ap (chosen owner pin made as_written.0 placed.0 later number) as_written.0.same
