-- A cell without three-state outputs is its own core, and nothing is wrong in the delays of any.
use Rattle.std.proofs.Common.{◌≡◌, ℕ, ◌+◌, Bool, true, false, not, ◌==◌, List, [], ◌∷◌, ◌++◌, length, map, filter, codes}
use Rattle.std.proofs.Common.{append-nil, if◌then◌else◌, refl, sym, ap, ◌∙◌, Option, None}
use Rattle.std.specs.Prelude.{flat_map, bytes_eq}
use Rattle.std.specs.List.{list_all, cons_option}
use Rattle.std.proofs.lemmas.Bool.{and_parts, and_from, not-true as not_true}
use Rattle.std.proofs.lemmas.List.Folds.{list_all-append}
use Rattle.liberty_text.specs.declared.time.Unit.{Unit}
use Rattle.liberty_groups.specs.declared.tree.Value.{Value}
use Rattle.liberty_groups.specs.declared.tree.Item.{Item, out-Item}
use Rattle.liberty_groups.specs.declared.tree.Item.TheOpen.{Item-F}
use Rattle.liberty_groups.specs.declared.tree.Item.TheOpen as layer
use Rattle.liberty_groups.specs.declared.tree.Item.TheVariants as item
use Rattle.liberty_groups.specs.declared.tree.Item.TheViews.{roll-out-Group}
use Rattle.liberty_groups.specs.declared.tree.Group.{Group, roll-Group}
use Rattle.timing_arcs.specs.declared.subject.Subject.{Subject}
use Rattle.cell_attributes.specs.Groups.{is_pin, inner_of, inner_groups, pin_groups}
use Rattle.cell_attributes.specs.Pins.{owner_as, owners_in}
use Rattle.cell_reader.specs.declared.refusal.Refusal.{Refusal}
use Rattle.cell_reader.specs.PinTimings.{subject_at}
use Rattle.cell_reader.specs.CellTexts.{subject_of}
use Rattle.cell_reader.specs.Refusals.{refusal_of}
use Rattle.core_groups.specs.Outputs.{ThreeStateOutput, is_three_state, outputs_from, three_state_outputs}
use Rattle.core_groups.specs.CoreGroups.{core_pin, core_statement_as, core_statement, enable_pins, core_group}
use Rattle.three_state_cells.specs.Refusals.{first_of_two, wrong_delays, wrong_group, refusal_with, driver_refusal}
use Rattle.three_state_cells.specs.Refusals.{floating_refusal}
use Rattle.three_state_cells.specs.Refusals.{refusal_by, driven_refusal}
use Rattle.three_state_cells.proofs.Lists.{of_pins}
use Rattle.three_state_cells.proofs.CoreOwners.{no_output}
use Rattle.three_state_cells.proofs.Sinks.{first_alone}

abbrev is_plain : Group → Bool
is_plain group = not (is_three_state group)

-- None of the groups makes three-state outputs.
none_float : (pin : ℕ) (owners : List Group) → outputs_from pin owners ≡ [] → list_all is_plain owners ≡ true
none_float pin [] h = refl
none_float pin (owner ∷ owners) h = by (is_three_state owner) refl h (none_float (pin + 1) owners)
  where
    by : (b : Bool) → is_three_state owner ≡ b
        → (if b then record { pin = pin; group = owner } ∷ [] else []) ++ outputs_from (pin + 1) owners ≡ []
        → (outputs_from (pin + 1) owners ≡ [] → list_all is_plain owners ≡ true)
        → list_all is_plain (owner ∷ owners) ≡ true
    by true e h rest = absurd cc
    by false e h rest = and_from (is_plain owner) (list_all is_plain owners) (ap not e) (rest h)

first_plain : (group : Group) (values : List Value) → not (length values == 0) ≡ true
    → list_all is_plain (map (owner_as group) values) ≡ true → is_plain group ≡ true
first_plain group [] some h = absurd cc
first_plain group (value ∷ values) some h =
    (and_parts (is_plain group) (list_all is_plain (map (owner_as group) values)) h).0

all_plain : (groups : List Group) → list_all is_plain (of_pins owners_in groups) ≡ true → list_all is_plain groups ≡ true
all_plain [] h = refl
all_plain (group ∷ groups) h = by (is_pin group) refl h (all_plain groups)
  where
    by : (b : Bool) → is_pin group ≡ b
        → list_all is_plain (flat_map owners_in (if b then group ∷ filter is_pin groups else filter is_pin groups)) ≡ true
        → (list_all is_plain (of_pins owners_in groups) ≡ true → list_all is_plain groups ≡ true)
        → list_all is_plain (group ∷ groups) ≡ true
    by true e h rest =
        let parts = and_parts (list_all is_plain (owners_in group)) (list_all is_plain (of_pins owners_in groups))
        (sym (list_all-append is_plain (owners_in group) (of_pins owners_in groups)) ∙ h) in
        let some = (and_parts (bytes_eq group.name (codes "pin")) (not (length group.arguments == 0)) e).1 in
        and_from (is_plain group) (list_all is_plain groups) (first_plain group group.arguments some parts.0)
        (rest parts.1)
    by false e h rest = and_from (is_plain group) (list_all is_plain groups) (ap not (no_output group e)) (rest h)

-- So all statements stay.
same_statements : (items : List Item) → list_all is_plain (inner_groups items) ≡ true → map core_statement items ≡ items
same_statements [] h = refl
same_statements (one ∷ items) h = by (out-Item one) refl h (same_statements items)
  where
    by : (y : Item-F Item Group) → out-Item one ≡ y → list_all is_plain (cons_option (inner_of y) (inner_groups items)) ≡ true
        → (list_all is_plain (inner_groups items) ≡ true → map core_statement items ≡ items)
        → map core_statement (one ∷ items) ≡ one ∷ items
    by (layer.Simple name value at) e h rest = λ i. ap (core_statement_as one) e i ∷ rest h i
    by (layer.Complex name arguments at) e h rest = λ i. ap (core_statement_as one) e i ∷ rest h i
    by (layer.Inner group) e h rest =
        let parts = and_parts (is_plain group) (list_all is_plain (inner_groups items)) h in
        let stays : core_statement one ≡ one =
        ap (core_statement_as one) e
        ∙ ap (λ b. if b then item.Inner (core_pin group) else one) (not_true (is_three_state group) parts.0) in
        λ i. stays i ∷ rest parts.1 i

no_delays : (s : Subject) (found : Option Refusal) (pin : ℕ) (groups : List Group) → list_all is_plain groups ≡ true
    → refusal_with s found pin (filter is_pin groups) ≡ found
no_delays s found pin [] h = refl
no_delays s found pin (group ∷ groups) h =
    by (is_pin group)
    (λ n. no_delays s found n groups (and_parts (is_plain group) (list_all is_plain groups) h).1)
  where
    none : wrong_group (subject_at s pin) group ≡ None
    none =
        ap (λ b. if b then wrong_delays (subject_at s pin) group else None)
        (not_true (is_three_state group) (and_parts (is_plain group) (list_all is_plain groups) h).0)

    by : (b : Bool) → ((n : ℕ) → refusal_with s found n (filter is_pin groups) ≡ found)
        → refusal_with s found pin (if b then group ∷ filter is_pin groups else filter is_pin groups) ≡ found
    by true rest =
        ap (λ f. refusal_with s f (pin + length group.arguments) (filter is_pin groups))
        (ap (first_of_two found) none ∙ first_alone found)
        ∙ rest (pin + length group.arguments)
    by false rest = rest pin

module _ (cell : Group) (none : three_state_outputs cell ≡ []) where
  are_plain : list_all is_plain (inner_groups cell.items) ≡ true
  are_plain = all_plain (inner_groups cell.items) (none_float 0 (of_pins owners_in (inner_groups cell.items)) none)

  own_core : core_group cell ≡ cell
  unfolding core_group
  own_core =
      ap (λ items. roll-Group (record { name = cell.name; arguments = cell.arguments; items = items; at = cell.at }))
      ((λ i. same_statements cell.items are_plain i ++ enable_pins 0 (none i)) ∙ append-nil cell.items)
      ∙ roll-out-Group cell

-- Every cell is refused as one with this core.
pub as_core : (unit : Option Unit) (earlier : List (List ℕ)) (cell : Group)
    → driven_refusal unit earlier cell
    ≡ first_of_two (refusal_of (subject_of unit (core_group cell)) earlier (core_group cell))
    (driver_refusal (subject_of unit (core_group cell)) (pin_groups cell))
unfolding driven_refusal floating_refusal
as_core unit earlier cell = by (three_state_outputs cell) refl
  where
    by : (outputs : List ThreeStateOutput) → three_state_outputs cell ≡ outputs
        → refusal_by unit earlier cell outputs
        ≡ first_of_two (refusal_of (subject_of unit (core_group cell)) earlier (core_group cell))
        (driver_refusal (subject_of unit (core_group cell)) (pin_groups cell))
    by (output ∷ outputs) e = refl
    by [] e =
        let own : core_group cell ≡ cell = own_core cell e in
        let right : driver_refusal (subject_of unit (core_group cell)) (pin_groups cell) ≡ None =
        no_delays (subject_of unit (core_group cell)) None 0 (inner_groups cell.items) (are_plain cell e) in
        sym
        ((λ i. first_of_two (refusal_of (subject_of unit (own i)) earlier (own i)) (right i))
        ∙ first_alone (refusal_of (subject_of unit cell) earlier cell))
