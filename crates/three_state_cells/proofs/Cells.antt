-- The pins of groups one by one: what is read of each, whether its group has one name or several.
use Rattle.std.proofs.Common.{◌≡◌, ℕ, ◌+◌, Bool, true, false, List, [], ◌∷◌, ◌++◌, map, filter, if◌then◌else◌, refl, sym, ap, ◌∙◌}
use Rattle.std.specs.Prelude.{flat_map}
use Rattle.std.specs.List.{list_all}
use Rattle.std.proofs.lemmas.Bool.{and_parts, and_from}
use Rattle.std.proofs.lemmas.List.{map-append}
use Rattle.std.proofs.lemmas.List.Folds.{list_all-append}
use Rattle.liberty_groups.specs.declared.tree.Value.{Value}
use Rattle.liberty_groups.specs.declared.tree.Group.{Group}
use Rattle.cell_machine.specs.declared.groups.StateGroup.{StateGroup}
use Rattle.timing_arcs.specs.declared.subject.Subject.{Subject}
use Rattle.timing_arcs.specs.Timing.{reading_answer}
use Rattle.cell_reader.specs.PinTimings.{Answer, subject_at, answers_from, places_from, left_out_in, left_out_from}
use Rattle.cell_attributes.specs.Groups.{is_pin}
use Rattle.cell_attributes.specs.Pins.{owner_as, owners_in}
use Rattle.cell_attributes.specs.Vocabulary.{Vocabulary}
use Rattle.cell_attributes.specs.Building.{output_in, outputs_from}
use Rattle.cell_attributes.specs.Limits.{place_of_group}
use Rattle.core_groups.specs.Outputs.{ThreeStateOutput, is_three_state, outputs_from as floating_from}
use Rattle.three_state_cells.proofs.Single.{single, same_at, same_answer, same_output, same_left_out_timing, same_floating}
use Rattle.three_state_cells.proofs.Single.{its_owner}
use Rattle.three_state_cells.proofs.Lists.{apart, told, of_pins, of_pins_join, one_of, several_of, each_name}

-- A pin: its group, and its name among those of the group.
pub record Owner : Type 0 where
  pub group : Group
  pub name : Value

abbrev owner_at : Group → Value → Owner
owner_at group value = record { group = group; name = value }

abbrev names_in : Group → List Owner
names_in group = map (owner_at group) group.arguments

abbrev pub whole : Owner → Group
whole owner = owner.group

abbrev pub alone : Owner → Group
alone owner = single owner.group owner.name

whole_names : (group : Group) (values : List Value) → map (owner_as group) values ≡ map whole (map (owner_at group) values)
whole_names group [] = refl
whole_names group (value ∷ values) = ap (λ l. group ∷ l) (whole_names group values)

alone_names : (group : Group) (values : List Value) → map (single group) values ≡ map alone (map (owner_at group) values)
alone_names group [] = refl
alone_names group (value ∷ values) = ap (λ l. single group value ∷ l) (alone_names group values)

wholes : (pins : List Group) → flat_map owners_in pins ≡ map whole (flat_map names_in pins)
wholes [] = refl
wholes (group ∷ pins) =
    ap (λ l. l ++ flat_map owners_in pins) (whole_names group group.arguments)
    ∙ (ap (λ l. map whole (names_in group) ++ l) (wholes pins) ∙ sym (map-append whole (names_in group) (flat_map names_in pins)))

pub owners_whole : (groups : List Group) → of_pins owners_in groups ≡ map whole (of_pins names_in groups)
owners_whole groups = wholes (filter is_pin groups)

pub owners_alone : (groups : List Group) → of_pins owners_in (flat_map apart groups) ≡ map alone (of_pins names_in groups)
owners_alone groups =
    told (λ xs ys. xs ++ ys) (of_pins owners_in) (λ l. map alone (of_pins names_in l)) refl (of_pins_join owners_in) joined each
    groups
  where
    joined : (xs ys : List Group) → map alone (of_pins names_in (xs ++ ys)) ≡ map alone (of_pins names_in xs)
        ++ map alone (of_pins names_in ys)
    joined xs ys = ap (map alone) (of_pins_join names_in xs ys) ∙ map-append alone (of_pins names_in xs) (of_pins names_in ys)

    by : (group : Group) (b : Bool) → (if b then map (single group) group.arguments else []) ≡ map alone
        (if b then names_in group else [])
    by group true = alone_names group group.arguments
    by group false = refl

    each : (group : Group) → of_pins owners_in (apart group) ≡ map alone (of_pins names_in (group ∷ []))
    each group =
        several_of owners_in group
        ∙ (ap (λ l. if is_pin group then l else []) (each_name owners_in single group (its_owner group) group.arguments)
        ∙ (by group (is_pin group) ∙ sym (ap (map alone) (one_of names_in group))))

-- What hangs on the statements and the offset of an owner is the same of both.
places_each :
    (f : Subject → Group → List ℕ) → ((s : Subject) (group : Group) (value : Value) → f s (single group value) ≡ f s group)
    → (s : Subject) (pin : ℕ)
    (owners : List Owner) → places_from f s pin (map alone owners) ≡ places_from f s pin (map whole owners)
places_each f same s pin [] = refl
places_each f same s pin (owner ∷ owners) =
    ap (λ l. l ++ places_from f s (pin + 1) (map alone owners)) (same (subject_at s pin) owner.group owner.name)
    ∙ ap (λ l. f (subject_at s pin) owner.group ++ l) (places_each f same s (pin + 1) owners)

answers_each : (s : Subject) (pin : ℕ) (owners : List Owner)
    → answers_from s pin (map alone owners) ≡ answers_from s pin (map whole owners)
answers_each s pin [] = refl
answers_each s pin (owner ∷ owners) =
    ap (λ (answer : Answer). answer ∷ answers_from s (pin + 1) (map alone owners))
    (same_answer owner.group owner.name (subject_at s pin))
    ∙ ap (λ l. reading_answer (subject_at s pin) owner.group ∷ l) (answers_each s (pin + 1) owners)

left_out_each : (pin : ℕ) (owners : List Owner) (answers : List Answer)
    → left_out_from pin (map alone owners) answers ≡ left_out_from pin (map whole owners) answers
left_out_each pin [] answers = refl
left_out_each pin (owner ∷ owners) [] = refl
left_out_each pin (owner ∷ owners) (answer ∷ answers) =
    ap (λ l. l ++ left_out_from (pin + 1) (map alone owners) answers) (same_left_out_timing owner.group owner.name pin answer)
    ∙ ap (λ l. left_out_in pin owner.group answer ++ l) (left_out_each (pin + 1) owners answers)

outputs_each :
    (v : Vocabulary) (pins : ℕ) (states : List StateGroup) (to : List ℕ) (pin : ℕ) (owners : List Owner)
    → outputs_from v pins states to pin (map alone owners) ≡ outputs_from v pins states to pin (map whole owners)
outputs_each v pins states to pin [] = refl
outputs_each v pins states to pin (owner ∷ owners) =
    ap (λ l. l ++ outputs_from v pins states to (pin + 1) (map alone owners))
    (same_output owner.group owner.name v pins states to pin)
    ∙ ap (λ l. output_in v pins states to pin owner.group ++ l) (outputs_each v pins states to (pin + 1) owners)

offsets_each :
    (f : Group → List ℕ) → ((group : Group) (value : Value) → f (single group value) ≡ f group) → (owners : List Owner)
    → flat_map f (map alone owners) ≡ flat_map f (map whole owners)
offsets_each f same [] = refl
offsets_each f same (owner ∷ owners) =
    ap (λ l. l ++ flat_map f (map alone owners)) (same owner.group owner.name)
    ∙ ap (λ l. f owner.group ++ l) (offsets_each f same owners)

at_each : (owners : List Owner) → map place_of_group (map alone owners) ≡ map place_of_group (map whole owners)
at_each [] = refl
at_each (owner ∷ owners) =
    ap (λ at. at ∷ map place_of_group (map alone owners)) (same_at owner.group owner.name)
    ∙ ap (λ l. owner.group.at ∷ l) (at_each owners)

-- of groups, and of those apart
owners_apart : {A : Type 0} (f : List Group → A) → ((owners : List Owner) → f (map alone owners) ≡ f (map whole owners))
    → (groups : List Group)
    → f (of_pins owners_in (flat_map apart groups)) ≡ f (of_pins owners_in groups)
owners_apart f same groups = ap f (owners_alone groups) ∙ (same (of_pins names_in groups) ∙ sym (ap f (owners_whole groups)))

pub places_apart :
    (f : Subject → Group → List ℕ) → ((s : Subject) (group : Group) (value : Value) → f s (single group value) ≡ f s group)
    → (s : Subject) (groups : List Group)
    → places_from f s 0 (of_pins owners_in (flat_map apart groups)) ≡ places_from f s 0 (of_pins owners_in groups)
places_apart f same s = owners_apart (places_from f s 0) (places_each f same s 0)

pub answers_apart : (s : Subject) (groups : List Group)
    → answers_from s 0 (of_pins owners_in (flat_map apart groups)) ≡ answers_from s 0 (of_pins owners_in groups)
answers_apart s = owners_apart (answers_from s 0) (answers_each s 0)

pub left_out_apart : (answers : List Answer) (groups : List Group)
    → left_out_from 0 (of_pins owners_in (flat_map apart groups)) answers ≡ left_out_from 0 (of_pins owners_in groups) answers
left_out_apart answers = owners_apart (λ l. left_out_from 0 l answers) (λ owners. left_out_each 0 owners answers)

pub outputs_apart :
    (v : Vocabulary) (pins : ℕ) (states : List StateGroup) (to : List ℕ) (groups : List Group)
    → outputs_from v pins states to 0 (of_pins owners_in (flat_map apart groups)) ≡ outputs_from v pins states to 0
    (of_pins owners_in groups)
outputs_apart v pins states to = owners_apart (outputs_from v pins states to 0) (outputs_each v pins states to 0)

pub offsets_apart :
    (f : Group → List ℕ) → ((group : Group) (value : Value) → f (single group value) ≡ f group) → (groups : List Group)
    → flat_map f (of_pins owners_in (flat_map apart groups)) ≡ flat_map f (of_pins owners_in groups)
offsets_apart f same = owners_apart (flat_map f) (offsets_each f same)

pub at_apart : (groups : List Group)
    → map place_of_group (of_pins owners_in (flat_map apart groups)) ≡ map place_of_group (of_pins owners_in groups)
at_apart = owners_apart (map place_of_group) at_each

-- The three-state outputs are among the pins.
abbrev is_owned : Owner → Bool
is_owned owner = is_pin owner.group

owned_names : (group : Group) (values : List Value) → is_pin group ≡ true → list_all is_owned (map (owner_at group) values) ≡ true
owned_names group [] e = refl
owned_names group (value ∷ values) e =
    and_from (is_pin group) (list_all is_owned (map (owner_at group) values)) e (owned_names group values e)

all_owned : (groups : List Group) → list_all is_owned (of_pins names_in groups) ≡ true
all_owned [] = refl
all_owned (group ∷ groups) = by (is_pin group) refl (all_owned groups)
  where
    by : (b : Bool) → is_pin group ≡ b → list_all is_owned (of_pins names_in groups) ≡ true
        → list_all is_owned (flat_map names_in (if b then group ∷ filter is_pin groups else filter is_pin groups)) ≡ true
    by true e rest =
        list_all-append is_owned (names_in group) (of_pins names_in groups)
        ∙ and_from (list_all is_owned (names_in group)) (list_all is_owned (of_pins names_in groups))
        (owned_names group group.arguments e) rest
    by false e rest = rest

-- A three-state output: its pin, and the owner of that.
pub record Floating : Type 0 where
  pub pin : ℕ
  pub owner : Owner

abbrev floats_from : ℕ → List Owner → List Floating
floats_from pin [] = []
floats_from pin (owner ∷ owners) =
    (if is_three_state owner.group then record { pin = pin; owner = owner } ∷ [] else []) ++ floats_from (pin + 1) owners

abbrev pub output_by : (Owner → Group) → Floating → ThreeStateOutput
output_by f one = record { pin = one.pin; group = f one.owner }

floats_shown : (f : Owner → Group)
    → ((owner : Owner) → is_owned owner ≡ true → is_three_state (f owner) ≡ is_three_state owner.group)
    → (pin : ℕ) (owners : List Owner) → list_all is_owned owners ≡ true
    → floating_from pin (map f owners) ≡ map (output_by f) (floats_from pin owners)
floats_shown f same pin [] owned = refl
floats_shown f same pin (owner ∷ owners) owned =
    let parts = and_parts (is_owned owner) (list_all is_owned owners) owned in
    (λ i. (if same owner parts.0 i then record { pin = pin; group = f owner } ∷ [] else [])
    ++ floats_shown f same (pin + 1) owners parts.1 i)
    ∙ by (is_three_state owner.group)
  where
    by : (b : Bool)
        → (if b then record { pin = pin; group = f owner } ∷ [] else []) ++ map (output_by f) (floats_from (pin + 1) owners)
        ≡ map (output_by f) ((if b then record { pin = pin; owner = owner } ∷ [] else []) ++ floats_from (pin + 1) owners)
    by true = refl
    by false = refl

-- What is the same of three-state outputs alone and of those of whole groups is the same of all groups apart.
pub floats_apart : {A : Type 0} (f : List ThreeStateOutput → A)
    → ((outputs : List Floating) → f (map (output_by alone) outputs) ≡ f (map (output_by whole) outputs)) → (groups : List Group)
    → f (floating_from 0 (of_pins owners_in (flat_map apart groups))) ≡ f (floating_from 0 (of_pins owners_in groups))
floats_apart f same groups =
    ap f
    (ap (floating_from 0) (owners_alone groups)
    ∙ floats_shown alone (λ owner. same_floating owner.group owner.name) 0 (of_pins names_in groups) (all_owned groups))
    ∙ (same (floats_from 0 (of_pins names_in groups))
    ∙ sym (ap f
    (ap (floating_from 0) (owners_whole groups)
    ∙ floats_shown whole (λ owner is. refl) 0 (of_pins names_in groups) (all_owned groups))))
