-- The groups that make the pins of a trimmed cell.
use Rattle.std.proofs.Common.{◌≡◌, ℕ, ◌+◌, ◌<◌, ◌≤◌, Bool, true, false, ◌&&◌, List, [], ◌∷◌, ◌++◌, length, map, filter}
use Rattle.std.proofs.Common.{if◌then◌else◌, refl, sym, ap, ◌∙◌, arith}
use Rattle.std.specs.Prelude.{flat_map, nat_le}
use Rattle.std.proofs.lemmas.Bool.{lt-leb}
use Rattle.liberty_groups.specs.declared.tree.Value.{Value}
use Rattle.liberty_groups.specs.declared.tree.Group.{Group}
use Rattle.cell_attributes.specs.Groups.{is_pin}
use Rattle.cell_attributes.specs.Pins.{owner_as, owners_in}
use Rattle.three_state_cells.proofs.Lists.{of_pins}
use Rattle.three_state_cells.specs.PinAttributes.{untimed}
use Rattle.three_state_cells.specs.Trimmed.{has_one, is_trimmed, trimmed_pin, pins_made}
use Rattle.three_state_cells.proofs.Untimed.{same_arguments}
use Rattle.three_state_cells.proofs.Groups.{trimmed_groups, no_more, same_pin}

abbrev pub trimmed_owners : ℕ → List Group → List Group
trimmed_owners pin [] = []
trimmed_owners pin (owner ∷ owners) = trimmed_pin pin owner ∷ trimmed_owners (pin + 1) owners

pub next_pins : {A : Type 0} (pin : ℕ) (x : A) (xs : List A) → (pin + 1) + length xs ≡ pin + length (x ∷ xs)
next_pins pin x xs = omega arith

-- A group of several pins is not trimmed.
pub no_last : (a b : Bool) → (a && (b && false)) ≡ false
no_last true true = refl
no_last true false = refl
no_last false b = refl

pub several_stay : (group : Group) → has_one group.arguments ≡ false → (pin : ℕ) → is_trimmed pin group ≡ false
several_stay group e pin =
    ap (λ b. nat_le 64 pin && (is_pin group && b)) e ∙ no_last (nat_le 64 pin) (is_pin group)

several : (group : Group) → has_one group.arguments ≡ false → (pin : ℕ) → trimmed_pin pin group ≡ group
several group e pin = ap (λ b. if b then untimed group else group) (several_stay group e pin)

copies : (group : Group) → ((pin : ℕ) → trimmed_pin pin group ≡ group) → (values : List Value) (pin : ℕ) (owners : List Group)
    → trimmed_owners pin (map (owner_as group) values ++ owners)
    ≡ map (owner_as group) values ++ trimmed_owners (pin + length values) owners
copies group stays [] pin owners = ap (λ p. trimmed_owners p owners) (sym (no_more pin))
copies group stays (value ∷ values) pin owners =
    ap (λ one. one ∷ trimmed_owners (pin + 1) (map (owner_as group) values ++ owners)) (stays pin)
    ∙ (ap (λ l. group ∷ l) (copies group stays values (pin + 1) owners)
    ∙ ap (λ p. group ∷ (map (owner_as group) values ++ trimmed_owners p owners)) (next_pins pin value values))

-- The pins of a group and those behind it.
of_group : (pin : ℕ) (group : Group) (values : List Value) (owners : List Group) → group.arguments ≡ values
    → trimmed_owners pin (map (owner_as group) values ++ owners)
    ≡ map (owner_as (trimmed_pin pin group)) values ++ trimmed_owners (pin + length values) owners
of_group pin group [] owners e = ap (λ p. trimmed_owners p owners) (sym (no_more pin))
of_group pin group (value ∷ []) owners e = refl
of_group pin group (value ∷ other ∷ more) owners e =
    let stays : (p : ℕ) → trimmed_pin p group ≡ group = several group (ap has_one e) in
    copies group stays (value ∷ other ∷ more) pin owners
    ∙ ap (λ one. map (owner_as one) (value ∷ other ∷ more) ++ trimmed_owners (pin + length (value ∷ other ∷ more)) owners)
    (sym (stays pin))

arguments_stay : (pin : ℕ) (group : Group) → (trimmed_pin pin group).arguments ≡ group.arguments
arguments_stay pin group = by (is_trimmed pin group)
  where
    by : (b : Bool) → (if b then untimed group else group).arguments ≡ group.arguments
    by true = same_arguments group
    by false = refl

pub owners_trimmed : (pin : ℕ) (groups : List Group)
    → of_pins owners_in (trimmed_groups pin groups) ≡ trimmed_owners pin (of_pins owners_in groups)
owners_trimmed pin [] = refl
owners_trimmed pin (group ∷ groups) =
    ap (λ b. flat_map owners_in (if b then trimmed_pin pin group ∷ filter is_pin (trimmed_groups (pin + pins_made group) groups)
    else filter is_pin (trimmed_groups (pin + pins_made group) groups))) (same_pin pin group)
    ∙ by (is_pin group) (owners_trimmed (pin + pins_made group) groups)
  where
    by : (b : Bool)
        → of_pins owners_in (trimmed_groups (pin + (if b then length group.arguments else 0)) groups)
        ≡ trimmed_owners (pin + (if b then length group.arguments else 0)) (of_pins owners_in groups)
        → flat_map owners_in (if b
        then trimmed_pin pin group ∷ filter is_pin (trimmed_groups (pin + (if b then length group.arguments else 0)) groups)
        else filter is_pin (trimmed_groups (pin + (if b then length group.arguments else 0)) groups))
        ≡ trimmed_owners pin (flat_map owners_in (if b then group ∷ filter is_pin groups else filter is_pin groups))
    by true rest =
        ap (λ l. owners_in (trimmed_pin pin group) ++ l) rest
        ∙ (ap (λ values. map (owner_as (trimmed_pin pin group)) values
        ++ trimmed_owners (pin + length group.arguments) (of_pins owners_in groups)) (arguments_stay pin group)
        ∙ sym (of_group pin group group.arguments (of_pins owners_in groups) refl))
    by false rest = rest ∙ ap (λ p. trimmed_owners p (of_pins owners_in groups)) (no_more pin)

-- The first 64 pins stay, and those behind them are trimmed by themselves.
early_stays : (pin : ℕ) (owner : Group) → pin < 64 → trimmed_pin pin owner ≡ owner
early_stays pin owner h =
    ap (λ b. if b && (is_pin owner && has_one owner.arguments) then untimed owner else owner) (lt-leb 64 pin h)

pub front_stays : (front back : List Group) (pin : ℕ) → pin + length front ≤ 64
    → trimmed_owners pin (front ++ back) ≡ front ++ trimmed_owners (pin + length front) back
front_stays [] back pin h = ap (λ p. trimmed_owners p back) (sym (no_more pin))
front_stays (owner ∷ front) back pin h =
    ap (λ one. one ∷ trimmed_owners (pin + 1) (front ++ back)) (early_stays pin owner (omega arith))
    ∙ (ap (λ l. owner ∷ l) (front_stays front back (pin + 1) (omega arith))
    ∙ ap (λ p. owner ∷ (front ++ trimmed_owners p back)) (next_pins pin owner front))
