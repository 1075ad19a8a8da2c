-- The steps of a cell's groups, by their numbers.
use Rattle.std.proofs.Common.{nat_eq, zero, suc, ◌∷◌, arith, ◌≡◌, ℕ, ◌+◌, ◌*◌, List, length, ◌<◌, refl, sym, ap, ◌∙◌, subst, Some}
use Rattle.std.proofs.Common.{slice_get, []}
use Rattle.std.specs.Option.{option_map_or}
use Rattle.trit_cubes.specs.declared.trits.Trit.{Trit}
use Rattle.trit_cubes.specs.declared.trits.Trit.TheVariants.{Unknown}
use Rattle.trit_cubes.specs.Resolution.{res}
use Rattle.cell_machine.specs.declared.groups.StateGroup.{StateGroup}
use Rattle.cell_machine.specs.CellData.{CellData}
use Rattle.std.proofs.lemmas.List.{length-map}
use Rattle.std.proofs.lemmas.List.Quantifiers.{position-Some}
use Rattle.cell_machine.specs.declared.pins.Pin.{Pin}
use Rattle.cell_machine.specs.declared.changes.Change.{Change}
use Rattle.cell_machine.specs.Inputs.{input_number, pin_value, pin_values}
use Rattle.cell_machine.specs.Names.{state_name}
use Rattle.cell_machine.specs.Machine.{forced}
use Rattle.cell_machine.specs.Values.{no_values, written}
use Rattle.cell_machine.specs.Step.{group_step}
use Rattle.cell_machine.specs.Fillings.{forced_after}
use Rattle.cell_machine.specs.Supports.{AllBelow, GroupFacts}
use Rattle.cell_machine.specs.CellTrace.{step_at, support_at, place_in, named_from, violated}
use Rattle.cell_machine.proofs.StepLemmas.{forced-filled}

pub length-no_values : length no_values ≡ 96
unfolding no_values
length-no_values = refl

-- the step of the group that has the number i
pub step_at-is :
    (cell : CellData) (i : ℕ) (group : StateGroup)
    → slice_get cell.groups i ≡ Some group → step_at cell i ≡ group_step (state_name (length cell.pins) i) group
step_at-is cell i group e =
    λ j before after s.
    option_map_or (λ (g : StateGroup). group_step (state_name (length cell.pins) i) g before after s) (e j) Unknown

pub support_at-is :
    (cell : CellData) (i : ℕ) (group : StateGroup)
    → slice_get cell.groups i ≡ Some group → support_at cell i ≡ group.support
support_at-is cell i group e = λ j. option_map_or (λ (g : StateGroup). g.support) (e j) []

pub forced-at :
    (cell : CellData) (i : ℕ) (group : StateGroup) (name : ℕ) (ts : List Trit)
    → slice_get cell.groups i ≡ Some group → GroupFacts (length cell.pins + 2 * i) group
    → name ≡ state_name (length cell.pins) i → length ts ≡ length (support_at cell i)
    → forced (step_at cell i) ts
    ≡ res (λ p. forced_after group.kind name group.support (written no_values group.support p)) ts
forced-at cell i group name ts e facts named equal =
    ap (λ step. forced step ts) (step_at-is cell i group e)
    ∙ forced-filled group (state_name (length cell.pins) i) ts facts.ascends
    (subst (λ n. AllBelow n group.support) (sym length-no_values) facts.inside)
    (equal ∙ ap length (support_at-is cell i group e))
    ∙ ap (λ n. res (λ p. forced_after group.kind n group.support (written no_values group.support p)) ts) (sym named)

-- a place in a support is inside
pub place-inside :
    (pins : List Pin) (support : List ℕ) (c : Change) (place : ℕ)
    → Some place ≡ place_in pins support c → place < length support
place-inside pins support c place e =
    (position-Some (λ p. nat_eq (input_number pins p) c.pin) support place 0 (sym e)).0

-- what is made of the group that is held under a number is made of the group that has it
pub of-held :
    (groups : List StateGroup) (i : ℕ) (held group : StateGroup) (f : StateGroup → Trit) {t : Trit}
    → slice_get groups i ≡ Some held → slice_get groups i ≡ Some group → t ≡ f held → t ≡ f group
of-held groups i held group f is e made = let same : held ≡ group = cc (is, e) in made ∙ ap f same

-- the forced value of a group, filling by filling
pub violated-filled :
    (pins : List Pin) (name : ℕ) (group : StateGroup) (v : List Trit) (base : ℕ)
    → GroupFacts base group
    → violated pins (record { name = name; group = group }) v
    ≡ res (λ p. forced_after group.kind name group.support (written no_values group.support p))
    (pin_values pins v group.support)
violated-filled pins name group v base facts =
    forced-filled group name (pin_values pins v group.support) facts.ascends
    (subst (λ n. AllBelow n group.support) (sym length-no_values) facts.inside)
    (length-map group.support (pin_value pins v))

-- the group with the number i, with the name of its state
pub named-at :
    (name : ℕ) (groups : List StateGroup) (i : ℕ) (group : StateGroup)
    → slice_get groups i ≡ Some group
    → slice_get (named_from name groups) i ≡ Some (record { name = name + 2 * i; group = group })
named-at name [] i group e = absurd cc
named-at name (g ∷ groups) zero group e =
    let same : g ≡ group = cc in
    let first : name ≡ name + 2 * 0 = omega arith in
    λ j. Some (record { name = first j; group = same j })
named-at name (g ∷ groups) (suc i) group e =
    let later : name + 2 + 2 * i ≡ name + 2 * suc i = omega arith in
    named-at (name + 2) groups i group e ∙ ap (λ n. Some (record { name = n; group = group })) later
