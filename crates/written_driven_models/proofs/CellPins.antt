-- What holds of a cell that has three-state outputs: of its own pins, and of how many things there are.
use Rattle.std.proofs.Common.{◌≡◌, ℕ, zero, suc, ◌+◌, ◌*◌, ◌≤◌, Bool, true, false, not, ◌||◌, List, [], ◌∷◌, ◌++◌, length, map}
use Rattle.std.proofs.Common.{refl, sym, ap, ◌∙◌, subst, arith, length-append, IsTrue}
use Rattle.std.specs.Prelude.{bytes_eq}
use Rattle.std.specs.List.{list_any}
use Rattle.std.proofs.Math.Nat.{suc-mul}
use Rattle.std.proofs.lemmas.Bool.{and_parts, and_from}
use Rattle.std.proofs.lemmas.List.{map-append, take-append-drop}
use Rattle.std.proofs.lemmas.List.Folds.{list_any-append}
use Rattle.generated_drivers.specs.cell_machine.declared.pins.Pin.{Pin}
use Rattle.generated_drivers.specs.cell_machine.CellRules.{are_distinct, HoldsRules}
use Rattle.generated_drivers.proofs.cell_machine.RuleLemmas.{rules_of}
use Rattle.generated_entities.proofs.generated_modules.CellParts as parts
use Rattle.generated_drivers.specs.three_state_cells.DrivenCells.{DrivenData}
use Rattle.generated_drivers.specs.three_state_cells.Drivers.{own_pins, last_pins}
use Rattle.generated_drivers.specs.three_state_cells.Laws.{KeepsOutputs}
use Rattle.generated_drivers.specs.Generated.{pins_of}
use Rattle.generated_drivers.proofs.Fitting.{few_drives}
use Rattle.written_driven_models.specs.DriverLaws.{HasDrivers}

no_more : (a b : Bool) → IsTrue (not (a || b)) → IsTrue (not a)
no_more true b h = absurd cc
no_more false b h = refl

front_distinct : (xs ys : List (List ℕ)) → IsTrue (are_distinct (xs ++ ys)) → IsTrue (are_distinct xs)
front_distinct [] ys h = refl
front_distinct (x ∷ xs) ys h =
    let both = and_parts (not (list_any (bytes_eq x) (xs ++ ys))) (are_distinct (xs ++ ys)) h in
    and_from (not (list_any (bytes_eq x) xs)) (are_distinct xs)
    (no_more (list_any (bytes_eq x) xs) (list_any (bytes_eq x) ys)
    (subst (λ b. IsTrue (not b)) (list_any-append (bytes_eq x) xs ys) both.0))
    (front_distinct xs ys both.1)

few_products : (a b : ℕ) → b ≤ 64 → a * b ≤ a * 64
few_products zero b h = omega arith
few_products (suc a) b h =
    let rest = few_products a b h in
    let one : suc a * b ≡ a * b + b = suc-mul a b in
    omega (arith, rest, one, h)

module _ (cell : DrivenData) (h : HasDrivers cell) where
  pub rules : HoldsRules cell.core.name cell.core.pins cell.core.groups cell.core.outputs cell.core.checks cell.core.arcs
  rules = rules_of cell.core.name cell.core.pins cell.core.groups cell.core.outputs cell.core.checks cell.core.arcs h.core.rules

  pub keeps_outputs : KeepsOutputs cell.core
  keeps_outputs = rules.of_outputs

  pub few_pins : length cell.core.pins ≤ 64
  few_pins = parts.few_pins cell.core rules

  split : own_pins cell.core.pins (length cell.driver.drives)
      ++ last_pins cell.core.pins (length cell.driver.drives) ≡ cell.core.pins
  split = take-append-drop _ cell.core.pins

  pub few_own : length (pins_of cell) ≤ 64
  few_own =
      let all = ap length split in
      let sum = length-append (own_pins cell.core.pins (length cell.driver.drives))
      (last_pins cell.core.pins (length cell.driver.drives)) in
      let few = few_pins in
      omega (arith, all, sum, few)

  pub own_distinct : IsTrue (are_distinct (map (λ (pin : Pin). pin.name) (pins_of cell)))
  own_distinct =
      front_distinct (map (λ (pin : Pin). pin.name) (pins_of cell))
      (map (λ (pin : Pin). pin.name) (last_pins cell.core.pins (length cell.driver.drives)))
      (subst (λ (names : List (List ℕ)). IsTrue (are_distinct names))
      (ap (map (λ (pin : Pin). pin.name)) (sym split)
      ∙ map-append (λ (pin : Pin). pin.name) (pins_of cell) (last_pins cell.core.pins (length cell.driver.drives)))
      (parts.distinct_pins cell.core rules))

  pub few_driven : length cell.driver.drives ≤ 64
  few_driven = let drives = few_drives cell.core cell.driver keeps_outputs h.driver in let few = few_pins
      in omega (arith, drives, few)

  pub few_paths : length cell.driver.paths ≤ 4096
  few_paths =
      let most = h.limits.few in
      let product = few_products (length cell.driver.drives) (length cell.core.pins) few_pins in
      let drives = few_driven in
      omega (arith, most, product, drives)
