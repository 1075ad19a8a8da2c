-- The numbers of ports of ascending pins, and of ascending sources, are apart.
use Rattle.std.proofs.Common.{◌≡◌, ℕ, ◌<◌, Bool, false, List, [], ◌∷◌, length, map, refl, sym, subst, arith, IsTrue, nat_eq}
use Rattle.std.specs.List.{IsDistinct, AllByRecursion, list_all}
use Rattle.std.proofs.lemmas.Bool.{and_parts, ne_eqb}
use Rattle.std.proofs.lemmas.Map.Keys.{IsDistinct-cons}
use Rattle.cell_machine.specs.declared.pins.Pin.{Pin}
use Rattle.cell_machine.specs.declared.groups.StateGroup.{StateGroup}
use Rattle.cell_machine.specs.declared.outputs.Source.{Source}
use Rattle.cell_machine.specs.declared.outputs.Source.TheVariants as source
use Rattle.cell_machine.specs.Names.{state_name, source_name}
use Rattle.cell_machine.specs.Supports.{AllAbove, Ascending}
use Rattle.cell_machine.specs.CellRules.{is_input_pin, is_source}
use Rattle.specify_blocks.proofs.PortLemmas.{number-below}
use Rattle.udp_tables.specs.Ports.{port_number}
use Rattle.vital_models.specs.Generated.{ports_at, source_at}
use Rattle.vhdl_grammar.specs.VhdlNames.{same_source}

less_apart : (a b : ℕ) → a < b → nat_eq a b ≡ false
less_apart a b h = ne_eqb a b (λ e. omega (arith, e, h))

-- what is given to ascending keys
module _ {X Y : Type 0} (key : X → ℕ) (give : X → Y) (same : Y → Y → Bool) (ok : X → Bool) (differ : (x y : X) → IsTrue (ok x)
    → IsTrue (ok y) → key x < key y → same (give x) (give y) ≡ false) where
  unlike_above :
      (x : X) (ys : List X) → IsTrue (ok x) → IsTrue (list_all ok ys) → AllAbove (key x) (map key ys)
      → AllByRecursion (λ z. same (give x) z ≡ false) (map give ys)
  unlike_above x [] h k a = tt
  unlike_above x (y ∷ ys) h k a =
      let parts = and_parts (ok y) (list_all ok ys) k in
      (differ x y h parts.0 a.0, unlike_above x ys h parts.1 a.1)

  pub apart_given : (xs : List X) → Ascending (map key xs) → IsTrue (list_all ok xs) → IsDistinct same (map give xs)
  unfolding IsDistinct
  apart_given [] a h = tt
  apart_given (x ∷ xs) a h =
      let parts = and_parts (ok x) (list_all ok xs) h in
      IsDistinct-cons same (give x) (map give xs) (unlike_above x xs parts.0 parts.1 a.0) (apart_given xs a.1 parts.1)

pin_differ :
    (pins : List Pin) (p q : ℕ) → IsTrue (is_input_pin pins p) → IsTrue (is_input_pin pins q) → p < q
    → nat_eq (port_number pins p) (port_number pins q) ≡ false
pin_differ pins p q h k less = less_apart (port_number pins p) (port_number pins q) (number-below pins p q less h)

map_same : (xs : List ℕ) → map (λ (x : ℕ). x) xs ≡ xs
map_same [] = refl
map_same (x ∷ xs) = λ i. x ∷ map_same xs i

-- the ports of ascending input pins
pub apart_pins :
    (pins : List Pin) (support : List ℕ) → Ascending support → IsTrue (list_all (is_input_pin pins) support)
    → IsDistinct nat_eq (ports_at pins support)
apart_pins pins support a h =
    apart_given (λ (p : ℕ). p) (port_number pins) nat_eq (is_input_pin pins) (pin_differ pins) support
    (subst Ascending (sym (map_same support)) a) h

source_differ :
    (pins : List Pin) (groups : List StateGroup) (x y : Source)
    → IsTrue (is_source pins groups x) → IsTrue (is_source pins groups y)
    → source_name (length pins) x < source_name (length pins) y → same_source (source_at pins x) (source_at pins y) ≡ false
source_differ pins groups (source.Pin p) (source.Pin q) h k less = pin_differ pins p q h k less
source_differ pins groups (source.Pin p) (source.State g) h k less = refl
source_differ pins groups (source.State f) (source.Pin q) h k less = refl
source_differ pins groups (source.State f) (source.State g) h k less = less_apart f g (states f g (length pins) less)
  where
    states : (f g n : ℕ) → state_name n f < state_name n g → f < g
    states f g n h = omega arith

-- the ports and states of ascending sources
pub apart_sources :
    (pins : List Pin) (groups : List StateGroup) (support : List Source)
    → Ascending (map (source_name (length pins)) support) → IsTrue (list_all (is_source pins groups) support)
    → IsDistinct same_source (map (source_at pins) support)
apart_sources pins groups support a h =
    apart_given (source_name (length pins)) (source_at pins) same_source (is_source pins groups)
    (source_differ pins groups) support a h
