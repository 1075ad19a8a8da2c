-- No net of a generated instance stands twice among its terminals.
use Rattle.std.proofs.Common.{◌≡◌, ℕ, ◌<◌, Bool, true, false, not, List, [], ◌∷◌, ◌++◌, length, map, refl, sym, ap, ◌∙◌}
use Rattle.std.proofs.Common.{subst, arith, IsTrue, Option, Some, None, slice_get, nat_eq}
use Rattle.std.specs.List.{list_any, list_all}
use Rattle.std.specs.Option.{option_map_or}
use Rattle.std.proofs.lemmas.List.Folds.{list_any-append}
use Rattle.std.proofs.lemmas.Bool.{and_parts, and_from, ne_eqb, or_from as or-false}
use Rattle.cell_machine.specs.declared.pins.Pin.{Pin}
use Rattle.cell_machine.specs.declared.groups.StateGroup.{StateGroup}
use Rattle.cell_machine.specs.declared.outputs.Source.{Source}
use Rattle.cell_machine.specs.declared.outputs.Source.TheVariants as source
use Rattle.cell_machine.specs.Names.{state_name, source_name}
use Rattle.cell_machine.specs.Supports.{AllAbove, Ascending}
use Rattle.cell_machine.specs.CellRules.{is_input_pin, is_output_pin, is_source}
use Rattle.udp_tables.specs.declared.models.VPort.{VPort}
use Rattle.specify_blocks.specs.declared.model.VNet.{VNet}
use Rattle.specify_blocks.specs.declared.model.VNet.TheVariants as net
use Rattle.specify_blocks.specs.Nets.{same_net, are_apart, is_output_port}
use Rattle.udp_tables.specs.Ports.{is_input_port}
use Rattle.specify_blocks.specs.Ports.{port_number, ports_from}
use Rattle.specify_blocks.specs.Generated.{pin_net, source_net, notifier_nets}
use Rattle.specify_blocks.proofs.PortLemmas.{input_port, output_port, number-below}

less-apart : (a b : ℕ) → a < b → nat_eq a b ≡ false
less-apart a b h = ne_eqb a b (λ e. omega (arith, e, h))

-- nets that are given to ascending keys
module _ {X : Type 0} (key : X → ℕ) (give : X → VNet) (ok : X → Bool) (differ : (x y : X) → IsTrue (ok x) → IsTrue (ok y)
    → key x < key y → same_net (give x) (give y) ≡ false) where
  none_above :
      (x : X) (ys : List X) → IsTrue (ok x) → IsTrue (list_all ok ys) → AllAbove (key x) (map key ys)
      → list_any (same_net (give x)) (map give ys) ≡ false
  none_above x [] h k a = refl
  none_above x (y ∷ ys) h k a =
      let parts = and_parts (ok y) (list_all ok ys) k in
      or-false (same_net (give x) (give y)) (list_any (same_net (give x)) (map give ys)) (differ x y h parts.0 a.0)
      (none_above x ys h parts.1 a.1)

  pub apart_nets : (xs : List X) → Ascending (map key xs) → IsTrue (list_all ok xs) → IsTrue (are_apart (map give xs))
  apart_nets [] a h = refl
  apart_nets (x ∷ xs) a h =
      let parts = and_parts (ok x) (list_all ok xs) h in
      and_from (not (list_any (same_net (give x)) (map give xs))) (are_apart (map give xs))
      (ap not (none_above x xs parts.0 parts.1 a.0)) (apart_nets xs a.1 parts.1)

pin_differ :
    (pins : List Pin) (p q : ℕ) → IsTrue (is_input_pin pins p) → IsTrue (is_input_pin pins q) → p < q
    → same_net (pin_net pins p) (pin_net pins q) ≡ false
pin_differ pins p q h k less = less-apart (port_number pins p) (port_number pins q) (number-below pins p q less h)

map-same : (xs : List ℕ) → map (λ (x : ℕ). x) xs ≡ xs
map-same [] = refl
map-same (x ∷ xs) = ap (λ ys. x ∷ ys) (map-same xs)

-- the nets of ascending input pins
pub apart_pins :
    (pins : List Pin) (support : List ℕ) → Ascending support → IsTrue (list_all (is_input_pin pins) support)
    → IsTrue (are_apart (map (pin_net pins) support))
apart_pins pins support a h =
    apart_nets (λ (p : ℕ). p) (pin_net pins) (is_input_pin pins) (pin_differ pins) support
    (subst Ascending (sym (map-same support)) a) h

source_differ :
    (pins : List Pin) (groups : List StateGroup) (x y : Source)
    → IsTrue (is_source pins groups x) → IsTrue (is_source pins groups y)
    → source_name (length pins) x < source_name (length pins) y
    → same_net (source_net pins x) (source_net pins y) ≡ false
source_differ pins groups (source.Pin p) (source.Pin q) h k less = pin_differ pins p q h k less
source_differ pins groups (source.Pin p) (source.State g) h k less = refl
source_differ pins groups (source.State f) (source.Pin q) h k less = refl
source_differ pins groups (source.State f) (source.State g) h k less =
    less-apart f g (states f g (length pins) less)
  where
    states : (f g n : ℕ) → state_name n f < state_name n g → f < g
    states f g n h = omega arith

-- the nets of ascending sources
pub apart_sources :
    (pins : List Pin) (groups : List StateGroup) (support : List Source)
    → Ascending (map (source_name (length pins)) support) → IsTrue (list_all (is_source pins groups) support)
    → IsTrue (are_apart (map (source_net pins) support))
apart_sources pins groups support a h =
    apart_nets (source_name (length pins)) (source_net pins) (is_source pins groups) (source_differ pins groups) support a h

-- no wire is the net of a pin
pub wire_apart : (w : ℕ) (pins : List Pin) (support : List ℕ)
    → list_any (same_net (net.Wire w)) (map (pin_net pins) support) ≡ false
wire_apart w pins [] = refl
wire_apart w pins (p ∷ support) = wire_apart w pins support

-- the register of the checks stands apart
notified : (b : Bool) (n : VNet) → same_net n net.Notifier ≡ false → list_any (same_net n) (notifier_nets b) ≡ false
notified false n h = refl
notified true n h = or-false (same_net n net.Notifier) false h refl

pub wire_apart_all :
    (w : ℕ) (pins : List Pin) (support : List ℕ) (b : Bool)
    → list_any (same_net (net.Wire w)) (map (pin_net pins) support ++ notifier_nets b) ≡ false
wire_apart_all w pins support b =
    list_any-append (same_net (net.Wire w)) (map (pin_net pins) support) (notifier_nets b)
    ∙ or-false (list_any (same_net (net.Wire w)) (map (pin_net pins) support))
    (list_any (same_net (net.Wire w)) (notifier_nets b))
    (wire_apart w pins support) (notified b (net.Wire w) refl)

notifier_alone : (b : Bool) → IsTrue (are_apart (notifier_nets b))
notifier_alone false = refl
notifier_alone true = refl

pub apart_noted :
    (pins : List Pin) (support : List ℕ) (b : Bool)
    → IsTrue (are_apart (map (pin_net pins) support)) → IsTrue (are_apart (map (pin_net pins) support ++ notifier_nets b))
apart_noted pins [] b h = notifier_alone b
apart_noted pins (p ∷ support) b h =
    let this : VNet = pin_net pins p in
    let others : List VNet = map (pin_net pins) support in
    let parts = and_parts (not (list_any (same_net this) others)) (are_apart others) h in
    and_from (not (list_any (same_net this) (others ++ notifier_nets b))) (are_apart (others ++ notifier_nets b))
    (ap not (list_any-append (same_net this) others (notifier_nets b)
    ∙ or-false (list_any (same_net this) others) (list_any (same_net this) (notifier_nets b))
    (turned (list_any (same_net this) others) parts.0) (notified b this refl)))
    (apart_noted pins support b parts.1)
  where
    turned : (c : Bool) → IsTrue (not c) → c ≡ false
    turned true h = absurd cc
    turned false h = refl

-- one number is not that of an input and of an output
both_ways : (ports : List VPort) (p q : ℕ) → p ≡ q → IsTrue (is_output_port ports p) → IsTrue (is_input_port ports q) → ⊥
both_ways ports p q e h k =
    clash (slice_get ports p) h (subst (λ n. IsTrue (is_input_port ports n)) (sym e) k)
  where
    clash :
        (o : Option VPort)
        → IsTrue (option_map_or (λ (port : VPort). not port.input) o false)
        → IsTrue (option_map_or (λ (port : VPort). port.input) o false) → ⊥
    clash None h k = cc
    clash (Some port) h k = let f : not port.input ≡ false = ap not k in cc

-- the port of an output pin is the net of no source
pub output_apart :
    (pins : List Pin) (groups : List StateGroup) (o : ℕ) (support : List Source)
    → IsTrue (is_output_pin pins o) → IsTrue (list_all (is_source pins groups) support)
    → list_any (same_net (pin_net pins o)) (map (source_net pins) support) ≡ false
output_apart pins groups o [] h k = refl
output_apart pins groups o (source.Pin p ∷ support) h k =
    let parts = and_parts (is_source pins groups (source.Pin p)) (list_all (is_source pins groups) support) k in
    let ends = output_port pins 1 o h in
    let starts = input_port pins 1 p parts.0 in
    or-false (nat_eq (port_number pins o) (port_number pins p))
    (list_any (same_net (pin_net pins o)) (map (source_net pins) support))
    (ne_eqb (port_number pins o) (port_number pins p)
    (λ e. both_ways (ports_from 1 pins) (port_number pins o) (port_number pins p) e ends starts))
    (output_apart pins groups o support h parts.1)
output_apart pins groups o (source.State g ∷ support) h k =
    let parts = and_parts (is_source pins groups (source.State g)) (list_all (is_source pins groups) support) k in
    output_apart pins groups o support h parts.1
