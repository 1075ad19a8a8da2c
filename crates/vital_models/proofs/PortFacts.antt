-- The ports of a cell's pins, and their numbers.
use Rattle.std.proofs.Common.{◌≡◌, ℕ, zero, suc, ◌+◌, Bool, true, false, ◌||◌, cond, List, [], ◌∷◌, ◌++◌, map, take, refl, sym}
use Rattle.std.proofs.Common.{ap, ◌∙◌, subst, arith, IsTrue, slice_get, append_assoc, append-nil, if◌then◌else◌}
use Rattle.std.specs.Option.{option_map_or}
use Rattle.std.proofs.lemmas.List.{map-append}
use Rattle.std.proofs.lemmas.List.Sums.{sum_by-cons}
use Rattle.cell_machine.specs.declared.pins.Direction.{Direction}
use Rattle.cell_machine.specs.declared.pins.Direction.TheVariants as direction
use Rattle.cell_machine.specs.declared.pins.Pin.{Pin}
use Rattle.cell_machine.specs.CellRules.{is_input, is_output, is_input_pin, output_pins_from}
use Rattle.vital_tables.specs.udp_tables.declared.models.VPort.{VPort}
use Rattle.vital_models.specs.Ports.{is_port, port_number, port_after, ports_after, ports_of}
use Rattle.vital_tables.specs.Sound.{output_ports_from}
use Rattle.vital_tables.specs.udp_tables.Ports.{is_input_port}

-- whether each of the ports of these pins is an input
abbrev pub sides : List Pin → List Bool
sides [] = []
sides (pin ∷ pins) = if is_port pin then is_input pin.direction ∷ sides pins else sides pins

-- the sides of ports, and the numbers of those that are outputs
abbrev pub inputs_of : List VPort → List Bool
inputs_of ports = map (λ (port : VPort). port.input) ports

abbrev pub outputs_from : ℕ → List Bool → List ℕ
outputs_from k [] = []
outputs_from k (b ∷ bs) = if b then outputs_from (k + 1) bs else k ∷ outputs_from (k + 1) bs

-- the sides are those of the pins, whatever the names are
pub ports-sides :
    (entity : List ℕ) (ports : List VPort) (pins : List Pin)
    → inputs_of (ports_after entity ports pins) ≡ inputs_of ports ++ sides pins
ports-sides entity ports [] = sym (append-nil (inputs_of ports))
ports-sides entity ports (pin ∷ pins) = by (is_port pin) (λ more. ports-sides entity more pins)
  where
    by :
        (b : Bool) → ((more : List VPort) → inputs_of (ports_after entity more pins) ≡ inputs_of more ++ sides pins)
        → inputs_of (if b then ports_after entity (ports ++ port_after entity ports pin ∷ []) pins
        else ports_after entity ports pins)
        ≡ inputs_of ports ++ (if b then is_input pin.direction ∷ sides pins else sides pins)
    by true rest =
        rest (ports ++ port_after entity ports pin ∷ [])
        ∙ ap (λ bs. bs ++ sides pins) (map-append (λ (port : VPort). port.input) ports (port_after entity ports pin ∷ []))
        ∙ append_assoc (inputs_of ports) (is_input pin.direction ∷ []) (sides pins)
    by false rest = rest ports

pub outputs-sides : (k : ℕ) (ports : List VPort) → output_ports_from k ports ≡ outputs_from k (inputs_of ports)
outputs-sides k [] = refl
outputs-sides k (port ∷ ports) = by port.input (outputs-sides (k + 1) ports)
  where
    by :
        (b : Bool) → output_ports_from (k + 1) ports ≡ outputs_from (k + 1) (inputs_of ports)
        → (if b then output_ports_from (k + 1) ports else k ∷ output_ports_from (k + 1) ports)
        ≡ (if b then outputs_from (k + 1) (inputs_of ports) else k ∷ outputs_from (k + 1) (inputs_of ports))
    by true h = h
    by false h = ap (λ ns. k ∷ ns) h

pub input-side : (ports : List VPort) (p : ℕ)
    → is_input_port ports p ≡ option_map_or (λ (b : Bool). b) (slice_get (inputs_of ports) p) false
input-side [] p = refl
input-side (port ∷ ports) zero = refl
input-side (port ∷ ports) (suc p) = input-side ports p

pub port_number-cons :
    (pin : Pin) (pins : List Pin) (p : ℕ)
    → port_number (pin ∷ pins) (suc p) ≡ cond (is_port pin) 1 0 + port_number pins p
port_number-cons pin pins p = sum_by-cons (λ x. cond (is_port x) 1 0) pin (take p pins)

input-is-port : (d : Direction) → IsTrue (is_input d) → IsTrue (is_input d || is_output d)
input-is-port direction.Input h = refl
input-is-port direction.Output h = absurd cc
input-is-port direction.Internal h = absurd cc

-- the side at the number of an input pin
at_input : (pins : List Pin) (p : ℕ) → IsTrue (is_input_pin pins p)
    → IsTrue (option_map_or (λ (b : Bool). b) (slice_get (sides pins) (port_number pins p)) false)
at_input [] p h = absurd cc
at_input (pin ∷ pins) zero h =
    subst (λ b. IsTrue (option_map_or (λ (b : Bool). b)
    (slice_get (if b then is_input pin.direction ∷ sides pins else sides pins) 0) false))
    (sym (input-is-port pin.direction h)) h
at_input (pin ∷ pins) (suc p) h =
    subst (λ n. IsTrue (option_map_or (λ (b : Bool). b) (slice_get (sides (pin ∷ pins)) n) false))
    (sym (port_number-cons pin pins p))
    (by (is_port pin) (at_input pins p h))
  where
    by :
        (b : Bool) → IsTrue (option_map_or (λ (b : Bool). b) (slice_get (sides pins) (port_number pins p)) false)
        → IsTrue (option_map_or (λ (b : Bool). b)
        (slice_get (if b then is_input pin.direction ∷ sides pins else sides pins) (cond b 1 0 + port_number pins p)) false)
    by true k =
        let next : suc (port_number pins p) ≡ 1 + port_number pins p = omega arith in
        subst (λ n. IsTrue (option_map_or (λ (b : Bool). b) (slice_get (is_input pin.direction ∷ sides pins) n) false)) next k
    by false k =
        let same : port_number pins p ≡ 0 + port_number pins p = omega arith in
        subst (λ n. IsTrue (option_map_or (λ (b : Bool). b) (slice_get (sides pins) n) false)) same k

-- the port of an input pin is an input
pub input_port : (entity : List ℕ) (pins : List Pin) (p : ℕ) → IsTrue (is_input_pin pins p)
    → IsTrue (is_input_port (ports_of entity pins) (port_number pins p))
input_port entity pins p h =
    input-side (ports_of entity pins) (port_number pins p)
    ∙ ap (λ bs. option_map_or (λ (b : Bool). b) (slice_get bs (port_number pins p)) false) (ports-sides entity [] pins)
    ∙ at_input pins p h

-- a function that numbers the pins from j on from k on
abbrev Numbers : (ℕ → ℕ) → ℕ → ℕ → List Pin → Type 0
Numbers f j k pins = (i : ℕ) → f (j + i) ≡ k + port_number pins i

numbers-tail :
    (f : ℕ → ℕ) (j k step : ℕ) (pin : Pin) (pins : List Pin)
    → cond (is_port pin) 1 0 ≡ step → Numbers f j k (pin ∷ pins) → Numbers f (j + 1) (k + step) pins
numbers-tail f j k step pin pins e h i =
    let moved : (j + 1) + i ≡ j + suc i = omega arith in
    let more : port_number (pin ∷ pins) (suc i) ≡ step + port_number pins i
    = port_number-cons pin pins i ∙ ap (λ n. n + port_number pins i) e in
    let joined : k + (step + port_number pins i) ≡ (k + step) + port_number pins i = omega arith in
    ap f moved ∙ h (suc i) ∙ ap (λ n. k + n) more ∙ joined

outputs-numbers :
    (f : ℕ → ℕ) (j k : ℕ) (pins : List Pin)
    → Numbers f j k pins → map f (output_pins_from j pins) ≡ outputs_from k (sides pins)
outputs-numbers f j k [] h = refl
outputs-numbers f j k (pin ∷ pins) h = by pin.direction refl (λ k h. outputs-numbers f (j + 1) k pins h)
  where
    here : f j ≡ k
    here =
        let first : j + 0 ≡ j = omega arith in
        let none : port_number (pin ∷ pins) 0 ≡ 0 = refl in
        let sum : k + port_number (pin ∷ pins) 0 ≡ k = omega (arith, none) in
        ap f (sym first) ∙ h 0 ∙ sum

    by :
        (d : Direction) → pin.direction ≡ d
        → ((k : ℕ) → Numbers f (j + 1) k pins → map f (output_pins_from (j + 1) pins) ≡ outputs_from k (sides pins))
        → map f (if is_output d then j ∷ output_pins_from (j + 1) pins else output_pins_from (j + 1) pins)
        ≡ outputs_from k (if is_input d || is_output d then is_input d ∷ sides pins else sides pins)
    by direction.Input e rest = rest (k + 1) (numbers-tail f j k 1 pin pins (ap (λ d. cond (is_input d || is_output d) 1 0) e) h)
    by direction.Output e rest =
        λ i. here i ∷ rest (k + 1) (numbers-tail f j k 1 pin pins (ap (λ d. cond (is_input d || is_output d) 1 0) e) h) i
    by direction.Internal e rest =
        let same : k + 0 ≡ k = omega arith in
        subst (λ n. map f (output_pins_from (j + 1) pins) ≡ outputs_from n (sides pins)) same
        (rest (k + 0) (numbers-tail f j k 0 pin pins (ap (λ d. cond (is_input d || is_output d) 1 0) e) h))

-- the ports of the output pins are the output ports
pub output_ports : (entity : List ℕ) (pins : List Pin)
    → map (port_number pins) (output_pins_from 0 pins) ≡ output_ports_from 0 (ports_of entity pins)
output_ports entity pins =
    outputs-numbers (port_number pins) 0 0 pins (λ i. let same : 0 + i ≡ i = omega arith
    in let sum : port_number pins i ≡ 0 + port_number pins i = omega arith in ap (port_number pins) same ∙ sum)
    ∙ sym (ap (outputs_from 0) (ports-sides entity [] pins))
    ∙ sym (outputs-sides 0 (ports_of entity pins))
