-- The ports of a cell's pins, and their numbers.
use Rattle.std.proofs.Common.{◌≡◌, ℕ, zero, suc, ◌+◌, ◌<◌, Bool, true, false, not, ◌||◌, cond, List, [], ◌∷◌, take, refl, sym, ap}
use Rattle.std.proofs.Common.{◌∙◌, subst, arith, IsTrue, slice_get, nat_eq, if◌then◌else◌}
use Rattle.std.specs.Prelude.{count_by}
use Rattle.std.specs.Option.{option_map_or}
use Rattle.std.proofs.lemmas.List.Sums.{sum_by-cons}
use Rattle.std.proofs.lemmas.Bool.{eqb-true, eq-eqb}
use Rattle.cell_machine.specs.declared.pins.Direction.{Direction}
use Rattle.cell_machine.specs.declared.pins.Direction.TheVariants as direction
use Rattle.cell_machine.specs.declared.pins.Pin.{Pin}
use Rattle.cell_machine.specs.CellRules.{is_input, is_output, is_input_pin, is_output_pin, output_pins_from}
use Rattle.udp_tables.specs.declared.models.VPort.{VPort}
use Rattle.specify_blocks.specs.Ports.{is_port, port_number, port_name, port_of, ports_from}
use Rattle.specify_blocks.specs.Nets.{is_output_port}
use Rattle.udp_tables.specs.Ports.{is_input_port}

-- what a test that fails, and one that passes, counts
pub miss : (a t : ℕ) → (a ≡ t → ⊥) → ◌≡◌ {A = ℕ} (cond (nat_eq a t) 1 0) 0
miss a t h = by (nat_eq a t) refl
  where
    by : (b : Bool) → nat_eq a t ≡ b → ◌≡◌ {A = ℕ} (cond b 1 0) 0
    by true e = absurd (h (eqb-true a t e))
    by false e = refl

pub hit : (a t : ℕ) → a ≡ t → ◌≡◌ {A = ℕ} (cond (nat_eq a t) 1 0) 1
hit a t h = ap (λ b. cond b 1 0) (eq-eqb a t h)

pub port_number-cons :
    (pin : Pin) (pins : List Pin) (p : ℕ)
    → port_number (pin ∷ pins) (suc p) ≡ cond (is_port pin) 1 0 + port_number pins p
port_number-cons pin pins p = sum_by-cons (λ x. cond (is_port x) 1 0) pin (take p pins)

-- a test of pins that ports pass, and what the port of such a pin passes
module _ (s : Pin → Bool) (t : VPort → Bool) (fits : (k : ℕ) (pin : Pin) → IsTrue (s pin) → IsTrue (is_port pin)
    × IsTrue (t (port_of k pin))) where
  at_port :
      (pins : List Pin) (k p : ℕ)
      → IsTrue (option_map_or s (slice_get pins p) false)
      → IsTrue (option_map_or t (slice_get (ports_from k pins) (port_number pins p)) false)
  at_port [] k p h = absurd cc
  at_port (pin ∷ pins) k zero h =
      let port = fits k pin h in
      subst (λ b. IsTrue (option_map_or t (slice_get (if b then port_of k pin ∷ ports_from (k + 1) pins else ports_from k pins) 0)
      false))
      (sym port.0) port.1
  at_port (pin ∷ pins) k (suc p) h =
      subst (λ n. IsTrue (option_map_or t
      (slice_get (if is_port pin then port_of k pin ∷ ports_from (k + 1) pins else ports_from k pins) n) false))
      (sym (port_number-cons pin pins p))
      (later k pin pins (port_number pins p) (is_port pin) (at_port pins (k + 1) p h) (at_port pins k p h))
    where
      later :
          (k : ℕ) (pin : Pin) (pins : List Pin) (n : ℕ) (b : Bool)
          → IsTrue (option_map_or t (slice_get (ports_from (k + 1) pins) n) false)
          → IsTrue (option_map_or t (slice_get (ports_from k pins) n) false)
          → IsTrue (option_map_or t (slice_get (if b then port_of k pin ∷ ports_from (k + 1) pins else ports_from k pins)
          (cond b 1 0 + n)) false)
      later k pin pins n true h i =
          let next : suc n ≡ 1 + n = omega arith in
          subst (λ m. IsTrue (option_map_or t (slice_get (port_of k pin ∷ ports_from (k + 1) pins) m) false)) next h
      later k pin pins n false h i =
          let same : n ≡ 0 + n = omega arith in
          subst (λ m. IsTrue (option_map_or t (slice_get (ports_from k pins) m) false)) same i

pub input-is-port : (d : Direction) → IsTrue (is_input d) → IsTrue (is_input d || is_output d)
input-is-port direction.Input h = refl
input-is-port direction.Output h = absurd cc
input-is-port direction.Internal h = absurd cc

pub output-is-port : (d : Direction) → IsTrue (is_output d) → IsTrue (is_input d || is_output d) × IsTrue (not (is_input d))
output-is-port direction.Input h = absurd cc
output-is-port direction.Output h = (refl, refl)
output-is-port direction.Internal h = absurd cc

-- the port of an input pin is an input
pub input_port :
    (pins : List Pin) (k p : ℕ) → IsTrue (is_input_pin pins p) → IsTrue (is_input_port (ports_from k pins) (port_number pins p))
input_port =
    at_port (λ (pin : Pin). is_input pin.direction) (λ (port : VPort). port.input)
    (λ k pin h. (input-is-port pin.direction h, h))

-- the port of an output pin is an output
pub output_port :
    (pins : List Pin) (k p : ℕ) → IsTrue (is_output_pin pins p) → IsTrue (is_output_port (ports_from k pins) (port_number pins p))
output_port =
    at_port (λ (pin : Pin). is_output pin.direction) (λ (port : VPort). not port.input)
    (λ k pin h. output-is-port pin.direction h)

-- the number of a port is below that of each pin after it
pub number-below :
    (pins : List Pin) (p q : ℕ) → p < q → IsTrue (is_input_pin pins p) → port_number pins p < port_number pins q
number-below [] p q h i = absurd cc
number-below (pin ∷ pins) p zero h i = absurd (omega arith)
number-below (pin ∷ pins) zero (suc q) h i =
    let port = input-is-port pin.direction i in
    let one : ◌≡◌ {A = ℕ} (cond (is_port pin) 1 0) 1 = ap (λ b. cond b 1 0) port in
    let first : port_number (pin ∷ pins) zero ≡ 0 = refl in
    omega (arith, port_number-cons pin pins q, one, first)
number-below (pin ∷ pins) (suc p) (suc q) h i =
    let rest : port_number pins p < port_number pins q = number-below pins p q (omega arith) i in
    omega (arith, rest, port_number-cons pin pins p, port_number-cons pin pins q)

-- how many of the pins stand for port t, where a function gives each pin's port
abbrev pub hits : (ℕ → ℕ) → ℕ → List ℕ → ℕ
hits f t ps = count_by (λ p. nat_eq (f p) t) ps

pub hits-cons : (f : ℕ → ℕ) (t p : ℕ) (ps : List ℕ) → hits f t (p ∷ ps) ≡ cond (nat_eq (f p) t) 1 0 + hits f t ps
hits-cons f t p ps = sum_by-cons (λ x. cond (nat_eq (f x) t) 1 0) p ps

-- a function that numbers the pins from k on from off on
abbrev Numbers : (ℕ → ℕ) → ℕ → ℕ → List Pin → Type 0
Numbers f k off pins = (i : ℕ) → f (k + i) ≡ off + port_number pins i

Numbers-tail :
    (f : ℕ → ℕ) (k off : ℕ) (pin : Pin) (pins : List Pin) (step : ℕ)
    → cond (is_port pin) 1 0 ≡ step → Numbers f k off (pin ∷ pins) → Numbers f (k + 1) (off + step) pins
Numbers-tail f k off pin pins step e h i =
    let moved : (k + 1) + i ≡ k + suc i = omega arith in
    let there : f (k + suc i) ≡ off + port_number (pin ∷ pins) (suc i) = h (suc i) in
    let more : port_number (pin ∷ pins) (suc i) ≡ cond (is_port pin) 1 0 + port_number pins i = port_number-cons pin pins i in
    ap f moved ∙ there ∙ ap (λ n. off + n) (more ∙ ap (λ n. n + port_number pins i) e) ∙ joined off step (port_number pins i)
  where
    joined : (a b c : ℕ) → a + (b + c) ≡ (a + b) + c
    joined a b c = omega arith

none-hit :
    (f : ℕ → ℕ) (t k : ℕ) (pins : List Pin) → ((i : ℕ) → t < f (k + i)) → hits f t (output_pins_from k pins) ≡ 0
none-hit f t k [] h = refl
none-hit f t k (pin ∷ pins) h =
    by (is_output pin.direction)
    (none-hit f t (k + 1) pins
    (λ i. let moved : k + suc i ≡ (k + 1) + i = omega arith in subst (λ n. t < f n) moved (h (suc i))))
  where
    here : t < f k
    here = let same : k + 0 ≡ k = omega arith in subst (λ n. t < f n) same (h 0)

    by :
        (b : Bool) → hits f t (output_pins_from (k + 1) pins) ≡ 0
        → hits f t (if b then k ∷ output_pins_from (k + 1) pins else output_pins_from (k + 1) pins) ≡ 0
    by true rest =
        let missed = miss (f k) t (λ e. let above : t < f k = here in omega (arith, e, above)) in
        omega (arith, hits-cons f t k (output_pins_from (k + 1) pins), missed, rest)
    by false rest = rest

-- each output port stands for exactly one output pin
one-hit :
    (f : ℕ → ℕ) (off k j : ℕ) (pins : List Pin) (q : ℕ)
    → Numbers f k off pins → IsTrue (is_output_port (ports_from j pins) q)
    → hits f (off + q) (output_pins_from k pins) ≡ 1
one-hit f off k j [] q h o = absurd cc
one-hit f off k j (pin ∷ pins) q h o =
    by pin.direction refl q o (λ off j q n o. one-hit f off (k + 1) j pins q n o)
  where
    numbered : (d : Direction) (step : ℕ) → pin.direction ≡ d → cond (is_input d || is_output d) 1 0 ≡ step
        → Numbers f (k + 1) (off + step) pins
    numbered d step e s = Numbers-tail f k off pin pins step (ap (λ x. cond (is_input x || is_output x) 1 0) e ∙ s) h

    first : f k ≡ off
    first =
        let same : k ≡ k + 0 = omega arith in
        let there : f (k + 0) ≡ off + port_number (pin ∷ pins) 0 = h 0 in
        let none : port_number (pin ∷ pins) 0 ≡ 0 = refl in
        let equal : off + port_number (pin ∷ pins) 0 ≡ off = omega (arith, none) in
        ap f same ∙ there ∙ equal

    by :
        (d : Direction) → pin.direction ≡ d → (q : ℕ)
        → IsTrue (is_output_port (if is_input d || is_output d
        then record { name = port_name j pin.name; input = is_input d } ∷ ports_from (j + 1) pins else ports_from j pins) q)
        → ((off j q : ℕ) → Numbers f (k + 1) off pins → IsTrue (is_output_port (ports_from j pins) q)
        → hits f (off + q) (output_pins_from (k + 1) pins) ≡ 1)
        → hits f (off + q) (if is_output d then k ∷ output_pins_from (k + 1) pins else output_pins_from (k + 1) pins) ≡ 1
    by direction.Input e zero o again = absurd cc
    by direction.Input e (suc q) o again =
        let rest = again (off + 1) (j + 1) q (numbered direction.Input 1 e refl) o in
        let same : (off + 1) + q ≡ off + suc q = omega arith in
        subst (λ t. hits f t (output_pins_from (k + 1) pins) ≡ 1) same rest
    by direction.Output e zero o again =
        let none : hits f (off + 0) (output_pins_from (k + 1) pins) ≡ 0 =
        none-hit f (off + 0) (k + 1) pins
        (λ i. let there = numbered direction.Output 1 e refl i in omega (arith, there)) in
        let found = hit (f k) (off + 0) (omega (arith, first)) in
        omega (arith, hits-cons f (off + 0) k (output_pins_from (k + 1) pins), found, none)
    by direction.Output e (suc q) o again =
        let rest = again (off + 1) (j + 1) q (numbered direction.Output 1 e refl) o in
        let same : (off + 1) + q ≡ off + suc q = omega arith in
        let later : hits f (off + suc q) (output_pins_from (k + 1) pins) ≡ 1 =
        subst (λ t. hits f t (output_pins_from (k + 1) pins) ≡ 1) same rest in
        let missed = miss (f k) (off + suc q) (λ e. let there : f k ≡ off = first in omega (arith, e, there)) in
        omega (arith, hits-cons f (off + suc q) k (output_pins_from (k + 1) pins), missed, later)
    by direction.Internal e q o again =
        let rest = again (off + 0) j q (numbered direction.Internal 0 e refl) o in
        let same : (off + 0) + q ≡ off + q = omega arith in
        subst (λ t. hits f t (output_pins_from (k + 1) pins) ≡ 1) same rest

pub output_once :
    (pins : List Pin) (q : ℕ) → IsTrue (is_output_port (ports_from 1 pins) q)
    → hits (port_number pins) q (output_pins_from 0 pins) ≡ 1
output_once pins q o =
    let same : 0 + q ≡ q = omega arith in
    subst (λ t. hits (port_number pins) t (output_pins_from 0 pins) ≡ 1) same
    (one-hit (port_number pins) 0 0 1 pins q (λ i. plain i) o)
  where
    plain : (i : ℕ) → port_number pins (0 + i) ≡ 0 + port_number pins i
    plain i =
        let at : 0 + i ≡ i = omega arith in
        let none : port_number pins i ≡ 0 + port_number pins i = omega arith in
        ap (port_number pins) at ∙ none
