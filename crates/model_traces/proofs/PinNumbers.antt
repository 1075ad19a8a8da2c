-- The numbers of a cell's pins among its inputs, among its ports, and of those ports among the inputs.
use Rattle.std.proofs.Common.{◌≡◌, ℕ, zero, suc, ◌+◌, ◌<◌, ◌≤◌, Bool, true, false, ◌||◌, cond, List, [], ◌∷◌, ◌++◌, map, get_or}
use Rattle.std.proofs.Common.{set, take, refl, sym, ap, ◌∙◌, arith, IsTrue, Option, Some, None, slice_get, nat_eq, nat_lt}
use Rattle.std.proofs.Common.{eqb-true, if◌then◌else◌, length}
use Rattle.std.specs.Prelude.{count_by, position}
use Rattle.std.specs.List.{list_all, position_from}
use Rattle.std.specs.Option.{option_map_or}
use Rattle.std.proofs.lemmas.Bool.{and_parts, eq-eqb, ne_eqb, ltb-true, ltb-false}
use Rattle.std.proofs.lemmas.List.{get_or-set_other, get_or-set_same}
use Rattle.std.proofs.lemmas.List.Sums.{sum_by-cons}
use Rattle.trit_cubes.specs.declared.trits.Trit.{Trit}
use Rattle.trit_cubes.specs.declared.trits.Trit.TheVariants.{Unknown}
use Rattle.trit_cubes.proofs.ListLemmas.{Among}
use Rattle.cell_machine.specs.declared.pins.Direction.{Direction}
use Rattle.cell_machine.specs.declared.pins.Direction.TheVariants as direction
use Rattle.cell_machine.specs.declared.pins.Pin.{Pin}
use Rattle.cell_machine.specs.declared.arcs.Arc.{Arc}
use Rattle.cell_machine.specs.CellRules.{is_input, is_output, is_input_pin, is_output_pin, is_arc}
use Rattle.cell_machine.specs.Inputs.{is_input_at, pin_value}
use Rattle.cell_machine.specs.Inputs as cell
use Rattle.cell_machine.specs.Supports.{AllAbove, Ascending}
use Rattle.udp_tables.specs.declared.models.VPort.{VPort}
use Rattle.specify_blocks.specs.Ports.{is_port, port_number, port_of, ports_from}
use Rattle.specify_blocks.proofs.PortLemmas.{input-is-port, output-is-port}
use Rattle.vital_models.proofs.PortFacts.{sides, inputs_of, port_number-cons}
use Rattle.vital_models.proofs.PortFacts as vital
use Rattle.run_parts.specs.PortNumbers.{is_input as is_input_of, input_count, input_number, output_by, outputs_from}
use Rattle.model_traces.proofs.PlaceLemmas.{equal-numbers, position-from, placed, get-map}
use Rattle.model_traces.proofs.CellSteps.{all-passes}

-- how many of the sides are inputs
abbrev ones : List Bool → ℕ
ones [] = 0
ones (true ∷ bs) = suc (ones bs)
ones (false ∷ bs) = ones bs

ones-more : (b : Bool) (n : ℕ) (bs : List Bool) → n ≡ ones bs → cond b 1 0 + n ≡ ones (b ∷ bs)
ones-more true n bs e = let one : 1 + n ≡ suc n = omega arith in one ∙ ap suc e
ones-more false n bs e = let none : 0 + n ≡ n = omega arith in none ∙ e

-- the number of a port among the inputs is told by the sides
port-ones : (ports : List VPort) (p : ℕ) → input_number ports p ≡ ones (take p (inputs_of ports))
port-ones ports zero = refl
port-ones [] (suc p) = refl
port-ones (port ∷ ports) (suc p) =
    sum_by-cons (λ (x : VPort). cond (is_input_of x) 1 0) port (take p ports)
    ∙ ones-more port.input (input_number ports p) (take p (inputs_of ports)) (port-ones ports p)

ports-ones : (ports : List VPort) → input_count ports ≡ ones (inputs_of ports)
ports-ones [] = refl
ports-ones (port ∷ ports) =
    sum_by-cons (λ (x : VPort). cond (is_input_of x) 1 0) port ports
    ∙ ones-more port.input (input_count ports) (inputs_of ports) (ports-ones ports)

-- so is that of a pin among the inputs
pin-ones : (pins : List Pin) (p : ℕ) → cell.input_number pins p ≡ ones (take (port_number pins p) (sides pins))
pin-ones pins zero = refl
pin-ones [] (suc p) = refl
pin-ones (pin ∷ pins) (suc p) =
    sum_by-cons (λ (x : Pin). cond (is_input_at x) 1 0) pin (take p pins)
    ∙ by pin.direction (cell.input_number pins p) (port_number pins p) (pin-ones pins p)
    ∙ ap (λ n. ones (take n (sides (pin ∷ pins)))) (sym (port_number-cons pin pins p))
  where
    by :
        (d : Direction) (a n : ℕ) → a ≡ ones (take n (sides pins))
        → cond (is_input d) 1 0 + a
        ≡ ones (take (cond (is_input d || is_output d) 1 0 + n)
        (if is_input d || is_output d then is_input d ∷ sides pins else sides pins))
    by direction.Input a n e =
        let next : suc n ≡ 1 + n = omega arith in
        let one : 1 + a ≡ suc a = omega arith in
        one ∙ ap suc e ∙ ap (λ m. ones (take m (true ∷ sides pins))) next
    by direction.Output a n e =
        let next : suc n ≡ 1 + n = omega arith in
        let none : 0 + a ≡ a = omega arith in
        none ∙ e ∙ ap (λ m. ones (take m (false ∷ sides pins))) next
    by direction.Internal a n e =
        let next : n ≡ 0 + n = omega arith in
        let none : 0 + a ≡ a = omega arith in
        none ∙ e ∙ ap (λ m. ones (take m (sides pins))) next

pins-ones : (pins : List Pin) → count_by is_input_at pins ≡ ones (sides pins)
pins-ones [] = refl
pins-ones (pin ∷ pins) =
    sum_by-cons (λ (x : Pin). cond (is_input_at x) 1 0) pin pins ∙ by pin.direction (count_by is_input_at pins) (pins-ones pins)
  where
    by :
        (d : Direction) (a : ℕ) → a ≡ ones (sides pins)
        → cond (is_input d) 1 0 + a ≡ ones (if is_input d || is_output d then is_input d ∷ sides pins else sides pins)
    by direction.Input a e = let one : 1 + a ≡ suc a = omega arith in one ∙ ap suc e
    by direction.Output a e = let none : 0 + a ≡ a = omega arith in none ∙ e
    by direction.Internal a e = let none : 0 + a ≡ a = omega arith in none ∙ e

-- ports whose sides are those of the pins
module _ (pins : List Pin) (ports : List VPort) (are : inputs_of ports ≡ sides pins) where
  pub number-tied : (p : ℕ) → input_number ports (port_number pins p) ≡ cell.input_number pins p
  number-tied p =
      port-ones ports (port_number pins p) ∙ ap (λ bs. ones (take (port_number pins p) bs)) are ∙ sym (pin-ones pins p)

  pub count-tied : input_count ports ≡ count_by is_input_at pins
  count-tied = ports-ones ports ∙ ap ones are ∙ sym (pins-ones pins)

-- the sides of a module's ports
pub module-sides : (k : ℕ) (pins : List Pin) → inputs_of (ports_from k pins) ≡ sides pins
module-sides k [] = refl
module-sides k (pin ∷ pins) =
    elim (is_port pin) as (λ b.
    inputs_of (if b then port_of k pin ∷ ports_from (k + 1) pins else ports_from k pins)
    ≡ (if b then is_input pin.direction ∷ sides pins else sides pins)) [
      | true ↦ ap (λ r. is_input pin.direction ∷ r) (module-sides (k + 1) pins)
      | false ↦ module-sides k pins
    ]

pub outputs-by-sides : (k : ℕ) (ports : List VPort) → outputs_from k ports ≡ vital.outputs_from k (inputs_of ports)
outputs-by-sides k [] = refl
outputs-by-sides k (port ∷ ports) =
    elim (port.input) as (λ b.
    output_by k b ++ outputs_from (k + 1) ports
    ≡ (if b then vital.outputs_from (k + 1) (inputs_of ports) else k ∷ vital.outputs_from (k + 1) (inputs_of ports))) [
      | true ↦ outputs-by-sides (k + 1) ports
      | false ↦ ap (λ r. k ∷ r) (outputs-by-sides (k + 1) ports)
    ]

-- how many pins before a place pass a test grows at one that does
pub count-below :
    (test : Pin → Bool) (pins : List Pin) (p q : ℕ)
    → p < q → IsTrue (option_map_or test (slice_get pins p) false) → count_by test (take p pins) < count_by test (take q pins)
count-below test [] p q h t = absurd cc
count-below test (pin ∷ pins) p zero h t = absurd (omega arith)
count-below test (pin ∷ pins) zero (suc q) h t =
    let one : ◌≡◌ {A = ℕ} (cond (test pin) 1 0) 1 = ap (λ b. cond b 1 0) t in
    let first : count_by test (take zero (pin ∷ pins)) ≡ 0 = refl in
    omega (arith, sum_by-cons (λ x. cond (test x) 1 0) pin (take q pins), one, first)
count-below test (pin ∷ pins) (suc p) (suc q) h t =
    let rest : count_by test (take p pins) < count_by test (take q pins) = count-below test pins p q (omega arith) t in
    omega (
      arith,
      rest,
      sum_by-cons (λ x. cond (test x) 1 0) pin (take p pins),
      sum_by-cons (λ x. cond (test x) 1 0) pin
          (take q pins),
    )

-- whether this is the number of a pin that is a port
abbrev pub is_port_pin : List Pin → ℕ → Bool
is_port_pin pins p = option_map_or is_port (slice_get pins p) false

-- a pin that passes a test passes what the test implies
pin-implied :
    (test other : Pin → Bool) → ((pin : Pin) → IsTrue (test pin) → IsTrue (other pin))
    → (o : Option Pin) → IsTrue (option_map_or test o false) → IsTrue (option_map_or other o false)
pin-implied test other implied None h = absurd cc
pin-implied test other implied (Some pin) h = implied pin h

pub input-pin-port : (pins : List Pin) (p : ℕ) → IsTrue (is_input_pin pins p) → IsTrue (is_port_pin pins p)
input-pin-port pins p h = pin-implied (λ pin. is_input pin.direction) is_port (λ pin k. input-is-port pin.direction k)
    (slice_get pins p) h

pub output-pin-port : (pins : List Pin) (p : ℕ) → IsTrue (is_output_pin pins p) → IsTrue (is_port_pin pins p)
output-pin-port pins p h = pin-implied (λ pin. is_output pin.direction) is_port (λ pin k. (output-is-port pin.direction k).0)
    (slice_get pins p) h

-- the ends of an arc are ports
module _ (pins : List Pin) (arcs : List Arc) (hold : IsTrue (list_all (is_arc pins) arcs)) where
  pub starts-at-port : (arc : Arc) → Among arc arcs → IsTrue (is_port_pin pins arc.from)
  starts-at-port arc among =
      input-pin-port pins arc.from
      (and_parts (is_input_pin pins arc.from) _ (all-passes (is_arc pins) arcs arc hold among)).0

  pub ends-at-port : (arc : Arc) → Among arc arcs → IsTrue (is_port_pin pins arc.to)
  ends-at-port arc among =
      output-pin-port pins arc.to
      (and_parts (is_output_pin pins arc.to) _
      (and_parts (is_input_pin pins arc.from) _ (all-passes (is_arc pins) arcs arc hold among)).1).0

-- where a change sets an input that stands at a place of a list of pins, that place has its value
pub set-place :
    (pins : List Pin) (qs : List ℕ) (v : List Trit) (input p : ℕ) (to : Trit)
    → position (λ q. nat_eq (cell.input_number pins q) input) qs ≡ Some p → input < length v
    → (q : ℕ) × (slice_get qs p ≡ Some q) × (cell.input_number pins q ≡ input)
    × (get_or (cell.pin_values pins (set v input to) qs) p Unknown ≡ to)
set-place pins qs v input p to e inside =
    let test : ℕ → Bool = λ q. nat_eq (cell.input_number pins q) input in
    let found = placed test 0 qs p (sym (position-from test qs) ∙ e) in
    let here : found.0 ≡ p = omega (arith, found.2) in
    let at : slice_get qs p ≡ Some found.1 = ap (slice_get qs) (sym here) ∙ found.3 in
    let number : cell.input_number pins found.1 ≡ input = eqb-true (cell.input_number pins found.1) input found.4 in
    let value : get_or (cell.pin_values pins (set v input to) qs) p Unknown ≡ to =
    get-map (pin_value pins (set v input to)) qs p found.1 Unknown at
    ∙ ap (λ i. get_or (set v input to) i Unknown) number
    ∙ get_or-set_same v input to Unknown inside in
    (found.1, at, number, value)

swapped : (a b : ℕ) → nat_eq a b ≡ nat_eq b a
swapped a b = by (nat_eq a b) refl
  where
    by : (c : Bool) → nat_eq a b ≡ c → c ≡ nat_eq b a
    by true e = sym (eq-eqb b a (sym (eqb-true a b e)))
    by false e = sym (ne_eqb b a (λ same. let other : nat_eq a b ≡ true = eq-eqb a b (sym same) in absurd cc))

-- two pins that are ports have one port only where they are one pin
pub same-port :
    (pins : List Pin) (p q : ℕ)
    → IsTrue (is_port_pin pins p) → IsTrue (is_port_pin pins q)
    → nat_eq (port_number pins p) (port_number pins q) ≡ nat_eq p q
same-port pins p q h k = by (nat_lt p q) refl (nat_lt q p) refl
  where
    by :
        (b : Bool) → nat_lt p q ≡ b → (c : Bool) → nat_lt q p ≡ c
        → nat_eq (port_number pins p) (port_number pins q) ≡ nat_eq p q
    by true e c f =
        let below : p < q = ltb-true p q e in
        equal-numbers (port_number pins p) (port_number pins q) (count-below is_port pins p q below h)
        ∙ sym (equal-numbers p q below)
    by false e true f =
        let below : q < p = ltb-true q p f in
        swapped (port_number pins p) (port_number pins q)
        ∙ equal-numbers (port_number pins q) (port_number pins p) (count-below is_port pins q p below k)
        ∙ sym (swapped p q ∙ equal-numbers q p below)
    by false e false f =
        let up : q ≤ p = ltb-false p q e in
        let down : p ≤ q = ltb-false q p f in
        let same : p ≡ q = omega (arith, up, down) in
        eq-eqb (port_number pins p) (port_number pins q) (ap (port_number pins) same) ∙ sym (eq-eqb p q same)

-- The values of a support's pins before and after a change of one input.
unchanged :
    (pins : List Pin) (v : List Trit) (i : ℕ) (b : Trit) (q : ℕ)
    → nat_eq (cell.input_number pins q) i ≡ false → pin_value pins v q ≡ pin_value pins (set v i b) q
unchanged pins v i b q e =
    sym (get_or-set_other v i (cell.input_number pins q) b Unknown
    (λ same. let other : nat_eq (cell.input_number pins q) i ≡ true = eq-eqb (cell.input_number pins q) i same in absurd cc))

all-unchanged :
    (pins : List Pin) (v : List Trit) (i : ℕ) (b : Trit) (p : ℕ) (support : List ℕ)
    → IsTrue (is_input_pin pins p) → cell.input_number pins p ≡ i → AllAbove p support
    → map (pin_value pins v) support ≡ map (pin_value pins (set v i b)) support
all-unchanged pins v i b p [] h e above = refl
all-unchanged pins v i b p (q ∷ support) h e above =
    let more : cell.input_number pins p < cell.input_number pins q = count-below is_input_at pins p q above.0 h in
    let apart : nat_eq (cell.input_number pins q) i ≡ false =
    ne_eqb (cell.input_number pins q) i (λ same. absurd (omega (arith, more, e, same))) in
    λ j. unchanged pins v i b q apart j ∷ all-unchanged pins v i b p support h e above.1 j

-- no pin of the support is the changed input
pub still-values :
    (pins : List Pin) (v : List Trit) (i : ℕ) (b : Trit) (k : ℕ) (support : List ℕ)
    → position_from (λ p. nat_eq (cell.input_number pins p) i) k support ≡ None
    → map (pin_value pins v) support ≡ map (pin_value pins (set v i b)) support
still-values pins v i b k [] e = refl
still-values pins v i b k (q ∷ support) e =
    by (nat_eq (cell.input_number pins q) i) refl e (λ none. still-values pins v i b (k + 1) support none)
  where
    by :
        (c : Bool) → nat_eq (cell.input_number pins q) i ≡ c
        → cond c (Some k) (position_from (λ p. nat_eq (cell.input_number pins p) i) (k + 1) support) ≡ None
        → (position_from (λ p. nat_eq (cell.input_number pins p) i) (k + 1) support ≡ None
        → map (pin_value pins v) support ≡ map (pin_value pins (set v i b)) support)
        → map (pin_value pins v) (q ∷ support) ≡ map (pin_value pins (set v i b)) (q ∷ support)
    by true t none again = absurd cc
    by false f none again = λ j. unchanged pins v i b q f j ∷ again none j

-- a place is not before where the search begins
place-from : {X : Type 0} (p : X → Bool) (k : ℕ) (xs : List X) (n : ℕ) → position_from p k xs ≡ Some n → k ≤ n
place-from p k [] n found = absurd cc
place-from p k (x ∷ xs) n found =
    elim (p x) as (λ c. cond c (Some k) (position_from p (k + 1) xs) ≡ Some n → k ≤ n) [
      | true ↦ λ f. let same : k ≡ n = cc in omega (arith, same)
      | false ↦ λ f. let rest : k + 1 ≤ n = place-from p (k + 1) xs n f in omega (arith, rest)
    ] found

-- the values before a change are those after it, but for the one at this place
abbrev Values : List Pin → List Trit → ℕ → Trit → ℕ → List ℕ → Type 0
Values pins v i b n qs = map (pin_value pins v) qs ≡ set (map (pin_value pins (set v i b)) qs) n (get_or v i Unknown)

-- the pin at this place of the support is the changed input
pub changed-values :
    (pins : List Pin) (v : List Trit) (i : ℕ) (b : Trit) (k j : ℕ) (support : List ℕ)
    → IsTrue (list_all (is_input_pin pins) support) → Ascending support
    → position_from (λ p. nat_eq (cell.input_number pins p) i) k support ≡ Some (k + j)
    → map (pin_value pins v) support ≡ set (map (pin_value pins (set v i b)) support) j (get_or v i Unknown)
changed-values pins v i b k j [] inputs up e = absurd cc
changed-values pins v i b k j (q ∷ support) inputs up e =
    let more = (and_parts (is_input_pin pins q) (list_all (is_input_pin pins) support) inputs).1 in
    by (nat_eq (cell.input_number pins q) i) refl j e (λ n found. changed-values pins v i b (k + 1) n support more up.1 found)
  where
    by :
        (c : Bool) → nat_eq (cell.input_number pins q) i ≡ c → (j : ℕ)
        → cond c (Some k) (position_from (λ p. nat_eq (cell.input_number pins p) i) (k + 1) support) ≡ Some (k + j)
        → ((n : ℕ) → position_from (λ p. nat_eq (cell.input_number pins p) i) (k + 1) support ≡ Some ((k + 1) + n)
        → Values pins v i b n support)
        → Values pins v i b j (q ∷ support)
    by true t zero found again =
        let number : cell.input_number pins q ≡ i = eqb-true (cell.input_number pins q) i t in
        let input = (and_parts (is_input_pin pins q) (list_all (is_input_pin pins) support) inputs).0 in
        λ n. get_or v (number n) Unknown ∷ all-unchanged pins v i b q support input number up.0 n
    by true t (suc j) found again =
        let same : k ≡ k + suc j = cc in
        absurd (omega (arith, same))
    by false f zero found again =
        let rest = place-from (λ p. nat_eq (cell.input_number pins p) i) (k + 1) support (k + zero) found in
        absurd (omega (arith, rest))
    by false f (suc j) found again =
        let at : k + suc j ≡ (k + 1) + j = omega arith in
        λ n. unchanged pins v i b q f n ∷ again j (found ∙ ap Some at) n
