-- The directions of the ports that pins have in either language, and how many inputs and outputs they are.
use Rattle.std.proofs.Common.{◌≡◌, ℕ, ◌+◌, Bool, true, false, not, zero, suc, List, [], ◌∷◌, ◌++◌, length, map, refl, sym, ap}
use Rattle.std.proofs.Common.{◌∙◌, append_assoc, append-nil, arith, IsTrue, replicate}
use Rattle.std.specs.Prelude.{nat_eq}
use Rattle.std.specs.Bool.{beq}
use Rattle.std.specs.List.{list_all}
use Rattle.std.proofs.lemmas.Bool.{and_parts, and_from, eq-eqb, not_from_false as not_of}
use Rattle.std.proofs.lemmas.List.{map-append, length-map, length-replicate}
use Rattle.cell_machine.specs.declared.pins.Direction.{Direction}
use Rattle.cell_machine.specs.declared.pins.Direction.TheVariants.{Input, Output, Internal}
use Rattle.cell_machine.specs.declared.pins.Pin.{Pin}
use Rattle.cell_machine.specs.Inputs.{is_input_at}
use Rattle.udp_tables.specs.declared.models.VPort.{VPort}
use Rattle.driver_models.specs.Models.{is_input, directions, input_count, output_count, AreCorePorts, are_core_ports}
use Rattle.specify_blocks.specs.Ports as verilog
use Rattle.vital_models.specs.Ports as vital
use Rattle.three_state_cells.specs.Timing.{is_output_at}
use Rattle.three_state_cells.proofs.CoreDrivers.{one_if, count, flags_count}

-- whether the port of a pin is an input, where it has one
abbrev pub port_direction : Direction → List Bool
port_direction Input = true ∷ []
port_direction Output = false ∷ []
port_direction Internal = []

abbrev pub port_directions : List Pin → List Bool
port_directions [] = []
port_directions (pin ∷ pins) = port_direction pin.direction ++ port_directions pins

abbrev pub pin_of : List ℕ → Direction → Pin
pin_of name direction = record { name = name; direction = direction }

-- Verilog

verilog_by :
    (name : List ℕ) (direction : Direction) (k : ℕ) (pins : List Pin)
    → ((j : ℕ) → directions (verilog.ports_from j pins) ≡ port_directions pins)
    → directions (verilog.ports_from k (pin_of name direction ∷ pins)) ≡ port_directions (pin_of name direction ∷ pins)
verilog_by name Input k pins h = ap (λ (bs : List Bool). true ∷ bs) (h (k + 1))
verilog_by name Output k pins h = ap (λ (bs : List Bool). false ∷ bs) (h (k + 1))
verilog_by name Internal k pins h = h k

pub verilog_directions : (k : ℕ) (pins : List Pin) → directions (verilog.ports_from k pins) ≡ port_directions pins
verilog_directions k [] = refl
verilog_directions k (pin ∷ pins) = verilog_by pin.name pin.direction k pins (λ j. verilog_directions j pins)

-- VHDL

one_port : (ports : List VPort) (port : VPort) (more : List Bool)
    → directions (ports ++ port ∷ []) ++ more ≡ directions ports ++ (port.input ∷ more)
one_port ports port more =
    ap (λ (bs : List Bool). bs ++ more) (map-append is_input ports (port ∷ []))
    ∙ append_assoc (directions ports) (port.input ∷ []) more

vital_by :
    (entity name : List ℕ) (direction : Direction) (ports : List VPort) (pins : List Pin)
    → ((others : List VPort) → directions (vital.ports_after entity others pins) ≡ directions others ++ port_directions pins)
    → directions (vital.ports_after entity ports (pin_of name direction ∷ pins)) ≡ directions ports
    ++ port_directions (pin_of name direction ∷ pins)
vital_by entity name Input ports pins h =
    h (ports ++ vital.port_after entity ports (pin_of name Input) ∷ [])
    ∙ one_port ports (vital.port_after entity ports (pin_of name Input)) (port_directions pins)
vital_by entity name Output ports pins h =
    h (ports ++ vital.port_after entity ports (pin_of name Output) ∷ [])
    ∙ one_port ports (vital.port_after entity ports (pin_of name Output)) (port_directions pins)
vital_by entity name Internal ports pins h = h ports

vital_after :
    (entity : List ℕ) (ports : List VPort) (pins : List Pin)
    → directions (vital.ports_after entity ports pins) ≡ directions ports ++ port_directions pins
vital_after entity ports [] = sym (append-nil (directions ports))
vital_after entity ports (pin ∷ pins) =
    vital_by entity pin.name pin.direction ports pins (λ others. vital_after entity others pins)

pub vital_directions : (entity : List ℕ) (pins : List Pin) → directions (vital.ports_of entity pins) ≡ port_directions pins
vital_directions entity pins = vital_after entity [] pins

-- how many inputs and outputs they are

inputs_by : (direction : Direction) (bs : List Bool) (n : ℕ) → count bs ≡ n
    → count (port_direction direction ++ bs) ≡ one_if (is_input_at (pin_of [] direction)) + n
inputs_by Input bs n e = omega (arith, e)
inputs_by Output bs n e = omega (arith, e)
inputs_by Internal bs n e = omega (arith, e)

inputs_in : (pins : List Pin) → count (port_directions pins) ≡ count (map is_input_at pins)
inputs_in [] = refl
inputs_in (pin ∷ pins) = inputs_by pin.direction (port_directions pins) (count (map is_input_at pins)) (inputs_in pins)

outputs_by :
    (direction : Direction) (bs : List Bool) (n : ℕ) → count (map not bs) ≡ n
    → count (map not (port_direction direction ++ bs)) ≡ one_if (is_output_at (pin_of [] direction)) + n
outputs_by Input bs n e = omega (arith, e)
outputs_by Output bs n e = omega (arith, e)
outputs_by Internal bs n e = omega (arith, e)

outputs_in : (pins : List Pin) → count (map not (port_directions pins)) ≡ count (map is_output_at pins)
outputs_in [] = refl
outputs_in (pin ∷ pins) = outputs_by pin.direction (port_directions pins) (count (map is_output_at pins)) (outputs_in pins)

not_inputs : (ports : List VPort) → map (λ (port : VPort). not port.input) ports ≡ map not (directions ports)
not_inputs [] = refl
not_inputs (port ∷ ports) = ap (λ (bs : List Bool). not port.input ∷ bs) (not_inputs ports)

pub inputs_counted : (ports : List VPort) (pins : List Pin) → directions ports ≡ port_directions pins
    → input_count ports ≡ count (map is_input_at pins)
inputs_counted ports pins e = sym (flags_count is_input ports) ∙ (ap count e ∙ inputs_in pins)

pub outputs_counted : (ports : List VPort) (pins : List Pin) → directions ports ≡ port_directions pins
    → output_count ports ≡ count (map is_output_at pins)
outputs_counted ports pins e =
    sym (flags_count (λ (port : VPort). not port.input) ports)
    ∙ (ap count (not_inputs ports) ∙ (ap (λ (bs : List Bool). count (map not bs)) e ∙ outputs_in pins))

-- Of pins one behind the other, and of outputs alone.

pub directions_append : (pins others : List Pin)
    → port_directions (pins ++ others) ≡ port_directions pins ++ port_directions others
directions_append [] others = refl
directions_append (pin ∷ pins) others =
    ap (λ (bs : List Bool). port_direction pin.direction ++ bs) (directions_append pins others)
    ∙ sym (append_assoc (port_direction pin.direction) (port_directions pins) (port_directions others))

output_direction : (direction : Direction) (bs : List Bool) → is_output_at (pin_of [] direction) ≡ true
    → port_direction direction ++ bs ≡ false ∷ bs
output_direction Input bs h = absurd cc
output_direction Output bs h = refl
output_direction Internal bs h = absurd cc

pub outputs_alone : (pins : List Pin) → IsTrue (list_all is_output_at pins) → port_directions pins ≡ replicate (length pins) false
outputs_alone [] h = refl
outputs_alone (pin ∷ pins) h =
    let parts = and_parts (is_output_at pin) (list_all is_output_at pins) h in
    output_direction pin.direction (port_directions pins) parts.0
    ∙ ap (λ (bs : List Bool). false ∷ bs) (outputs_alone pins parts.1)

pub inputs_none : (pins : List Pin) → IsTrue (list_all is_output_at pins) → count (map is_input_at pins) ≡ 0
inputs_none [] h = refl
inputs_none (pin ∷ pins) h =
    let parts = and_parts (is_output_at pin) (list_all is_output_at pins) h in
    no_input pin.direction (count (map is_input_at pins)) parts.0 (inputs_none pins parts.1)
  where
    no_input : (direction : Direction) (n : ℕ) → is_output_at (pin_of [] direction) ≡ true → n ≡ 0
        → one_if (is_input_at (pin_of [] direction)) + n ≡ 0
    no_input Input n h e = absurd cc
    no_input Output n h e = omega (arith, e)
    no_input Internal n h e = absurd cc

pub outputs_all : (pins : List Pin) → IsTrue (list_all is_output_at pins) → count (map is_output_at pins) ≡ length pins
outputs_all [] h = refl
outputs_all (pin ∷ pins) h =
    let parts = and_parts (is_output_at pin) (list_all is_output_at pins) h in
    let rest = outputs_all pins parts.1 in
    let one : one_if (is_output_at pin) ≡ 1 = ap one_if parts.0 in
    omega (arith, rest, one)

-- The test of the ports of a core.

same_bits : (a b : Bool) → a ≡ b → beq a b ≡ true
same_bits true b e = rw (sym e) refl
same_bits false b e = rw (sym e) refl

abbrev head_of : (bs : List Bool) → Bool
head_of [] = false
head_of (b ∷ bs) = b

abbrev tail_of : (bs : List Bool) → List Bool
tail_of [] = []
tail_of (b ∷ bs) = bs

all_outputs : (driven : ℕ) (core : List VPort) → directions core ≡ replicate driven false
    → list_all (λ (port : VPort). not port.input) core ≡ true
all_outputs driven [] e = refl
all_outputs zero (port ∷ core) e = absurd cc
all_outputs (suc driven) (port ∷ core) e =
    and_from (not port.input) (list_all (λ (port : VPort). not port.input) core) (not_of port.input (ap head_of e))
    (all_outputs driven core (ap tail_of e))

alone_pass : (driven : ℕ) (core : List VPort) → directions core ≡ replicate driven false → are_core_ports [] driven core ≡ true
alone_pass driven core e =
    let sized : length core ≡ driven = sym (length-map core is_input) ∙ (ap length e ∙ length-replicate driven false) in
    and_from (nat_eq (length core) driven) (list_all (λ (port : VPort). not port.input) core) (eq-eqb (length core) driven sized)
    (all_outputs driven core e)

pub core_ports_pass : (ports : List VPort) (driven : ℕ) (core : List VPort) → AreCorePorts ports driven core
    → are_core_ports ports driven core ≡ true
core_ports_pass [] driven core e = alone_pass driven core e
core_ports_pass (port ∷ ports) driven [] e = absurd cc
core_ports_pass (port ∷ ports) driven (first ∷ core) e =
    and_from (beq first.input port.input) (are_core_ports ports driven core) (same_bits first.input port.input (ap head_of e))
    (core_ports_pass ports driven core (ap tail_of e))
