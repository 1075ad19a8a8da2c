-- The ports of a module whose number and directions are those of a cell's models.
use Rattle.std.proofs.Common.{◌≡◌, ℕ, Bool, true, false, cond, List, [], ◌∷◌, map, get_or, take, inl, inr, refl, sym, ap, ◌∙◌}
use Rattle.std.proofs.Common.{arith, IsTrue, slice_get}
use Rattle.std.specs.Prelude.{count_by, filter}
use Rattle.std.specs.Option.{option_map_or}
use Rattle.std.proofs.lemmas.Bool.{cases_order}
use Rattle.trit_cubes.specs.declared.trits.Trit.{Trit}
use Rattle.trit_cubes.specs.declared.trits.Trit.TheVariants.{Unknown}
use Rattle.cell_machine.specs.declared.pins.Pin.{Pin}
use Rattle.cell_machine.specs.declared.outputs.OutputPin.{OutputPin}
use Rattle.cell_machine.specs.CellData.{CellData}
use Rattle.cell_machine.specs.CellRules.{is_input_pin, HoldsRules}
use Rattle.cell_machine.specs.Inputs.{is_input_at, pin_value}
use Rattle.cell_machine.specs.Inputs as inputs
use Rattle.cell_machine.specs.CellTrace.{inputs_of}
use Rattle.udp_tables.specs.Ports.{is_port, port_number, is_input_port}
use Rattle.specify_blocks.specs.declared.model.VModule.{VModule}
use Rattle.specify_blocks.proofs.OutputPins.{outputs_are_pins}
use Rattle.vital_models.specs.Ports.{ports_of as vital_ports}
use Rattle.vital_models.proofs.PortFacts.{sides, ports-sides, input-side, input_port, outputs-sides}
use Rattle.vital_models.proofs.PortFacts.{output_ports as entity_output_ports}
use Rattle.vital_models.proofs.PortFacts as vital
use Rattle.model_traces.specs.PortNumbers.{input_count, input_number, input_value, output_ports}
use Rattle.model_traces.proofs.PinNumbers.{number-tied, count-tied, outputs-by-sides, is_port_pin, count-below}
use Rattle.table_audit.specs.module_shapes.Shape.{cell_inputs, port_inputs}

-- the directions of the pins that are ports
pub sides-are : (pins : List Pin) → map is_input_at (filter is_port pins) ≡ sides pins
sides-are [] = refl
sides-are (pin ∷ pins) =
    elim (is_port pin) as (λ b. map is_input_at (cond b (pin ∷ filter is_port pins) (filter is_port pins))
    ≡ cond b (is_input_at pin ∷ sides pins) (sides pins)) [
      | true ↦ ap (λ r. is_input_at pin ∷ r) (sides-are pins)
      | false ↦ sides-are pins
    ]

module _ (d : CellData) (m : VModule) (ports : port_inputs m ≡ cell_inputs d) where
  are : vital.inputs_of m.ports ≡ sides d.pins
  are = ports ∙ sides-are d.pins

  pub number : (p : ℕ) → input_number m.ports (port_number d.pins p) ≡ inputs.input_number d.pins p
  number = number-tied d.pins m.ports are

  pub count : input_count m.ports ≡ inputs_of d
  count = count-tied d.pins m.ports are

  pub pin-value : (v : List Trit) (p : ℕ) → input_value m.ports v (port_number d.pins p) ≡ pin_value d.pins v p
  pin-value v p = ap (λ i. get_or v i Unknown) (number p)

  pub is-input : (p : ℕ) → IsTrue (is_input_pin d.pins p) → is_input_port m.ports (port_number d.pins p) ≡ true
  is-input p h =
      input-side m.ports (port_number d.pins p)
      ∙ ap (λ bs. option_map_or (λ (b : Bool). b) (slice_get bs (port_number d.pins p)) false)
      (are ∙ sym (ports-sides [] [] d.pins))
      ∙ sym (input-side (vital_ports [] d.pins) (port_number d.pins p))
      ∙ input_port [] d.pins p h

  pub outputs-are :
      HoldsRules d.name d.pins d.groups d.outputs d.checks d.arcs
      → output_ports m.ports ≡ map (port_number d.pins) (map (λ (o : OutputPin). o.pin) d.outputs)
  outputs-are rules =
      outputs-by-sides 0 m.ports
      ∙ ap (vital.outputs_from 0) are
      ∙ sym (entity_output_ports [] d.pins ∙ outputs-sides 0 (vital_ports [] d.pins)
      ∙ ap (vital.outputs_from 0) (ports-sides [] [] d.pins))
      ∙ ap (map (port_number d.pins)) (sym (outputs_are_pins d.pins d.groups d.outputs rules.of_outputs))

-- Of two pins that pass a test, as many before one as before the other pass it only where they are one pin.
one-pin :
    (test : Pin → Bool) (pins : List Pin) (p q : ℕ)
    → IsTrue (option_map_or test (slice_get pins p) false) → IsTrue (option_map_or test (slice_get pins q) false)
    → count_by test (take p pins) ≡ count_by test (take q pins) → p ≡ q
one-pin test pins p q h k e =
    elim (cases_order p q) [
      | inl same ↦ same
      | inr apart ↦ elim apart [
        | inl below ↦ let fewer = count-below test pins p q below h in absurd (omega (arith, fewer, e))
        | inr above ↦ let fewer = count-below test pins q p above k in absurd (omega (arith, fewer, e))
      ]
    ]

-- two input pins are one where their numbers among the inputs are, and where their numbers among the ports are
pub one-input :
    (pins : List Pin) (p q : ℕ)
    → IsTrue (is_input_pin pins p) → IsTrue (is_input_pin pins q)
    → inputs.input_number pins p ≡ inputs.input_number pins q → p ≡ q
one-input pins p q h k e = one-pin is_input_at pins p q h k e

pub one-port :
    (pins : List Pin) (p q : ℕ)
    → IsTrue (is_port_pin pins p) → IsTrue (is_port_pin pins q) → port_number pins p ≡ port_number pins q → p ≡ q
one-port pins p q h k e = one-pin is_port pins p q h k e
