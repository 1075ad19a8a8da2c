-- What is read of a cell, as data.
use Rattle.std.proofs.Common.{◌≡◌, ℕ, List, [], ◌∷◌, ◌∙◌, map, refl, sym, ap, subst, Result, Ok}
use Rattle.std.proofs.Common.{Err, IsErrAnd, IfErr}
use Rattle.std.specs.Prelude.{Option}
use Rattle.liberty_text.specs.declared.time.Unit.{Unit}
use Rattle.liberty_groups.specs.declared.tree.Group.{Group}
use Rattle.cell_machine.specs.declared.cells.Cell.{Cell}
use Rattle.cell_machine.specs.declared.pins.Pin.{Pin}
use Rattle.cell_machine.specs.CellData.{CellData, data_of}
use Rattle.cell_attributes.specs.Groups.{cell_name, pin_groups}
use Rattle.cell_attributes.specs.Pins.{pins_of}
use Rattle.cell_reader.specs.declared.left_out.LeftOut.{LeftOut}
use Rattle.cell_reader.specs.declared.read.ReadCell.{ReadCell}
use Rattle.cell_reader.specs.CellTexts.{subject_of, IsCellOf}
use Rattle.cell_reader.specs.Refusals.{left_out_of, refusal_of}
use Rattle.three_state_cells.specs.declared.driven_cell.DrivenCell.{DrivenCell}
use Rattle.three_state_cells.specs.declared.drivers.Drivers.{Drivers}
use Rattle.core_groups.specs.declared.outputs.CellPins.{CellPins}
use Rattle.core_groups.specs.declared.outputs.ThreeStateOutput.{ThreeStateOutput as HeldOutput}
use Rattle.core_groups.specs.Outputs.{ThreeStateOutput, shown, three_state_outputs, ArePins}
use Rattle.three_state_cells.specs.Refusals.{floating_refusal, refusal_by, driven_refusal}
use Rattle.core_groups.specs.CoreGroups.{core_group}
use Rattle.three_state_cells.specs.Timing.{all_left_out, in_pin_order}
use Rattle.three_state_cells.specs.CoreReadings.{AreDrivers, IsFloating}
use Rattle.three_state_cells.specs.DrivenCells.{driven_data_of, cell_data, core_name, floating_of, plain_of, data_by, driven_data}

-- a cell that a group describes, as data
pub data_as :
    (unit : Option Unit) (number : ℕ) (group : Group) (cell : Cell)
    → IsCellOf (subject_of unit group) number group cell → data_of cell ≡ cell_data unit (cell_name group) number group
data_as unit number group cell h = λ i. record {
  name = h.same_name i;
  number = h.same_number i;
  pins = h.same_pins i;
  groups = h.same_groups i;
  outputs = h.same_outputs i;
  checks = h.same_checks i;
  arcs = h.same_arcs i;
}

lines_are :
    (unit : Option Unit) (core : Group) (outputs : List ThreeStateOutput) (read : ReadCell) (lines : List LeftOut)
    → read.cell.pins ≡ pins_of core → read.left_out ≡ left_out_of (subject_of unit core) core
    → lines ≡ all_left_out (subject_of unit core) outputs
    → in_pin_order 0 read.cell.pins read.left_out lines
    ≡ in_pin_order 0 (pins_of core) (left_out_of (subject_of unit core) core) (all_left_out (subject_of unit core) outputs)
lines_are unit core outputs read lines p l e =
    ap (λ (pins : List Pin). in_pin_order 0 pins read.left_out lines) p
    ∙ (ap (λ (one : List LeftOut). in_pin_order 0 (pins_of core) one lines) l
    ∙ ap (in_pin_order 0 (pins_of core) (left_out_of (subject_of unit core) core)) e)

pub floating_as :
    (unit : Option Unit) (number : ℕ) (core : Group) (outputs : List ThreeStateOutput) (read : ReadCell) (drivers : Drivers)
    (cell : DrivenCell)
    → IsCellOf (subject_of unit core) number core read.cell → read.left_out ≡ left_out_of (subject_of unit core) core
    → AreDrivers unit core outputs drivers → IsFloating read drivers number cell
    → driven_data_of cell ≡ floating_of unit number core outputs
unfolding floating_of
floating_as unit number core outputs read drivers cell h l d f =
    let renamed : data_of cell.core ≡ cell_data unit (core_name number) number core =
    f.core ∙ ap (λ (cell_of : CellData). record cell_of { name = core_name number }) (data_as unit number core read.cell h) in
    let lines = lines_are unit core outputs read drivers.left_out h.same_pins l d.left_out in
    λ i. record {
      core = renamed i;
      name = (f.name ∙ h.same_name) i;
      driver = (f.driver ∙ d.driver) i;
      left_out = (f.left_out ∙ lines) i;
    }

-- A cell without three-state outputs, and one with some.

pub plain_as :
    (unit : Option Unit) (number : ℕ) (cell : Group) (read : ReadCell) (driven : DrivenCell)
    → three_state_outputs cell ≡ [] → IsCellOf (subject_of unit cell) number cell read.cell
    → read.left_out ≡ left_out_of (subject_of unit cell) cell
    → driven_data_of driven ≡ plain_of (data_of read.cell) read.left_out → driven_data_of driven ≡ driven_data unit number cell
unfolding driven_data
plain_as unit number cell read driven none h l e =
    e
    ∙ (ap (λ (core : CellData). plain_of core read.left_out) (data_as unit number cell read.cell h)
    ∙ (ap (plain_of (cell_data unit (cell_name cell) number cell)) l
    ∙ ap (data_by unit number cell) (sym none)))

pub plain_refusal :
    (unit : Option Unit) (earlier : List (List ℕ)) (cell : Group) → three_state_outputs cell ≡ []
    → refusal_of (subject_of unit cell) earlier cell ≡ driven_refusal unit earlier cell
unfolding driven_refusal
plain_refusal unit earlier cell none = ap (refusal_by unit earlier cell) (sym none)

some_data :
    (unit : Option Unit) (number : ℕ) (cell : Group) (outputs : List ThreeStateOutput)
    → (outputs ≡ [] → ⊥) → floating_of unit number (core_group cell) outputs ≡ data_by unit number cell outputs
some_data unit number cell [] h = absurd (h refl)
some_data unit number cell (output ∷ outputs) h = refl

some_refusal :
    (unit : Option Unit) (earlier : List (List ℕ)) (cell : Group) (outputs : List ThreeStateOutput)
    → (outputs ≡ [] → ⊥) → floating_refusal unit earlier (core_group cell) (pin_groups cell) ≡ refusal_by unit earlier cell
    outputs
some_refusal unit earlier cell [] h = absurd (h refl)
some_refusal unit earlier cell (output ∷ outputs) h = refl

none_shown : (outputs : List HeldOutput) → map shown outputs ≡ [] → outputs ≡ []
none_shown [] h = refl
none_shown (output ∷ outputs) h = absurd cc

pub floating_data_is :
    (unit : Option Unit) (number : ℕ) (cell core : Group) (pins : CellPins) → ArePins cell pins → (pins.outputs.items ≡ [] → ⊥)
    → core ≡ core_group cell
    → floating_of unit number core (map shown pins.outputs.items) ≡ driven_data unit number cell
unfolding driven_data
floating_data_is unit number cell core pins h some e =
    ap (λ (group : Group). floating_of unit number group (map shown pins.outputs.items)) e
    ∙ (some_data unit number cell (map shown pins.outputs.items) (λ none. some (none_shown pins.outputs.items none))
    ∙ ap (data_by unit number cell) h.of_outputs)

pub floating_refusal_is :
    (unit : Option Unit) (earlier : List (List ℕ)) (cell core : Group) (pins : CellPins) → ArePins cell pins
    → (pins.outputs.items ≡ [] → ⊥)
    → core ≡ core_group cell
    → floating_refusal unit earlier core (map (λ group. group.now) pins.groups.items) ≡ driven_refusal unit earlier cell
unfolding driven_refusal
floating_refusal_is unit earlier cell core pins h some e =
    ap (λ (group : Group). floating_refusal unit earlier group (map (λ group. group.now) pins.groups.items)) e
    ∙ (ap (floating_refusal unit earlier (core_group cell)) h.of_groups
    ∙ (some_refusal unit earlier cell (map shown pins.outputs.items) (λ none. some (none_shown pins.outputs.items none))
    ∙ ap (refusal_by unit earlier cell) h.of_outputs))

-- what is told of an answer that is this fault
pub err_told : {A E : Type 0} (answer : Result A E) (given : E) (Q : E → Type 0) → IsErrAnd answer (λ fault. fault ≡ given)
    → Q given → IfErr answer Q
err_told (Ok x) given Q h k = absurd h
err_told (Err fault) given Q h k = subst Q (sym h) k
