-- The refusals one after another, and the rules that an accepted cell keeps.
use Rattle.std.proofs.Common.{◌≡◌, ℕ, ◌≤◌, List, [], ◌∷◌, length, refl, IsTrue, Option, Some, None, nat_le, Result}
use Rattle.std.proofs.Common.{Ok, Err}
use Rattle.std.specs.Prelude.{IfOk, IfErr}
use Rattle.std.proofs.lemmas.Bool.{and_parts, leb-true}
use Rattle.liberty_text.specs.declared.time.Unit.{Unit}
use Rattle.liberty_groups.specs.declared.tree.Group.{Group}
use Rattle.cell_machine.specs.declared.pins.Pin.{Pin}
use Rattle.cell_machine.specs.declared.groups.StateGroup.{StateGroup}
use Rattle.cell_machine.specs.declared.outputs.OutputPin.{OutputPin}
use Rattle.cell_machine.specs.declared.checks.Check.{Check}
use Rattle.cell_machine.specs.declared.arcs.Arc.{Arc}
use Rattle.cell_machine.specs.CellRules.{are_distinct, is_cell, AreApart}
use Rattle.timing_arcs.specs.declared.subject.Subject.{Subject}
use Rattle.cell_attributes.specs.Groups.{inner_groups, cell_name}
use Rattle.cell_attributes.specs.Pins.{pin_names, pins_of, owners_of}
use Rattle.cell_attributes.specs.Declarations.{declared_of, clashes_after, known_cell}
use Rattle.cell_attributes.specs.Vocabulary.{Vocabulary, vocabulary}
use Rattle.cell_attributes.specs.Building.{outputs_from}
use Rattle.cell_attributes.specs.CellLaws.{numbers_of, groups_of, outputs_of}
use Rattle.cell_attributes.proofs.Distinct.{nil_parts, pins_are_distinct}
use Rattle.cell_refusals.specs.declared.refusal.Refusal.{Refusal}
use Rattle.cell_refusals.specs.declared.refusal.Reason.TheVariants as reason
use Rattle.cell_reader.specs.CellTexts.{subject_of, IsUnmet}
use Rattle.cell_reader.specs.Refusals.{met, first_refusal, early_reasons, middle_reasons, later_reasons, refusal_of}
use Rattle.cell_reader.specs.Refusals.{udp_inputs, checks_of, arcs_of}
use Rattle.cell_reader.proofs.Refused.{all_unmet}
use Rattle.cell_reader.proofs.Chains.{unmet_first, met_first}
use Rattle.cell_reader.proofs.Accepted.{accepted_pins_are_sound, accepted_states_are_few, accepted_cells_are_sound}

-- the names of the pins are distinct where no early reason is met
pub names_are_distinct :
    (earlier : List (List ℕ)) (cell : Group)
    → first_refusal (early_reasons earlier cell) ≡ None → IsTrue (are_distinct (pin_names (pins_of cell)))
names_are_distinct earlier cell h =
    let m = all_unmet (early_reasons earlier cell) h in
    let twice = nil_parts (known_cell earlier cell) (clashes_after [] (declared_of cell)) m.1.1.1.1.1.0 in
    pins_are_distinct (inner_groups cell.items) twice.1

-- the reasons before the texts are read
pub early_decides :
    (subject : Subject) (earlier : List (List ℕ)) (cell : Group) (told : Refusal)
    → first_refusal (early_reasons earlier cell) ≡ Some told → refusal_of subject earlier cell ≡ Some told
early_decides subject earlier cell told h = met_first (early_reasons earlier cell) (later_reasons subject cell) told h

-- the reasons after the texts are read
pub middle_decides :
    (subject : Subject) (cell : Group) (told : Refusal)
    → first_refusal (middle_reasons subject cell) ≡ Some told → first_refusal (later_reasons subject cell) ≡ Some told
middle_decides subject cell told h =
    met_first (middle_reasons subject cell) (met reason.UdpInputs (udp_inputs subject cell) ∷ []) told h

pub later_decide :
    (subject : Subject) (earlier : List (List ℕ)) (cell : Group)
    → first_refusal (early_reasons earlier cell) ≡ None
    → refusal_of subject earlier cell ≡ first_refusal (later_reasons subject cell)
later_decide subject earlier cell h = unmet_first (early_reasons earlier cell) (later_reasons subject cell) h

-- the limits of an accepted cell
pub accepted_few_pins : (subject : Subject) (cell : Group) → IsUnmet subject cell → length (pins_of cell) ≤ 64
accepted_few_pins subject cell h =
    leb-true (length (pins_of cell)) 64
    (and_parts (nat_le (length (pins_of cell)) 64) _ (accepted_pins_are_sound subject h.0 cell h.1).1).0

pub accepted_few_groups : (subject : Subject) (cell : Group) → IsUnmet subject cell → length (groups_of cell) ≤ 16
accepted_few_groups subject cell h = accepted_states_are_few subject h.0 cell h.1

-- the rules of cells
pub keeps_rules :
    (unit : Option Unit) (cell : Group) (name : List ℕ) (pins : List Pin) (groups : List StateGroup) (outputs : List OutputPin)
    (checks : List Check) (arcs : List Arc)
    → IsUnmet (subject_of unit cell) cell → name ≡ cell_name cell → pins ≡ pins_of cell → groups ≡ groups_of cell
    → outputs ≡ outputs_of cell → checks ≡ checks_of (subject_of unit cell) cell → arcs ≡ arcs_of (subject_of unit cell) cell
    → IsTrue (is_cell name pins groups outputs checks arcs)
keeps_rules unit cell name pins groups outputs checks arcs h n p g o k a =
    rw n (rw p (rw g (rw o (rw k (rw a (accepted_cells_are_sound unit h.0 cell h.1).0)))))

pub keeps_apart :
    (unit : Option Unit) (cell : Group) (arcs : List Arc)
    → IsUnmet (subject_of unit cell) cell → arcs ≡ arcs_of (subject_of unit cell) cell → AreApart arcs
keeps_apart unit cell arcs h a = rw a (accepted_cells_are_sound unit h.0 cell h.1).1

-- the outputs of a cell from its parts
pub outputs_are :
    (cell : Group) (v : Vocabulary) (pins : ℕ) (groups : List StateGroup) (to : List ℕ) (owners : List Group)
    → v ≡ vocabulary cell → pins ≡ length (pins_of cell) → groups ≡ groups_of cell → to ≡ numbers_of cell
    → owners ≡ owners_of cell
    → outputs_from v pins groups to 0 owners ≡ outputs_of cell
outputs_are cell v pins groups to owners v_is p_is g_is t_is o_is = rw v_is (rw p_is (rw g_is (rw t_is (rw o_is refl))))

-- What is known of an answer that is a value, or a fault.
pub lift_ok :
    {A E : Type 0} (answer : Result A E) (P Q : A → Type 0) → ((x : A) → P x → Q x) → IfOk answer P → IfOk answer Q
lift_ok (Ok x) P Q f h = f x h
lift_ok (Err e) P Q f h = h

pub lift_err :
    {A E : Type 0} (answer : Result A E) (P Q : E → Type 0) → ((e : E) → P e → Q e) → IfErr answer P → IfErr answer Q
lift_err (Ok x) P Q f h = h
lift_err (Err e) P Q f h = f e h
