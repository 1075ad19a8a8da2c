-- What it says of a cell that nothing refuses it: laws over the definitions.
use Rattle.std.specs.Prelude.{◌≡◌, ◌≤◌, ⊤, ℕ, List, [], ◌∷◌, length, Option, None, IsTrue}
use Rattle.liberty_text.specs.declared.time.Unit.{Unit}
use Rattle.liberty_groups.specs.declared.tree.Group.{Group}
use Rattle.cell_machine.specs.CellRules.{is_name, are_pins, is_cell, AreApart}
use Rattle.timing_arcs.specs.declared.subject.Subject.{Subject}
use Rattle.cell_attributes.specs.Groups.{cell_name}
use Rattle.cell_attributes.specs.Pins.{pins_of}
use Rattle.cell_reader.specs.CellTexts.{subject_of}
use Rattle.cell_attributes.specs.CellLaws.{groups_of, outputs_of}
use Rattle.cell_reader.specs.Refusals.{Met, reasons_of, refusal_of, checks_of, arcs_of}

-- none of these reasons is met anywhere
abbrev pub AllUnmet : List Met → Type 0
AllUnmet [] = ⊤
AllUnmet (m ∷ ms) = (m.offsets ≡ []) × AllUnmet ms

-- A cell is accepted exactly where no reason is met anywhere; here: an accepted one meets none.
abbrev pub AcceptedMeetsNone : Type 0
AcceptedMeetsNone =
    (pins : Subject) (earlier : List (List ℕ)) (cell : Group)
    → refusal_of pins earlier cell ≡ None → AllUnmet (reasons_of pins earlier cell)

-- The name and the pins of an accepted cell keep the rules of cells.
abbrev pub AcceptedPinsAreSound : Type 0
AcceptedPinsAreSound =
    (pins : Subject) (earlier : List (List ℕ)) (cell : Group)
    → refusal_of pins earlier cell ≡ None
    → IsTrue (is_name (cell_name cell)) × IsTrue (are_pins (pins_of cell))

-- An accepted cell has at most 16 state groups.
abbrev pub AcceptedStatesAreFew : Type 0
AcceptedStatesAreFew =
    (pins : Subject) (earlier : List (List ℕ)) (cell : Group)
    → refusal_of pins earlier cell ≡ None → length (groups_of cell) ≤ 16

-- An accepted cell keeps all rules of cells.
abbrev pub AcceptedCellsAreSound : Type 0
AcceptedCellsAreSound =
    (unit : Option Unit) (earlier : List (List ℕ)) (cell : Group)
    → refusal_of (subject_of unit cell) earlier cell ≡ None
    → IsTrue
    (is_cell (cell_name cell) (pins_of cell) (groups_of cell) (outputs_of cell) (checks_of (subject_of unit cell) cell)
    (arcs_of (subject_of unit cell) cell))
    × AreApart (arcs_of (subject_of unit cell) cell)
