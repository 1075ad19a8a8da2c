-- The cells of a library that are accepted, in their order. (Liberty Reference Manual, the `cell` group; that cells are numbered
-- by their places and that each name counts once is this project's rule.)
use Rattle.std.specs.Prelude.{◌≡◌, ◌<◌, ◌≤◌, ◌+◌, ◌^◌, ⊤, ℕ, List, [], ◌∷◌, Contains, Option, None}
use Rattle.liberty_text.specs.declared.time.Unit.{Unit}
use Rattle.liberty_groups.specs.declared.tree.Group.{Group}
use Rattle.cell_machine.specs.CellData.{CellData}
use Rattle.cell_attributes.specs.Groups.{cell_name}
use Rattle.cell_attributes.specs.Pins.{pins_of}
use Rattle.cell_attributes.specs.CellLaws.{groups_of, outputs_of}
use Rattle.cell_reader.specs.CellTexts.{subject_of}
use Rattle.cell_reader.specs.Refusals.{refusal_of, checks_of, arcs_of}

-- the data of the cell that a group describes, where the library has this unit of time, and the cell this number
abbrev pub described : Option Unit → ℕ → Group → CellData
described unit number group = record {
  name = cell_name group;
  number = number;
  pins = pins_of group;
  groups = groups_of group;
  outputs = outputs_of group;
  checks = checks_of (subject_of unit group) group;
  arcs = arcs_of (subject_of unit group) group;
}

-- A cell that is accepted: some group describes it, and nothing refuses that group where certain names stood before it, these
-- among them.
pub record IsAccepted (names : List (List ℕ)) (cell : CellData) : Type 0 where
  pub unit : Option Unit
  pub group : Group
  pub earlier : List (List ℕ)
  pub known : (name : List ℕ) → Contains names name → Contains earlier name
  pub unrefused : refusal_of (subject_of unit group) earlier group ≡ None
  pub data_is : cell ≡ described unit cell.number group

-- accepted cells, each behind those before it and behind some with these names; their numbers rise from this one on, and have at
-- most 64 bits
abbrev pub AreAccepted : ℕ → List (List ℕ) → List CellData → Type 0
AreAccepted from names [] = ⊤
AreAccepted from names (cell ∷ cells) =
    (from ≤ cell.number)
    × (cell.number < 2 ^ 64)
    × IsAccepted names cell
    × AreAccepted (cell.number + 1) (cell.name ∷ names) cells
