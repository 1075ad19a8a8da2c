-- What is read of a cell that nothing refuses: its core is a cell without Z that nothing refuses, under a name of its own.
use Rattle.std.proofs.Common.{◌≡◌, ℕ, ◌^◌, ◌<◌, false, List, [], ◌∷◌, ◌++◌, map, refl, sym, ap, subst, ◌∙◌, Option}
use Rattle.std.proofs.Common.{Some, None, is_some}
use Rattle.library_simulation.specs.file_models.bool_functions.NameList.{number_of}
use Rattle.written_driven_models.specs.liberty_text.declared.time.Unit.{Unit}
use Rattle.written_driven_models.specs.liberty_groups.declared.tree.Item.{Item}
use Rattle.written_driven_models.specs.liberty_groups.declared.tree.Item.TheOpen.{Group-F}
use Rattle.written_driven_models.specs.liberty_groups.declared.tree.Item.TheViews.{out-roll-Group}
use Rattle.written_driven_models.specs.liberty_groups.declared.tree.Group.{Group}
use Rattle.library_simulation.specs.file_models.cell_machine.CellData.{CellData}
use Rattle.cell_attributes.specs.Groups.{first_argument, cell_name}
use Rattle.cell_attributes.specs.Declarations.{declared_of, known_cell, clashes_after}
use Rattle.cell_attributes.proofs.Distinct.{nil_parts, no_place as not_known}
use Rattle.cell_reader.specs.declared.refusal.Refusal.{Refusal}
use Rattle.cell_reader.specs.CellTexts.{subject_of}
use Rattle.cell_reader.specs.Refusals.{refusal_of}
use Rattle.cell_reader.proofs.Accepted.{accepted_meets_none, accepted_cells_are_sound}
use Rattle.written_driven_models.specs.three_state_cells.Outputs.{ThreeStateOutput, three_state_outputs}
use Rattle.written_driven_models.specs.three_state_cells.CoreGroups.{core_statement, enable_pins, core_group}
use Rattle.written_driven_models.specs.three_state_cells.Refusals.{first_of_two, floating_refusal, refusal_by, driven_refusal}
use Rattle.written_driven_models.specs.three_state_cells.DrivenCells.{DrivenData, core_name, floating_of, data_by, driven_data}
use Rattle.written_driven_models.proofs.three_state_cells.CoreNames.{core_name_is_name, renamed_keeps_rules}
use Rattle.written_driven_models.specs.generated_modules.Cells.{IsNumberedCell}
use Rattle.written_driven_models.specs.generated_modules.Accepted.{described}
use Rattle.written_driven_models.specs.Library.{IsNumberedDriven}
use Rattle.written_driven_models.proofs.ReadCells.{read-cells-numbered}

first_none : (one other : Option Refusal) → first_of_two one other ≡ None → one ≡ None
first_none None other e = refl
first_none (Some one) None e = absurd cc
first_none (Some one) (Some other) e = absurd cc

-- the core of a cell under the cell's own name
abbrev pub under_own_name : DrivenData → CellData
under_own_name cell = record cell.core { name = cell.name }

-- A cell was read so: some group describes its core under its own name, and nothing refuses this group where these names stood
-- before it.
pub record HasCore (unit : Option Unit) (earlier : List (List ℕ)) (number : ℕ) (cell : DrivenData) : Type 0 where
  pub group : Group
  pub unrefused : refusal_of (subject_of unit group) earlier group ≡ None
  pub is : under_own_name cell ≡ described unit number group

core_by :
    (unit : Option Unit) (earlier : List (List ℕ)) (number : ℕ) (cell : Group) (outputs : List ThreeStateOutput)
    → refusal_by unit earlier cell outputs ≡ None → HasCore unit earlier number (data_by unit number cell outputs)
unfolding floating_refusal floating_of
core_by unit earlier number cell [] e = record { group = cell; unrefused = e; is = refl }
core_by unit earlier number cell (output ∷ outputs) e =
    record { group = core_group cell; unrefused = first_none _ _ e; is = refl }

rules_by :
    (unit : Option Unit) (earlier : List (List ℕ)) (number : ℕ) (cell : Group) (outputs : List ThreeStateOutput) → number < 2 ^ 64
    → refusal_by unit earlier cell outputs ≡ None → IsNumberedCell (data_by unit number cell outputs).core
unfolding floating_refusal floating_of
rules_by unit earlier number cell [] n e = record { rules = (accepted_cells_are_sound unit earlier cell e).0; number = n }
rules_by unit earlier number cell (output ∷ outputs) n e =
    let core : Group = core_group cell in
    let d : CellData = described unit number core in
    record {
      rules = renamed_keeps_rules d.name (core_name number) d.pins d.groups d.outputs d.checks d.arcs (core_name_is_name number n)
          (accepted_cells_are_sound unit earlier core (first_none _ _ e)).0;
      number = n;
    }

named_by :
    (unit : Option Unit) (number : ℕ) (cell : Group) (outputs : List ThreeStateOutput)
    → (data_by unit number cell outputs).name ≡ cell_name cell
unfolding floating_of core_group
named_by unit number cell [] = refl
named_by unit number cell (output ∷ outputs) =
    ap (λ (one : Group-F Item Group). first_argument one.arguments)
    (out-roll-Group (record {
      name = cell.name;
      arguments = cell.arguments;
      items = map core_statement cell.items
          ++ enable_pins 0 (three_state_outputs cell);
      at = cell.at;
    }))

module _ (unit : Option Unit) (earlier : List (List ℕ)) (number : ℕ) (cell : Group) where
  abbrev read : DrivenData
  read = driven_data unit number cell

  pub its_name : read.name ≡ cell_name cell
  unfolding driven_data
  its_name = named_by unit number cell (three_state_outputs cell)

  module _ (e : driven_refusal unit earlier cell ≡ None) where
    pub its_core : HasCore unit earlier number read
    unfolding driven_data driven_refusal
    its_core = core_by unit earlier number cell (three_state_outputs cell) e

    -- its name is none of those before it
    pub name_is_new : is_some (number_of earlier (cell_name cell)) ≡ false
    name_is_new =
        let subject = subject_of unit its_core.group in
        let unmet = accepted_meets_none subject earlier its_core.group its_core.unrefused in
        let twice = nil_parts (known_cell earlier its_core.group) (clashes_after [] (declared_of its_core.group))
        unmet.1.1.1.1.1.0 in
        subst (λ (name : List ℕ). is_some (number_of earlier name) ≡ false)
        (sym (ap (λ (c : CellData). c.name) its_core.is) ∙ its_name)
        (not_known (is_some (number_of earlier (cell_name its_core.group))) its_core.group.at twice.0)

    pub its_number : read.core.number ≡ number
    its_number = ap (λ (c : CellData). c.number) its_core.is

    module _ (n : number < 2 ^ 64) where
      its_rules : IsNumberedCell read.core
      unfolding driven_data driven_refusal
      its_rules = rules_by unit earlier number cell (three_state_outputs cell) n e

      pub is_numbered : IsNumberedDriven read
      is_numbered = read-cells-numbered unit number cell its_rules
