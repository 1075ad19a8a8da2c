-- The next cell of a library.
use Rattle.std.proofs.Common.{◌≡◌, ℕ, Bool, true, false, List, [], ◌∷◌, Option, Some, None, Result, IfOk, IfErr, refl, sym}
use Rattle.std.proofs.Common.{◌∙◌, ap, subst, if◌then◌else◌}
use Rattle.liberty_text.specs.declared.time.Unit.{Unit}
use Rattle.liberty_groups.specs.declared.tree.Group.{Group}
use Rattle.cell_attributes.specs.Groups.{cell_name}
use Rattle.cell_reader.specs.declared.fault.CellFault.{CellFault}
use Rattle.cell_reader.specs.CellTexts.{Tells}
use Rattle.bus_texts.specs.declared.bus_types.BusType.{BusType}
use Rattle.bank_cells.specs.declared.refusal.BankRefusal.{BankRefusal}
use Rattle.bank_cells.specs.Refusals.{has_many, first_refusal, bank_refusal}
use Rattle.bank_cells.specs.Expanded.{expanded_cell, expanded}
use Rattle.three_state_cells.specs.declared.driven_cell.DrivenCell.{DrivenCell}
use Rattle.three_state_cells.specs.CoreGroups.{core_group}
use Rattle.three_state_cells.specs.Outputs.{ThreeStateOutput, three_state_outputs}
use Rattle.three_state_cells.specs.DrivenCells.{DrivenData, driven_data_of, data_by, floating_of, driven_data}
use Rattle.three_state_cells.specs.Refusals.{driven_refusal}
use Rattle.library_reader.specs.declared.progress.Progress.{Progress}
use Rattle.library_reader.specs.BankRefusals.{cell_refusal, refusal_by}
use Rattle.library_reader.specs.LibraryCells.{vital_name}
use Rattle.library_reader.specs.Progress.{next_number, next_bits, next_refusal, next_data, next_entity}
use Rattle.library_reader.specs.NextCells.{IsAcceptedNext}

-- The cell has the name of its group as it stands.

core_name : (unit : Option Unit) (number : ℕ) (group : Group) (outputs : List ThreeStateOutput)
    → (data_by unit number group outputs).name ≡ cell_name group
unfolding floating_of core_group
core_name unit number group [] = refl
core_name unit number group (output ∷ outputs) = refl

expanded_by : (types : List BusType) (group : Group) (many : Bool)
    → cell_name (if many then expanded_cell types group else group) ≡ cell_name group
expanded_by types group true = refl
expanded_by types group false = refl

-- that of its expanded group
pub bits_name : (p : Progress) (group : Group) → cell_name (next_bits p group) ≡ cell_name group
unfolding expanded
bits_name p group = expanded_by p.types group (has_many group)

pub next_name : (p : Progress) (group : Group) → (next_data p group).name ≡ cell_name group
unfolding next_data driven_data
next_name p group =
    core_name p.unit (next_number p) (next_bits p group) (three_state_outputs (next_bits p group)) ∙ bits_name p group

-- The cell of the expanded group is the next one.

pub bits_read : (p : Progress) (group bits : Group) (number : ℕ) (r : Result DrivenCell CellFault) → number ≡ next_number p
    → bits ≡ next_bits p group
    → IfOk r (λ (cell : DrivenCell). driven_data_of cell ≡ driven_data p.unit number bits)
    → IfOk r (λ (cell : DrivenCell). driven_data_of cell ≡ next_data p group)
unfolding next_data
bits_read p group bits number r n e h =
    let P : ℕ → Group → Type 0 = λ k g. IfOk r (λ (cell : DrivenCell). driven_data_of cell ≡ driven_data p.unit k g) in
    subst (λ g. P (next_number p) g) e (subst (λ k. P k bits) n h)

pub bits_accepted : (p : Progress) (group bits : Group) (r : Result DrivenCell CellFault) → bank_refusal p.types group ≡ None
    → bits ≡ next_bits p group
    → IfOk r (λ (cell : DrivenCell). driven_refusal p.unit p.names bits ≡ None)
    → IfOk r (λ (cell : DrivenCell). next_refusal p group ≡ None)
unfolding next_refusal
bits_accepted p group bits r n e h =
    let P : Option BankRefusal → Group
    → Type 0 = λ b g. IfOk r (λ (cell : DrivenCell). refusal_by b (driven_refusal p.unit p.names g) ≡ None) in
    subst (λ b. P b (next_bits p group)) (sym n) (subst (P None) e h)

pub bits_refused : (p : Progress) (group bits : Group) (r : Result DrivenCell CellFault) → bank_refusal p.types group ≡ None
    → bits ≡ next_bits p group
    → IfErr r (Tells (driven_refusal p.unit p.names bits)) → IfErr r (Tells (next_refusal p group))
unfolding next_refusal
bits_refused p group bits r n e h =
    let P : Option BankRefusal → Group → Type 0 = λ b g. IfErr r (Tells (refusal_by b (driven_refusal p.unit p.names g))) in
    subst (λ b. P b (next_bits p group)) (sym n) (subst (P None) e h)

-- where nothing refuses the next cell, nothing refuses that of its expanded group
pub bits_unrefused : (p : Progress) (group : Group) → next_refusal p group ≡ None
    → driven_refusal p.unit p.names (next_bits p group) ≡ None
unfolding next_refusal
bits_unrefused p group e = by (bank_refusal p.types group) e
  where
    by : (b : Option BankRefusal) → refusal_by b (driven_refusal p.unit p.names (next_bits p group)) ≡ None
        → driven_refusal p.unit p.names (next_bits p group) ≡ None
    by None e = e
    by (Some refusal) e = absurd (cc)

-- a group without buses, bundles and banks stays as it is
pub plain_bits : (types : List BusType) (group : Group) → has_many group ≡ false → group ≡ expanded types group
unfolding expanded
plain_bits types group e = sym (ap (λ (many : Bool). if many then expanded_cell types group else group) e)

pub plain_unrefused : (types : List BusType) (group : Group) → has_many group ≡ false → bank_refusal types group ≡ None
unfolding bank_refusal
plain_unrefused types group e = ap (λ (many : Bool). if many then first_refusal types group else None) e

-- without an expanded group it is refused for that
pub unexpanded : (p : Progress) (group : Group) (refusal : BankRefusal) → bank_refusal p.types group ≡ Some refusal
    → next_refusal p group ≡ Some (cell_refusal refusal)
unfolding next_refusal
unexpanded p group refusal h = ap (λ b. refusal_by b (driven_refusal p.unit p.names (next_bits p group))) h

-- nothing refuses the next cell
pub accepted_next : (p : Progress) (group : Group) (cell : DrivenCell) (entity : List ℕ)
    → driven_data_of cell ≡ next_data p group → next_refusal p group ≡ None → entity ≡ vital_name p.entities (driven_data_of cell)
    → IsAcceptedNext p group cell entity
unfolding next_entity
accepted_next p group cell entity h e m =
    record { unrefused = e; same_cell = h; same_entity = m ∙ ap (λ (cell : DrivenData). vital_name p.entities cell) h }
