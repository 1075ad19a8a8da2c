use Rattle.std.proofs.Common.{◌≡◌, ◌∙◌, ℕ, List, Option, IfErr, IfOk, sym, subst, ap, None}
use Rattle.liberty_text.specs.declared.time.Unit.{Unit}
use Rattle.liberty_groups.specs.declared.tree.Group.{Group}
use Rattle.cell_refusals.specs.declared.refusal.Refusal.{Refusal}
use Rattle.cell_reader.specs.CellTexts.{subject_of, Tells}
use Rattle.cell_reader.specs.Refusals.{first_refusal, early_reasons, later_reasons, refusal_of}
use Rattle.cell_reader.proofs.Reading.{names_are_distinct, early_decides, later_decide}
use Rattle.cell_reader.proofs.read.read_cell.Goals as goal

pub read_parts-requires-clause-distinct : goal.read_parts-requires-clause-distinct
read_parts-requires-clause-distinct c =
    let early : first_refusal (early_reasons c.args.earlier.now c.args.cell.now) ≡ None = sym c.in_ok-refusal.ensures ∙ c.in_default.is in
    names_are_distinct c.args.earlier.now c.args.cell.now early

-- the reasons that are tried later decide of what is held of a cell as all do of the cell
later_of_parts :
    (unit held_unit : Option Unit) (earlier : List (List ℕ)) (cell held : Group) → held_unit ≡ unit → held ≡ cell → first_refusal (early_reasons earlier cell) ≡ None
    → first_refusal (later_reasons (subject_of held_unit held) held) ≡ refusal_of (subject_of unit cell) earlier cell
later_of_parts unit held_unit earlier cell held same_unit same_cell early =
    ap (λ u. first_refusal (later_reasons (subject_of u held) held)) same_unit
    ∙ (ap (λ g. first_refusal (later_reasons (subject_of unit g) g)) same_cell ∙ sym (later_decide (subject_of unit cell) earlier cell early))

pub returns-in-Some-clause-refused : goal.returns-in-Some-clause-refused
returns-in-Some-clause-refused c =
    early_decides (subject_of c.args.unit c.args.cell.now) c.args.earlier.now c.args.cell.now c.in-Some.refusal (sym c.in_ok-refusal.ensures ∙ c.in-Some.is)

pub returns-clause-accepted : goal.returns-clause-accepted
returns-clause-accepted c =
    let parts = c.in_ok-parts.parts in
    let early : first_refusal (early_reasons c.args.earlier.now c.args.cell.now) ≡ None = sym c.in_ok-refusal.ensures ∙ c.in_default.is in
    let told = later_of_parts c.args.unit parts.unit c.args.earlier.now c.args.cell.now parts.cell.now c.in_ok-parts.ensures.unit c.in_ok-parts.ensures.cell early in
    let P : Option Refusal → Type 0 = λ refusal. IfOk c.read_later.result (λ _. refusal ≡ None) in
    subst P told c.read_later.ensures.unmet

pub returns-clause-refused : goal.returns-clause-refused
returns-clause-refused c =
    let parts = c.in_ok-parts.parts in
    let early : first_refusal (early_reasons c.args.earlier.now c.args.cell.now) ≡ None = sym c.in_ok-refusal.ensures ∙ c.in_default.is in
    let told = later_of_parts c.args.unit parts.unit c.args.earlier.now c.args.cell.now parts.cell.now c.in_ok-parts.ensures.unit c.in_ok-parts.ensures.cell early in
    let P : Option Refusal → Type 0 = λ refusal. IfErr c.read_later.result (Tells refusal) in
    subst P told c.read_later.ensures.refused
