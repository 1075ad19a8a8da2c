use Rattle.std.proofs.Common.{◌≡◌, ◌∙◌, sym, ap, subst, None, Result}
use Rattle.std.specs.Prelude.{IfOk}
use Rattle.cell_attributes.specs.CellLaws.{outputs_of}
use Rattle.cell_reader.specs.declared.fault.CellFault.{CellFault}
use Rattle.cell_reader.specs.declared.parts.Parts.{Parts}
use Rattle.cell_reader.specs.declared.read.Made.{Made}
use Rattle.cell_reader.specs.CellTexts.{IsUnmet}
use Rattle.cell_reader.specs.Refusals.{first_refusal, later_reasons}
use Rattle.cell_reader.specs.Parts.{subject_in}
use Rattle.cell_reader.proofs.Reading.{later_decide}
use Rattle.cell_reader.proofs.read.read_later.Goals as goal

pub make_cell-requires-clause-outputs : goal.make_cell-requires-clause-outputs
make_cell-requires-clause-outputs c =
    subst (λ (made : Result Made CellFault). IfOk made (λ made. made.outputs ≡ outputs_of c.args.parts.cell.now)) c.in_ok-parts.ensures.made
    c.unrefused-made.ensures.outputs
    ∙ ap (λ (parts : Parts). outputs_of parts.cell.now) (sym c.in_ok-parts.ensures.held)

pub make_cell-requires-clause-unmet : goal.make_cell-requires-clause-unmet
make_cell-requires-clause-unmet c =
    let subject = subject_in c.args.parts in
    let cell = c.args.parts.cell.now in
    let earlier = c.requires.early.0 in
    let later : first_refusal (later_reasons subject cell) ≡ None =
    subst (λ (made : Result Made CellFault). IfOk made (λ made. first_refusal (later_reasons subject cell) ≡ None)) c.in_ok-parts.ensures.made
    c.unrefused-made.ensures.unmet in
    let unmet : IsUnmet subject cell = (earlier, later_decide subject earlier cell c.requires.early.1 ∙ later) in
    subst (λ (parts : Parts). IsUnmet (subject_in parts) parts.cell.now) (sym c.in_ok-parts.ensures.held) unmet
