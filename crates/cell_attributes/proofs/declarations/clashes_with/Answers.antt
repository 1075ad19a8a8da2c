use Rattle.std.proofs.Common.{◌∙◌, ap, refl}
use Rattle.std.specs.Prelude.{is_some}
use Rattle.cell_attributes.specs.Shown.{shown_name}
use Rattle.cell_attributes.proofs.Clashes.{found_is, is_clash}
use Rattle.cell_attributes.proofs.declarations.clashes_with.Goals as goal

pub returns : goal.returns
returns c earlier known =
    c.is_some.ensures
    ∙ (ap is_some c.number.ensures
    ∙ (found_is c.against.result.now c.args.one.now.name.now
    ∙ is_clash (shown_name c.args.one.now) c.args.one.now.role earlier c.against.result.now refl (c.against.ensures earlier known)))
