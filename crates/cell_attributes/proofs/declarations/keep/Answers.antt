use Rattle.std.proofs.Common.{◌≡◌, ◌∙◌, false, sym}
use Rattle.cell_attributes.specs.Declarations.{may_share}
use Rattle.cell_attributes.specs.Shown.{shown_name}
use Rattle.cell_attributes.proofs.Clashes.{kept}
use Rattle.cell_attributes.proofs.declarations.keep.Goals as goal

pub returns-in_ok-add : goal.returns-in_ok-add
returns-in_ok-add c earlier against =
    let apart : may_share c.args.role c.args.one.now.role ≡ false =
    sym c.may_share.ensures ∙ c.if-not-may_share.true in
    kept c.args.role (shown_name c.args.one.now) c.args.names.now c.add.new.self c.in_ok-add.field-0 apart c.in_ok-add.ensures.added
    earlier against
