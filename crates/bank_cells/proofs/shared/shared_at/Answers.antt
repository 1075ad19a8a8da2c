use Rattle.std.proofs.Common.{sym, ap, ◌∙◌}
use Rattle.liberty_groups.specs.declared.tree.Item.TheVariants as made
use Rattle.bank_cells.proofs.FixedLemmas.{fixed_pin}
use Rattle.bank_cells.proofs.shared.shared_at.Goals as goal

pub returns-in_ok-copy_group-in-Some : goal.returns-in_ok-copy_group-in-Some
returns-in_ok-copy_group-in-Some c =
    ap made.Inner c.in_ok-copy_group-in-Some.ensures
    ∙ fixed_pin c.args.vectors.now c.args.at c.args.shared.now.item.now c.in-Some.group (sym c.requires ∙ c.in-Some.is)
