use Rattle.std.proofs.Common.{◌≡◌, true, drop, sym, ap, ◌∙◌}
use Rattle.std.specs.Prelude.{flat_map}
use Rattle.cell_attributes.specs.Pins.{owners_in}
use Rattle.bank_cells.specs.Gathered.{gathered_cell}
use Rattle.three_state_cells.specs.Trimmed.{are_behind, is_in_order}
use Rattle.three_state_cells.proofs.CoreLimits.{is_trimmed_core}
use Rattle.three_state_cells.proofs.expanded.trimmed_core.Goals as goal

pub returns : goal.returns
returns c =
    let order : is_in_order c.args.made.now.group ≡ true =
    sym (ap (λ groups. are_behind (drop 64 (flat_map owners_in groups))) c.in_ok-pins.ensures.of_groups)
    ∙ (sym c.in_ok-is_in_order.ensures ∙ c.if-not-branch.false) in
    is_trimmed_core (gathered_cell c.args.source.types.now c.args.source.cell.now) c.args.made.now.group c.in_ok-core.core c.requires.group
    c.in_ok-core.ensures order (c.requires.ordered c.if-not-made.false)
    c.in_ok-pins.ensures.few
