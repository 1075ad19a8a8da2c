use Rattle.three_state_cells.proofs.ReadLemmas.{made_trimmed, kept_whole, kept_order, none_apart}
use Rattle.three_state_cells.proofs.expanded.trimmed_group.Goals as goal

pub returns-clause-group : goal.returns-clause-group
returns-clause-group c =
    made_trimmed c.args.types.now c.args.cell.now c.in_ok-held.held c.in_ok-group.group c.in_ok-held.ensures c.in_ok-group.ensures

pub returns-clause-whole : goal.returns-clause-whole
returns-clause-whole c =
    kept_whole c.args.types.now c.args.cell.now c.in_ok-held.held c.in_ok-group.group c.in_ok-held.ensures c.in_ok-group.ensures

pub returns-clause-ordered : goal.returns-clause-ordered
returns-clause-ordered c = kept_order c.args.types.now c.args.cell.now c.in_ok-held.held c.in_ok-held.ensures

pub returns-clause-apart : goal.returns-clause-apart
returns-clause-apart c = none_apart c.args.types.now c.args.cell.now c.in_ok-held.held c.in_ok-held.ensures
