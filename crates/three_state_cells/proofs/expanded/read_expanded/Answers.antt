use Rattle.bank_cells.specs.Gathered.{gathered_cell}
use Rattle.three_state_cells.proofs.GatheredReads.{same_cell, same_accepted, same_refused}
use Rattle.three_state_cells.proofs.ReadLemmas.{gathered_many}
use Rattle.three_state_cells.proofs.expanded.read_expanded.Goals as goal

pub returns-clause-cell : goal.returns-clause-cell
returns-clause-cell c =
    same_cell c.args.types.now c.args.cell.now (gathered_cell c.args.types.now c.args.cell.now) c.args.unit c.args.number c.args.earlier.now c.read_gathered.result
    (gathered_many c.args.types.now c.args.cell.now c.requires) c.read_gathered.ensures.cell

pub returns-clause-accepted : goal.returns-clause-accepted
returns-clause-accepted c =
    same_accepted c.args.types.now c.args.cell.now (gathered_cell c.args.types.now c.args.cell.now) c.args.unit c.args.number c.args.earlier.now c.read_gathered.result
    (gathered_many c.args.types.now c.args.cell.now c.requires) c.read_gathered.ensures.accepted

pub returns-clause-refused : goal.returns-clause-refused
returns-clause-refused c =
    same_refused c.args.types.now c.args.cell.now (gathered_cell c.args.types.now c.args.cell.now) c.args.unit c.args.number c.args.earlier.now c.read_gathered.result
    (gathered_many c.args.types.now c.args.cell.now c.requires) c.read_gathered.ensures.refused
