use Rattle.library_reader.proofs.CellLemmas.{plain_bits, plain_unrefused, bits_read, bits_accepted, bits_refused}
use Rattle.library_reader.proofs.expanded_cell.read_plain.Goals as goal

pub returns-clause-cell : goal.returns-clause-cell
returns-clause-cell c =
    bits_read c.args.progress.now c.args.group.now _ _ c.read_driven.result c.next_number-number.ensures (plain_bits _ _ c.requires.plain)
    c.read_driven.ensures.cell

pub returns-clause-accepted : goal.returns-clause-accepted
returns-clause-accepted c =
    bits_accepted c.args.progress.now c.args.group.now _ c.read_driven.result (plain_unrefused _ _ c.requires.plain)
    (plain_bits _ _ c.requires.plain) c.read_driven.ensures.accepted

pub returns-clause-refused : goal.returns-clause-refused
returns-clause-refused c =
    bits_refused c.args.progress.now c.args.group.now _ c.read_driven.result (plain_unrefused _ _ c.requires.plain)
    (plain_bits _ _ c.requires.plain) c.read_driven.ensures.refused
