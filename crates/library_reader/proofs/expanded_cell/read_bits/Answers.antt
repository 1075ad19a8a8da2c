use Rattle.std.proofs.Common.{refl, ap, sym, ◌∙◌, Some}
use Rattle.library_reader.specs.Progress.{next_bits}
use Rattle.library_reader.proofs.CellLemmas.{bits_read, bits_accepted, bits_refused, unexpanded}
use Rattle.library_reader.proofs.expanded_cell.read_bits.Goals as goal

pub returns-in-Ok-None-clause-cell : goal.returns-in-Ok-None-clause-cell
returns-in-Ok-None-clause-cell c =
    let p = c.args.progress.now in
    let group = c.args.group.now in
    bits_read p group (next_bits p group) _ c.read_expanded.result c.next_number-number.ensures refl c.read_expanded.ensures.cell

pub returns-in-Ok-None-clause-accepted : goal.returns-in-Ok-None-clause-accepted
returns-in-Ok-None-clause-accepted c =
    let p = c.args.progress.now in
    let group = c.args.group.now in
    bits_accepted p group (next_bits p group) c.read_expanded.result (sym c.in-Ok-None.ensures ∙ c.in-Ok-None.field-0-is) refl c.read_expanded.ensures.accepted

pub returns-in-Ok-None-clause-refused : goal.returns-in-Ok-None-clause-refused
returns-in-Ok-None-clause-refused c =
    let p = c.args.progress.now in
    let group = c.args.group.now in
    bits_refused p group (next_bits p group) c.read_expanded.result (sym c.in-Ok-None.ensures ∙ c.in-Ok-None.field-0-is) refl c.read_expanded.ensures.refused

pub returns-in-Ok-Some-clause-refused : goal.returns-in-Ok-Some-clause-refused
returns-in-Ok-Some-clause-refused c =
    unexpanded c.args.progress.now c.args.group.now c.in-Ok-Some.refusal (sym c.in-Ok-Some.ensures ∙ c.in-Ok-Some.field-0-is)
    ∙ ap Some (sym c.cell_refusal.ensures)
