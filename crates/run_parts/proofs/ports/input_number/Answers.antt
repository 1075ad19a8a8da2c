use Rattle.std.proofs.Common.{◌∙◌, ap, sym, slice_get}
use Rattle.run_parts.proofs.PortLemmas.{listed-number, unlisted-number}
use Rattle.run_parts.proofs.ports.input_number.Goals as goal

pub returns-in-Some : goal.returns-in-Some
returns-in-Some c =
    let ports = c.args.ports.now in
    listed-number ports.list.now c.args.port c.in-Some.number.now
    (ap (λ xs. slice_get xs c.args.port) (sym ports.numbered) ∙ sym c.in-Some.ensures)

pub returns-in-None : goal.returns-in-None
returns-in-None c =
    let ports = c.args.ports.now in
    c.input_count.ensures
    ∙ unlisted-number ports.list.now c.args.port (ap (λ xs. slice_get xs c.args.port) (sym ports.numbered) ∙ sym c.in-None.ensures)
