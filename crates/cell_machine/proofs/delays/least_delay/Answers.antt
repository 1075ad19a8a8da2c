use Rattle.std.proofs.Common.{◌∙◌, ap, sym}
use Rattle.std.specs.Prelude.{option_copied}
use Rattle.cell_machine.specs.CellData.{data_of}
use Rattle.cell_machine.specs.ArcDelay.{delay_by}
use Rattle.cell_machine.proofs.PairArcs.{pair-delay, pair-none}
use Rattle.cell_machine.proofs.KeptPairs.{pair-first}
use Rattle.cell_machine.proofs.delays.least_delay.Goals as goal

pub kept_delays-requires-clause-inside : goal.kept_delays-requires-clause-inside
kept_delays-requires-clause-inside c =
    pair-first (data_of c.args.arcs.now.cell.now) c.args.places.now _ c.requires.pair (sym c.first.ensures.value ∙ ap option_copied c.in-Some.is)

pub returns-in-Some-clause-delay : goal.returns-in-Some-clause-delay
returns-in-Some-clause-delay c = λ input pin are.
    c.of.ensures ∙ ap (delay_by c.args.from c.args.to) c.kept_delays.ensures.delays
    ∙ pair-delay (data_of c.args.arcs.now.cell.now) c.args.arcs.now.inputs.now input pin c.args.places.now c.args.from c.args.to are

pub returns-in-None-clause-delay : goal.returns-in-None-clause-delay
returns-in-None-clause-delay c = λ input pin are.
    pair-none (data_of c.args.arcs.now.cell.now) c.args.arcs.now.inputs.now input pin c.args.places.now c.args.from c.args.to
    (sym c.first.ensures.value ∙ ap option_copied c.in-None.is) are
