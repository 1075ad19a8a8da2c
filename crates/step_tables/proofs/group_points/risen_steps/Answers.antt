use Rattle.std.proofs.Common.{sym, ◌∙◌}
use Rattle.cell_machine.specs.CellData.{data_of}
use Rattle.step_tables.specs.GroupPoints.{clock_at}
use Rattle.step_tables.proofs.ClockLemmas.{steps_same, no_rise}
use Rattle.step_tables.proofs.group_points.risen_steps.Goals as goal

pub returns-else-clock : goal.returns-else-clock
returns-else-clock c =
    let cell = data_of c.args.cell.now in
    let i = c.args.group in
    let zero = sym c.requires.clock ∙ c.if-clock.false in
    c.requires.held
    ∙ steps_same cell i c.requires.moves c.args.point.now c.args.low.now c.args.point.now
    (no_rise (clock_at cell i c.args.point.now) (clock_at cell i c.args.point.now) zero
    ∙ sym (no_rise (clock_at cell i c.args.low.now) (clock_at cell i c.args.point.now) zero))
