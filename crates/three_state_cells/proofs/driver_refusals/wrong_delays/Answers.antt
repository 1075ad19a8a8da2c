use Rattle.std.proofs.Common.{◌∙◌, false}
use Rattle.three_state_cells.proofs.DriverReads.{told_is_wrong}
use Rattle.three_state_cells.proofs.driver_refusals.wrong_delays.Goals as goal

pub returns : goal.returns
returns c =
    c.wrong_told.ensures
    ∙ told_is_wrong (record { checks = 0; arcs = 0; left_out = false }) c.args.subject.now c.args.group.now c.in_ok-driver.driver c.in_ok-answer.answer c.in_ok-driver.ensures c.in_ok-answer.ensures
