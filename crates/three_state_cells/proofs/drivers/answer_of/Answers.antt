use Rattle.std.proofs.Common.{refl, true}
use Rattle.cell_reader.proofs.Reading.{lift_ok}
use Rattle.three_state_cells.proofs.FewArcs.{arcs_are_held, places_are_held}
use Rattle.three_state_cells.proofs.drivers.answer_of.Goals as goal

pub returns-clause-arcs : goal.returns-clause-arcs
returns-clause-arcs c =
    lift_ok c.read_timing.result _ _
    (λ answer e. arcs_are_held c.args.core.now c.args.group.now c.in_ok-driver.driver (record { checks = 0; arcs = c.len.result; left_out = true }) answer c.len.ensures c.in_ok-driver.ensures e)
    c.read_timing.ensures

pub returns-clause-left_out : goal.returns-clause-left_out
returns-clause-left_out c =
    lift_ok c.read_timing.result _ _
    (λ answer e. places_are_held c.args.core.now c.args.group.now c.in_ok-driver.driver (record { checks = 0; arcs = c.len.result; left_out = true }) answer refl c.in_ok-driver.ensures e)
    c.read_timing.ensures
