use Rattle.cell_reader.proofs.Reading.{lift_ok}
use Rattle.selftest_runs.proofs.counts.known_from_start.Goals as goal

pub returns : goal.returns
returns g c = lift_ok c.known_values.result _ _ (λ known h. (c.in_ok-sim.sim, c.in_ok-sim.was, h)) c.known_values.ensures
