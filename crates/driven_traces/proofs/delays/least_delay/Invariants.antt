use Rattle.std.proofs.Common.{◌≡◌, drop}
use Rattle.cell_machine.specs.Delay.{lesser, least}
use Rattle.driven_traces.specs.DriveDelays.{leading_delays}
use Rattle.driven_traces.proofs.delays.least_delay.Given as goal

-- the best so far and the least of the rest give the least of all
abbrev pub invariant-loop-path : goal.invariant-loop-path
invariant-loop-path l = lesser l.best (least (leading_delays l.change (drop l.path-index l.paths))) ≡ least (leading_delays l.change l.paths)
