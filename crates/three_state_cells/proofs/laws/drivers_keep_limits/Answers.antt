use Rattle.three_state_cells.proofs.DriverLimits.{drivers_keep_limits}
use Rattle.three_state_cells.proofs.laws.drivers_keep_limits.Goals as goal

pub returns : goal.returns
returns c = drivers_keep_limits
