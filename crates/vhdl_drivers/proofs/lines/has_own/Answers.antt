use Rattle.std.proofs.Common.{◌∙◌}
use Rattle.vhdl_drivers.proofs.DrivenPaths.{has_paths}
use Rattle.vhdl_drivers.proofs.lines.has_own.Goals as goal

pub returns : goal.returns
returns c =
    rw (← c.saturating_sub.ensures) (rw (← c.as_slice.ensures) (c.has_path_to.ensures ∙ has_paths c.saturating_sub.result c.as_slice.result.now))
