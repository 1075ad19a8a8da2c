use Rattle.std.proofs.Common.{◌<◌, ℕ, Option, subst}
use Rattle.std.specs.Prelude.{unwrap_or}
use Rattle.scan_cells.proofs.points.is_inactive_by.Goals as goal

pub is_idle-requires : goal.is_idle-requires
is_idle-requires c = subst (λ (o : Option ℕ). unwrap_or o 0 < 20) c.in-Some.is c.requires
