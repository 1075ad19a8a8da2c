use Rattle.run_outcome.proofs.FailureLaws.{counted_once}
use Rattle.translate_cmd.proofs.command.run_gated.Goals as goal

pub returns : goal.returns
returns g c = record { last = counted_once _ _ _ c.requires c.run.ensures.kept c.run.ensures.outside }
