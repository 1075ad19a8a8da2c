use Rattle.stimulus.proofs.TraceTexts.{put_together}
use Rattle.stimulus.proofs.trace.push_shown.Goals as goal

pub returns : goal.returns
returns g c = λ h s.
    put_together _ _ _ _ _ _ _ _ _
    c.in_ok-push_head.ensures (c.in_ok-push_outputs.ensures h s) (c.in_ok-push_reports.ensures h s) c.in_ok-gather_byte.ensures
