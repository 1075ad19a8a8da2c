use Rattle.stimulus.proofs.TraceTexts.{tagged_parts, behind_nothing}
use Rattle.stimulus.proofs.Runs.{puts_nothing, put_whole, put_stopped}
use Rattle.stimulus.proofs.printing.put_line.Goals as goal

pub returns-in_err-push_shown-clause-text : goal.returns-in_err-push_shown-clause-text
returns-in_err-push_shown-clause-text g c = λ h s. puts_nothing _ _ _ _ _ c.from_residual.ensures.0

pub returns-in_err-put_tagged-clause-text : goal.returns-in_err-put_tagged-clause-text
returns-in_err-put_tagged-clause-text g c = λ h s.
    let shown = behind_nothing _ _ _ _ c.clear.ensures.items c.new-pieces.ensures (c.in_ok-push_shown.ensures h s) in
    put_stopped _ _ _ _ _ _ _ _ _ (tagged_parts c.args.tag _ _ _ _ _ _ _ c.as_slice.ensures.value shown)
    c.in_err-put_tagged.ensures.text c.from_residual-in_err-put_tagged.ensures.0

pub returns-clause-text : goal.returns-clause-text
returns-clause-text g c = λ h s.
    let shown = behind_nothing _ _ _ _ c.clear.ensures.items c.new-pieces.ensures (c.in_ok-push_shown.ensures h s) in
    put_whole _ _ _ _ _ _ _ _ (tagged_parts c.args.tag _ _ _ _ _ _ _ c.as_slice.ensures.value shown)
    c.in_ok-put_tagged.ensures.text
