use Rattle.stimulus.proofs.Runs.{emptied, not_emptied}
use Rattle.stimulus.proofs.waiting.write_waiting.Goals as goal

pub returns-in_err-write_whole-clause-text : goal.returns-in_err-write_whole-clause-text
returns-in_err-write_whole-clause-text g c =
    not_emptied _ _ _ _ _ _ (rw c.as_slice.ensures at c.in_err-write_whole.ensures.text) c.from_residual.ensures.0

pub returns-clause-text : goal.returns-clause-text
returns-clause-text g c =
    emptied _ _ _ _ _ _ c.clear.ensures (rw c.as_slice.ensures at c.in_ok-write_whole.ensures.text)
