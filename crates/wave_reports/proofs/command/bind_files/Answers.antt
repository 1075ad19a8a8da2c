use Rattle.wave_reports.proofs.BoundFiles.{unbound, bound_last}
use Rattle.wave_reports.proofs.command.bind_files.Goals as goal

pub returns-in_err-bind_in-clause-binds : goal.returns-in_err-bind_in-clause-binds
returns-in_err-bind_in-clause-binds g c = unbound _ _ _ c.from_residual.ensures.0 c.in_err-bind_in.ensures.err

pub returns-clause-binds : goal.returns-clause-binds
returns-clause-binds g c =
    let opening = c.in_ok-bind_in.ensures.ok in
    bound_last _ _ _ opening.0 _ opening.2 opening.1 c.bind_out.ensures.ok c.bind_out.ensures.err
