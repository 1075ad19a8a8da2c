use Rattle.std.proofs.Common.{ap, ◌∙◌}
use Rattle.driver_models.specs.PathEnds.{drive_number}
use Rattle.driver_models.proofs.path_ends.path_to.Goals as goal

pub returns : goal.returns
returns g c =
    let find = drive_number g.L.Language.is_same c.args.ports.now c.args.drives.now in
    c.known.ensures find (λ named. c.drive_number-found.ensures ∙ ap find c.bytes.ensures)
