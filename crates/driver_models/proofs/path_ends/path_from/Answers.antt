use Rattle.std.proofs.Common.{ap, ◌∙◌}
use Rattle.driver_models.specs.PathEnds.{input_number}
use Rattle.driver_models.proofs.path_ends.path_from.Goals as goal

pub returns : goal.returns
returns g c =
    let find = input_number g.L.Language.is_same c.args.ports.now in
    c.known.ensures find (λ named. c.input_number-found.ensures ∙ ap find c.bytes.ensures)
