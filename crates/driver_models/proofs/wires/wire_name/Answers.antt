use Rattle.std.proofs.Common.{ap, ◌∙◌}
use Rattle.driver_models.specs.Wires.{next_wire}
use Rattle.driver_models.proofs.wires.wire_name.Goals as goal

pub returns : goal.returns
returns g c =
    let find = next_wire g.L.Spelling.Language.is_name g.L.Spelling.Language.is_same g.L.DriverLanguage.value g.L.DriverLanguage.enable c.args.found in
    c.known.ensures find (λ named. c.in_ok-more.ensures ∙ ap find c.bytes.ensures)
