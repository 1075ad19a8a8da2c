use Rattle.std.proofs.Common.{ap, ◌∙◌}
use Rattle.driver_models.specs.Terminals.{is_driven_by}
use Rattle.driver_models.proofs.terminals.Wired.output_name.Goals as goal

pub returns : goal.returns
returns g c =
    let find =
    is_driven_by g.L.Spelling.Language.is_name g.L.Spelling.Language.is_same g.L.DriverLanguage.value g.L.DriverLanguage.enable c.args.self.now.count c.args.own.now c.args.before in
    c.known.ensures find (λ named. c.in_ok-driven.ensures ∙ ap find c.bytes.ensures)
