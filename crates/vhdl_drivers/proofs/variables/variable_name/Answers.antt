use Rattle.std.proofs.Common.{ap, ◌∙◌}
use Rattle.vhdl_drivers.specs.DriverSections.{variable_of}
use Rattle.vhdl_drivers.proofs.variables.variable_name.Goals as goal

pub returns : goal.returns
returns c =
    let find = variable_of c.args.driven c.args.glitches.now in
    c.known.ensures find (λ named. c.variable_of-found.ensures ∙ ap find c.bytes.ensures)
