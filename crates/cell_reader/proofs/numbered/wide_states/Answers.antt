use Rattle.std.proofs.Common.{◌∙◌, List, ap}
use Rattle.std.specs.Prelude.{flat_map}
use Rattle.cell_machine.specs.Delay.{least}
use Rattle.cell_attributes.specs.declared.state_readings.StateReading.{StateReading}
use Rattle.cell_attributes.specs.Limits.{wide_support_in}
use Rattle.cell_reader.specs.Parts.{subject_in}
use Rattle.cell_reader.proofs.Decides.{wide_supports_told}
use Rattle.cell_reader.proofs.numbered.wide_states.Goals as goal

-- where no other reason is met each state group tells its support
pub returns : goal.returns
returns c =
    c.least_among.ensures
    ∙ ap (λ (readings : List StateReading). least (flat_map wide_support_in readings)) (c.as_slice.ensures ∙ c.requires.parts.of_readings)
    ∙ ap least (wide_supports_told (subject_in c.args.parts.now) c.args.parts.now.cell.now c.requires.unmet)
