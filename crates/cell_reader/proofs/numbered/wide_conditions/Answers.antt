use Rattle.std.proofs.Common.{◌∙◌}
use Rattle.cell_reader.specs.Parts.{subject_in}
use Rattle.cell_reader.proofs.Decides.{wide_told}
use Rattle.cell_reader.proofs.numbered.wide_conditions.Goals as goal

-- where no other reason is met the timing of each pin tells its wide conditions
pub returns : goal.returns
returns c =
    c.requires.parts.of_timing.wide
    ∙ wide_told (subject_in c.args.parts.now) c.args.parts.now.cell.now c.requires.unmet
