use Rattle.std.proofs.Common.{◌∙◌, sym}
use Rattle.cell_reader.specs.Parts.{subject_in}
use Rattle.cell_reader.proofs.Reading.{middle_decides}
use Rattle.cell_reader.proofs.read.unrefused_numbers.Goals as goal

pub returns-in-Some-clause-refused : goal.returns-in-Some-clause-refused
returns-in-Some-clause-refused c =
    middle_decides (subject_in c.args.parts.now) c.args.parts.now.cell.now c.in-Some.refusal (sym c.in_ok-refusal.ensures ∙ c.in-Some.is)
