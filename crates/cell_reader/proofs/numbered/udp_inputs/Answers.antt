use Rattle.cell_reader.specs.Parts.{subject_in}
use Rattle.cell_reader.proofs.PartCounts.{few_pins, few_groups}
use Rattle.cell_reader.proofs.numbered.udp_inputs.Goals as goal

pub reader-reader-requires-clause-pins : goal.reader-reader-requires-clause-pins
reader-reader-requires-clause-pins c = few_pins (subject_in c.args.parts.now) c.args.parts.now.cell.now c.requires.unmet

pub reader-reader-requires-clause-groups : goal.reader-reader-requires-clause-groups
reader-reader-requires-clause-groups c = few_groups (subject_in c.args.parts.now) c.args.parts.now.cell.now c.requires.unmet
