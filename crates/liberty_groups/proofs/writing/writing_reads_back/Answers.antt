use Rattle.liberty_groups.proofs.WritesBack.{reads_back}
use Rattle.liberty_groups.proofs.writing.writing_reads_back.Goals as goal

pub returns : goal.returns
returns c = λ levels g h. reads_back levels g h
