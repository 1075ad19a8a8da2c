use Rattle.std.proofs.Common.{sym}
use Rattle.run_outcome.proofs.WrittenLaws.{wrote_all-nothing}
use Rattle.library_reader.proofs.writer.NothingWrittenItemWriter.write_left_out.Goals as goal

pub returns-clause-text : goal.returns-clause-text
returns-clause-text g c = record { whole = sym (wrote_all-nothing _); part = tt }
