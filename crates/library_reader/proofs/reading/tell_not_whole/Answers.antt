use Rattle.library_reader.specs.declared.ending.NotWhole.TheVariants as not_whole
use Rattle.library_reader.specs.LibraryAnswer.{library_stop}
use Rattle.run_outcome.proofs.FileStepLaws.{told_so}
use Rattle.library_reader.proofs.reading.tell_not_whole.Goals as goal

pub returns-in-Fault-clause-text : goal.returns-in-Fault-clause-text
returns-in-Fault-clause-text g c =
    rw c.in-Fault.is (told_so _ _ (library_stop (not_whole.Fault c.in-Fault.fault)) c.write_library_fault.result _ c.write_library_fault.ensures.text c.ended.ensures)

pub returns-in-TooLong-clause-text : goal.returns-in-TooLong-clause-text
returns-in-TooLong-clause-text g c =
    rw c.in-TooLong.is (told_so _ _ (library_stop not_whole.TooLong) c.write_library_too_long.result _ c.write_library_too_long.ensures.text c.ended-in-TooLong.ensures)
