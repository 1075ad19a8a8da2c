use Rattle.run_outcome.proofs.WrittenLaws.{all_ended}
use Rattle.library_reader.proofs.FoldLemmas.{stops_by_memory}
use Rattle.library_reader.proofs.WrittenLemmas.{writes_whole}
use Rattle.library_reader.proofs.items.handle_cell.Goals as goal

pub returns-in_err-next-clause-text : goal.returns-in_err-next-clause-text
returns-in_err-next-clause-text g c = all_ended _ _ _ _ _ c.in_err-next.ensures.text c.from_residual.ensures.0

pub take-requires : goal.take-requires
take-requires g c = record { next = (c.args.progress.now, record { numbered = c.requires.few; is = c.in_ok-next.ensures.next }) }

pub returns-clause-text : goal.returns-clause-text
returns-clause-text g c = writes_whole _ _ _ _ c.in_ok-next.ensures.text.whole

pub returns-clause-cause : goal.returns-clause-cause
returns-clause-cause g c = stops_by_memory _ _ _ c.in_ok-next.ensures.cause.kept c.take.ensures.memory
