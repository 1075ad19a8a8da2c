use Rattle.std.proofs.Common.{sym}
use Rattle.run_outcome.proofs.WrittenLaws.{wrote_all-nothing, stopped_before}
use Rattle.library_reader.proofs.items.handle_item.Goals as goal

pub returns-in-Unit-clause-text : goal.returns-in-Unit-clause-text
returns-in-Unit-clause-text g c = rw c.in-Unit.is (record { whole = sym (wrote_all-nothing _); part = tt })

pub returns-in_err-count_type-in-BusType-clause-text : goal.returns-in_err-count_type-in-BusType-clause-text
returns-in_err-count_type-in-BusType-clause-text g c = stopped_before _ _ _ c.from_residual.ensures.0

pub returns-in_ok-count_type-in-BusType-clause-text : goal.returns-in_ok-count_type-in-BusType-clause-text
returns-in_ok-count_type-in-BusType-clause-text g c = rw c.in-BusType.is (record { whole = sym (wrote_all-nothing _); part = tt })
