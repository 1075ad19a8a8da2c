use Rattle.text_io.specs.declared.slots.OutSlot.TheVariants.{VerilogText}
use Rattle.text_io.specs.declared.slots.Slot.TheVariants.{Output}
use Rattle.text_io.proofs.Took.{bound_still}
use Rattle.wave_reports.proofs.DrawLemmas.{unread, undrawn, too_long, long_stops, dump_stops, faults_stop, all_written}
use Rattle.wave_reports.proofs.draw.draw_bound.Goals as goal

pub returns-in_err-taken-clause-text : goal.returns-in_err-taken-clause-text
returns-in_err-taken-clause-text g c =
    let read = c.in_err-taken.ensures.err in
    unread _ _ read.0 _ c.from_residual.ensures.0 read.2

pub returns-in_err-tell_too_long-clause-text : goal.returns-in_err-tell_too_long-clause-text
returns-in_err-tell_too_long-clause-text g c = long_stops _ _ _ c.in_ok-taken.taken _ _ c.from_residual-in_err-tell_too_long.ensures.0 c.in_ok-taken.ensures.ok c.if-taken.true c.in_err-tell_too_long.ensures.text

pub returns-then-taken-clause-text : goal.returns-then-taken-clause-text
returns-then-taken-clause-text g c = too_long _ _ _ c.in_ok-taken.taken c.in_ok-taken.ensures.ok c.if-taken.true c.in_ok-tell_too_long.ensures.text.whole

pub returns-in_err-waves-clause-text : goal.returns-in_err-waves-clause-text
returns-in_err-waves-clause-text g c = undrawn _ _ c.in_ok-taken.taken _ c.from_residual-in_err-waves.ensures.0 c.in_ok-taken.ensures.ok

pub write_dump-requires : goal.write_dump-requires
write_dump-requires g c = bound_still _ _ _ _ (Output VerilogText) c.in_ok-taken.ensures.ok.state c.requires.dump

pub returns-in_err-write_dump-clause-text : goal.returns-in_err-write_dump-clause-text
returns-in_err-write_dump-clause-text g c =
    dump_stops _ _ _ c.in_ok-taken.taken _ _ _ _ c.from_residual-in_err-write_dump.ensures.0 c.in_ok-taken.ensures.ok c.if-taken.false c.in_ok-waves.ensures.definitions c.in_ok-waves.ensures.changes c.in_err-write_dump.ensures.text

pub returns-in_err-tell_faults-clause-text : goal.returns-in_err-tell_faults-clause-text
returns-in_err-tell_faults-clause-text g c =
    faults_stop _ _ _ _ c.in_ok-taken.taken _ _ _ _ _ c.from_residual-in_err-tell_faults.ensures.0 c.in_ok-taken.ensures.ok c.if-taken.false c.in_ok-waves.ensures.definitions c.in_ok-waves.ensures.changes c.in_ok-waves.ensures.faults
    c.in_ok-write_dump.ensures.text.whole c.in_err-tell_faults.ensures.text

pub returns-clause-text : goal.returns-clause-text
returns-clause-text g c =
    all_written _ _ _ _ c.in_ok-taken.taken _ _ _ _ c.in_ok-taken.ensures.ok c.if-taken.false c.in_ok-waves.ensures.definitions c.in_ok-waves.ensures.changes c.in_ok-waves.ensures.faults
    c.in_ok-write_dump.ensures.text.whole c.in_ok-tell_faults.ensures.text.whole c.status_behind.ensures
