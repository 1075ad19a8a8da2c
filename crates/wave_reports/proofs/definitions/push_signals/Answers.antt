use Rattle.std.proofs.Common.{◌<◌, length, arith}
use Rattle.wave_reports.specs.Definitions.{signal_text}
use Rattle.wave_reports.proofs.TextLemmas.{grown_by_name}
use Rattle.wave_reports.proofs.definitions.push_signals.Goals as goal

pub loop-place-preserved : goal.loop-place-preserved
loop-place-preserved c =
    let below : c.loop-place.place < length c.args.keys.now = omega (arith, c.len-place-end.ensures.len) in
    grown_by_name (signal_text c.args.section c.args.scope) c.args.keys.now c.loop-place.place _ _ _ _ below c.name.ensures c.in_ok-push_signal.ensures c.loop-place.invariant
