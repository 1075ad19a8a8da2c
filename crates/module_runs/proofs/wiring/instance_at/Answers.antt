use Rattle.std.proofs.Common.{refl, length}
use Rattle.std.proofs.lemmas.Option.{slice_get_read}
use Rattle.module_runs.proofs.WiringLemmas.{wired-joined}
use Rattle.module_runs.proofs.wiring.instance_at.Goals as goal

pub returns-clause-joined : goal.returns-clause-joined
returns-clause-joined c = λ room wired.
    let instances = c.args.model.now.instances in
    let read = rw c.as_slice.ensures at c.index-as_slice-i.is in
    let is = slice_get_read instances (length instances) c.args.i c.index-as_slice-i.result refl c.requires read in
    wired-joined room c.args.model.now c.args.i c.index-as_slice-i.result wired is
