use Rattle.std.proofs.Common.{ap, ◌∙◌}
use Rattle.text_io.specs.declared.host.FileDesk.{FileDesk}
use Rattle.text_io.specs.Desk.{created}
use Rattle.text_io.specs.Host.{file_state}
use Rattle.text_io.proofs.HostLemmas.{files-created}
use Rattle.text_io.proofs.host.FileDeskDesk.bind_out.Goals as goal

pub returns-clause-ok : goal.returns-clause-ok
returns-clause-ok c = files-created _ _ _ _ _ _ c.set.ensures ∙ ap (λ (d : FileDesk). created (file_state d) c.args.slot) c.in_ok-opened.ensures.ok
