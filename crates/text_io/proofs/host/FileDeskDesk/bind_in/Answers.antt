use Rattle.std.proofs.Common.{[], ap, ◌∙◌}
use Rattle.text_io.specs.declared.host.FileDesk.{FileDesk}
use Rattle.text_io.specs.Desk.{opened}
use Rattle.text_io.specs.Host.{file_state}
use Rattle.text_io.proofs.HostLemmas.{files-opened, file_untold}
use Rattle.text_io.proofs.host.FileDeskDesk.bind_in.Goals as goal

pub returns-clause-ok : goal.returns-clause-ok
returns-clause-ok c =
    ([], file_untold _ _ _ _ _, files-opened _ _ _ _ _ _ _ c.set.ensures ∙ ap (λ (d : FileDesk). opened (file_state d) c.args.slot []) c.in_ok-opened.ensures.ok)
