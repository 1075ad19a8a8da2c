use Rattle.std.proofs.Common.{length, [], slice_get, ◌∙◌}
use Rattle.std.specs.Prelude.{unwrap_or}
use Rattle.udp_tables.specs.declared.table.Udp.{Udp}
use Rattle.row_masks.specs.LookUps.{udp_passes}
use Rattle.row_masks.proofs.LookUpLemmas.{masks-kept}
use Rattle.module_runs.proofs.module_tables.ModuleTables.masks_at.Goals as goal

pub returns : goal.returns
returns c = λ udp is.
    let tables = c.args.self.now in
    masks-kept udp_passes (λ (u : Udp). length u.inputs) (λ (u : Udp). u.rows) tables.model.now.udps c.args.number udp c.masks_at.result.now
    (c.masks_at.ensures ∙ (λ j. unwrap_or (slice_get ((c.as_slice.ensures ∙ tables.indexed.masked) j) c.args.number) [])) is
