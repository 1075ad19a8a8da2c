use Rattle.std.proofs.Common.{◌≡◌, List, map, slice_get, Some, subst, sym, ap, ◌∙◌}
use Rattle.udp_tables.specs.declared.row_keys.RowKey.{RowKey}
use Rattle.udp_tables.specs.Tables.{AreKept}
use Rattle.udp_tables.specs.RowKeys.{row_key}
use Rattle.udp_tables.proofs.RowKeyLemmas.{none_kept, all_kept}
use Rattle.module_runs.specs.Keys.{udp_keys}
use Rattle.module_runs.proofs.module_tables.ModuleTables.keys_at.Goals as goal

pub returns-in-Some : goal.returns-in-Some
returns-in-Some c = λ udp is.
    let keyed = c.args.self.now in
    let keys = c.in-Some.keys.now in
    let found : slice_get (map udp_keys keyed.model.now.udps) c.args.number ≡ Some keys
    = ap (λ (xs : List (List RowKey)). slice_get xs c.args.number) (sym (c.as_slice-all.ensures ∙ keyed.indexed.keyed)) ∙ sym c.in-Some.ensures in
    let same = (all_kept udp_keys keyed.model.now.udps).each_is c.args.number keys udp found is in
    subst (λ (ks : List RowKey). AreKept row_key ks udp.rows) (sym (c.as_slice.ensures ∙ same)) (all_kept row_key udp.rows)

pub returns-in-None : goal.returns-in-None
returns-in-None c = λ udp is. none_kept row_key udp.rows
