use Rattle.std.proofs.Common.{◌≡◌, ℕ, true, List, length, map, sym, ap, ◌∙◌, arith}
use Rattle.std.specs.Prelude.{All}
use Rattle.cell_machine.specs.Inputs.{numbered_value}
use Rattle.udp_tables.specs.declared.table.UdpRow.{UdpRow}
use Rattle.row_selection.specs.Selection.{ignored}
use Rattle.row_selection.proofs.IgnoredInputs.{ignored-free}
use Rattle.module_tables.specs.ChangeInputs.{input_count}
use Rattle.module_tables.specs.LookUps.{rows_next}
use Rattle.module_tables.proofs.net_rows.NetRows.ignores.Goals as goal

pub returns-in-Some : goal.returns-in-Some
returns-in-Some c h =
    let r = c.in-Some.rows in
    let n = c.args.number in
    let order : List ℕ = c.args.self.now.order in
    let all : ignored r.place r.old n order r.udp.now.rows ≡ true
    = ap (λ ks. ignored r.place r.old n ks r.udp.now.rows) (sym c.as_slice.ensures) ∙ sym c.ignores.ensures ∙ h in
    let many : length r.udp.now.inputs ≡ length order = ap (input_count (length order)) (sym c.in-Some.is) ∙ c.args.self.now.counted in
    let wide : All (λ (row : UdpRow). length row.inputs ≡ length order) r.udp.now.rows = λ k row at. r.table k row at ∙ many in
    record {
      same_next = λ values others s same.
          ap (λ rows. rows_next rows (map (numbered_value values) order) s) c.in-Some.is
          ∙ ignored-free r.place r.old n order r.udp.now.rows values others s all wide (omega (arith, r.inside, many)) (omega (arith, r.few, many)) same
          ∙ sym (ap (λ rows. rows_next rows (map (numbered_value others) order) s) c.in-Some.is);
    }
