use Rattle.std.proofs.Common.{◌≡◌, sym, ap, subst, ◌∙◌, IfOk}
use Rattle.verilog_tokens.specs.Kept.{is_kept_cell_name}
use Rattle.command_words.proofs.AskedLemmas.{asked_as}
use Rattle.command_words.proofs.commands.asked_primitive.Goals as goal

pub returns-in-Ok : goal.returns-in-Ok
returns-in-Ok c =
    let kept = ap is_kept_cell_name (sym c.as_bytes.ensures.value) ∙ sym c.is_kept_cell_name.ensures ∙ c.if-not-is_kept_cell_name.false in
    let read = rw c.as_bytes-2.ensures.value at c.in-Ok.ensures.exact in
    let same = asked_as c.args.name.now c.args.text.now c.in-Ok.names c.len.result c.in-Ok.function kept read.0 read.1 c.len.ensures.len in
    subst (λ wanted. IfOk c.primitive_read.result (λ udp. udp ≡ wanted)) (sym same) c.primitive_read.ensures
