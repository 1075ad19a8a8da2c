use Rattle.std.proofs.Common.{sym, ◌∙◌}
use Rattle.std.proofs.lemmas.Result.{on_ok_weaker}
use Rattle.run_parts.proofs.NumberedListLemmas.{same-lists}
use Rattle.run_parts.proofs.FedPartLemmas.{input-added}
use Rattle.run_parts.proofs.fed_parts.add_net.Goals as goal

pub returns-clause-lists : goal.returns-clause-lists
returns-clause-lists g c =
    let input = g.F.FedPart.input c.args.ports.now.list.now in
    let new = sym c.is_among.ensures ∙ c.if-is_among.false in
    on_ok_weaker c.add.result
    (λ add lists are.
    same-lists c.add.new.all.items _ _
    (λ n. input-added input c.args.earlier.now c.args.place n (lists n) (input c.args.net) c.in-Some.input
    (sym c.in-Some.ensures) new) (add _ are)) c.add.ensures.lists
