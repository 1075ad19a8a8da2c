use Rattle.std.proofs.Common.{◌≤◌, ◌∙◌, [], ◌∷◌, ◌++◌, ap, length, set, arith}
use Rattle.run_parts.proofs.NumberedListLemmas.{added, not-added}
use Rattle.run_parts.proofs.numbered_lists.add.Goals as goal

pub returns-in_ok-push-clause-lists : goal.returns-in_ok-push-clause-lists
returns-in_ok-push-clause-lists g c = λ lists are.
    let all = c.args.all.now.items in
    added all _ lists c.args.number c.args.entry _
    (ap (set all c.args.number) (c.in_ok-push.ensures.ok ∙ ap (λ ys. ys ++ c.args.entry ∷ []) c.index_mut.ensures.value)) are

pub returns-else-number-len-clause-lists : goal.returns-else-number-len-clause-lists
returns-else-number-len-clause-lists g c = λ lists are.
    let past : length c.args.all.now.items ≤ c.args.number = omega (arith, c.len.ensures, c.args.all.now.ok.0) in
    not-added c.args.all.now.items lists c.args.number c.args.entry past are
