use Rattle.std.proofs.Common.{sym, ap, length, ◌∙◌}
use Rattle.bool_functions.specs.NameList.{number_of}
use Rattle.stimulus.proofs.Entries.{undone}
use Rattle.stimulus.proofs.ports.PortCatalog.add.Goals as goal

pub invariant_of-self-in-Ok-None : goal.invariant_of-self-in-Ok-None
invariant_of-self-in-Ok-None c =
    let added = rw c.in-Ok-None.field-0-is at c.in-Ok-None.ensures.added in
    ap length added.1 ∙ c.self.invariant ∙ sym (ap length (undone c.pop.result _ _ _ _ c.in_ok-push.ensures.ok c.pop.ensures))

pub invariant_of-self-in-Err : goal.invariant_of-self-in-Err
invariant_of-self-in-Err c =
    ap length c.in-Err.ensures.err ∙ c.self.invariant ∙ sym (ap length (undone c.pop-in-Err.result _ _ _ _ c.in_ok-push.ensures.ok c.pop-in-Err.ensures))

pub returns-in-Ok-None-clause-added : goal.returns-in-Ok-None-clause-added
returns-in-Ok-None-clause-added c =
    let added = rw c.in-Ok-None.field-0-is at c.in-Ok-None.ensures.added in
    let cells = undone c.pop.result _ _ _ _ c.in_ok-push.ensures.ok c.pop.ensures in
    (λ none. added.0 (ap (λ named. number_of named.names c.args.name.now) c.self.view_is ∙ none), (λ i. record { names = added.1 i; cells = cells i }) ∙ c.self.view_is)

pub returns-in-Err-clause-err : goal.returns-in-Err-clause-err
returns-in-Err-clause-err c =
    let cells = undone c.pop-in-Err.result _ _ _ _ c.in_ok-push.ensures.ok c.pop-in-Err.ensures in
    (λ i. record { names = c.in-Err.ensures.err i; cells = cells i }) ∙ c.self.view_is
