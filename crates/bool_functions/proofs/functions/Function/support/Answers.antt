use Rattle.std.proofs.Common.{◌≡◌, ◌↔◌, ◌∙◌, ℕ, List, ap, sym, subst, IfOk, Contains}
use Rattle.std.specs.List.Sorted.{IsStrictlyIncreasing}
use Rattle.bool_functions.specs.Tree.{Has}
use Rattle.bool_functions.specs.Form.{shown}
use Rattle.bool_functions.specs.Support.{support_of}
use Rattle.bool_functions.proofs.Supports.{support_ascends, support_has}
use Rattle.bool_functions.proofs.Tables.{IfOk-both}
use Rattle.bool_functions.proofs.functions.Function.support.Goals as goal

pub returns-in-Short-clause-ascending : goal.returns-in-Short-clause-ascending
returns-in-Short-clause-ascending c =
    let found = subst (λ f. IfOk c.support.result (λ v. v.items ≡ support_of f)) (ap shown (sym c.in-Short.is) ∙ c.self.view_is) c.support.ensures in
    IfOk-both _ _ (λ v. IsStrictlyIncreasing v.items) (λ v is _. subst IsStrictlyIncreasing (sym is) (support_ascends c.args.self.now)) c.support.result found found

pub returns-in-Short-clause-written : goal.returns-in-Short-clause-written
returns-in-Short-clause-written c =
    let found = subst (λ f. IfOk c.support.result (λ v. v.items ≡ support_of f)) (ap shown (sym c.in-Short.is) ∙ c.self.view_is) c.support.ensures in
    IfOk-both _ _ (λ v. (i : ℕ) → Contains v.items i ↔ Has c.args.self.now i)
    (λ v is _ i. subst (λ (l : List ℕ). Contains l i ↔ Has c.args.self.now i) (sym is) (support_has c.args.self.now i)) c.support.result found found

pub returns-in-Long-clause-ascending : goal.returns-in-Long-clause-ascending
returns-in-Long-clause-ascending c =
    let found = subst (λ f. IfOk c.support-in-Long.result (λ v. v.items ≡ support_of f)) (ap shown (sym c.in-Long.is) ∙ c.self.view_is) c.support-in-Long.ensures in
    IfOk-both _ _ (λ v. IsStrictlyIncreasing v.items) (λ v is _. subst IsStrictlyIncreasing (sym is) (support_ascends c.args.self.now)) c.support-in-Long.result found found

pub returns-in-Long-clause-written : goal.returns-in-Long-clause-written
returns-in-Long-clause-written c =
    let found = subst (λ f. IfOk c.support-in-Long.result (λ v. v.items ≡ support_of f)) (ap shown (sym c.in-Long.is) ∙ c.self.view_is) c.support-in-Long.ensures in
    IfOk-both _ _ (λ v. (i : ℕ) → Contains v.items i ↔ Has c.args.self.now i)
    (λ v is _ i. subst (λ (l : List ℕ). Contains l i ↔ Has c.args.self.now i) (sym is) (support_has c.args.self.now i)) c.support-in-Long.result found found
