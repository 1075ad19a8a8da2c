use Rattle.std.proofs.Common.{◌≡◌, ◌∙◌, map, ap, subst, IfOk}
use Rattle.bool_functions.specs.Code.{tree_of, renamed_code}
use Rattle.bool_functions.proofs.CodeLists.{renamed_tree}
use Rattle.bool_functions.proofs.postfix.Postfix.renamed.Goals as goal

pub returns : goal.returns
returns c =
    subst (λ f. IfOk c.renamed.result (λ made. made ≡ f))
    (ap (λ cs. tree_of (map (renamed_code c.args.to.now) cs)) c.as_slice.ensures.value
    ∙ renamed_tree c.args.to.now c.self.inside.spelled.items c.args.self.now c.self.invariant.0 c.self.view_is) c.renamed.ensures
