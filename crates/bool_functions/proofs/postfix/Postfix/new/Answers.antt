use Rattle.std.proofs.Common.{◌∙◌, ap, sym, subst}
use Rattle.bool_functions.specs.Code.{codes_of, tree_of}
use Rattle.bool_functions.specs.Kept.{AreOfTree}
use Rattle.bool_functions.proofs.CodeLists.{codes_made, tree_of_codes}
use Rattle.bool_functions.proofs.postfix.Postfix.new.Goals as goal

pub invariant_of-result : goal.invariant_of-result
invariant_of-result c =
    let made = codes_made c.args.node.now _ _ _ c.shrink_to_fit.new.self.items c.in_ok-add_codes.ensures c.if-not-branch.false c.new-spelled.ensures.items c.shrink_to_fit.ensures.items in
    let tree = ap tree_of made.0 ∙ tree_of_codes c.args.node.now in
    (made.0 ∙ ap codes_of (sym tree), subst (λ f. AreOfTree f c.in_ok-kept.kept) (sym tree) c.in_ok-kept.ensures)

pub returns : goal.returns
returns c =
    let made = codes_made c.args.node.now _ _ _ c.shrink_to_fit.new.self.items c.in_ok-add_codes.ensures c.if-not-branch.false c.new-spelled.ensures.items c.shrink_to_fit.ensures.items in
    (ap tree_of made.0 ∙ tree_of_codes c.args.node.now, made.1)
