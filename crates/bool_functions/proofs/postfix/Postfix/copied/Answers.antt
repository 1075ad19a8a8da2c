use Rattle.std.proofs.Common.{◌≡◌, ◌∙◌, ap, sym, subst}
use Rattle.bool_functions.specs.Code.{codes_of, tree_of}
use Rattle.bool_functions.specs.Kept.{AreOfTree}
use Rattle.bool_functions.proofs.postfix.Postfix.copied.Goals as goal

pub invariant_of-result : goal.invariant_of-result
invariant_of-result c =
    let same = sym (c.in_ok-spelled.ensures.items ∙ c.as_slice.ensures.value) in (
      subst (λ cs. cs ≡ codes_of (tree_of cs)) same c.self.invariant.0,
      c.in_ok-kept.ensures (tree_of c.in_ok-spelled.spelled.items) (subst (λ cs. AreOfTree (tree_of cs) c.self.inside.kept) same c.self.invariant.1),
    )

pub returns : goal.returns
returns c = ap tree_of (c.in_ok-spelled.ensures.items ∙ c.as_slice.ensures.value) ∙ c.self.view_is
