use Rattle.std.proofs.Common.{◌∙◌, ap}
use Rattle.bool_functions.specs.Code.{same_codes}
use Rattle.bool_functions.proofs.CodeLists.{same_lines}
use Rattle.bool_functions.proofs.postfix.Postfix.same.Goals as goal

pub returns : goal.returns
returns c =
    same_lines c.self.inside.spelled.items c.other.inside.spelled.items c.args.self.now c.args.other.now c.same.result
    c.self.view_is c.other.view_is c.self.invariant.0 c.other.invariant.0
    (c.same.ensures ∙ ap (λ l. same_codes l c.as_slice-2.result.now) c.as_slice.ensures.value ∙ ap (same_codes c.self.inside.spelled.items) c.as_slice-2.ensures.value)
