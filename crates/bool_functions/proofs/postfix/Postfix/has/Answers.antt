use Rattle.std.proofs.Common.{◌≡◌, ◌∙◌, ◌==◌, ◌↔◌, Bool, IsTrue, ap, sym, subst}
use Rattle.std.specs.List.{list_any}
use Rattle.bool_functions.specs.Tree.{names_of, Has}
use Rattle.bool_functions.specs.Code.{is_name_code}
use Rattle.bool_functions.proofs.Elements.{contains_by_test}
use Rattle.bool_functions.proofs.CodeLists.{any_name, line_names}
use Rattle.bool_functions.proofs.postfix.Postfix.has.Goals as goal

pub returns : goal.returns
returns c =
    let found : c.has.result ≡ list_any (λ j. j == c.args.i) (names_of c.args.self.now) =
    c.has.ensures ∙ ap (list_any (is_name_code c.args.i)) c.as_slice.ensures.value ∙ any_name c.args.i c.self.inside.spelled.items
    ∙ ap (list_any (λ j. j == c.args.i)) (line_names c.self.inside.spelled.items c.args.self.now c.self.view_is c.self.invariant.0) in
    subst (λ (b : Bool). IsTrue b ↔ Has c.args.self.now c.args.i) (sym found) (contains_by_test (names_of c.args.self.now) c.args.i)
