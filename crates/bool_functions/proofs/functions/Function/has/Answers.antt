use Rattle.std.proofs.Common.{◌∙◌, ◌==◌, ◌↔◌, Bool, IsTrue, ap, sym, subst}
use Rattle.std.specs.List.{list_any}
use Rattle.bool_functions.specs.Tree.{names_of, Has}
use Rattle.bool_functions.specs.Form.{shown}
use Rattle.bool_functions.proofs.Elements.{contains_by_test}
use Rattle.bool_functions.proofs.functions.Function.has.Goals as goal

pub returns-in-Short : goal.returns-in-Short
returns-in-Short c =
    let found = c.has.ensures ∙ ap (λ f. list_any (λ j. j == c.args.i) (names_of f)) (ap shown (sym c.in-Short.is) ∙ c.self.view_is) in
    subst (λ (b : Bool). IsTrue b ↔ Has c.args.self.now c.args.i) (sym found) (contains_by_test (names_of c.args.self.now) c.args.i)
