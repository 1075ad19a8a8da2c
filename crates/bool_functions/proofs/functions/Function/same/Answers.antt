use Rattle.std.proofs.Common.{◌∙◌, ap, sym}
use Rattle.bool_functions.specs.Key.{key_of}
use Rattle.bool_functions.specs.Form.{shown, holds_codes}
use Rattle.bool_functions.specs.SameTrees.{same_tree}
use Rattle.bool_functions.proofs.SameTreeLemmas.{told_same, unlike-keys}
use Rattle.bool_functions.proofs.Forms.{unlike-forms}
use Rattle.bool_functions.proofs.functions.Function.same.Goals as goal

pub returns-then-self-other-clause-test : goal.returns-then-self-other-clause-test
returns-then-self-other-clause-test c =
    sym (unlike-keys c.args.self.now c.args.other.now (λ e.
    c.if-self-other.true
    (c.self.invariant.0 ∙ ap key_of c.self.view_is ∙ e ∙ sym (ap key_of c.other.view_is) ∙ sym c.other.invariant.0)))

pub returns-in-Short-Short-clause-test : goal.returns-in-Short-Short-clause-test
returns-in-Short-Short-clause-test c =
    told_same c.same.result c.in-Short-Short.node c.in-Short-Short.other c.same.ensures
    ∙ ap (λ f. same_tree f c.in-Short-Short.other) (ap shown (sym c.in-Short-Short.is-0) ∙ c.self.view_is)
    ∙ ap (same_tree c.args.self.now) (ap shown (sym c.in-Short-Short.is-1) ∙ c.other.view_is)

pub returns-in-Long-Long-clause-test : goal.returns-in-Long-Long-clause-test
returns-in-Long-Long-clause-test c =
    told_same c.same-in-Long-Long.result c.in-Long-Long.codes c.in-Long-Long.other c.same-in-Long-Long.ensures
    ∙ ap (λ f. same_tree f c.in-Long-Long.other) (ap shown (sym c.in-Long-Long.is-0) ∙ c.self.view_is)
    ∙ ap (same_tree c.args.self.now) (ap shown (sym c.in-Long-Long.is-1) ∙ c.other.view_is)

pub returns-in_default-clause-test : goal.returns-in_default-clause-test
returns-in_default-clause-test c =
    unlike-forms c.self.inside.form c.other.inside.form c.args.self.now c.args.other.now c.self.view_is c.other.view_is c.self.invariant.1 c.other.invariant.1
    (λ e. let clash = ap holds_codes (sym c.in_default.is-0) ∙ e ∙ ap holds_codes c.in_default.is-1 in absurd cc)

pub returns-in_default-2-clause-test : goal.returns-in_default-2-clause-test
returns-in_default-2-clause-test c =
    unlike-forms c.self.inside.form c.other.inside.form c.args.self.now c.args.other.now c.self.view_is c.other.view_is c.self.invariant.1 c.other.invariant.1
    (λ e. let clash = ap holds_codes (sym c.in_default.is-0) ∙ e ∙ ap holds_codes c.in_default.is-1 in absurd cc)
