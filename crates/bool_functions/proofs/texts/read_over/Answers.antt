use Rattle.std.proofs.Common.{subst, sym, ap, ◌∙◌}
use Rattle.bool_functions.specs.Token.{LieIn}
use Rattle.bool_functions.specs.FunctionText.{known, first_unknown}
use Rattle.bool_functions.proofs.Runs.{spans_lie_in}
use Rattle.bool_functions.proofs.Readings.{over_read}
use Rattle.bool_functions.proofs.texts.read_over.Goals as goal

pub first_unknown-requires : goal.first_unknown-requires
first_unknown-requires c = subst (LieIn c.args.text.now) (sym (c.deref-2.ensures.value ∙ c.in_ok-tokens.ensures)) (spans_lie_in c.args.text.now)

pub returns : goal.returns
returns c =
    over_read c.args.names.now c.args.text.now c.in_ok-read.read c.known.result c.if-text-gt-MAX_LEN.false c.in_ok-read.ensures
    (c.known.ensures ∙ ap (λ u. known u c.in_ok-read.read) (c.first_unknown.ensures
    ∙ ap (first_unknown c.args.names.now c.args.text.now) (c.deref-2.ensures.value ∙ c.in_ok-tokens.ensures)))
