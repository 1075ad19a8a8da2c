use Rattle.std.proofs.Common.{◌≡◌, ◌∙◌, ap, subst, sym}
use Rattle.bool_functions.specs.Token.{LieIn, words_of}
use Rattle.bool_functions.specs.FunctionText.{first_appearances, free_names}
use Rattle.bool_functions.proofs.Runs.{spans_lie_in}
use Rattle.bool_functions.proofs.Readings.{own_read}
use Rattle.bool_functions.proofs.texts.read_own.Goals as goal

pub names_in-requires : goal.names_in-requires
names_in-requires c = subst (LieIn c.args.text.now) (sym (c.deref.ensures.value ∙ c.in_ok-tokens.ensures)) (spans_lie_in c.args.text.now)

pub returns : goal.returns
returns c =
    let own : c.in_ok-names.names ≡ free_names c.args.text.now = c.in_ok-names.ensures ∙ ap (λ ts. first_appearances (words_of c.args.text.now ts)) (c.deref.ensures.value ∙ c.in_ok-tokens.ensures) in
    own_read c.in_ok-names.names c.args.text.now c.read_tree-read.result c.beside.result own c.if-text-gt-MAX_LEN.false c.read_tree-read.ensures c.beside.ensures
