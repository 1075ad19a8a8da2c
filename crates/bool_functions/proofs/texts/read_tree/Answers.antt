use Rattle.std.proofs.Common.{subst, sym, ap, map, ◌∙◌}
use Rattle.bool_functions.specs.Token.{LieIn, symbol_of, bytes_at}
use Rattle.bool_functions.specs.FunctionText.{TreeOf}
use Rattle.bool_functions.proofs.Runs.{spans_lie_in}
use Rattle.bool_functions.proofs.Readings.{of_run}
use Rattle.bool_functions.proofs.Tables.{IfOk-both}
use Rattle.bool_functions.proofs.texts.read_tree.Goals as goal

pub symbols-requires : goal.symbols-requires
symbols-requires c = subst (LieIn c.args.text.now) (sym c.requires) (spans_lie_in c.args.text.now)

pub returns : goal.returns
returns c =
    let is = c.deref.ensures.value ∙ c.in_ok-symbols.ensures ∙ ap (map (λ t. symbol_of c.args.names.now (bytes_at c.args.text.now t))) c.requires in
    IfOk-both _ _ (TreeOf c.args.names.now c.args.text.now)
    (λ made e _. of_run c.args.names.now c.args.text.now c.deref.result.now c.in_ok-read.read made is c.in_ok-read.ensures e) c.function_of.result c.function_of.ensures c.function_of.ensures
