use Rattle.std.proofs.Common.{Err, refl, sym, subst}
use Rattle.std.proofs.lemmas.Result.{err_from_is_err_and}
use Rattle.cell_cursor.specs.declared.part.Place.TheVariants as place
use Rattle.cell_cursor.specs.Reached.{ComesSo}
use Rattle.cell_cursor.proofs.Comings.{end_refused, end_reached}
use Rattle.cell_cursor.proofs.statements.come_to_end.Goals as goal

pub returns-clause-comes : goal.returns-clause-comes
returns-clause-comes c = λ items. (refl, end_reached items c.args.cursor.now (c.in_ok-read_file_end.ensures items))

pub returns-in_err-read_file_end-clause-comes : goal.returns-in_err-read_file_end-clause-comes
returns-in_err-read_file_end-clause-comes c = λ items.
    let y = err_from_is_err_and c.from_residual.result c.from_residual.ensures.1 in
    subst (λ r. ComesSo r place.Behind items c.args.cursor.now items c.args.cursor.now) (sym y.1)
    (subst (λ e. ComesSo (Err e) place.Behind items c.args.cursor.now items c.args.cursor.now) (sym y.2)
    (end_refused items c.args.cursor.now c.args.cursor.now c.in_err-read_file_end.field-0.0 (c.in_err-read_file_end.ensures items)))
