use Rattle.std.proofs.Common.{Ok, Err, refl, sym, ap, subst, ◌∙◌}
use Rattle.std.proofs.lemmas.Result.{err_from_is_err_and}
use Rattle.cell_cursor.specs.declared.part.Place.TheVariants as place
use Rattle.cell_cursor.specs.Reached.{ComesSo}
use Rattle.cell_cursor.proofs.Comings.{no_next, header_reached, header_refused, header_behind}
use Rattle.cell_cursor.proofs.statements.come_inside.Goals as goal

pub returns-in-None : goal.returns-in-None
returns-in-None c = λ items. (
  refl,
  λ more. header_reached items c.args.cursor.now more
      (c.in_ok-header.ensures ∙ ap (λ left. Ok (tt, left)) (no_next c.header.new.self (sym c.peek.ensures ∙ c.in-None.is))),
)

pub returns-in_err-header : goal.returns-in_err-header
returns-in_err-header c = λ items.
    (let y = err_from_is_err_and c.from_residual.result c.from_residual.ensures.1 in
    subst (λ r. ComesSo r place.Start items c.args.cursor.now items c.header.new.self) (sym y.1)
    (subst (λ e. ComesSo (Err e) place.Start items c.args.cursor.now items c.header.new.self) (sym y.2)
    (header_refused items c.args.cursor.now c.header.new.self c.in_err-header.field-0.0 c.in_err-header.ensures)))

pub returns-in-Some : goal.returns-in-Some
returns-in-Some c = λ items. header_behind c.args.cursor.now c.header.new.self c.in-Some.field-0 c.in_ok-header.ensures (sym c.peek.ensures ∙ c.in-Some.is)
