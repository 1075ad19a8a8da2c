use Rattle.std.proofs.Common.{◌≡◌, sym, false, nat_le, arith}
use Rattle.std.proofs.lemmas.Bool.Decides.{nat_tests}
use Rattle.stimulus.specs.declared.line_meanings.TheConstants.{MAX_CHANGES}
use Rattle.stimulus.proofs.PlainChanges.{change_is}
use Rattle.stimulus.proofs.plain_changes.plain_change.Goals as goal

pub returns : goal.returns
returns g c =
    let fewer : nat_le MAX_CHANGES c.args.context.changes ≡ false = grind (arith, nat_tests, c.if-context-ge-MAX_CHANGES.false) in
    change_is (g.C.Catalog.listing c.args.catalog.now) c.args.context c.args.text.now c.in_ok-at.after_time.now c.in_ok-name.name.now
    c.in_ok-name.after_pin.now c.in_ok-value.value.now c.in_ok-value.rest.now c.in_ok-cell.cell c.in_ok-at.at c.in-Input.pin c.in_ok-to.to
    c.in_ok-at.ensures c.in_ok-name.ensures c.in_ok-value.ensures c.in_ok-cell.was fewer (sym c.in-Input.ensures) (sym c.in_ok-to.ensures)
    (sym c.if-not-is_later.ensures)
