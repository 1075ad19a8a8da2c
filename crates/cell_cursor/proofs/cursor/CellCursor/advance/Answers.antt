use Rattle.std.proofs.Common.{◌∙◌, [], refl, sym, subst, arith}
use Rattle.std.proofs.lemmas.Result.{err_from_is_err_and}
use Rattle.cell_cursor.specs.Stands.{Advances}
use Rattle.cell_cursor.proofs.SeekingLemmas.{less_to_do, less_before, going_whole, to_do_scanned}
use Rattle.cell_cursor.proofs.AdvanceLemmas.{advance_scanned, advance_fails, advance_takes}
use Rattle.cell_cursor.proofs.TakingLemmas.{takes_none}
use Rattle.cell_cursor.proofs.cursor.CellCursor.advance.Goals as goal

pub returns-in_err-scanned-clause-advances : goal.returns-in_err-scanned-clause-advances
returns-in_err-scanned-clause-advances g c =
    let y = err_from_is_err_and c.from_residual.result c.from_residual.ensures.1 in
    subst (λ r. Advances r c.args.self.now c.scan_on.new.self (g.D.Desk.state c.args.desk.now) (g.D.Desk.state c.args.desk.now)) (sym y.1)
    (advance_fails c.args.self.now c.scan_on.new.self _ _ [] y.0 (takes_none _) c.scan_on.ensures.limit (c.scan_on.ensures.waiting ∙ c.requires.none_waits) (omega arith) (omega (arith, c.args.self.now.within)))

pub returns-in_err-take_scanned-clause-advances : goal.returns-in_err-take_scanned-clause-advances
returns-in_err-take_scanned-clause-advances g c =
    let y = err_from_is_err_and c.from_residual-in_err-take_scanned.result c.from_residual-in_err-take_scanned.ensures.1 in
    subst (λ r. Advances r c.args.self.now c.take_scanned.new.self (g.D.Desk.state c.args.desk.now) (g.D.Desk.state c.args.desk.now)) (sym y.1)
    (advance_fails c.args.self.now c.take_scanned.new.self _ _ [] y.0 (takes_none _) (c.take_scanned.ensures.reading.limit ∙ c.scan_on.ensures.limit) c.in_err-take_scanned.ensures.err (omega arith) (omega (arith, c.args.self.now.within)))

pub returns-clause-advances : goal.returns-clause-advances
returns-clause-advances g c =
    advance_takes _ c.args.self.now c.scan_on.new.self c.take_scanned.new.self _ c.in_ok-scanned.ensures.goes
    c.scan_on.ensures.limit c.take_scanned.ensures.reading.limit c.in_ok-take_scanned.ensures.stands c.in_ok-take_scanned.ensures.open

pub returns-clause-progress : goal.returns-clause-progress
returns-clause-progress g c = λ _.
    less_to_do c.args.self.now c.scan_on.new.self c.take_scanned.new.self c.scan_on.ensures.limit c.in_ok-scanned.ensures.taken (c.in_ok-scanned.ensures.some (sym c.is_whole.ensures ∙ c.if-is_whole.false))
    c.take_scanned.ensures.reading.limit c.take_scanned.ensures.reading.taken c.take_scanned.ensures.reading.piece

pub returns-then-is_whole-clause-advances : goal.returns-then-is_whole-clause-advances
returns-then-is_whole-clause-advances g c =
    advance_scanned _ c.args.self.now c.scan_on.new.self c.read_on.new.self _ _ (going_whole c.in_ok-scanned.scanned _ _ (sym c.is_whole.ensures ∙ c.if-is_whole.true) c.in_ok-scanned.ensures.goes) c.scan_on.ensures.limit c.read_on.ensures.advances

pub returns-then-is_whole-clause-progress : goal.returns-then-is_whole-clause-progress
returns-then-is_whole-clause-progress g c =
    less_before _ c.read_on.result _ _ _ (to_do_scanned c.args.self.now c.scan_on.new.self c.scan_on.ensures.limit c.in_ok-scanned.ensures.taken (c.in_ok-scanned.ensures.none (sym c.is_whole.ensures ∙ c.if-is_whole.true)))
    c.read_on.ensures.progress
