use Rattle.std.proofs.Common.{◌∙◌, [], refl, sym, subst, take, arith}
use Rattle.std.proofs.lemmas.Result.{err_from_is_err_and}
use Rattle.cell_cursor.specs.Stands.{Advances}
use Rattle.cell_cursor.proofs.SeekingLemmas.{never_by}
use Rattle.cell_cursor.proofs.AdvanceLemmas.{advance_fails, advance_limit}
use Rattle.cell_cursor.proofs.TakingLemmas.{takes_same, takes_into, length_front}
use Rattle.cell_cursor.proofs.cursor.CellCursor.take_at_limit.Goals as goal

pub returns-in_err-count-clause-advances : goal.returns-in_err-count-clause-advances
returns-in_err-count-clause-advances g c =
    let y = err_from_is_err_and c.from_residual.result c.from_residual.ensures.1 in
    subst (λ r. Advances r c.args.self.now c.args.self.now (g.D.Desk.state c.args.desk.now) (g.D.Desk.state c.read.new.self)) (sym y.1)
    (advance_fails c.args.self.now c.args.self.now _ _ [] y.0 (takes_same _ _ c.in_err-count.ensures.err) refl c.requires.none_waits (omega arith) (omega (arith, c.args.self.now.within)))

pub returns-clause-never : goal.returns-clause-never
returns-clause-never g c = never_by _ _ _ _ _ c.in_ok-take_end.ensures.answer

pub returns-in_err-take_end-clause-advances : goal.returns-in_err-take_end-clause-advances
returns-in_err-take_end-clause-advances g c =
    let y = err_from_is_err_and c.from_residual-in_err-take_end.result c.from_residual-in_err-take_end.ensures.1 in
    let size = length_front c.in_ok-count.count c.read.new.into c.in_ok-count.ensures.at_most in
    subst (λ r. Advances r c.args.self.now c.take_end.new.self (g.D.Desk.state c.args.desk.now) (g.D.Desk.state c.read.new.self)) (sym y.1)
    (advance_fails c.args.self.now c.take_end.new.self _ _ (take c.in_ok-count.count c.read.new.into) y.0
    (takes_into _ _ c.read.new.into c.in_ok-count.count c.in_ok-count.ensures.at_most c.in_ok-count.ensures.ok c.in_ok-count.ensures.front) c.take_end.ensures.limit
    (c.in_err-take_end.ensures.err ∙ c.requires.none_waits) (omega (arith, size, c.in_ok-count.ensures.at_most, c.read.auto.into)) (omega (arith, c.args.self.now.within, size, c.in_ok-count.ensures.at_most, c.read.auto.into)))

pub returns-clause-advances : goal.returns-clause-advances
returns-clause-advances g c =
    let size = length_front c.in_ok-count.count c.read.new.into c.in_ok-count.ensures.at_most in
    advance_limit c.args.self.now c.args.self.now c.take_end.new.self _ _ (take c.in_ok-count.count c.read.new.into) c.in_ok-count.count (λ bytes items g. g) refl c.requires.scanned c.requires.full
    (takes_into _ _ c.read.new.into c.in_ok-count.count c.in_ok-count.ensures.at_most c.in_ok-count.ensures.ok c.in_ok-count.ensures.front) size
    (omega (arith, c.in_ok-count.ensures.at_most, c.read.auto.into)) c.take_end.ensures.limit c.in_ok-take_end.ensures.answer c.in_ok-take_end.ensures.items
    (λ none. c.in_ok-count.ensures.end none (omega (arith, c.read.auto.into)))
