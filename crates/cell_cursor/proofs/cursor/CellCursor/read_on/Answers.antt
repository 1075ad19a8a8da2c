use Rattle.std.proofs.Common.{◌∙◌, refl, sym, ap, length, arith}
use Rattle.std.proofs.lemmas.Bool.Decides.{nat_tests}
use Rattle.std.proofs.lemmas.Result.{err_from_is_err_and}
use Rattle.cell_cursor.proofs.SeekingLemmas.{read_to_do, never_by}
use Rattle.cell_cursor.proofs.AdvanceLemmas.{advance_failed, advance_reads, advance_ends, nil_of}
use Rattle.cell_cursor.proofs.cursor.CellCursor.read_on.Goals as goal

pub returns-in_ok-take_end-clause-never : goal.returns-in_ok-take_end-clause-never
returns-in_ok-take_end-clause-never g c = never_by _ _ _ _ _ c.in_ok-take_end.ensures.answer

pub returns-else-branch-eq0-clause-progress : goal.returns-else-branch-eq0-clause-progress
returns-else-branch-eq0-clause-progress g c = λ _.
    (let size = ap length c.bytes.ensures in
    read_to_do c.args.self.now c.args.self.now _ c.in_ok-read.field-0 refl refl c.requires.scanned
    refl refl (sym c.in_ok-read.ensures.count) (grind (arith, nat_tests, c.if-branch-eq0.false)) (omega (arith, c.read.ensures.most, c.in_ok-read.ensures.count, c.before-2.ensures, size)))

pub returns-in_ok-take_end-clause-advances : goal.returns-in_ok-take_end-clause-advances
returns-in_ok-take_end-clause-advances g c =
    let count = c.in_ok-read.ensures.count in
    advance_ends c.args.self.now c.args.self.now c.take_end.new.self _ _ c.read.new.self (λ bytes items g. g) refl c.requires.scanned
    c.read.ensures.takes (nil_of c.read.new.self (grind (arith, nat_tests, c.if-branch-eq0.true, count))) c.take_end.ensures.limit c.in_ok-take_end.ensures.answer c.in_ok-take_end.ensures.items
    (c.in_ok-read.ensures.end (grind (arith, nat_tests, c.if-branch-eq0.true)) (let size = ap length c.bytes.ensures in grind (arith, nat_tests, c.if-taken-self.false, c.args.self.now.within, c.before-2.ensures, size)))

pub returns-else-branch-eq0-clause-advances : goal.returns-else-branch-eq0-clause-advances
returns-else-branch-eq0-clause-advances g c =
    advance_reads c.args.self.now c.args.self.now _ _ _ c.read.new.self (λ bytes items g. g) refl c.requires.scanned
    c.read.ensures.takes refl c.requires.going c.requires.none_waits refl refl refl

pub returns-in_err-read-clause-advances : goal.returns-in_err-read-clause-advances
returns-in_err-read-clause-advances g c =
    let y = err_from_is_err_and c.from_residual.result c.from_residual.ensures.1 in
    let size = ap length c.bytes.ensures in
    let none = ap length c.requires.scanned in
    advance_failed _ y.0 c.args.self.now _ _ _ c.read.new.self y.1 c.read.ensures.takes refl c.requires.none_waits c.read.ensures.at_once
    (omega (arith, none, c.read.ensures.most, c.before-2.ensures, size, c.args.self.now.within))

pub returns-in_err-take_end-clause-advances : goal.returns-in_err-take_end-clause-advances
returns-in_err-take_end-clause-advances g c =
    let y = err_from_is_err_and c.from_residual-in_err-take_end.result c.from_residual-in_err-take_end.ensures.1 in
    let size = ap length c.bytes.ensures in
    let none = ap length c.requires.scanned in
    advance_failed _ y.0 c.args.self.now _ _ _ c.read.new.self y.1 c.read.ensures.takes c.take_end.ensures.limit (c.in_err-take_end.ensures.err ∙ c.requires.none_waits) c.read.ensures.at_once
    (omega (arith, none, c.read.ensures.most, c.before-2.ensures, size, c.args.self.now.within))
