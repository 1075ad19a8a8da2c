use Rattle.std.proofs.Common.{true, false, refl, arith}
use Rattle.cell_cursor.proofs.GivenLemmas.{goes_as, sizes_of}
use Rattle.cell_cursor.proofs.StandsLemmas.{goes_same}
use Rattle.cell_cursor.proofs.cursor.CellCursor.scan_on.Goals as goal

pub loop-self-preserved : goal.loop-self-preserved
loop-self-preserved c =
    let sizes = sizes_of c.loop-self.self.part.bytes c.scan.new.self.bytes c.loop-self.self.piece c.take_out.new.self c.in_ok-run.run'.count c.unread-in-loop-self.result.now c.unread-in-loop-self.ensures c.in_ok-run.ensures.bytes c.take_out.ensures c.in_ok-run.ensures.count in
    record {
      limit = c.loop-self.invariant.limit;
      answer = c.loop-self.invariant.answer;
      waiting = c.loop-self.invariant.waiting;
      goes = λ bytes items g.
          goes_as false c.loop-self.self _ c.in_ok-run.run'.may_end c.in_ok-run.run'.count c.unread-in-loop-self.result.now c.if-run.false c.unread-in-loop-self.ensures refl c.in_ok-run.ensures.before
          c.in_ok-run.ensures.bytes c.take_out.ensures c.in_ok-run.ensures.count c.in_ok-run.ensures.scanned c.in_ok-run.ensures.none_before c.in_ok-run.ensures.outer bytes items (c.loop-self.invariant.goes bytes items g);
      taken = omega (arith, c.loop-self.invariant.taken, sizes.0, sizes.1, c.in_ok-run.ensures.before);
      shorter = omega (arith, c.loop-self.invariant.shorter, sizes.1);
    }

pub returns-then-run-clause-goes : goal.returns-then-run-clause-goes
returns-then-run-clause-goes c = λ bytes items g.
    goes_as true c.loop-self.self _ c.in_ok-run.run'.may_end c.in_ok-run.run'.count c.unread-in-loop-self.result.now c.if-run.true c.unread-in-loop-self.ensures refl c.in_ok-run.ensures.before
    c.in_ok-run.ensures.bytes c.take_out.ensures c.in_ok-run.ensures.count c.in_ok-run.ensures.scanned c.in_ok-run.ensures.none_before c.in_ok-run.ensures.outer bytes items (c.loop-self.invariant.goes bytes items g)

pub returns-clause-goes : goal.returns-clause-goes
returns-clause-goes c = λ bytes items g. goes_same c.loop-self.self _ refl refl refl bytes items (c.loop-self.invariant.goes bytes items g)

pub returns-in-Misfit-clause-goes : goal.returns-in-Misfit-clause-goes
returns-in-Misfit-clause-goes c = λ bytes items g.
    goes_as false c.loop-self.self _ c.in_ok-run.run'.may_end c.in_ok-run.run'.count c.unread-in-loop-self.result.now c.if-run.false c.unread-in-loop-self.ensures refl c.in_ok-run.ensures.before
    c.in_ok-run.ensures.bytes c.take_out.ensures c.in_ok-run.ensures.count c.in_ok-run.ensures.scanned c.in_ok-run.ensures.none_before c.in_ok-run.ensures.outer bytes items (c.loop-self.invariant.goes bytes items g)

pub returns-in-Name-clause-goes : goal.returns-in-Name-clause-goes
returns-in-Name-clause-goes c = λ bytes items g.
    goes_as false c.loop-self.self _ c.in_ok-run.run'.may_end c.in_ok-run.run'.count c.unread-in-loop-self.result.now c.if-run.false c.unread-in-loop-self.ensures refl c.in_ok-run.ensures.before
    c.in_ok-run.ensures.bytes c.take_out.ensures c.in_ok-run.ensures.count c.in_ok-run.ensures.scanned c.in_ok-run.ensures.none_before c.in_ok-run.ensures.outer bytes items (c.loop-self.invariant.goes bytes items g)
