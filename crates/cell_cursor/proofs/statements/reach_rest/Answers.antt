use Rattle.std.proofs.Common.{◌∙◌, sym, ap}
use Rattle.cell_cursor.proofs.StatementSteps.{empty_turn_as, named_turn_as, empty_ends, named_ends}
use Rattle.cell_cursor.proofs.statements.reach_rest.Goals as goal
use Rattle.cell_cursor.proofs.statements.reach_rest.Goals.{in-Empty, in-Named+in_ok-statement_ends-in-Named+else-not-branch}

pub loop-turn-preserved : goal.loop-turn-preserved
loop-turn-preserved c =
    elim c.match-start.branch [
      | in-Empty w ↦
          (let start = sym c.start.ensures ∙ w.in-Empty.is in
          record {
            went =
                empty_turn_as c.args.items.now.items c.loop-turn.items.items c.match-start.items.items c.args.cursor.now c.loop-turn.cursor c.match-start.cursor
                c.loop-turn.invariant.went start (w.cursor-is ∙ w.skip.ensures) (ap (λ v. v.items) w.items-is);
            ends = empty_ends c.args.cursor.now c.loop-turn.cursor c.match-start.cursor c.loop-turn.invariant.ends (w.cursor-is ∙ w.skip.ensures);
          })
      | in-Named+in_ok-statement_ends-in-Named+else-not-branch w ↦
          (let start = sym c.start.ensures ∙ w.in-Named.is in
          record {
            went =
                named_turn_as c.args.items.now.items c.loop-turn.items.items w.statement_ends.new.items.items c.match-start.items.items c.args.cursor.now c.loop-turn.cursor w.statement_ends.new.cursor c.match-start.cursor
                c.loop-turn.invariant.went start (w.in_ok-statement_ends-in-Named.ensures w.if-not-branch.false) w.cursor-is (ap (λ v. v.items) w.items-is);
            ends =
                named_ends c.loop-turn.items.items w.statement_ends.new.items.items c.args.cursor.now c.loop-turn.cursor w.statement_ends.new.cursor c.match-start.cursor
                c.loop-turn.invariant.ends (w.in_ok-statement_ends-in-Named.ensures w.if-not-branch.false) w.cursor-is;
          })
    ]
