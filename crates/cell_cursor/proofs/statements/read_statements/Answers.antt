use Rattle.std.proofs.Common.{Bool, Err, sym, ap, subst, ◌∙◌, arith, length}
use Rattle.std.proofs.lemmas.Result.{err_from_is_err_and}
use Rattle.grammar_rules.specs.Reading.{read}
use Rattle.cell_cursor.specs.Items.{Adds, statements_after}
use Rattle.cell_cursor.specs.Reached.{EndsInner}
use Rattle.cell_cursor.proofs.Comings.{failed_inner}
use Rattle.cell_cursor.proofs.OpenParts.{walked_empty, walked_named, last_open}
use Rattle.cell_cursor.proofs.StatementSteps.{went_other, went_through, went_open, failed_adds, empty_turn_as, named_turn_as}
use Rattle.cell_cursor.proofs.StatementSteps.{empty_less, rest_shorter}
use Rattle.cell_cursor.proofs.statements.read_statements.Goals as goal
use Rattle.cell_cursor.proofs.statements.read_statements.Goals.{in-Empty, in-Named+in_ok-read_statement-in-Named+else-not-branch}

pub returns-in_err-read_statement-in-Named-clause-added :
    goal.returns-in_err-read_statement-in-Named-clause-added
returns-in_err-read_statement-in-Named-clause-added c =
    let y = err_from_is_err_and c.from_residual.result c.from_residual.ensures.1 in
    subst (λ r. Adds {T = Bool} (read (statements_after c.args.items.now.items) c.args.cursor.now) r c.read_statement.new.items.items c.read_statement.new.cursor) (sym y.1)
    (subst (λ e. Adds {T = Bool} (read (statements_after c.args.items.now.items) c.args.cursor.now) (Err e) c.read_statement.new.items.items c.read_statement.new.cursor) (sym y.2)
    (failed_adds c.args.items.now.items c.loop-turn.items.items c.args.cursor.now c.loop-turn.cursor c.in_err-read_statement-in-Named.field-0.0 c.read_statement.new.items.items c.read_statement.new.cursor
    c.loop-turn.invariant.went (sym c.start.ensures ∙ c.in-Named.is) c.in_err-read_statement-in-Named.ensures.added))

pub returns-then-not-branch-clause-added : goal.returns-then-not-branch-clause-added
returns-then-not-branch-clause-added c =
    went_open c.args.items.now.items c.loop-turn.items.items c.read_statement.new.items.items c.args.cursor.now c.loop-turn.cursor c.read_statement.new.cursor
    c.loop-turn.invariant.went (sym c.start.ensures ∙ c.in-Named.is) c.in_ok-read_statement-in-Named.ensures.added
    (c.in_ok-read_statement-in-Named.ensures.open c.if-not-branch.true)

pub loop-turn-preserved : goal.loop-turn-preserved
loop-turn-preserved c =
    elim c.match-start.branch [
      | in-Empty w ↦
          (let start = sym c.start.ensures ∙ w.in-Empty.is in
          let less = empty_less c.loop-turn.cursor c.match-start.cursor start (w.cursor-is ∙ w.skip.ensures) in
          record {
            left = omega (arith, c.loop-turn.invariant.left, less);
            went =
                empty_turn_as c.args.items.now.items c.loop-turn.items.items c.match-start.items.items c.args.cursor.now c.loop-turn.cursor c.match-start.cursor
                c.loop-turn.invariant.went start (w.cursor-is ∙ w.skip.ensures) (ap (λ v. v.items) w.items-is);
            walked = walked_empty c.args.cursor.now c.loop-turn.cursor c.match-start.cursor c.loop-turn.invariant.walked start (w.cursor-is ∙ w.skip.ensures);
          })
      | in-Named+in_ok-read_statement-in-Named+else-not-branch w ↦
          (let start = sym c.start.ensures ∙ w.in-Named.is in
          let less = rest_shorter c.loop-turn.items.items w.read_statement.new.items.items c.loop-turn.cursor w.read_statement.new.cursor start w.in_ok-read_statement-in-Named.ensures.added in
          let same = ap length w.cursor-is in
          record {
            left = omega (arith, c.loop-turn.invariant.left, less, same);
            went =
                named_turn_as c.args.items.now.items c.loop-turn.items.items w.read_statement.new.items.items c.match-start.items.items c.args.cursor.now c.loop-turn.cursor w.read_statement.new.cursor c.match-start.cursor
                c.loop-turn.invariant.went start (w.in_ok-read_statement-in-Named.ensures.ended w.if-not-branch.false) w.cursor-is (ap (λ v. v.items) w.items-is);
            walked =
                walked_named c.loop-turn.items.items w.read_statement.new.items.items c.args.cursor.now c.loop-turn.cursor w.read_statement.new.cursor c.match-start.cursor
                c.loop-turn.invariant.walked start w.in_ok-read_statement-in-Named.ensures.added w.cursor-is;
          })
    ]

pub returns-after-loop-turn-clause-added : goal.returns-after-loop-turn-clause-added
returns-after-loop-turn-clause-added c =
    went_through c.args.items.now.items c.loop-turn.items.items c.args.cursor.now c.loop-turn.cursor c.loop-turn.invariant.went
    (omega (arith, c.loop-turn.invariant.left, c.loop-turn-test.false))

pub returns-in-Other-clause-added : goal.returns-in-Other-clause-added
returns-in-Other-clause-added c =
    went_other c.args.items.now.items c.loop-turn.items.items c.args.cursor.now c.loop-turn.cursor c.loop-turn.invariant.went (sym c.start.ensures ∙ c.in-Other.is)

pub returns-in_err-read_statement-in-Named-clause-inner :
    goal.returns-in_err-read_statement-in-Named-clause-inner
returns-in_err-read_statement-in-Named-clause-inner c =
    let y = err_from_is_err_and c.from_residual.result c.from_residual.ensures.1 in
    subst (λ r. EndsInner {T = Bool} r c.args.cursor.now c.read_statement.new.cursor) (sym y.1)
    (subst (λ e. EndsInner {T = Bool} (Err e) c.args.cursor.now c.read_statement.new.cursor) (sym y.2)
    (failed_inner c.loop-turn.items.items c.read_statement.new.items.items c.args.cursor.now c.loop-turn.cursor c.read_statement.new.cursor c.in_err-read_statement-in-Named.field-0.0
    c.loop-turn.invariant.walked (sym c.start.ensures ∙ c.in-Named.is) c.in_err-read_statement-in-Named.ensures.added))

pub returns-then-not-branch-clause-open : goal.returns-then-not-branch-clause-open
returns-then-not-branch-clause-open c = λ _.
    last_open c.args.cursor.now c.loop-turn.cursor c.loop-turn.invariant.walked (sym c.start.ensures ∙ c.in-Named.is) (c.in_ok-read_statement-in-Named.ensures.inner c.if-not-branch.true)
