use Rattle.std.proofs.Common.{◌≡◌, ◌∙◌, Err, List, [], length, sym, ap, subst}
use Rattle.std.proofs.lemmas.Result.{err_from_is_err_and}
use Rattle.grammar_rules.specs.Reading.{Outcome}
use Rattle.liberty_groups.specs.declared.fault.Refusal.{Refusal}
use Rattle.liberty_groups.specs.declared.tree.Item.{Item}
use Rattle.liberty_groups.specs.Lexeme.{Lexeme}
use Rattle.liberty_groups.specs.Grammar as spec
use Rattle.liberty_groups.proofs.Statements.{failed_reads, statement_turns}
use Rattle.liberty_groups.proofs.cursor.Cursor.+nest.Goals as goal

pub some_statements-returns-in_err-statement-in-Named :
    goal.some_statements-returns-in_err-statement-in-Named
some_statements-returns-in_err-statement-in-Named t c =
    let name = c.in_ok-name-in-Named in
    let y = err_from_is_err_and c.from_residual-in_err-statement-in-Named.result c.from_residual-in_err-statement-in-Named.ensures.1 in
    let e : c.statement.result ≡ Err y.0 = c.in_err-statement-in-Named.was ∙ sym (ap Err y.2) in
    let turns : List Item → Outcome Lexeme Refusal (List Item) = λ found. statement_turns (spec.statement c.args.levels) (length c.args.self.now) found c.args.self.now in
    subst (λ r. spec.Reads (turns []) r c.statement.new.self) (sym y.1)
    (failed_reads (spec.statement c.args.levels) c.left-turn-end.result c.loop-turn._turn c.loop-turn.items c.loop-turn.self (turns [])
    c.loop-turn-test.true (sym c.in-Named.ensures) (c.loop-turn.invariant ∙ ap turns c.in_ok-items.ensures) (name.name, name.at) c.name.new.self name.ensures.name name.ensures.left
    c.statement.result c.statement.new.self c.statement.ensures y.0 e)
