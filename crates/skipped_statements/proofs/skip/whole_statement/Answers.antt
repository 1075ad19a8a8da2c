use Rattle.std.proofs.Common.{Err, subst}
use Rattle.grammar_rules.specs.Reading.{read}
use Rattle.liberty_groups.specs.Grammar.{Reads}
use Rattle.skipped_statements.specs.Skipping.{skipped_statement}
use Rattle.skipped_statements.proofs.Skipped.{refused}
use Rattle.skipped_statements.proofs.skip.whole_statement.Goals as goal

pub returns-in-Err : goal.returns-in-Err
returns-in-Err c =
    refused c.args.levels c.args.name c.args.at c.args.cursor.now c.in-Err.stop c.skip_statement.new.cursor
    (subst (λ s. Reads {A = Unit {0}} (read (skipped_statement c.args.levels) s) (Err c.in-Err.stop) c.skip_statement.new.cursor) c.in_ok-ahead.ensures c.in-Err.ensures)
