use Rattle.std.proofs.Common.{map, subst, sym, ◌<◌}
use Rattle.statetables.specs.Lanes.{lane}
use Rattle.cell_machine.specs.Values.{no_values}
use Rattle.cell_machine.proofs.GroupSteps.{length-no_values}
use Rattle.step_tables.proofs.WordLemmas.{no_name, nothing_written}
use Rattle.step_tables.proofs.input_words.name_word.Goals as goal

pub returns-then-name-ge-MOST_NAMES : goal.returns-then-name-ge-MOST_NAMES
returns-then-name-ge-MOST_NAMES c = λ k.
    no_name k c.args.name c.args.support.now (map (lane k) c.args.words.now) c.if-name-ge-MOST_NAMES.true

pub returns : goal.returns
returns c = λ k.
    c.last_word.ensures k no_values (subst (λ n. c.args.name < n) (sym length-no_values) c.if-name-ge-MOST_NAMES.false)
    (nothing_written k c.args.name c.if-name-ge-MOST_NAMES.false)
