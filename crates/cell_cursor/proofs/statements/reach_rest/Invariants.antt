use Rattle.grammar_rules.proofs.Places.{Suffix}
use Rattle.cell_cursor.specs.Reached.{ReadsOn}
use Rattle.cell_cursor.proofs.statements.reach_rest.Given as goal

abbrev pub invariant-loop-turn : goal.invariant-loop-turn
invariant-loop-turn l = record {
  went : ReadsOn l.initial.items.items l.initial.cursor l.items.items l.cursor;
  ends : Suffix l.initial.cursor l.cursor;
}
