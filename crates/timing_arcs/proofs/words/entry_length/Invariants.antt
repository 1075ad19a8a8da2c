use Rattle.std.proofs.Common.{◌≡◌, ◌+◌, drop}
use Rattle.timing_arcs.specs.Tables.{is_separator}
use Rattle.timing_arcs.specs.Words.{word_length}
use Rattle.timing_arcs.proofs.words.entry_length.Given as goal

abbrev pub invariant-loop-at : goal.invariant-loop-at
invariant-loop-at l = l.at + word_length is_separator (drop l.at l.text) ≡ word_length is_separator l.text
