use Rattle.std.proofs.Common.{◌≡◌, ◌++◌, drop}
use Rattle.timing_arcs.specs.GroupTexts.{texts_from}
use Rattle.timing_arcs.proofs.timing_texts.group_texts.Given as goal

-- the texts so far, with those of the groups among the other items, are all
abbrev pub invariant-loop-place : goal.invariant-loop-place
invariant-loop-place l = l.texts ++ texts_from l.subject l.place (drop l.place l.items) ≡ texts_from l.subject 0 l.items
