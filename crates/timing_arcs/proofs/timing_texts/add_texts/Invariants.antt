use Rattle.std.proofs.Common.{◌≡◌, drop}
use Rattle.timing_arcs.specs.GroupTexts.{with_texts}
use Rattle.timing_arcs.proofs.timing_texts.add_texts.Given as goal

-- what is found so far, with the other texts, is what is found with all
abbrev pub invariant-loop-text : goal.invariant-loop-text
invariant-loop-text l = with_texts l.subject l.found (drop l.text-index l.texts) ≡ with_texts l.subject l.initial.found l.texts
