use Rattle.std.proofs.Common.{◌≡◌, drop}
use Rattle.timing_arcs.specs.GroupTexts.{with_all_made}
use Rattle.timing_arcs.proofs.making.Making.add_all.Given as goal

-- what is found so far, with the other pins, is what is found with all
abbrev pub invariant-loop-related : goal.invariant-loop-related
invariant-loop-related l = with_all_made l.self.subject.now l.self.text.now l.found (drop l.related-index l.inputs) ≡ with_all_made l.self.subject.now l.self.text.now l.initial.found l.inputs
