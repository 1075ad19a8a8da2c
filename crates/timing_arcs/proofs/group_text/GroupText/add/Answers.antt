use Rattle.std.proofs.Common.{sym, ◌∙◌}
use Rattle.timing_arcs.proofs.FullLemmas.{full_text}
use Rattle.timing_arcs.proofs.group_text.GroupText.add.Goals as goal

pub returns-then-is_full : goal.returns-then-is_full
returns-then-is_full c =
    full_text c.args.subject.now c.args.self.now c.args.found.now c.note.new.found c.in_ok-note.ensures (sym c.is_full.ensures ∙ c.if-is_full.true)
