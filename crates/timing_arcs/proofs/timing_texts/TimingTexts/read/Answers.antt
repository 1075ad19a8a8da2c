use Rattle.std.proofs.Common.{sym, ap, ◌∙◌}
use Rattle.timing_arcs.specs.GroupTexts.{texts_from}
use Rattle.timing_arcs.proofs.TextLemmas.{texts_of_pin}
use Rattle.timing_arcs.proofs.timing_texts.TimingTexts.read.Goals as goal

pub returns-clause-texts : goal.returns-clause-texts
returns-clause-texts c = record {
  of_groups =
      c.in_ok-groups.ensures
      ∙ ap (texts_from c.args.subject.now 0) c.as_slice.ensures
      ∙ sym (texts_of_pin c.args.subject.now c.args.pin.now);
  of_limits = c.of_group.ensures;
}
