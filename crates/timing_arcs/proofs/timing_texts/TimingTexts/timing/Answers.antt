use Rattle.std.proofs.Common.{◌∙◌, ap}
use Rattle.timing_arcs.specs.GroupTexts.{with_texts}
use Rattle.timing_arcs.proofs.TextLemmas.{text_answers}
use Rattle.timing_arcs.proofs.timing_texts.TimingTexts.timing.Goals as goal

pub returns : goal.returns
returns c =
    text_answers c.args.room c.args.subject.now c.args.self.now _ _ _ _ c.requires c.new-found.ensures
    (c.in_ok-add_texts.ensures ∙ ap (with_texts c.args.subject.now _) c.as_slice.ensures) c.in_ok-add.ensures c.finish.ensures
