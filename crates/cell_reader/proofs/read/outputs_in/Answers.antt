use Rattle.std.proofs.Common.{◌∙◌, map, ap}
use Rattle.std.proofs.lemmas.Result.{IfOk-weaker as lift_ok}
use Rattle.cell_attributes.specs.Shown.{shown_vocabulary}
use Rattle.cell_reader.specs.Parts.{subject_in}
use Rattle.cell_reader.proofs.Reading.{accepted_few_pins, accepted_few_groups, outputs_are}
use Rattle.cell_reader.proofs.read.outputs_in.Goals as goal

pub reader-requires-clause-pins : goal.reader-requires-clause-pins
reader-requires-clause-pins c = accepted_few_pins (subject_in c.args.parts.now) c.args.parts.now.cell.now c.requires.unmet

pub reader-requires-clause-groups : goal.reader-requires-clause-groups
reader-requires-clause-groups c = accepted_few_groups (subject_in c.args.parts.now) c.args.parts.now.cell.now c.requires.unmet

pub returns : goal.returns
returns c =
    let reader = c.reader.result in
    lift_ok c.all.result _ _
    (λ outputs is. is ∙ outputs_are c.args.parts.now.cell.now (shown_vocabulary reader.vocabulary.now) reader.pins reader.groups.now reader.to.now
    (map (λ group. group.now) c.deref.result.now) c.reader.ensures.vocabulary c.reader.ensures.pins c.reader.ensures.groups c.reader.ensures.numbers
    (ap (map (λ group. group.now)) c.deref.ensures.value ∙ c.requires.parts.of_owners))
    c.all.ensures
