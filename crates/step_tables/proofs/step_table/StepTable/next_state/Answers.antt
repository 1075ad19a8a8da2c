use Rattle.std.proofs.Common.{◌≡◌, ◌+◌, ◌*◌, ◌/◌, List, length, ap, ◌∙◌}
use Rattle.std.proofs.lemmas.Option.{slice_get-get_or}
use Rattle.trit_cubes.specs.Filling.{bit}
use Rattle.statetables.specs.declared.lanes.StepWords.{StepWords}
use Rattle.cell_machine.specs.CellData.{data_of}
use Rattle.cell_machine.specs.Step.{trit_or_unknown}
use Rattle.step_tables.proofs.KeptLemmas.{word_told, word_there}
use Rattle.step_tables.proofs.step_table.StepTable.next_state.Goals as goal

pub returns : goal.returns
returns c =
    let self = c.args.self.now in
    let words : List StepWords = c.args.words.now in
    let after = c.args.after in
    let place = c.args.place in
    let n = 18 * (after / 64) + 2 * place + c.state_number.result in
    let is : n ≡ 18 * (after / 64) + 2 * place + bit c.args.state
    = ap (λ b. 18 * (after / 64) + 2 * place + b) c.state_number.ensures in
    let inside = word_there self.places (length words) place after n c.args.state c.requires.words.all c.requires.place c.requires.after is in
    c.trit_or_unknown.ensures ∙ ap trit_or_unknown c.at.ensures
    ∙ word_told (data_of self.cell.now) self.group self.places words place after c.args.state _ n c.requires.words c.requires.place is
    (slice_get-get_or words n _ inside)
