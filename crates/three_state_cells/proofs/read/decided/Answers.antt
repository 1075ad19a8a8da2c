use Rattle.std.proofs.Common.{◌≤◌, ◌<◌, sym, arith, map}
use Rattle.cell_reader.specs.ReasonWords.{number_of_reason}
use Rattle.cell_reader.specs.CellTexts.{subject_of}
use Rattle.three_state_cells.proofs.Deciding.{early_refusal_decides, refused_early}
use Rattle.three_state_cells.proofs.read.decided.Goals as goal

pub returns-then-number : goal.returns-then-number
returns-then-number c =
    let small : number_of_reason c.args.refusal.reason ≤ 7 = omega arith in
    sym (early_refusal_decides (subject_of c.args.core.unit c.args.core.group.now) (map (λ group. group.now) c.args.core.pins.now.groups.items) c.args.refusal small)

pub delay_refusal-requires-clause-early : goal.delay_refusal-requires-clause-early
delay_refusal-requires-clause-early c =
    let large : 6 < number_of_reason c.args.refusal.reason = omega arith in
    refused_early (subject_of c.args.core.unit c.args.core.group.now) c.requires.told.0 c.args.core.group.now c.args.refusal c.requires.told.1 large
