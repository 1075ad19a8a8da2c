use Rattle.std.proofs.Common.{◌≤◌, ◌<◌, arith}
use Rattle.bank_cells.specs.Gathered.{gathered_cell}
use Rattle.cell_reader.specs.ReasonWords.{number_of_reason}
use Rattle.cell_reader.specs.CellTexts.{subject_of}
use Rattle.three_state_cells.proofs.Deciding.{refused_early}
use Rattle.three_state_cells.proofs.ReadLemmas.{early_stays, told_alone, wrong_made}
use Rattle.three_state_cells.proofs.expanded.with_lost_timing.Goals as goal

pub returns-then-not-has_apart : goal.returns-then-not-has_apart
returns-then-not-has_apart c =
    told_alone (subject_of c.args.source.unit c.args.core.now) (gathered_cell c.args.source.types.now c.args.source.cell.now) c.args.refusal
    (c.requires.apart c.if-not-has_apart.true)

pub returns-then-number : goal.returns-then-number
returns-then-number c =
    let small : number_of_reason c.args.refusal.reason ≤ 6 = omega arith in
    early_stays (subject_of c.args.source.unit c.args.core.now) (gathered_cell c.args.source.types.now c.args.source.cell.now) c.args.refusal small

pub subject_of-requires : goal.subject_of-requires
subject_of-requires c =
    let large : 6 < number_of_reason c.args.refusal.reason = omega arith in
    refused_early (subject_of c.args.source.unit c.args.core.now) c.requires.told.0 c.args.core.now c.args.refusal c.requires.told.1 large

pub returns : goal.returns
returns c =
    wrong_made c.args.source.types.now c.args.source.cell.now c.args.source.unit c.args.core.now c.requires.core _ _ c.args.refusal _ _ c.in_ok-subject_of.ensures
    c.in_ok-gather.ensures c.first_with-lost.ensures c.first_with.ensures
