use Rattle.std.proofs.Common.{ℕ, List, length, subst, ap, ◌∙◌, ◌*◌}
use Rattle.statetables.specs.declared.table.StateTable.{StateTable}
use Rattle.cell_machine.specs.CellData.{data_of}
use Rattle.step_tables.specs.NodeSteps.{blocks, TellChange}
use Rattle.step_tables.proofs.ClockLemmas.{moves_clocked, moves_gated}
use Rattle.step_tables.proofs.KeptLemmas.{points_kept, words_tell, words_kept, nothing_kept}
use Rattle.step_tables.proofs.step_table.kept_of.Goals as goal

pub group_points-requires-clause-moves : goal.group_points-requires-clause-moves
group_points-requires-clause-moves c =
    moves_clocked (data_of c.args.cell.now) c.args.group c.group-entry.result.now c.in-Ff.field-0 c.group-entry.ensures.is c.in-Ff.is

pub group_points-requires-in-Latch-clause-moves : goal.group_points-requires-in-Latch-clause-moves
group_points-requires-in-Latch-clause-moves c =
    moves_gated (data_of c.args.cell.now) c.args.group c.group-entry.result.now c.in-Latch.field-0 c.group-entry.ensures.is c.in-Latch.is

pub returns-in-Ff : goal.returns-in-Ff
returns-in-Ff c = points_kept (data_of c.args.cell.now) c.args.group c.args.places c.group_points.result c.group_points.ensures

pub returns-in-Latch : goal.returns-in-Latch
returns-in-Latch c =
    points_kept (data_of c.args.cell.now) c.args.group c.args.places c.group_points-in-Latch.result c.group_points-in-Latch.ensures

pub returns-in-Table : goal.returns-in-Table
returns-in-Table c = nothing_kept (data_of c.args.cell.now) c.args.group c.args.places

pub returns-in-Table-2 : goal.returns-in-Table-2
returns-in-Table-2 c =
    let cell = data_of c.args.cell.now in
    let group = c.group-entry.result.now in
    let table = c.in-Table-2.table in
    let node = c.in-Table-2.node in
    let inputs = c.in-Table-2.inputs in
    words_kept cell c.args.group c.args.places c.change_words.result
    (words_tell cell c.args.group group table node inputs c.args.places c.change_words.result c.group-entry.ensures.is c.in-Table-2.is
    c.requires.places (c.change_words.ensures.all ∙ ap (λ (xs : List ℕ). 18 * blocks (length xs)) c.as_slice-in-Table-2.ensures)
    (λ j w at.
    subst (λ (xs : List ℕ). TellChange table node xs group.support j w) c.as_slice.ensures
    (subst (λ (xs : List ℕ). TellChange table node c.as_slice.result.now xs j w) c.as_slice-in-Table-2.ensures
    (subst (λ (t : StateTable). TellChange t node c.as_slice.result.now c.as_slice-in-Table-2.result.now j w) c.get.ensures
    (c.change_words.ensures.each j w at)))))
