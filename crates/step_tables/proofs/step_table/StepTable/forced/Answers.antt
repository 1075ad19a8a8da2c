use Rattle.std.proofs.Common.{◌≡◌, ℕ, ◌+◌, ◌-◌, Bool, List, ap, ◌∙◌, arith}
use Rattle.trit_cubes.specs.declared.trits.Trit.{Trit}
use Rattle.trit_cubes.specs.Resolution.{agreed}
use Rattle.trit_cubes.specs.Sets.{point_of}
use Rattle.trit_cubes.proofs.PointLemmas.{length-point_of}
use Rattle.cell_machine.specs.CellData.{data_of}
use Rattle.cell_machine.specs.CellTrace.{step_at}
use Rattle.step_tables.specs.declared.step_table.StepTable.{StepTable}
use Rattle.step_tables.specs.Turned.{both_steps}
use Rattle.step_tables.proofs.PointLemmas.{from_place, from_end, from_before}
use Rattle.step_tables.proofs.step_table.StepTable.forced.Goals as goal

-- what the group gives from both states at a change to the point with this number
abbrev given : StepTable → ℕ → List Bool → Trit
given table number = both_steps (step_at (data_of table.cell.now) table.group) (point_of table.places number)

pub loop-behind-init : goal.loop-behind-init
loop-behind-init c =
    let table = c.args.self.now in
    c.from_both-value.ensures
    ∙ from_end (given table c.args.number) (point_of table.places c.args.number) table.places (table.places - 0)
    (length-point_of table.places c.args.number) (omega arith)

pub loop-behind-preserved : goal.loop-behind-preserved
loop-behind-preserved c =
    let table = c.args.self.now in
    let point = point_of table.places c.args.number in
    let p = table.places - 1 - c.loop-behind.behind in
    let long = length-point_of table.places c.args.number in
    let next : p ≡ table.places - (c.loop-behind.behind + 1) = omega (arith, c.loop-behind-test.true) in
    c.agreed-value.ensures
    ∙ (λ i. agreed (c.loop-behind.invariant i) (c.from_both.ensures i))
    ∙ from_before (given table c.args.number) point p (table.places - c.loop-behind.behind)
    (omega (arith, long, c.loop-behind-test.true)) (omega (arith, c.loop-behind-test.true))
    ∙ ap (from_place (given table c.args.number) point) next

pub returns : goal.returns
returns c =
    let table = c.args.self.now in
    let none : table.places - c.loop-behind.behind ≡ 0 = omega (arith, c.loop-behind-test.false, c.loop-behind.auto.behind-end) in
    c.loop-behind.invariant ∙ ap (from_place (given table c.args.number) (point_of table.places c.args.number)) none
