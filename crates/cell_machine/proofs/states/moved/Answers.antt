use Rattle.std.proofs.Common.{◌≡◌, ◌∙◌, ap, sym, subst, refl, Bool, List, length, arith}
use Rattle.trit_cubes.specs.declared.trits.Trit.{Trit}
use Rattle.trit_cubes.specs.Resolution.{res}
use Rattle.trit_cubes.specs.Sets.{AreValuesOf}
use Rattle.cell_machine.specs.CellData.{data_of}
use Rattle.cell_machine.specs.StepTables.{IsInputStep}
use Rattle.cell_machine.proofs.StillStates.{step-tabled}
use Rattle.cell_machine.proofs.states.moved.Goals as goal

pub entry-requires-2 : goal.entry-requires-2
entry-requires-2 c =
    let steps = c.requires.tables.are_tables c.args.i c.entry.result.now c.entry.ensures.is in
    omega (arith, steps.one_each, c.requires.pin)

pub change_point-point-requires : goal.change_point-point-requires
change_point-point-requires c =
    let cell = data_of c.args.cell.now in
    let pin = c.args.seen.now.change.pin in
    let steps = c.requires.tables.are_tables c.args.i c.entry.result.now c.entry.ensures.is in
    let is : IsInputStep cell c.args.i pin c.in-Some.table
    = (steps.are_steps pin c.entry-2.result.now c.entry-2.ensures.is).1 c.in-Some.table c.in-Some.is in
    omega (arith, is.few, ap length c.as_slice.ensures)

pub returns-in-Some : goal.returns-in-Some
returns-in-Some c = λ group e.
    let cell = data_of c.args.cell.now in
    let seen = c.args.seen.now in
    let steps = c.requires.tables.are_tables c.args.i c.entry.result.now c.entry.ensures.is in
    let is : IsInputStep cell c.args.i seen.change.pin c.in-Some.table
    = (steps.are_steps seen.change.pin c.entry-2.result.now c.entry-2.ensures.is).1 c.in-Some.table c.in-Some.is in
    let point = c.as_slice-in-Some-2.ensures ∙ rw c.as_slice.ensures at c.change_point-point.ensures in
    step-tabled cell c.args.i group seen.inputs.now seen.from seen.change c.args.state c.in-Some.table c.as_slice-in-Some-2.result.now c.tabled.result e is
    point
    (subst (λ (values : List Trit). (f : List Bool → Trit) → AreValuesOf (length c.as_slice-in-Some-2.result.now) f values → c.tabled.result ≡ res f c.as_slice-in-Some-2.result.now)
    c.as_slice-in-Some.ensures c.tabled.ensures)

pub returns-in-None : goal.returns-in-None
returns-in-None c = λ group e.
    let cell = data_of c.args.cell.now in
    let seen = c.args.seen.now in
    let steps = c.requires.tables.are_tables c.args.i c.entry.result.now c.entry.ensures.is in
    let leaves = (steps.are_steps seen.change.pin c.entry-2.result.now c.entry-2.ensures.is).0 c.in-None.is in
    sym (leaves group e seen.inputs.now seen.from seen.change c.args.state refl)
