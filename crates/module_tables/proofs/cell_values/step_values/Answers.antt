use Rattle.std.proofs.Common.{◌≡◌, List, ◌∷◌, slice_index_or, ◌∙◌}
use Rattle.trit_cubes.specs.declared.trits.Trit.{Trit}
use Rattle.trit_cubes.specs.declared.trits.Trit.TheVariants as trit
use Rattle.trit_cubes.specs.Resolution.{agreed}
use Rattle.cell_machine.specs.Machine.{edge_value, without}
use Rattle.cell_machine.specs.CellData.{data_of}
use Rattle.cell_machine.specs.CellTrace.{step_at}
use Rattle.module_tables.specs.Tables.{cell_step}
use Rattle.module_tables.proofs.StepStates.{res-unknown}
use Rattle.module_tables.proofs.cell_values.step_values.Goals as goal

pub returns : goal.returns
returns c =
    let d = data_of c.args.cell.now in
    let change = c.args.change in
    let values : List Trit = change.values.now in
    let unknown : c.agreed.result ≡ cell_step d c.args.group change.place change.old values trit.Unknown
    = c.agreed.ensures
    ∙ (λ i. agreed (c.step_value-zero.ensures i) (c.step_value-one.ensures i))
    ∙ res-unknown (edge_value (step_at d c.args.group) change.place)
    (change.old ∷ slice_index_or values change.place trit.Unknown ∷ without change.place values) in
    λ i. record { zero = c.step_value-zero.ensures i; one = c.step_value-one.ensures i; unknown = unknown i }
