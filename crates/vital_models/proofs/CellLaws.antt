-- The laws of the tables of a cell.
use Rattle.std.proofs.Common.{◌<◌, suc, ◌∷◌, length, ◌∙◌, ap, subst}
use Rattle.trit_cubes.specs.declared.trits.Trit.TheVariants.{Unknown}
use Rattle.bool_functions.specs.Support.{support_of}
use Rattle.cell_machine.specs.Outputs.{output_at, condition_at}
use Rattle.cell_machine.specs.CellTrace.{support_at, step_at}
use Rattle.vital_tables.specs.LookUps.{lookup_state}
use Rattle.vital_tables.specs.Rows.{compact_rows}
use Rattle.vital_models.specs.Generated.{has_violation}
use Rattle.vital_models.specs.Laws.{StatesAreMachines, OutputsResolve, ConditionsResolve}
use Rattle.vital_models.proofs.TruthRows.{truth_rows-resolve}
use Rattle.vital_models.proofs.RowLawLemmas.{compact_rows_are_machine-lem}

pub states_are_machines-lem : StatesAreMachines
states_are_machines-lem cell g =
    let n = length (support_at cell g) in
    let step = step_at cell g in
    record {
      steps = λ p old inputs x s long l apart.
          compact_rows_are_machine-lem.steps (has_violation cell) n step p old inputs x s long (subst (λ m. p < m) long l) apart;
      keeps = λ inputs x s long. compact_rows_are_machine-lem.keeps (has_violation cell) n step inputs x s long;
      forces = λ before inputs s some long wide.
          ap (λ checks. lookup_state (compact_rows checks n step) before (Unknown ∷ inputs) s) some
          ∙ compact_rows_are_machine-lem.forces n step before inputs s long (wide ∙ ap suc long);
    }

pub outputs_resolve-lem : OutputsResolve
outputs_resolve-lem cell output inputs long =
    truth_rows-resolve (length output.support) (output_at (length cell.pins) cell.groups output) inputs long

pub conditions_resolve-lem : ConditionsResolve
conditions_resolve-lem f inputs long = truth_rows-resolve (length (support_of f)) (condition_at (support_of f) f) inputs long
