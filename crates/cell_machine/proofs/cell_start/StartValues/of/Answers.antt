use Rattle.std.proofs.Common.{ℕ, ◌∙◌, ap, replicate, false, None}
use Rattle.trit_cubes.specs.declared.trits.Trit.TheVariants.{Unknown}
use Rattle.cell_machine.specs.declared.kept_arcs.KeptArcs.{KeptArcs}
use Rattle.cell_machine.specs.Times.{no_times}
use Rattle.cell_machine.proofs.cell_start.StartValues.of.Goals as goal

pub returns-clause-inputs : goal.returns-clause-inputs
returns-clause-inputs c =
    let count = rw (c.as_slice.ensures, c.len.ensures) at c.input_number-count.ensures in
    c.in_ok-inputs.ensures ∙ ap (λ n. replicate n Unknown) count

pub returns-clause-times : goal.returns-clause-times
returns-clause-times c =
    let count = rw (c.as_slice.ensures, c.len.ensures) at c.input_number-count.ensures in
    c.in_ok-times.ensures ∙ ap (replicate c.input_number-count.result) c.none.ensures
    ∙ ap (λ n. replicate n no_times) count

pub returns-clause-states : goal.returns-clause-states
returns-clause-states c = c.in_ok-states.ensures ∙ ap (λ n. replicate n Unknown) c.len-2.ensures

pub returns-clause-reports : goal.returns-clause-reports
returns-clause-reports c = c.in_ok-reports.ensures ∙ ap (λ n. replicate n false) c.len-3.ensures

pub returns-clause-kept : goal.returns-clause-kept
returns-clause-kept c =
    let nothing : ℕ → KeptArcs = λ n. record { conditions = replicate n None; delays = replicate n None } in
    c.in_ok-kept.ensures ∙ ap nothing c.len-4.ensures
