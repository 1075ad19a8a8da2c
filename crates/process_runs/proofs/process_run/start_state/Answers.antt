use Rattle.std.proofs.Common.{◌∙◌, ap, replicate}
use Rattle.trit_cubes.specs.declared.trits.Trit.TheVariants.{Unknown}
use Rattle.cell_machine.specs.Times.{no_times}
use Rattle.process_runs.proofs.process_run.start_state.Goals as goal

pub returns-clause-run : goal.returns-clause-run
returns-clause-run c =
    let count = rw c.as_slice.ensures at c.input_count-count.ensures in
    let inputs = c.in_ok-inputs.ensures ∙ ap (λ n. replicate n Unknown) count in
    let before = c.in_ok-before.ensures ∙ ap (λ n. replicate n Unknown) count in
    let states = c.in_ok-states.ensures ∙ ap (λ n. replicate n Unknown) c.len.ensures in
    let stamps = c.in_ok-stamps.ensures ∙ ap (λ n. replicate n no_times) c.len-2.ensures in
    λ j. record { inputs = inputs j; before = before j; states = states j; violation = Unknown; stamps = stamps j }
