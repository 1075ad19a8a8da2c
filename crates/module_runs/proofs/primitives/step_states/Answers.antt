use Rattle.std.proofs.Common.{◌<◌, ap, ◌∙◌, length, arith}
use Rattle.std.proofs.lemmas.List.{length-set}
use Rattle.std.proofs.lemmas.Option.{slice_get-get_or}
use Rattle.trit_cubes.specs.declared.trits.Trit.TheVariants.{Zero}
use Rattle.model_traces.specs.Primitives.{next_state}
use Rattle.run_parts.proofs.PlaceLemmas.{step-more}
use Rattle.module_runs.proofs.FedLemmas.{step-done, place-inside, still-at}
use Rattle.module_runs.proofs.primitives.step_states.Goals as goal

pub instance_at-instance-requires : goal.instance_at-instance-requires
instance_at-instance-requires c =
    let m = c.args.tables.now.model.now in
    let inside : c.loop-j.j < length c.fed_by-places.result.now = omega arith in
    place-inside m c.args.turn.what c.fed_by-places.result.now c.loop-j.j _ c.fed_by-places.ensures inside

pub loop-j-preserved : goal.loop-j-preserved
loop-j-preserved c =
    let m = c.args.tables.now.model.now in
    let f = next_state m c.args.inputs.now c.args.notifier c.args.turn in
    let inside : c.loop-j.j < length c.fed_by-places.result.now = omega arith in
    record {
      rest =
          step-more f m.instances c.fed_by-places.result.now c.loop-j.j c.loop-j.states _ Zero c.next_state-next.result _
          (slice_get-get_or c.fed_by-places.result.now c.loop-j.j _ inside) c.instance_at-instance.ensures.is (rw c.as_slice.ensures at c.next_state-next.ensures.next) c.set.ensures
          ∙ c.loop-j.invariant.rest;
      len = ap length c.set.ensures ∙ length-set c.loop-j.states _ c.next_state-next.result ∙ c.loop-j.invariant.len;
      room = c.next_state-next.ensures.len ∙ c.loop-j.invariant.room;
      still = λ no.
          let parts = (rw c.as_slice.ensures at c.is_changed-changed.ensures) no in
          still-at c.loop-j.states _ _ c.next_state-next.result c.set.ensures parts.1 ∙ c.loop-j.invariant.still parts.0;
    }

pub returns-clause-stepped : goal.returns-clause-stepped
returns-clause-stepped c =
    let m = c.args.tables.now.model.now in
    step-done m c.args.inputs.now c.args.notifier c.args.turn c.fed_by-places.result.now c.loop-j.j c.loop-j.states c.args.states.now
    c.fed_by-places.ensures (omega arith) c.requires.one_each c.loop-j.invariant.rest
