use Rattle.std.proofs.Common.{◌<◌, ap, ◌∙◌, length, arith}
use Rattle.std.proofs.lemmas.List.{length-set}
use Rattle.std.proofs.lemmas.Option.{slice_get-get_or}
use Rattle.trit_cubes.specs.declared.trits.Trit.TheVariants.{Unknown}
use Rattle.model_traces.specs.ProcessValues.{truth_value}
use Rattle.run_parts.specs.KeptDelays.{zeros}
use Rattle.run_parts.proofs.KeptDelayLemmas.{zeros-kept}
use Rattle.run_parts.proofs.PlaceLemmas.{step-more, found-anew}
use Rattle.process_runs.proofs.kept_conditions.find_anew.Goals as goal

pub loop-j-preserved : goal.loop-j-preserved
loop-j-preserved c =
    let e = c.args.tables.now.model.now in
    let inside : c.loop-j.j < length c.args.places.now = omega arith in
    record {
      rest =
          step-more (λ x s. truth_value e.ports c.args.inputs.now x) e.conditions c.args.places.now c.loop-j.j c.loop-j.values _ Unknown
          c.value_of-value.result _ (slice_get-get_or c.args.places.now c.loop-j.j _ inside) c.entry-truth.ensures.is
          c.value_of-value.ensures.value c.set.ensures
          ∙ c.loop-j.invariant.rest;
      still = λ e.
          let same = c.is_gate_changed-changed.ensures e in
          ap zeros c.set.ensures ∙ zeros-kept c.loop-j.values _ _ c.value_of-value.result (rw c.as_slice.ensures at same.1)
          ∙ c.loop-j.invariant.still same.0;
      len = ap length c.set.ensures ∙ length-set c.loop-j.values _ c.value_of-value.result ∙ c.loop-j.invariant.len;
      room = c.value_of-value.ensures.len ∙ c.loop-j.invariant.room;
    }

pub returns-clause-anew : goal.returns-clause-anew
returns-clause-anew c =
    let e = c.args.tables.now.model.now in
    found-anew (truth_value e.ports c.args.inputs.now) Unknown e.conditions c.args.places.now c.loop-j.j c.args.values.now c.loop-j.values
    (omega arith) c.loop-j.invariant.rest

pub entry-truth-requires : goal.entry-truth-requires
entry-truth-requires c =
    let inside : c.loop-j.j < length c.args.places.now = omega arith in
    c.requires.inside c.loop-j.j _ inside
