use Rattle.std.proofs.Common.{◌<◌, ap, ◌∙◌, length, arith}
use Rattle.std.proofs.lemmas.List.{length-set}
use Rattle.std.proofs.lemmas.Option.{slice_get-get_or}
use Rattle.trit_cubes.specs.declared.trits.Trit.TheVariants.{Unknown}
use Rattle.module_runs.specs.Gates.{gate_zeros}
use Rattle.module_runs.specs.KeptValues.{kept_value}
use Rattle.run_parts.proofs.PlaceLemmas.{step-more}
use Rattle.run_parts.proofs.PlaceLemmas.{found-anew}
use Rattle.module_runs.proofs.GateLemmas.{gate-zeros-kept}
use Rattle.module_runs.proofs.kept_values.find_anew.Goals as goal

pub instance_at-instance-requires : goal.instance_at-instance-requires
instance_at-instance-requires c =
    let inside : c.loop-j.j < length c.args.places.now = omega arith in
    c.requires.inside c.loop-j.j _ inside

pub loop-j-preserved : goal.loop-j-preserved
loop-j-preserved c =
    let v = c.args.values.now in
    let m = v.tables.model.now in
    let inside : c.loop-j.j < length c.args.places.now = omega arith in
    record {
      rest =
          step-more (λ x s. kept_value m v.inputs.now v.states.now x) m.instances c.args.places.now c.loop-j.j c.loop-j.kept _ Unknown
          c.instance_value-value.result _ (slice_get-get_or c.args.places.now c.loop-j.j _ inside) c.instance_at-instance.ensures.is
          c.instance_value-value.ensures.value c.set.ensures
          ∙ c.loop-j.invariant.rest;
      still = λ e.
          let gates = v.tables.index.now.gates.places in
          let same = c.is_gate_changed_at-changed.ensures e in
          ap (gate_zeros gates) c.set.ensures
          ∙ gate-zeros-kept gates c.loop-j.kept _ _ c.instance_value-value.result
          (rw c.as_slice.ensures at same.1)
          ∙ c.loop-j.invariant.still same.0;
      len = ap length c.set.ensures ∙ length-set c.loop-j.kept _ c.instance_value-value.result ∙ c.loop-j.invariant.len;
      room = c.instance_value-value.ensures.len ∙ c.loop-j.invariant.room;
    }

pub returns-clause-anew : goal.returns-clause-anew
returns-clause-anew c =
    let v = c.args.values.now in
    found-anew (kept_value v.tables.model.now v.inputs.now v.states.now) Unknown v.tables.model.now.instances c.args.places.now c.loop-j.j
    c.args.kept.now c.loop-j.kept (omega arith) c.loop-j.invariant.rest
