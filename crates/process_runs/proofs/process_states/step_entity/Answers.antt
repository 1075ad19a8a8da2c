use Rattle.std.proofs.Common.{◌<◌, sym, ap, ◌∙◌, length, arith}
use Rattle.std.proofs.lemmas.List.{length-set}
use Rattle.trit_cubes.specs.declared.trits.Trit.TheVariants.{Zero}
use Rattle.cell_machine.proofs.EachLemmas.{each-kept, each-done}
use Rattle.vital_models.specs.Sound.{IsState}
use Rattle.process_runs.specs.EntitySteps.{next_by}
use Rattle.run_parts.proofs.Fronts.{all-at}
use Rattle.process_runs.proofs.process_states.step_entity.Goals as goal

pub loop-i-preserved : goal.loop-i-preserved
loop-i-preserved c =
    let m = c.args.tables.now.model.now in
    let f = next_by m c.args.was c.args.before.now c.args.violation c.args.inputs.now in
    let many : c.loop-i.i < length c.loop-i.states = omega arith in
    record {
      whole =
          each-kept f m.states c.loop-i.states c.loop-i.i Zero c.entry.ensures.is many
          (rw (c.as_slice.ensures, c.ports.ensures) at c.table_next-next.ensures.next) c.set.ensures c.loop-i.invariant.whole;
      len = ap length c.set.ensures ∙ length-set c.loop-i.states c.loop-i.i c.table_next-next.result ∙ c.loop-i.invariant.len;
      earlier = c.table_next-next.ensures.earlier ∙ c.loop-i.invariant.earlier;
      room = c.table_next-next.ensures.room ∙ c.loop-i.invariant.room;
    }

pub returns-clause-stepped : goal.returns-clause-stepped
returns-clause-stepped c =
    let m = c.args.tables.now.model.now in
    sym (each-done (next_by m c.args.was c.args.before.now c.args.violation c.args.inputs.now) m.states c.loop-i.states c.loop-i.i (omega arith))
    ∙ c.loop-i.invariant.whole

pub table_next-next-requires-clause-known : goal.table_next-next-requires-clause-known
table_next-next-requires-clause-known c = c.state_rows.ensures c.entry.result.now c.entry.ensures.is

pub table_next-next-requires-clause-rows : goal.table_next-next-requires-clause-rows
table_next-next-requires-clause-rows c =
    let m = c.args.tables.now.model.now in
    (all-at (IsState m) m.states c.loop-i.i c.entry.result.now c.requires.sound.states c.entry.ensures.is).rows
