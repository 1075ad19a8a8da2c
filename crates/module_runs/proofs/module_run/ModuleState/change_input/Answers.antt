use Rattle.std.proofs.Common.{List, IsTrue, ap, sym, subst, ◌∙◌, length}
use Rattle.trit_cubes.specs.declared.trits.Trit.{Trit}
use Rattle.model_traces.specs.declared.turns.Turned.TheVariants as turned
use Rattle.model_traces.specs.declared.module_run.ModuleRun.{ModuleRun}
use Rattle.model_traces.specs.ModuleRun.{HasEach}
use Rattle.model_traces.specs.Primitives.{next_states}
use Rattle.module_runs.specs.Gates.{gate_zeros}
use Rattle.module_runs.specs.Wiring.{is_wired}
use Rattle.module_runs.specs.KeptValues.{kept_values}
use Rattle.module_runs.proofs.KeptLemmas.{one-kept}
use Rattle.module_runs.proofs.module_run.ModuleState.change_input.Goals as goal

pub turn_states-changed-requires-clause-one_each : goal.turn_states-changed-requires-clause-one_each
turn_states-changed-requires-clause-one_each c =
    let set = c.set_input-by_input.ensures.changed in
    record {
      states = ap (λ (r : ModuleRun). length r.states) set ∙ c.requires.current.one_each.states;
      stamps = ap (λ (r : ModuleRun). length r.stamps) set ∙ c.requires.current.one_each.stamps;
    }

pub find_fed_where_changed-by_states-requires-clause-one_each : goal.find_fed_where_changed-by_states-requires-clause-one_each
find_fed_where_changed-by_states-requires-clause-one_each c =
    ap length c.turn_states-changed.ensures.kept
    ∙ one-kept c.args.tables.now.model.now _ _ c.set_input-by_input.new.self.kept c.set_input-by_input.ensures.current

pub find_fed_where_changed-by_states-requires-clause-still : goal.find_fed_where_changed-by_states-requires-clause-still
find_fed_where_changed-by_states-requires-clause-still c = λ no.
    let set = c.set_input-by_input.ensures in
    let turned = c.turn_states-changed.ensures in
    let inputs = ap (λ (r : ModuleRun). r.inputs) turned.stepped ∙ ap (λ (r : ModuleRun). r.inputs) set.changed in
    let states = turned.still no ∙ ap (λ (r : ModuleRun). r.states) set.changed in
    turned.kept ∙ set.current ∙ (λ i. kept_values c.args.tables.now.model.now (sym inputs i) (sym states i))

pub returns-clause-current : goal.returns-clause-current
returns-clause-current c =
    let m = c.args.tables.now.model.now in
    let set = c.set_input-by_input.ensures in
    let turned = c.turn_states-changed.ensures in
    let found = c.find_fed_where_changed-by_states.ensures in
    let states = c.args.self.now.run.states in
    let inputs = ap (λ (r : ModuleRun). r.inputs) turned.stepped ∙ ap (λ (r : ModuleRun). r.inputs) set.changed in
    record {
      wired = subst (λ n. IsTrue (is_wired n m)) (sym (found.len ∙ turned.len ∙ set.len)) c.requires.current.wired;
      kept_are =
          found.current states (turned.kept ∙ set.current ∙ ap (λ (v : List Trit). kept_values m v states) (sym inputs))
          ∙ ap (λ (r : ModuleRun). kept_values m r.inputs r.states) (sym found.run);
      one_each = subst (HasEach m) (sym found.run) turned.one_each;
    }

pub returns-clause-stepped : goal.returns-clause-stepped
returns-clause-stepped c =
    let m = c.args.tables.now.model.now in
    let set = c.set_input-by_input.ensures.changed in
    c.find_fed_where_changed-by_states.ensures.run
    ∙ c.turn_states-changed.ensures.stepped
    ∙ (λ i. record {
      inputs = (set i).inputs;
      states =
          next_states m (set i).inputs (set i).notifier (record { what = turned.Input c.args.change.pin; from = c.requires.from i })
          (set i).states;
      notifier = (set i).notifier;
      stamps = (set i).stamps;
    })

pub returns-clause-still : goal.returns-clause-still
returns-clause-still c = λ e.
    let both = c.either.ensures e in
    c.find_fed_where_changed-by_states.ensures.still both.1
    ∙ ap (gate_zeros c.args.tables.now.index.now.gates.places) c.turn_states-changed.ensures.kept
    ∙ c.set_input-by_input.ensures.still both.0
