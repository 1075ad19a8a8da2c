use Rattle.std.proofs.Common.{List, IsTrue, ap, sym, subst, ◌∙◌, length}
use Rattle.trit_cubes.specs.declared.trits.Trit.{Trit}
use Rattle.model_traces.specs.declared.module_run.ModuleRun.{ModuleRun}
use Rattle.model_traces.specs.ModuleRun.{HasEach}
use Rattle.module_runs.specs.Gates.{gate_zeros}
use Rattle.module_runs.specs.Wiring.{is_wired}
use Rattle.module_runs.specs.KeptValues.{kept_values}
use Rattle.module_runs.proofs.KeptLemmas.{one-kept}
use Rattle.module_runs.proofs.module_run.ModuleState.toggle_where_reported.Goals as goal

pub find_fed_where_changed-requires-clause-wired : goal.find_fed_where_changed-requires-clause-wired
find_fed_where_changed-requires-clause-wired c =
    subst (λ n. IsTrue (is_wired n c.args.tables.now.model.now)) (sym c.toggle_notifier-changed.ensures.len) c.requires.wired

pub find_fed_where_changed-requires-clause-one_each : goal.find_fed_where_changed-requires-clause-one_each
find_fed_where_changed-requires-clause-one_each c =
    let state = c.args.self.now in
    ap length c.toggle_notifier-changed.ensures.kept
    ∙ one-kept c.args.tables.now.model.now state.run.inputs state.run.states state.kept c.requires.kept_are

pub find_fed_where_changed-requires-clause-still : goal.find_fed_where_changed-requires-clause-still
find_fed_where_changed-requires-clause-still c = λ no.
    let toggled = c.toggle_notifier-changed.ensures in
    toggled.kept ∙ c.requires.kept_are
    ∙ (λ i. kept_values c.args.tables.now.model.now (sym toggled.inputs i) (sym (toggled.still no) i))

pub returns-clause-current : goal.returns-clause-current
returns-clause-current c =
    let m = c.args.tables.now.model.now in
    let states = c.args.self.now.run.states in
    let toggled = c.toggle_notifier-changed.ensures in
    let found = c.find_fed_where_changed.ensures in
    record {
      wired = subst (λ n. IsTrue (is_wired n m)) (sym (found.len ∙ toggled.len)) c.requires.wired;
      kept_are =
          found.current states
          (toggled.kept ∙ c.requires.kept_are ∙ ap (λ (v : List Trit). kept_values m v states) (sym toggled.inputs))
          ∙ ap (λ (r : ModuleRun). kept_values m r.inputs r.states) (sym found.run);
      one_each = subst (HasEach m) (sym found.run) toggled.one_each;
    }

pub returns-clause-inputs : goal.returns-clause-inputs
returns-clause-inputs c =
    ap (λ (r : ModuleRun). r.inputs) c.find_fed_where_changed.ensures.run ∙ c.toggle_notifier-changed.ensures.inputs

pub returns-clause-still : goal.returns-clause-still
returns-clause-still c = λ e.
    c.find_fed_where_changed.ensures.still e
    ∙ ap (gate_zeros c.args.tables.now.index.now.gates.places) c.toggle_notifier-changed.ensures.kept
