-- The fields of a module's simulator at the start and after a change.
use Rattle.std.proofs.Common.{◌≡◌, ℕ, suc, ◌+◌, Bool, true, false, List, [], ◌∷◌, ◌++◌, append_assoc, length, map, replicate}
use Rattle.std.proofs.Common.{drop, refl, sym, ap, ◌∙◌, add-one, Some, slice_get}
use Rattle.cell_machine.specs.declared.changes.Change.{Change}
use Rattle.std.proofs.lemmas.List.{map-append}
use Rattle.std.proofs.lemmas.Simd.{map-map}
use Rattle.cell_machine.proofs.ArcDelays.{drop-at}
use Rattle.udp_tables.specs.declared.models.VPort.{VPort}
use Rattle.specify_blocks.specs.declared.model.VModule.{VModule}
use Rattle.model_traces.specs.declared.module_run.ModuleRun.{ModuleRun}
use Rattle.run_parts.specs.declared.shown.ShownPort.{ShownPort}
use Rattle.model_traces.specs.PortNumbers.{output_by, outputs_from, output_ports}
use Rattle.model_traces.specs.ModuleRun.{start_run, shaken, run_step, step_reports, run_after}
use Rattle.module_runs.specs.ShownPorts.{shown_step}
use Rattle.module_runs.specs.ModuleStands.{shown_after, Stands}

-- the first of the reports and then the others
pub shaken-first :
    (m : VModule) (b : Bool) (reports : List Bool) (r : ModuleRun)
    → shaken m reports (shaken m (b ∷ []) r) ≡ shaken m (b ∷ reports) r
shaken-first m true reports r = refl
shaken-first m false reports r = refl

-- one report more
pub shaken-step :
    (m : VModule) (reports : List Bool) (i : ℕ) (b : Bool) (r s : ModuleRun)
    → slice_get reports i ≡ Some b → s ≡ shaken m (b ∷ []) r
    → shaken m (drop (i + 1) reports) s ≡ shaken m (drop i reports) r
shaken-step m reports i b r s e is =
    rw add-one
    (ap (shaken m (drop (suc i) reports)) is
    ∙ shaken-first m b (drop (suc i) reports) r
    ∙ ap (λ bs. shaken m bs r) (sym (drop-at reports i b e)))

-- one port more
pub outputs-step :
    {X : Type 0} (f : ℕ → X) (ports : List VPort) (i : ℕ) (port : VPort) (old new : List X)
    → slice_get ports i ≡ Some port
    → new ≡ old ++ map f (output_by i port.input)
    → new ++ map f (outputs_from (i + 1) (drop (i + 1) ports)) ≡ old ++ map f (outputs_from i (drop i ports))
outputs-step f ports i port old new e is =
    let rest : List ℕ = outputs_from (i + 1) (drop (i + 1) ports) in
    let front : drop i ports ≡ port ∷ drop (i + 1) ports = rw add-one (drop-at ports i port e) in
    ap (λ r. r ++ map f rest) is
    ∙ append_assoc old (map f (output_by i port.input)) (map f rest)
    ∙ ap (λ r. old ++ r) (sym (map-append f (output_by i port.input) rest))
    ∙ ap (λ ps. old ++ map f (outputs_from i ps)) (sym front)

-- Before any change.
pub start-stands :
    (m : VModule) (run : ModuleRun) (reports : List Bool) (shown : List ShownPort)
    → run ≡ start_run m
    → reports ≡ replicate (length m.checks) false
    → shown ≡ map (shown_after m []) (output_ports m.ports)
    → Stands m run reports shown []
start-stands m run reports shown s r o =
    record {
      run_is = s;
      reports_are = r;
      shown_are = o;
    }

-- After a change.
pub change-stands :
    (m : VModule) (run : ModuleRun) (reports : List Bool) (shown : List ShownPort) (h : List Change) (c : Change)
    (run' : ModuleRun) (reports' : List Bool) (shown' : List ShownPort)
    → Stands m run reports shown h
    → run' ≡ run_step m run c
    → reports' ≡ step_reports m run c
    → shown' ≡ map (shown_step m run'.inputs run'.states c.pin) shown
    → Stands m run' reports' shown' (c ∷ h)
change-stands m run reports shown h c run' reports' shown' st r k o =
    let is : run' ≡ run_after m (c ∷ h) = r ∙ ap (λ x. run_step m x c) st.run_is in
    record {
      run_is = is;
      reports_are = k ∙ ap (λ x. step_reports m x c) st.run_is;
      shown_are =
          o
          ∙ (λ j. map (shown_step m (is j).inputs (is j).states c.pin) (st.shown_are j))
          ∙ map-map (shown_step m (run_after m (c ∷ h)).inputs (run_after m (c ∷ h)).states c.pin) (shown_after m h)
          (output_ports m.ports);
    }
