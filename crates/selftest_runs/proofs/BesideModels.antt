-- A cell beside its models, as they are generated and damaged.
use Rattle.std.proofs.Common.{◌≡◌, ℕ, suc, Bool, true, false, IsTrue, List, [], ◌∷◌, length, is_some, refl, sym, ap, subst, ◌∙◌}
use Rattle.cell_machine.specs.declared.changes.Change.{Change}
use Rattle.cell_machine.specs.declared.outputs.OutputPin.{OutputPin}
use Rattle.cell_machine.specs.CellData.{CellData}
use Rattle.cell_machine.specs.CellRules.{is_cell}
use Rattle.cell_machine.specs.CellTrace.{inputs_of, cell_line, cell_trace, cell_machine_of}
use Rattle.cell_machine.specs.History.{IsProperFrom}
use Rattle.cell_machine.specs.Lines.{Line}
use Rattle.cell_machine.specs.Sized.{cell_machine_sized}
use Rattle.cell_machine.proofs.RuleLemmas.{rules_of}
use Rattle.verilog_grammar.specs.specify_blocks.declared.model.VModule.{VModule}
use Rattle.verilog_grammar.specs.specify_blocks.Generated.{module_of}
use Rattle.verilog_grammar.specs.specify_blocks.Sound as modules_of
use Rattle.verilog_grammar.proofs.specify_blocks.Soundness.{module_is_sound}
use Rattle.vital_models.specs.declared.model.VEntity.{VEntity}
use Rattle.vital_models.specs.declared.model.VState.{VState}
use Rattle.vital_models.specs.declared.model.VOutput.{VOutput}
use Rattle.vital_models.specs.Generated.{entity_of}
use Rattle.vital_models.specs.Sound as entities_of
use Rattle.vital_models.proofs.Soundness.{entity_is_sound}
use Rattle.model_traces.specs.PortNumbers.{input_count, output_ports}
use Rattle.model_traces.specs.ModuleTrace.{module_trace}
use Rattle.model_traces.specs.EntityTrace.{entity_trace}
use Rattle.model_traces.specs.ModuleFits as module_fits
use Rattle.model_traces.specs.EntityFits as entity_fits
use Rattle.model_traces.specs.Agreement.{ModelsAgree}
use Rattle.model_traces.proofs.ModelAgreement.{generated-modules, generated-entities}
use Rattle.stimulus.specs.DriveLines.{drive_machine}
use Rattle.stimulus.specs.DriveSized.{drive_machine_sized}
use Rattle.stimulus.proofs.DriveTraces.{drive_lines}
use Rattle.stimulus.specs.Differences.{first_difference, NoDifferenceIsEqual}
use Rattle.selftest_cells.specs.Damage.{alter_first, damaged_output, damaged_by, damaged_module, damaged_entity}
use Rattle.selftest_cells.specs.Damage.{DamagedModulesAreSound, DamagedEntitiesAreSound}
use Rattle.caught_models.specs.Caught.{is_caught}

-- these data keep the rules of cells
abbrev pub KeepsRules : CellData → Type 0
KeepsRules d = IsTrue (is_cell d.name d.pins d.groups d.outputs d.checks d.arcs)

-- a module can be run beside a cell
pub record IsModuleBeside (d : CellData) (m : VModule) : Type 0 where
  pub sound : modules_of.IsSound m
  pub inputs : inputs_of d ≡ input_count m.ports
  pub outputs : length d.outputs ≡ length (output_ports m.ports)

-- an entity can be
pub record IsEntityBeside (d : CellData) (e : VEntity) : Type 0 where
  pub sound : entities_of.IsSound e
  pub inputs : inputs_of d ≡ input_count e.ports
  pub outputs : length d.outputs ≡ length e.outputs

fitting_ports : (d : CellData) (m : VModule) (outputs : List OutputPin) (ps : List ℕ) → module_fits.FitOutputs d m outputs ps
    → length outputs ≡ length ps
fitting_ports d m [] [] f = refl
fitting_ports d m [] (p ∷ ps) f = absurd f
fitting_ports d m (output ∷ outputs) [] f = absurd f
fitting_ports d m (output ∷ outputs) (p ∷ ps) f = ap suc (fitting_ports d m outputs ps f.1)

fitting_outputs : (d : CellData) (e : VEntity) (outputs : List OutputPin) (os : List VOutput)
    → entity_fits.FitOutputs d e outputs os → length outputs ≡ length os
fitting_outputs d e [] [] f = refl
fitting_outputs d e [] (o ∷ os) f = absurd f
fitting_outputs d e (output ∷ outputs) [] f = absurd f
fitting_outputs d e (output ∷ outputs) (o ∷ os) f = ap suc (fitting_outputs d e outputs os f.1)

-- The generated models.

own_module : (d : CellData) → KeepsRules d → IsModuleBeside d (module_of d)
own_module d keep =
    let fits = generated-modules d keep in
    record {
      sound = module_is_sound d (rules_of d.name d.pins d.groups d.outputs d.checks d.arcs keep);
      inputs = sym fits.inputs;
      outputs = fitting_ports d (module_of d) d.outputs (output_ports (module_of d).ports) fits.outputs;
    }

own_entity : (d : CellData) (name : List ℕ) → KeepsRules d → IsEntityBeside d (entity_of d name)
own_entity d name keep =
    let fits = generated-entities d name keep in
    record {
      sound = entity_is_sound d name (rules_of d.name d.pins d.groups d.outputs d.checks d.arcs keep);
      inputs = sym fits.inputs;
      outputs = fitting_outputs d (entity_of d name) d.outputs (entity_of d name).outputs fits.outputs;
    }

pub module_beside : (d : CellData) (m : VModule) → KeepsRules d → m ≡ module_of d → IsModuleBeside d m
module_beside d m keep e = subst (IsModuleBeside d) (sym e) (own_module d keep)

pub entity_beside : (d : CellData) (name : List ℕ) (e : VEntity) → KeepsRules d → e ≡ entity_of d name → IsEntityBeside d e
entity_beside d name e keep is = subst (IsEntityBeside d) (sym is) (own_entity d name keep)

-- The damaged models.

pub damaged_module_beside : (d : CellData) (m n : VModule) → DamagedModulesAreSound → KeepsRules d → m ≡ module_of d
    → n ≡ damaged_module m → IsModuleBeside d n
damaged_module_beside d m n law keep e damaged =
    let own = module_beside d m keep e in
    subst (IsModuleBeside d) (sym damaged) (record { sound = law m own.sound; inputs = own.inputs; outputs = own.outputs })

altered : (f : VOutput → VOutput) (os : List VOutput) → length (alter_first f os) ≡ length os
altered f [] = refl
altered f (o ∷ os) = refl

same_ports : (ss : List VState) (e : VEntity) → (damaged_by ss e).ports ≡ e.ports
same_ports [] e = refl
same_ports (s ∷ ss) e = refl

as_many_outputs : (ss : List VState) (e : VEntity) → length (damaged_by ss e).outputs ≡ length e.outputs
as_many_outputs [] e = altered damaged_output e.outputs
as_many_outputs (s ∷ ss) e = refl

pub damaged_entity_beside : (d : CellData) (name : List ℕ) (e n : VEntity) → DamagedEntitiesAreSound → KeepsRules d
    → e ≡ entity_of d name → n ≡ damaged_entity e → IsEntityBeside d n
damaged_entity_beside d name e n law keep is damaged =
    let own = entity_beside d name e keep is in
    subst (IsEntityBeside d) (sym damaged) (record {
      sound = law e own.sound;
      inputs = own.inputs ∙ sym (ap input_count (same_ports e.states e));
      outputs = own.outputs ∙ sym (as_many_outputs e.states e);
    })

-- The models that are not damaged are not caught.

-- no trace is unlike itself
never : (d : CellData) (cs : List Change) → NoDifferenceIsEqual → is_caught (cell_trace d cs) (cell_trace d cs) ≡ false
never d cs law =
    let m = drive_machine (cell_machine_of d) in
    let sized = drive_machine_sized (cell_machine_of d) (cell_machine_sized d) in
    let shown = drive_lines (cell_line d) cs in
    ap is_some ((λ i. first_difference (sym shown i) (sym shown i)) ∙ (law m m cs sized sized refl refl).1 refl)

never_by : (d : CellData) (cs : List Change) (trace : List Line) (caught : Bool) → NoDifferenceIsEqual → trace ≡ cell_trace d cs
    → caught ≡ is_caught (cell_trace d cs) trace → caught ≡ true → ⊥
never_by d cs trace caught law same is e =
    let not_caught : caught ≡ false = is ∙ ap (is_caught (cell_trace d cs)) same ∙ never d cs law in
    let both : true ≡ false = sym e ∙ not_caught in cc

pub module_not_caught : (d : CellData) (m : VModule) (cs : List Change) (caught : Bool) → ModelsAgree → NoDifferenceIsEqual
    → KeepsRules d → m ≡ module_of d
    → IsProperFrom (inputs_of d) [] cs → caught ≡ is_caught (cell_trace d cs) (module_trace m cs) → caught ≡ true → ⊥
module_not_caught d m cs caught agree law keep own proper is e =
    never_by d cs (module_trace m cs) caught law (ap (λ n. module_trace n cs) own ∙ ((agree d [] keep).traces cs proper).0) is e

pub entity_not_caught : (d : CellData) (name : List ℕ) (m : VEntity) (cs : List Change) (caught : Bool) → ModelsAgree
    → NoDifferenceIsEqual → KeepsRules d → m ≡ entity_of d name
    → IsProperFrom (inputs_of d) [] cs → caught ≡ is_caught (cell_trace d cs) (entity_trace m cs) → caught ≡ true → ⊥
entity_not_caught d name m cs caught agree law keep own proper is e =
    never_by d cs (entity_trace m cs) caught law (ap (λ n. entity_trace n cs) own ∙ ((agree d name keep).traces cs proper).1) is e
