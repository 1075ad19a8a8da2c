-- Models that fit a cell show what the cell shows.
use Rattle.std.specs.Prelude.{◌≡◌, ℕ, true, List, [], ◌∷◌, map, IsTrue}
use Rattle.cell_machine.specs.declared.changes.Change.{Change}
use Rattle.cell_machine.specs.CellData.{CellData}
use Rattle.cell_machine.specs.CellRules.{is_cell}
use Rattle.cell_machine.specs.History.{inputs_after, IsProper, IsProperFrom}
use Rattle.cell_machine.specs.Report.{any_true}
use Rattle.cell_machine.specs.CellTrace.{inputs_of, reports_of, named_groups, violated, states_after, cell_trace}
use Rattle.specify_blocks.specs.declared.model.VModule.{VModule}
use Rattle.specify_blocks.specs.Generated.{module_of}
use Rattle.vital_models.specs.declared.model.VEntity.{VEntity}
use Rattle.vital_models.specs.Generated.{entity_of}
use Rattle.model_traces.specs.ModuleRun.{run_after}
use Rattle.model_traces.specs.ModuleTrace.{module_trace}
use Rattle.model_traces.specs.SequentialStates.{sequential_states}
use Rattle.model_traces.specs.ProcessRun.{process_after}
use Rattle.model_traces.specs.EntityTrace.{entity_trace}
use Rattle.model_traces.specs.ModuleFits.{ModuleFits}
use Rattle.model_traces.specs.EntityFits.{EntityFits}

-- The trace of a module that fits a cell is the cell's for every list of changes of inputs at rising times, and so are the
-- states of its primitives after each change.
abbrev pub FittingModulesAgree : Type 0
FittingModulesAgree =
    (d : CellData) (m : VModule)
    → ModuleFits d m
    → ((cs : List Change) → IsProperFrom (inputs_of d) [] cs → module_trace m cs ≡ cell_trace d cs)
    × ((h : List Change) → IsProper (inputs_of d) h → sequential_states m (run_after m h) ≡ states_after d h)

-- the same of an entity that fits a cell
abbrev pub FittingEntitiesAgree : Type 0
FittingEntitiesAgree =
    (d : CellData) (e : VEntity)
    → EntityFits d e
    → ((cs : List Change) → IsProperFrom (inputs_of d) [] cs → entity_trace e cs ≡ cell_trace d cs)
    × ((h : List Change) → IsProper (inputs_of d) h → (process_after e h).states ≡ states_after d h)

-- What a cell, a module and an entity have in common that show the same: their traces for every list of changes of inputs at
-- rising times, their states after each change, and that after a change at which a check reports each state has the value to
-- which the inputs force it, else X.
pub record ShowTheSame (d : CellData) (m : VModule) (e : VEntity) : Type 0 where
  pub traces :
      (cs : List Change)
      → IsProperFrom (inputs_of d) [] cs → (module_trace m cs ≡ cell_trace d cs) × (entity_trace e cs ≡ cell_trace d cs)
  pub states :
      (h : List Change)
      → IsProper (inputs_of d) h
      → (sequential_states m (run_after m h) ≡ states_after d h) × ((process_after e h).states ≡ states_after d h)
  pub forced :
      (c : Change) (h : List Change)
      → any_true (reports_of d (c ∷ h)) ≡ true
      → states_after d (c ∷ h) ≡ map (λ g. violated d.pins g (inputs_after (inputs_of d) (c ∷ h))) (named_groups d)

-- A module and an entity that fit a cell show what the cell shows.
abbrev pub FittingModelsAgree : Type 0
FittingModelsAgree = (d : CellData) (m : VModule) (e : VEntity) → ModuleFits d m → EntityFits d e → ShowTheSame d m e

-- The module and the entity of data that keep the rules of cells fit them.
abbrev pub GeneratedModulesFit : Type 0
GeneratedModulesFit = (d : CellData) → IsTrue (is_cell d.name d.pins d.groups d.outputs d.checks d.arcs)
    → ModuleFits d (module_of d)

abbrev pub GeneratedEntitiesFit : Type 0
GeneratedEntitiesFit =
    (d : CellData) (name : List ℕ)
    → IsTrue (is_cell d.name d.pins d.groups d.outputs d.checks d.arcs) → EntityFits d (entity_of d name)

-- Every cell, its module and its entity show the same.
abbrev pub ModelsAgree : Type 0
ModelsAgree =
    (d : CellData) (name : List ℕ)
    → IsTrue (is_cell d.name d.pins d.groups d.outputs d.checks d.arcs) → ShowTheSame d (module_of d) (entity_of d name)
