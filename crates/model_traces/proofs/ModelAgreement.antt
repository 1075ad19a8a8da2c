-- A cell, its module and its entity show the same.
use Rattle.std.proofs.Common.{◌≡◌, true, List, ◌∷◌, map, if◌then◌else◌}
use Rattle.cell_machine.specs.declared.changes.Change.{Change}
use Rattle.cell_machine.specs.CellData.{CellData}
use Rattle.cell_machine.specs.History.{inputs_after, value_before, is_event}
use Rattle.cell_machine.specs.Report.{any_true}
use Rattle.cell_machine.specs.CellTrace.{inputs_of, input_check, reports_of, named_groups, state_step, state_after, states_after}
use Rattle.cell_machine.specs.CellTrace.{violated}
use Rattle.cell_machine.proofs.RuleLemmas.{rules_of}
use Rattle.specify_blocks.proofs.cell_tables.CellLaws.{parts_resolve-lem, groups_are_machines-lem, groups_are_forced-lem}
use Rattle.specify_blocks.proofs.cell_tables.CellLaws.{conditions_are_numbered-lem}
use Rattle.specify_blocks.specs.Generated.{module_of}
use Rattle.specify_blocks.proofs.Soundness.{module_is_sound}
use Rattle.vital_models.specs.Generated.{entity_of}
use Rattle.vital_models.proofs.CellLaws.{states_are_machines-lem, outputs_resolve-lem, conditions_resolve-lem}
use Rattle.model_traces.specs.Agreement.{FittingModelsAgree, GeneratedModulesFit, GeneratedEntitiesFit, ModelsAgree}
use Rattle.model_traces.proofs.TraceLemmas.{report-event}
use Rattle.model_traces.proofs.ModuleAgreement.{modules-agree}
use Rattle.model_traces.proofs.EntityAgreement.{entities-agree}
use Rattle.model_traces.proofs.GeneratedModule.{module-fits}
use Rattle.model_traces.proofs.GeneratedEntity.{entity-fits}

-- the states of a cell after a change at which a check reports
violated-forced :
    (d : CellData) (c : Change) (h : List Change)
    → any_true (reports_of d (c ∷ h)) ≡ true
    → states_after d (c ∷ h) ≡ map (λ g. violated d.pins g (inputs_after (inputs_of d) (c ∷ h))) (named_groups d)
violated-forced d c h some =
    let v : List _ = inputs_after (inputs_of d) h in
    let event : is_event v c ≡ true = report-event (inputs_of d) (input_check d.pins) h c d.checks some in
    (λ i. map (λ g. if event i then state_step (some i) d.pins g (inputs_after (inputs_of d) (c ∷ h)) (value_before v c) c
    (state_after d h g) else state_after d h g) (named_groups d))

pub fitting-agree : FittingModelsAgree
fitting-agree d m e module-is entity-is =
    let modules = modules-agree d m module-is in
    let entities = entities-agree d e entity-is in
    record {
      traces = λ cs proper. (modules.0 cs proper, entities.0 cs proper);
      states = λ h proper. (modules.1 h proper, entities.1 h proper);
      forced = violated-forced d;
    }

pub generated-modules : GeneratedModulesFit
generated-modules d is =
    let rules = rules_of d.name d.pins d.groups d.outputs d.checks d.arcs is in
    module-fits parts_resolve-lem groups_are_machines-lem groups_are_forced-lem conditions_are_numbered-lem d rules
    (module_is_sound d rules)

pub generated-entities : GeneratedEntitiesFit
generated-entities d name is =
    entity-fits states_are_machines-lem outputs_resolve-lem conditions_resolve-lem conditions_are_numbered-lem d
    (rules_of d.name d.pins d.groups d.outputs d.checks d.arcs is) name

pub models-agree : ModelsAgree
models-agree d name is = fitting-agree d (module_of d) (entity_of d name) (generated-modules d is) (generated-entities d name is)
