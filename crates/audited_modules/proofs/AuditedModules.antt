-- Modules that the comparison finds the same show what the cell shows, and the module of a cell is one of them.
use Rattle.cell_machine.proofs.RuleLemmas.{rules_of}
use Rattle.specify_blocks.specs.Generated.{module_of}
use Rattle.specify_blocks.proofs.Soundness.{module_is_sound}
use Rattle.model_traces.proofs.ModuleAgreement.{modules-agree}
use Rattle.table_audit.specs.Laws.{SameIsMatching}
use Rattle.audited_modules.specs.Laws.{AuditedModulesAgree, GeneratedModulesMatch, GeneratedModulesAreSame}
use Rattle.audited_modules.proofs.MatchingModules.{matching-fit}
use Rattle.audited_modules.proofs.GeneratedShape.{has-shape}
use Rattle.audited_modules.proofs.GeneratedValues.{has-values}

pub generated-match : GeneratedModulesMatch
generated-match d is =
    let rules = rules_of d.name d.pins d.groups d.outputs d.checks d.arcs is in
    record { shape = has-shape d rules (module_is_sound d rules); values = has-values d rules (module_is_sound d rules) }

module _ (same : SameIsMatching) where
  pub audited-agree : AuditedModulesAgree
  audited-agree d m is sound e = modules-agree d m (matching-fit d m is sound ((same d m).0 e))

  pub generated-same : GeneratedModulesAreSame
  generated-same d is = (same d (module_of d)).1 (generated-match d is)
