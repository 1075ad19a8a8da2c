use Rattle.std.proofs.Common.{◌≡◌, [], drop}
use Rattle.lexer.specs.Spans.{LieInside}
use Rattle.sectioned_texts.specs.DrivenModels.{taken_names, more_drivers}
use Rattle.sectioned_texts.proofs.drivers.push_drivers.Given as goal

abbrev pub invariant-loop-section : goal.invariant-loop-section
invariant-loop-section g l = record {
  names : l.names ≡ taken_names g.L.SectionLanguage.language l.models l.drivers;
  inside : LieInside l.text (drop l.section-index l.sections);
  drivers : more_drivers g.L.SectionLanguage.language l.text l.models l.drivers (drop l.section-index l.sections)
      ≡ more_drivers g.L.SectionLanguage.language l.text l.models [] l.sections;
}
