use Rattle.std.proofs.Common.{◌≡◌, take}
use Rattle.bool_functions.specs.NameList.{AreDistinct}
use Rattle.file_models.specs.Folded.{folded_names}
use Rattle.file_models.proofs.cores.core_names.Given as goal

abbrev pub invariant-loop-core : goal.invariant-loop-core
invariant-loop-core g l = record {
  names : AreDistinct (folded_names g.L.Drivers.DriverLanguage.fold g.L.SectionLanguage.language l.cores)
      → l.names ≡ folded_names g.L.Drivers.DriverLanguage.fold g.L.SectionLanguage.language (take l.core-index l.cores);
}
