use Rattle.std.proofs.Common.{◌≡◌, ◌++◌, drop}
use Rattle.std.specs.Prelude.{flat_map}
use Rattle.file_models.specs.FileModels.{over_its_core}
use Rattle.file_models.proofs.models.add_drivers.Given as goal

abbrev pub invariant-loop-driver : goal.invariant-loop-driver
invariant-loop-driver g l =
    l.models.items ++ flat_map (over_its_core g.L.SectionLanguage.language l.cores) (drop l.driver-index l.drivers)
    ≡ l.initial.models.items ++ flat_map (over_its_core g.L.SectionLanguage.language l.cores) l.drivers
