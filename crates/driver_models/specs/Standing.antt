-- Where a driver may stand. (IEEE 1364-2005, 3.12, name spaces, and 12.1.2, instances; IEEE 1076-1993, 10.3 and 9.6; that a
-- driver has a core in its file is this project's rule.)
use Rattle.std.specs.Prelude.{◌≡◌, ℕ, Bool, true, false, List, length}
use Rattle.grammar_reader.specs.Words.{is_among}
use Rattle.driver_models.specs.declared.model.DriverModel.{DriverModel}
use Rattle.driver_models.specs.Models.{IsSound}
use Rattle.driver_models.specs.Cores.{Core, core_ports, fits}

-- A driver may stand where these names are taken and the models that may be cores are these: its numbers are those of its ports,
-- its name is new, and the first model with the name of its core has the ports of its core.
pub record MayStand (is_same : List ℕ → List ℕ → Bool) (names : List (List ℕ)) (cores : List Core) (driver : DriverModel) :
    Type 0 where
  pub sound : IsSound driver
  pub new : is_among is_same names driver.name ≡ false
  pub core : fits driver.ports (length driver.driver.drives) (core_ports is_same cores driver.core) ≡ true
