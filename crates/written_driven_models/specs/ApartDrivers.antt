-- Drivers over entities that can be declared one behind the other. (IEEE 1076-1993, 10.3, visibility, and 13.3.1, basic
-- identifiers.)
use Rattle.std.specs.Prelude.{◌≡◌, ℕ, List, [], ◌∷◌, ◌++◌, map, slice_get, Some}
use Rattle.std.specs.List.{AllByRecursion}
use Rattle.generated_drivers.specs.vital_models.declared.model.VEntity.{VEntity}
use Rattle.written_entities.specs.vhdl_grammar.VhdlText.{entity_names}
use Rattle.written_entities.specs.vhdl_grammar.WellFormed.{AreApart, AreWellFormed}
use Rattle.driver_models.specs.declared.model.DriverModel.{DriverModel}
use Rattle.vhdl_drivers.specs.WellFormed.{IsWellFormedDriver}
use Rattle.vhdl_drivers.specs.VitalSections.{vital_sections}
use Rattle.written_driven_models.specs.Laws.{AreWellFormedDrivers}
use Rattle.written_driven_models.specs.Vital.{written_vital, well_formed_vital}

-- A driver that can be declared over one of these entities alone, which has the name of its core.
pub record IsOver (es : List VEntity) (driver : DriverModel) : Type 0 where
  pub place : ℕ
  pub entity : VEntity
  pub at : slice_get es place ≡ Some entity
  pub named : entity.name ≡ driver.core
  pub alone : IsWellFormedDriver [] (vital_sections.core entity ∷ []) driver

abbrev pub driver_names : List DriverModel → List (List ℕ)
driver_names drivers = map (λ (driver : DriverModel). driver.name) drivers

-- Where no two of these entities and of drivers over them share a name, the drivers can be declared one behind the other.
abbrev pub DriversApartAreWellFormed : Type 0
DriversApartAreWellFormed =
    (es : List VEntity) (drivers : List DriverModel) → AreWellFormed es → AllByRecursion (IsOver es) drivers
    → AreApart (entity_names es ++ driver_names drivers) → AreWellFormedDrivers written_vital well_formed_vital es [] drivers
