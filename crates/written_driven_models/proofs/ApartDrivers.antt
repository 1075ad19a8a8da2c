-- Drivers over entities can be declared where no names are shared.
use Rattle.std.proofs.Common.{◌≡◌, ℕ, ◌+◌, Bool, true, false, ◌||◌, List, [], ◌∷◌, ◌++◌, map, flat_map, length, Some, refl, sym}
use Rattle.std.proofs.Common.{ap, ◌∙◌, subst, arith, append_assoc}
use Rattle.std.specs.List.{AllByRecursion, list_any}
use Rattle.std.specs.Option.{option_map, option_and_then}
use Rattle.std.proofs.lemmas.List.{map-append}
use Rattle.generated_drivers.specs.vital_models.declared.model.VEntity.{VEntity}
use Rattle.written_entities.specs.vhdl_tokens.Spelling.{is_same}
use Rattle.written_entities.specs.vhdl_grammar.VhdlRules.{is_among}
use Rattle.written_entities.specs.vhdl_grammar.VhdlText.{entity_names}
use Rattle.written_entities.specs.vhdl_grammar.WellFormed.{IsEntityName, AreApart, AreWellFormed}
use Rattle.driver_models.specs.declared.model.DriverModel.{DriverModel}
use Rattle.driver_models.specs.Cores.{Core, core_number, ports_at, core_ports, fits}
use Rattle.sectioned_texts.specs.DrivenModels.{taken_names}
use Rattle.vhdl_drivers.specs.VitalSections.{vital_sections}
use Rattle.written_modules.proofs.grammar_reader.ItemPlaces.{IsAt, item_at, get_at, found_behind}
use Rattle.written_entities.proofs.Names.{entity_named, same_self}
use Rattle.written_entities.proofs.NameReading.{is_new}
use Rattle.written_driven_models.specs.Laws.{AreWellFormedDrivers}
use Rattle.written_driven_models.specs.Vital.{written_vital, well_formed_vital}
use Rattle.written_driven_models.specs.ApartDrivers.{IsOver, driver_names, DriversApartAreWellFormed}

-- The names that are taken.

entities_taken : (es : List VEntity) → flat_map vital_sections.names es ≡ entity_names es
entities_taken [] = refl
entities_taken (e ∷ es) = ap (λ (names : List (List ℕ)). e.name ∷ names) (entities_taken es)

taken : (es : List VEntity) (done : List DriverModel) → taken_names vital_sections es done ≡ entity_names es ++ driver_names done
taken es done = ap (λ (names : List (List ℕ)). names ++ driver_names done) (entities_taken es)

-- The core.

abbrev core_of : VEntity → Core
core_of e = vital_sections.core e

any_core : (x : List ℕ) (es : List VEntity)
    → list_any (λ (core : Core). is_same x core.name) (map core_of es) ≡ list_any (is_same x) (entity_names es)
any_core x [] = refl
any_core x (e ∷ es) = ap (λ (b : Bool). is_same x e.name || b) (any_core x es)

module _ (es : List VEntity) (d : DriverModel) (h : AreWellFormed es) (o : IsOver es d) where
  abbrev entity : VEntity
  entity = o.entity

  at : IsAt es o.place entity
  at = item_at es o.place entity o.at

  names_split : entity_names es ≡ entity_names at.before ++ entity.name ∷ entity_names at.after
  names_split = ap entity_names at.split ∙ map-append (λ (e : VEntity). e.name) at.before (entity ∷ at.after)

  not_before : list_any (λ (core : Core). is_same d.core core.name) (map core_of at.before) ≡ false
  not_before =
      any_core d.core at.before
      ∙ subst (λ (x : List ℕ). is_among (entity_names at.before) x ≡ false) o.named
      (is_new (entity_names at.before) entity.name (entity_names at.after)
      (entity_named entity.name (subst (λ (x : List ℕ). IsEntityName x) (sym o.named) o.alone.written.core))
      (subst AreApart names_split h.apart))

  it_is : is_same d.core entity.name ≡ true
  it_is = ap (is_same d.core) o.named ∙ same_self d.core

  cores_split : map core_of es ≡ map core_of at.before ++ core_of entity ∷ map core_of at.after
  cores_split = ap (map core_of) at.split ∙ map-append core_of at.before (entity ∷ at.after)

  found : core_number is_same (map core_of es) d.core ≡ Some (length (map core_of at.before))
  found =
      let place : 0 + length (map core_of at.before) ≡ length (map core_of at.before) = omega arith in
      ap (λ (cores : List Core). core_number is_same cores d.core) cores_split
      ∙ found_behind (λ (core : Core). is_same d.core core.name) 0 (map core_of at.before) (core_of entity)
      (map core_of at.after) not_before it_is
      ∙ ap (λ (n : ℕ). Some n) place

  core_is : core_ports is_same (map core_of es) d.core ≡ Some entity.ports
  core_is =
      ap (option_and_then (ports_at (map core_of es))) found
      ∙ ap (λ (cores : List Core). ports_at cores (length (map core_of at.before))) cores_split
      ∙ ap (option_map (λ (core : Core). core.ports)) (get_at (map core_of at.before) (core_of entity) (map core_of at.after))

  alone_is : core_ports is_same (core_of entity ∷ []) d.core ≡ Some entity.ports
  alone_is = ap (option_and_then (ports_at (core_of entity ∷ [])))
      (found_behind (λ (core : Core). is_same d.core core.name) 0 [] (core_of entity) [] refl it_is)

  it_fits : fits d.ports (length d.driver.drives) (core_ports is_same (map core_of es) d.core) ≡ true
  it_fits = ap (fits d.ports (length d.driver.drives)) (core_is ∙ sym alone_is) ∙ o.alone.fits

-- All drivers.

module _ (es : List VEntity) (h : AreWellFormed es) where
  names_apart : (done : List DriverModel) (d : DriverModel) (drivers : List DriverModel)
      → (entity_names es ++ driver_names done) ++ d.name ∷ driver_names drivers ≡ entity_names es
      ++ driver_names (done ++ d ∷ drivers)
  names_apart done d drivers =
      append_assoc (entity_names es) (driver_names done) (d.name ∷ driver_names drivers)
      ∙ ap (λ (names : List (List ℕ)). entity_names es ++ names)
      (sym (map-append (λ (x : DriverModel). x.name) done (d ∷ drivers)))

  all_from : (done drivers : List DriverModel) → AllByRecursion (IsOver es) drivers
      → AreApart (entity_names es ++ driver_names (done ++ drivers))
      → AreWellFormedDrivers written_vital well_formed_vital es done drivers
  all_from done [] o apart = tt
  all_from done (d ∷ drivers) o apart = (
    record {
      written = o.0.alone.written;
      new = subst (λ (names : List (List ℕ)). is_among names d.name ≡ false) (sym (taken es done))
          (is_new (entity_names es ++ driver_names done) d.name (driver_names drivers)
          (entity_named d.name o.0.alone.written.name) (subst AreApart (sym (names_apart done d drivers)) apart));
      apart = o.0.alone.apart;
      fits = it_fits es d h o.0;
      order = o.0.alone.order;
    },
    all_from (done ++ d ∷ []) drivers o.1
        (subst (λ (xs : List DriverModel). AreApart (entity_names es ++ driver_names xs))
        (sym (append_assoc done (d ∷ []) drivers)) apart),
  )

pub well_formed : DriversApartAreWellFormed
well_formed es drivers h o apart = all_from es h [] drivers o apart
