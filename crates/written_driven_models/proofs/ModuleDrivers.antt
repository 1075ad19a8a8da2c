-- The drivers of the cells of one library are well formed, each behind those before it.
use Rattle.std.proofs.Common.{◌≡◌, ℕ, Bool, true, false, inl, inr, List, [], ◌∷◌, ◌++◌, map, refl, sym, ap, ◌∙◌, subst}
use Rattle.std.proofs.Common.{append_assoc, append-nil, codes, Some, None, if◌then◌else◌}
use Rattle.std.specs.Prelude.{flat_map}
use Rattle.std.specs.List.{list_any}
use Rattle.std.specs.Str.{bytes_eq}
use Rattle.std.proofs.lemmas.Bool.{cases_Bool, true≢false}
use Rattle.std.proofs.lemmas.List.{map-append}
use Rattle.std.proofs.lemmas.List.Elements.{All-contains}
use Rattle.std.proofs.lemmas.Slice.Eq.{bytes_eq-Decides}
use Rattle.written_entities.proofs.trit_cubes.ListLemmas.{Among, among-append, among-map, among-contains, append-among_left}
use Rattle.written_entities.proofs.trit_cubes.ListLemmas.{append-among_right}
use Rattle.generated_drivers.proofs.udp_tables.FirstLemmas.{any-found}
use Rattle.generated_drivers.specs.udp_tables.VerilogRules.{is_among}
use Rattle.generated_drivers.specs.verilog_tokens.Kept.{is_kept_cell_name}
use Rattle.generated_drivers.specs.cell_machine.CellData.{CellData}
use Rattle.generated_drivers.specs.specify_blocks.declared.model.VModule.{VModule}
use Rattle.generated_drivers.specs.specify_blocks.Names.{driver_name, module_name}
use Rattle.generated_drivers.specs.specify_blocks.Generated.{module_of}
use Rattle.written_modules.specs.verilog_grammar.WellFormed.{outer_names}
use Rattle.generated_drivers.specs.driver_models.declared.model.DriverModel.{DriverModel}
use Rattle.generated_drivers.specs.driver_models.Cores.{Core, core_ports}
use Rattle.verilog_drivers.specs.WellFormed.{IsWellFormedDriver}
use Rattle.generated_drivers.specs.three_state_cells.DrivenCells.{DrivenData, may_float}
use Rattle.generated_entities.proofs.generated_modules.NameLists.{unlike}
use Rattle.generated_modules.proofs.ModuleLists.{IsOuter, outer_of}
use Rattle.generated_modules.proofs.GivenNames.{given_apart}
use Rattle.generated_drivers.specs.Generated.{verilog_driver_of}
use Rattle.sectioned_texts.specs.DrivenModels.{taken_names}
use Rattle.verilog_drivers.specs.VerilogSections.{verilog_sections}
use Rattle.written_driven_models.specs.Texts.{models_of, drivers_of, driver_in}
use Rattle.written_driven_models.specs.Laws.{AreWellFormedDrivers}
use Rattle.written_driven_models.specs.Verilog.{written_verilog, well_formed_verilog}
use Rattle.written_driven_models.proofs.KeptApart.{read_back}
use Rattle.written_driven_models.proofs.VerilogPieces.{pieces}
use Rattle.written_driven_models.specs.Library.{IsNumberedDriven, AreOfOneLibrary}
use Rattle.written_driven_models.specs.VerilogLibrary.{own_driver, driven_modules_of}
use Rattle.written_driven_models.specs.LibraryLaws.{DrivenModulesAreWellFormed}
use Rattle.written_driven_models.proofs.Cores.{cores_of, same_models, floating_name, core_not_kept, differs_earlier}
use Rattle.written_driven_models.proofs.Cores.{differs_from, core-modules-well-formed}
use Rattle.written_driven_models.proofs.DriverNames.{driver_form, not_outer, drivers_apart}
use Rattle.written_driven_models.proofs.CellsHaveDrivers.{has_drivers}
use Rattle.written_driven_models.proofs.VerilogDrivers.{verilog_drivers_are_well_formed}
use Rattle.written_driven_models.proofs.FirstCores.{first_ports}

-- no element passes a test
none_found : {X : Type 0} (p : X → Bool) (xs : List X) → ((x : X) → Among x xs → p x ≡ false) → list_any p xs ≡ false
none_found p xs h =
    elim (cases_Bool (list_any p xs)) [
      | inl e ↦ let found = any-found p xs e in absurd (true≢false (sym found.2 ∙ h found.0 found.1))
      | inr e ↦ e
    ]

abbrev drivers_in : List DrivenData → List DriverModel
drivers_in cells = drivers_of (driven_modules_of cells)

abbrev driver_names : List DriverModel → List (List ℕ)
driver_names drivers = map (λ (driver : DriverModel). driver.name) drivers

-- the name of a driver of some cells is that of one of them
drivers_named : (cells : List DrivenData) (x : List ℕ) → Among x (driver_names (drivers_in cells)) → (cell : DrivenData)
    × Among cell cells × (x ≡ driver_name cell.core.number cell.name)
unfolding verilog_driver_of
drivers_named [] x m = absurd m
drivers_named (cell ∷ cells) x m = by (may_float cell) m (drivers_named cells x)
  where
    by :
        (b : Bool) → Among x (driver_names (driver_in (if b then Some (verilog_driver_of cell) else None) ++ drivers_in cells))
        → (Among x (driver_names (drivers_in cells)) → (other : DrivenData) × Among other cells
        × (x ≡ driver_name other.core.number other.name))
        → (other : DrivenData) × Among other (cell ∷ cells) × (x ≡ driver_name other.core.number other.name)
    by true (inl e) rest = (cell, inl refl, sym e)
    by true (inr later) rest = let found = rest later in (found.0, inr found.1, found.2)
    by false later rest = let found = rest later in (found.0, inr found.1, found.2)

abbrev core_in : DrivenData → Core
core_in cell = record { name = (module_of cell.core).name; ports = (module_of cell.core).ports }

cores_same : (cells : List DrivenData) → map verilog_sections.core (models_of (driven_modules_of cells)) ≡ map core_in cells
cores_same [] = refl
cores_same (cell ∷ cells) = ap (λ l. core_in cell ∷ l) (cores_same cells)

-- One cell of a library of which some output may float, behind some and before others.
module _
    (before : List DrivenData) (cell : DrivenData) (after : List DrivenData) (h : AreOfOneLibrary (before ++ cell ∷ after))
    (floats : may_float cell ≡ true) where
  abbrev cells : List DrivenData
  cells = before ++ cell ∷ after

  abbrev ms : List VModule
  ms = models_of (driven_modules_of cells)

  each : (other : DrivenData) → Among other cells → IsNumberedDriven other
  each other m = All-contains IsNumberedDriven cells other h.apart.numbered (among-contains other cells m)

  here : Among cell cells
  here = append-among_right cell before (cell ∷ after) (inl refl)

  own : IsNumberedDriven cell
  own = each cell here

  abbrev name : List ℕ
  name = driver_name cell.core.number cell.name

  new_beside_modules : (y : List ℕ) → Among y (flat_map outer_names ms) → bytes_eq name y ≡ false
  new_beside_modules y m =
      let found = outer_of (cores_of cells) y
      (subst (λ (l : List VModule). Among y (flat_map outer_names l)) (same_models cells) m) in
      let other = among-map (λ (c : DrivenData). c.core) found.0 cells found.1 in
      unlike name y
      (not_outer cell other.0 own (each other.0 other.2) floats (differs_from before cell after h other.0 other.2) name y
      (driver_form cell)
      (subst (λ (c : CellData). IsOuter c y) (sym other.1) found.2))

  new_beside_drivers : (y : List ℕ) → Among y (driver_names (drivers_in before)) → bytes_eq name y ≡ false
  new_beside_drivers y m =
      let found = drivers_named before y m in
      let other : IsNumberedDriven found.0 = each found.0 (append-among_left found.0 before (cell ∷ after) found.1) in
      unlike name y
      (λ e.
      drivers_apart cell found.0 own.core.number other.core.number (differs_earlier before cell after h found.0 found.1) name
      (driver_name found.0.core.number found.0.name) (driver_form cell) (driver_form found.0) (e ∙ found.2))

  new : is_among (taken_names verilog_sections ms (drivers_in before)) name ≡ false
  new =
      none_found (bytes_eq name) (flat_map outer_names ms ++ driver_names (drivers_in before))
      (λ y m.
      elim (among-append y (flat_map outer_names ms) (driver_names (drivers_in before)) m)
      [ inl outer ↦ new_beside_modules y outer | inr driver ↦ new_beside_drivers y driver ])

  abbrev core_name : List ℕ
  core_name = module_name cell.core.number cell.core.name

  not_kept : is_kept_cell_name cell.core.name ≡ false
  not_kept = ap is_kept_cell_name (floating_name cell own floats) ∙ core_not_kept cell.core.number

  earlier_cores : (other : Core) → Among other (map core_in before) → bytes_eq core_name other.name ≡ false
  earlier_cores other m =
      let found = among-map core_in other before m in
      let its : IsNumberedDriven found.0 = each found.0 (append-among_left found.0 before (cell ∷ after) found.2) in
      unlike core_name other.name
      (λ e.
      given_apart (codes "cell") cell.core.number found.0.core.number cell.core.name found.0.core.name own.core.number
      its.core.number
      (differs_earlier before cell after h found.0 found.2).numbers (λ k same. true≢false (sym k ∙ not_kept))
      (e ∙ sym (ap (λ (c : Core). c.name) found.1)))

  cores_split : map verilog_sections.core ms ≡ map core_in before ++ core_in cell ∷ map core_in after
  cores_split = cores_same cells ∙ map-append core_in before (cell ∷ after)

  own_core : core_ports bytes_eq (map verilog_sections.core ms) core_name ≡ Some (module_of cell.core).ports
  own_core =
      ap (λ (l : List Core). core_ports bytes_eq l core_name) cores_split
      ∙ first_ports core_name (map core_in before) (core_in cell) (map core_in after) earlier_cores
      ((bytes_eq-Decides core_name core_name).1 refl)

  pub driver_well_formed : IsWellFormedDriver (taken_names verilog_sections ms (drivers_in before)) (map verilog_sections.core ms)
      (verilog_driver_of cell)
  driver_well_formed =
      verilog_drivers_are_well_formed cell (taken_names verilog_sections ms (drivers_in before)) (map verilog_sections.core ms)
      (has_drivers cell own floats) new own_core

-- the drivers of some cells and one more
drivers_push : (cells : List DrivenData) (cell : DrivenData)
    → drivers_in (cells ++ cell ∷ []) ≡ drivers_in cells ++ driver_in (own_driver cell)
drivers_push [] cell = append-nil (driver_in (own_driver cell))
drivers_push (first ∷ cells) cell =
    ap (λ (l : List DriverModel). driver_in (own_driver first) ++ l) (drivers_push cells cell)
    ∙ sym (append_assoc (driver_in (own_driver first)) (drivers_in cells) (driver_in (own_driver cell)))

-- all of them
all_well_formed :
    (before after : List DrivenData) → AreOfOneLibrary (before ++ after)
    → AreWellFormedDrivers written_verilog well_formed_verilog (models_of (driven_modules_of (before ++ after)))
    (drivers_in before) (drivers_in after)
all_well_formed before [] h = tt
all_well_formed before (cell ∷ after) h =
    by (may_float cell) refl
    (all_well_formed (before ++ cell ∷ []) after (subst AreOfOneLibrary (sym (append_assoc before (cell ∷ []) after)) h))
  where
    ms : List VModule
    ms = models_of (driven_modules_of (before ++ cell ∷ after))

    moved : (drivers : List DriverModel) → drivers_in (before ++ cell ∷ []) ≡ drivers
        → AreWellFormedDrivers written_verilog well_formed_verilog
        (models_of (driven_modules_of ((before ++ cell ∷ []) ++ after))) (drivers_in (before ++ cell ∷ [])) (drivers_in after)
        → AreWellFormedDrivers written_verilog well_formed_verilog ms drivers (drivers_in after)
    moved drivers e rest =
        subst (λ (l : List DriverModel). AreWellFormedDrivers written_verilog well_formed_verilog ms l (drivers_in after)) e
        (subst (λ (l : List DrivenData). AreWellFormedDrivers written_verilog well_formed_verilog
        (models_of (driven_modules_of l)) (drivers_in (before ++ cell ∷ [])) (drivers_in after))
        (append_assoc before (cell ∷ []) after) rest)

    by :
        (b : Bool) → may_float cell ≡ b
        → AreWellFormedDrivers written_verilog well_formed_verilog
        (models_of (driven_modules_of ((before ++ cell ∷ []) ++ after))) (drivers_in (before ++ cell ∷ [])) (drivers_in after)
        → AreWellFormedDrivers written_verilog well_formed_verilog ms (drivers_in before)
        (driver_in (if b then Some (verilog_driver_of cell) else None) ++ drivers_in after)
    by true e rest = (
      driver_well_formed before cell after h e,
      moved (drivers_in before ++ verilog_driver_of cell ∷ [])
          (drivers_push before cell ∙ ap (λ (b : Bool). drivers_in before
          ++ driver_in (if b then Some (verilog_driver_of cell) else None)) e) rest,
    )
    by false e rest =
        moved (drivers_in before)
        (drivers_push before cell ∙ ap (λ (b : Bool). drivers_in before
        ++ driver_in (if b then Some (verilog_driver_of cell) else None)) e ∙ append-nil (drivers_in before))
        rest

-- all together
pub well-formed-together : DrivenModulesAreWellFormed
well-formed-together cells h =
    let models = core-modules-well-formed cells h in
    let drivers : AreWellFormedDrivers written_verilog well_formed_verilog (models_of (driven_modules_of cells)) []
    (drivers_in cells) = all_well_formed [] cells h in
    record {
      models = models;
      drivers = drivers;
      read_back =
          read_back written_verilog well_formed_verilog pieces (driven_modules_of cells) models drivers;
    }
