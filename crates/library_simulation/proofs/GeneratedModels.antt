-- The models that are generated for the accepted cells of a library are found for these cells, and show what the cells show.
use Rattle.std.proofs.Common.{◌≡◌, ℕ, zero, suc, ◌+◌, ◌-◌, Bool, true, false, cond, if◌then◌else◌, List, [], ◌∷◌, ◌++◌, codes}
use Rattle.std.proofs.Common.{decimal, length, map, bytes_eq, Option, Some, None, refl, sym, ap, subst, ◌∙◌, arith}
use Rattle.std.specs.Prelude.{slice_get, All}
use Rattle.std.specs.List.{IsDistinct, AllByRecursion, position_from}
use Rattle.std.specs.Str.{str_to_ascii_lowercase}
use Rattle.std.specs.Option.{option_map}
use Rattle.std.proofs.lemmas.Bool.{and_from}
use Rattle.std.proofs.lemmas.Iterator.Adapters.{position_from-zero}
use Rattle.std.proofs.lemmas.List.{length-map, take_all}
use Rattle.std.proofs.lemmas.Cmp.{nat_list_eq_equiv as bytes_equivalence}
use Rattle.bool_functions.specs.NameList.{number_of, AreDistinct}
use Rattle.cell_machine.proofs.RuleLemmas.{rules_of}
use Rattle.three_state_cells.specs.DrivenCells.{DrivenData, may_float}
use Rattle.generated_drivers.specs.Generated.{pins_of, verilog_driver_of, vital_driver_of}
use Rattle.generated_drivers.proofs.PortDirections.{verilog_directions, vital_directions}
use Rattle.file_models.specs.declared.file_model.FileModel.{FileModel}
use Rattle.file_models.specs.FileModels.{plain_model}
use Rattle.library_reader.specs.LibraryCells.{CellEntry}
use Rattle.udp_tables.specs.declared.models.VPort.{VPort}
use Rattle.specify_blocks.specs.declared.model.VModule.{VModule}
use Rattle.specify_blocks.specs.Generated.{module_of}
use Rattle.specify_blocks.specs.Names.{module_name, driver_name}
use Rattle.specify_blocks.specs.Ports as ports_in_verilog
use Rattle.specify_blocks.specs.Sound as sound_modules
use Rattle.specify_blocks.proofs.Soundness.{module_is_sound}
use Rattle.vhdl_tokens.specs.Kept.{lowered}
use Rattle.vital_models.specs.declared.model.VEntity.{VEntity}
use Rattle.vital_models.specs.Ports as ports_in_vital
use Rattle.vital_models.specs.Sound as sound_entities
use Rattle.vital_models.proofs.Soundness.{entity_is_sound}
use Rattle.model_traces.specs.ModuleTrace.{module_machine}
use Rattle.model_traces.specs.EntityTrace.{entity_machine}
use Rattle.model_traces.specs.PortNumbers.{output_ports}
use Rattle.model_traces.specs.ModuleFits as fitting_modules
use Rattle.model_traces.proofs.FitLemmas.{fit-length}
use Rattle.model_traces.proofs.ModelAgreement.{generated-modules, generated-entities, models-agree}
use Rattle.stimulus.specs.Differences.{same_fact}
use Rattle.library_simulation.specs.declared.same_ports.Spelling.{Spelling}
use Rattle.library_simulation.specs.declared.same_ports.Spelling.TheVariants.{Exact, AnyCase}
use Rattle.library_simulation.specs.SamePorts.{same_name, same_port, same_ports}
use Rattle.library_simulation.specs.NamedModels.{named_models, module_names, lowered_names, module_ports, entity_ports, has_ports}
use Rattle.library_simulation.specs.NamedModels.{with_ports, verilog_name, verilog_number, vital_number}
use Rattle.library_simulation.specs.Standings.{standing_by, numbers_by}
use Rattle.library_simulation.specs.CellModels.{over_core, cell_model}
use Rattle.library_simulation.specs.Sections.{RunsByPorts}
use Rattle.library_simulation.specs.Generated.{core_entity, core_entity_name, in_verilog, in_vital, modules_of, entities_of}
use Rattle.library_simulation.specs.Generated.{KeepsRules, AcceptedAreReady, OwnModelsShowTheSame}
use Rattle.library_simulation.proofs.OwnModels.{AreModels, nothing_drives, all_run, shows_the_same, placed}

-- The number of a name of which a list has one.

at_place : (P : List ℕ → Type 0) {X : Type 0} (f : X → List ℕ) (xs : List X) (i : ℕ) (x : X) → AllByRecursion P (map f xs)
    → slice_get xs i ≡ Some x → P (f x)
at_place P f [] i x h e = absurd cc
at_place P f (y ∷ xs) zero x h e = let same : y ≡ x = cc in subst (λ z. P (f z)) same h.0
at_place P f (y ∷ xs) (suc i) x h e = at_place P f xs i x h.1 e

placed_from : {X : Type 0} (f : X → List ℕ) (n : ℕ) (xs : List X) (i : ℕ) (x : X) → AreDistinct (map f xs)
    → slice_get xs i ≡ Some x
    → position_from (bytes_eq (f x)) n (map f xs) ≡ Some (n + i)
unfolding IsDistinct
placed_from f n [] i x own e = absurd cc
placed_from f n (y ∷ xs) zero x own e =
    let same : y ≡ x = cc in
    let here : bytes_eq (f x) (f y) ≡ true = ap (λ z. bytes_eq (f x) (f z)) same ∙ bytes_equivalence.refl (f x) in
    let first : n ≡ n + zero = omega arith in
    ap (λ b. cond b (Some n) (position_from (bytes_eq (f x)) (n + 1) (map f xs))) here ∙ ap Some first
placed_from f n (y ∷ xs) (suc i) x own e =
    let other : bytes_eq (f x) (f y) ≡ false = bytes_equivalence.symm (f x) (f y)
    ∙ at_place (λ z. bytes_eq (f y) z ≡ false) f xs i x own.0 e in
    let later : (n + 1) + i ≡ n + suc i = omega arith in
    ap (λ b. cond b (Some n) (position_from (bytes_eq (f x)) (n + 1) (map f xs))) other ∙ placed_from f (n + 1) xs i x own.1 e
    ∙ ap Some later

pub own_number : {X : Type 0} (f : X → List ℕ) (xs : List X) (i : ℕ) (x : X) → AreDistinct (map f xs) → slice_get xs i ≡ Some x
    → number_of (map f xs) (f x) ≡ Some i
own_number f xs i x own e = position_from-zero (bytes_eq (f x)) (map f xs) ∙ placed_from f 0 xs i x own e
    ∙ ap Some (let z : 0 + i ≡ i = omega arith in z)

-- Ports are the same as themselves.

same_fact-self : (a : Bool) → same_fact a a ≡ true
same_fact-self true = refl
same_fact-self false = refl

name_self : (spelling : Spelling) (name : List ℕ) → same_name spelling name name ≡ true
name_self Exact name = bytes_equivalence.refl name
name_self AnyCase name = bytes_equivalence.refl (str_to_ascii_lowercase name)

ports_self : (spelling : Spelling) (ports : List VPort) → same_ports spelling ports ports ≡ true
ports_self spelling [] = refl
ports_self spelling (port ∷ ports) =
    and_from (same_port spelling port port) (same_ports spelling ports ports)
    (and_from (same_name spelling port.name port.name) (same_fact port.input port.input) (name_self spelling port.name)
    (same_fact-self port.input))
    (ports_self spelling ports)

counts : (spelling : Spelling) (ports : List VPort) (ports_at : ℕ → Option (List VPort)) (found : Option ℕ) (number : ℕ)
    → found ≡ Some number → ports_at number ≡ Some ports → with_ports spelling ports ports_at found ≡ Some number
counts spelling ports ports_at found number e there =
    ap (with_ports spelling ports ports_at) e
    ∙ ap (λ b. if b then Some number else None) (ap (has_ports spelling ports) there ∙ ports_self spelling ports)

-- The models in each language.

pub verilog_models : AreModels in_verilog sound_modules.IsSound module_machine
unfolding verilog_driver_of
verilog_models = record {
  sound = λ cell entity keeps. module_is_sound cell.core
      (rules_of cell.core.name cell.core.pins cell.core.groups cell.core.outputs cell.core.checks cell.core.arcs keeps.core);
  inputs = λ cell entity keeps. (generated-modules cell.core keeps.core).inputs;
  outputs = λ cell entity keeps.
      fit-length (fitting_modules.FitsOutput cell.core (module_of cell.core)) cell.core.outputs
      (output_ports (ports_in_verilog.ports_of cell.core.pins))
      (generated-modules cell.core keeps.core).outputs;
  traces = λ cell entity cs keeps proper. ((models-agree cell.core entity keeps.core).traces cs proper).0;
  core_ports = λ cell entity. verilog_directions 1 cell.core.pins;
  driver_ports = λ cell entity. verilog_directions 1 (pins_of cell);
  driver = λ cell entity. refl;
}

pub vital_models : AreModels in_vital sound_entities.IsSound entity_machine
unfolding vital_driver_of
vital_models = record {
  sound = λ cell entity keeps.
      entity_is_sound cell.core (core_entity_name cell entity)
      (rules_of cell.core.name cell.core.pins cell.core.groups cell.core.outputs cell.core.checks cell.core.arcs keeps.core);
  inputs = λ cell entity keeps. (generated-entities cell.core (core_entity_name cell entity) keeps.core).inputs;
  outputs = λ cell entity keeps. length-map cell.core.outputs _;
  traces = λ cell entity cs keeps proper. ((models-agree cell.core (core_entity_name cell entity) keeps.core).traces cs proper).1;
  core_ports = λ cell entity. vital_directions (core_entity_name cell entity) cell.core.pins;
  driver_ports = λ cell entity. vital_directions entity (pins_of cell);
  driver = λ cell entity. refl;
}

-- all of them can be run
pub modules_run : (cells : List CellEntry) → All KeepsRules cells
    → All (RunsByPorts sound_modules.IsSound module_machine) (modules_of cells)
modules_run = all_run in_verilog sound_modules.IsSound module_machine verilog_models

pub entities_run : (cells : List CellEntry) → All KeepsRules cells
    → All (RunsByPorts sound_entities.IsSound entity_machine) (entities_of cells)
entities_run = all_run in_vital sound_entities.IsSound entity_machine vital_models

-- those that stand for a cell show what the cell shows
pub own_models_show_the_same : OwnModelsShowTheSame
own_models_show_the_same cell entity cs keeps proper = record {
  verilog = shows_the_same in_verilog sound_modules.IsSound module_machine verilog_models cell entity cs keeps proper;
  vital = shows_the_same in_vital sound_entities.IsSound entity_machine vital_models cell entity cs keeps proper;
}

-- The names and the ports of the models that stand for a cell.

all_pins : (cell : DrivenData) → may_float cell ≡ false → pins_of cell ≡ cell.core.pins
all_pins cell e =
    let none : length cell.driver.drives ≡ 0 = ap (λ (drives : List ℕ). length drives) (nothing_drives cell e) in
    take_all (length cell.core.pins - length cell.driver.drives) cell.core.pins (omega (arith, none))

verilog_named : (cell : DrivenData) (entity : List ℕ) → (cell_model in_verilog cell entity).name ≡ verilog_name cell
unfolding verilog_driver_of
verilog_named cell entity =
    elim (may_float cell) as (λ b. (if b then over_core in_verilog cell entity
    else plain_model in_verilog.as_core (module_of cell.core)).name ≡ (if b then driver_name cell.core.number cell.name
    else module_name cell.core.number cell.core.name)) [
      | true ↦ refl
      | false ↦ refl
    ]

verilog_ported : (cell : DrivenData) (entity : List ℕ)
    → (cell_model in_verilog cell entity).ports ≡ ports_in_verilog.ports_of (pins_of cell)
unfolding verilog_driver_of
verilog_ported cell entity = by (may_float cell) refl
  where
    by : (b : Bool) → may_float cell ≡ b
        → (if b then over_core in_verilog cell entity
        else plain_model in_verilog.as_core (module_of cell.core)).ports ≡ ports_in_verilog.ports_of (pins_of cell)
    by true e = refl
    by false e = ap ports_in_verilog.ports_of (sym (all_pins cell e))

core_named : (cell : DrivenData) (entity : List ℕ) → may_float cell ≡ false → core_entity_name cell entity ≡ entity
core_named cell entity e = ap (λ (b : Bool). if b then codes "cell" ++ decimal cell.core.number else entity) e

vital_named : (cell : DrivenData) (entity : List ℕ) → (cell_model in_vital cell entity).name ≡ entity
unfolding vital_driver_of
vital_named cell entity = by (may_float cell) refl
  where
    by : (b : Bool) → may_float cell ≡ b
        → (if b then over_core in_vital cell entity else plain_model in_vital.as_core (core_entity cell entity)).name ≡ entity
    by true e = refl
    by false e = core_named cell entity e

vital_ported : (cell : DrivenData) (entity : List ℕ)
    → (cell_model in_vital cell entity).ports ≡ ports_in_vital.ports_of entity (pins_of cell)
unfolding vital_driver_of
vital_ported cell entity = by (may_float cell) refl
  where
    by : (b : Bool) → may_float cell ≡ b
        → (if b then over_core in_vital cell entity
        else plain_model in_vital.as_core (core_entity cell entity)).ports ≡ ports_in_vital.ports_of entity (pins_of cell)
    by true e = refl
    by false e =
        ap (λ name. ports_in_vital.ports_of name cell.core.pins) (core_named cell entity e)
        ∙ ap (ports_in_vital.ports_of entity) (sym (all_pins cell e))

-- So they are found.

pub accepted_are_ready : AcceptedAreReady
unfolding verilog_number vital_number
accepted_are_ready cells number cell entity own there =
    let verilog = placed in_verilog sound_modules.IsSound module_machine verilog_models cells number cell entity there in
    let vital = placed in_vital sound_entities.IsSound entity_machine vital_models cells number cell entity there in
    let models = named_models (modules_of cells) (entities_of cells) in
    let module_is : verilog_number models cell ≡ Some verilog.place =
    counts Exact (ports_in_verilog.ports_of (pins_of cell)) (module_ports (modules_of cells))
    (number_of (module_names (modules_of cells)) (verilog_name cell)) verilog.place
    (ap (number_of (module_names (modules_of cells))) (sym (verilog_named cell entity))
    ∙ own_number (λ (f : FileModel VModule). f.name) (modules_of cells) verilog.place (cell_model in_verilog cell entity)
    own.modules verilog.there)
    (ap (option_map (λ (f : FileModel VModule). f.ports)) verilog.there ∙ ap Some (verilog_ported cell entity)) in
    let entity_is : vital_number models entity cell ≡ Some vital.place =
    counts AnyCase (ports_in_vital.ports_of entity (pins_of cell)) (entity_ports (entities_of cells))
    (number_of (lowered_names (entities_of cells)) (lowered entity)) vital.place
    (ap (λ name. number_of (lowered_names (entities_of cells)) (lowered name)) (sym (vital_named cell entity))
    ∙ own_number (λ (f : FileModel VEntity). lowered f.name) (entities_of cells) vital.place (cell_model in_vital cell entity)
    own.entities vital.there)
    (ap (option_map (λ (f : FileModel VEntity). f.ports)) vital.there ∙ ap Some (vital_ported cell entity)) in
    record {
      numbers = record { verilog = verilog.place; vital = vital.place };
      ready = λ i. standing_by (module_is i) (entity_is i);
      are = λ i. numbers_by (module_is i) (entity_is i);
      own_module = verilog.there;
      own_entity = vital.there;
    }
