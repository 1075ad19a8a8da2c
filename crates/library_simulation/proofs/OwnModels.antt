-- The models of cells in a language: they can be run, they drive what drives the cell, and they show what the cell shows.
use Rattle.std.proofs.Common.{◌≡◌, ℕ, zero, suc, ◌+◌, ◌<◌, Bool, true, false, if◌then◌else◌, List, [], ◌∷◌, ◌++◌, length, map}
use Rattle.std.proofs.Common.{refl, sym, ap, subst, ◌∙◌, arith, Some}
use Rattle.std.specs.Prelude.{slice_get, nat_lt, All}
use Rattle.std.proofs.lemmas.Bool.{ltb-false}
use Rattle.std.proofs.lemmas.List.Elements.{All-cons, All-nil}
use Rattle.cell_machine.specs.declared.changes.Change.{Change}
use Rattle.cell_machine.specs.CellTrace.{inputs_of, cell_line, cell_machine_of}
use Rattle.cell_machine.specs.History.{IsProperFrom}
use Rattle.cell_machine.specs.Inputs.{is_input_at}
use Rattle.cell_machine.specs.Lines.{Machine, trace}
use Rattle.driven_traces.specs.declared.drivers.Driver.{Driver}
use Rattle.driven_traces.specs.declared.delays.DrivePath.{DrivePath}
use Rattle.driven_traces.specs.Drivers as drivers_of
use Rattle.driven_traces.specs.Drivers.{plain, IsPathOf, IsCoreOf}
use Rattle.driven_traces.proofs.DrivenTraces.{equal_cores_drive_equally}
use Rattle.driver_models.specs.Models.{input_count, output_count, directions}
use Rattle.three_state_cells.specs.DrivenCells.{DrivenData, may_float}
use Rattle.three_state_cells.specs.Timing.{is_output_at}
use Rattle.three_state_cells.proofs.CoreDrivers.{flags_count, outputs_counted as core_outputs_counted}
use Rattle.generated_drivers.specs.Generated.{pins_of}
use Rattle.generated_drivers.specs.Laws.{FitsCore}
use Rattle.generated_drivers.proofs.PortDirections.{port_directions, inputs_counted, outputs_counted}
use Rattle.generated_drivers.proofs.Fitting.{fits}
use Rattle.file_models.specs.declared.file_model.FileModel.{FileModel}
use Rattle.file_models.specs.FileModels.{machine_by, plain_model}
use Rattle.stimulus.specs.DriveLines.{lines_along}
use Rattle.library_reader.specs.LibraryCells.{CellEntry, Accepted, Refused}
use Rattle.library_simulation.specs.CellModels.{CellModels, cores, over_core, cell_drivers, drivers, all_models, cell_model}
use Rattle.library_simulation.specs.Comparisons.{cell_machine}
use Rattle.library_simulation.specs.Sections.{RunsByPorts}
use Rattle.library_simulation.specs.Generated.{KeepsCellRules, KeepsRules}
use Rattle.model_replay.proofs.PortCounts.{length-input_names, length-output_names}
use Rattle.library_simulation.proofs.PortCounts.{outputs_keep}

-- Where outputs may not float, nothing is driven.

none_driven : (drives : List ℕ) → nat_lt 0 (length drives) ≡ false → drives ≡ []
none_driven [] e = refl
none_driven (place ∷ drives) e = absurd (let none = ltb-false 0 (length (place ∷ drives)) e in omega (arith, none))

no_paths : (driver : Driver) (paths : List DrivePath) → driver.drives ≡ [] → All (IsPathOf driver) paths → paths ≡ []
no_paths driver [] e all = refl
no_paths driver (path ∷ paths) e all =
    let below : path.drive < 0 = subst (λ (some : List ℕ). path.drive < length some) e (all 0 path (omega arith)).drive in
    absurd (omega (arith, below))

pub nothing_drives : (cell : DrivenData) → may_float cell ≡ false → cell.driver.drives ≡ []
nothing_drives cell e = none_driven cell.driver.drives e

pub plain_driver : (cell : DrivenData) → KeepsCellRules cell → may_float cell ≡ false
    → cell.driver ≡ plain cell.driver.inputs cell.driver.outputs
plain_driver cell keeps e =
    let none = nothing_drives cell e in
    let pathless = no_paths cell.driver cell.driver.paths none keeps.driver.sound.paths in
    λ i. record { inputs = cell.driver.inputs; outputs = cell.driver.outputs; drives = none i; paths = pathless i }

-- a driver that drives nothing is sound
plain_is_sound : (inputs outputs : ℕ) → drivers_of.IsSound (plain inputs outputs)
plain_is_sound inputs outputs = record { ascending = refl; outputs = All-nil _; paths = All-nil _ }

-- What holds of the models of cells in a language, by what is asked of a model and what runs of it.
pub record AreModels {M : Type 0} (l : CellModels M) (is_sound : M → Type 0) (machine : M → Machine) : Type 0 where
  pub sound : (cell : DrivenData) (entity : List ℕ) → KeepsCellRules cell → is_sound (l.core cell entity)
  pub inputs : (cell : DrivenData) (entity : List ℕ) → KeepsCellRules cell
      → (machine (l.core cell entity)).inputs ≡ inputs_of cell.core
  pub outputs : (cell : DrivenData) (entity : List ℕ) → KeepsCellRules cell
      → (machine (l.core cell entity)).outputs ≡ length cell.core.outputs
  pub traces :
      (cell : DrivenData) (entity : List ℕ) (cs : List Change) → KeepsCellRules cell → IsProperFrom (inputs_of cell.core) [] cs
      → trace (machine (l.core cell entity)).line cs ≡ trace (cell_line cell.core) cs
  pub core_ports : (cell : DrivenData) (entity : List ℕ)
      → directions (l.as_core (l.core cell entity)).ports ≡ port_directions cell.core.pins
  pub driver_ports : (cell : DrivenData) (entity : List ℕ)
      → directions (l.driver cell entity).ports ≡ port_directions (pins_of cell)
  pub driver : (cell : DrivenData) (entity : List ℕ) → (l.driver cell entity).driver ≡ cell.driver

module _ {M : Type 0} (l : CellModels M) (is_sound : M → Type 0) (machine : M
    → Machine) (are : AreModels l is_sound machine) where
  -- the ports of a core tell its machine's inputs and outputs
  record HasCounts (cell : DrivenData) (entity : List ℕ) : Type 0 where
    of_inputs : input_count (l.as_core (l.core cell entity)).ports ≡ inputs_of cell.core
    of_outputs : output_count (l.as_core (l.core cell entity)).ports ≡ length cell.core.outputs

  core_counts : (cell : DrivenData) (entity : List ℕ) → KeepsCellRules cell → HasCounts cell entity
  core_counts cell entity keeps =
      let ports = (l.as_core (l.core cell entity)).ports in
      let same = are.core_ports cell entity in
      record {
        of_inputs = inputs_counted ports cell.core.pins same ∙ flags_count is_input_at cell.core.pins;
        of_outputs = outputs_counted ports cell.core.pins same ∙ flags_count is_output_at cell.core.pins
            ∙ sym (core_outputs_counted cell.core (outputs_keep cell keeps));
      }

  fits_core : (cell : DrivenData) (entity : List ℕ) → KeepsCellRules cell
      → FitsCore (l.driver cell entity) (l.as_core (l.core cell entity)).ports
  fits_core cell entity keeps =
      fits cell.core cell.driver (outputs_keep cell keeps) keeps.driver (l.driver cell entity)
      (l.as_core (l.core cell entity)).ports (are.driver cell entity)
      (are.driver_ports cell entity) (are.core_ports cell entity)

  -- the model of a core can be run by itself
  pub plain_runs : (cell : DrivenData) (entity : List ℕ) → KeepsCellRules cell
      → RunsByPorts is_sound machine (plain_model l.as_core (l.core cell entity))
  plain_runs cell entity keeps =
      let ports = (l.as_core (l.core cell entity)).ports in
      let counts = core_counts cell entity keeps in
      let more : length cell.core.outputs ≡ length cell.core.outputs + 0 = omega arith in
      record {
        runs = record {
          core = are.sound cell entity keeps;
          driver = plain_is_sound (input_count ports) (output_count ports);
          is_core = record {
            inputs = are.inputs cell entity keeps ∙ sym counts.of_inputs;
            outputs = are.outputs cell entity keeps ∙ more ∙ ap (λ n. n + 0) (sym counts.of_outputs);
          };
        };
        inputs = length-input_names ports;
        outputs = length-output_names ports;
      }

  -- a core behind the drivers of the cell
  core_of : (cell : DrivenData) (entity : List ℕ) → KeepsCellRules cell → IsCoreOf cell.driver (machine (l.core cell entity))
  core_of cell entity keeps = record {
    inputs = are.inputs cell entity keeps ∙ keeps.driver.is_core.inputs;
    outputs = are.outputs cell entity keeps ∙ keeps.driver.is_core.outputs;
  }

  -- the drivers over the model of a core can be run
  pub driven_runs : (cell : DrivenData) (entity : List ℕ) → KeepsCellRules cell
      → RunsByPorts is_sound machine (over_core l cell entity)
  driven_runs cell entity keeps =
      let d = l.driver cell entity in
      let sound = (fits_core cell entity keeps).sound in
      record {
        runs = record {
          core = are.sound cell entity keeps;
          driver = sound.driver;
          is_core = subst (λ (some : Driver). IsCoreOf some (machine (l.core cell entity))) (sym (are.driver cell entity))
              (core_of cell entity keeps);
        };
        inputs = length-input_names d.ports ∙ sym sound.inputs;
        outputs = length-output_names d.ports ∙ sym sound.outputs;
      }

  -- All models of cells can be run.

  first_keeps : (c : CellEntry) (cells : List CellEntry) → All KeepsRules (c ∷ cells) → KeepsRules c
  first_keeps c cells keep = keep 0 c (omega arith)

  others_keep : (c : CellEntry) (cells : List CellEntry) → All KeepsRules (c ∷ cells) → All KeepsRules cells
  others_keep c cells keep = λ k d below. keep (suc k) d (omega (arith, below))

  plain_models_run : (cells : List CellEntry) → All KeepsRules cells
      → All (RunsByPorts is_sound machine) (map (plain_model l.as_core) (cores l cells))
  plain_models_run [] keep = All-nil (RunsByPorts is_sound machine)
  plain_models_run (Accepted cell entity ∷ cells) keep =
      All-cons (RunsByPorts is_sound machine) (plain_model l.as_core (l.core cell entity))
      (map (plain_model l.as_core) (cores l cells))
      (plain_runs cell entity (first_keeps (Accepted cell entity) cells keep))
      (plain_models_run cells (others_keep (Accepted cell entity) cells keep))
  plain_models_run (Refused name refusal ∷ cells) keep = plain_models_run cells (others_keep (Refused name refusal) cells keep)

  drivers_run : (cells : List CellEntry) → All KeepsRules cells → All (RunsByPorts is_sound machine) (drivers l cells)
  drivers_run [] keep = All-nil (RunsByPorts is_sound machine)
  drivers_run (Accepted cell entity ∷ cells) keep =
      let rest = drivers_run cells (others_keep (Accepted cell entity) cells keep) in
      elim (may_float cell) as (λ b. All (RunsByPorts is_sound machine)
      ((if b then over_core l cell entity ∷ [] else []) ++ drivers l cells)) [
        | true ↦ All-cons (RunsByPorts is_sound machine) (over_core l cell entity) (drivers l cells)
            (driven_runs cell entity (first_keeps (Accepted cell entity) cells keep)) rest
        | false ↦ rest
      ]
  drivers_run (Refused name refusal ∷ cells) keep = drivers_run cells (others_keep (Refused name refusal) cells keep)

  both_run : (some others : List (FileModel M)) → All (RunsByPorts is_sound machine) some
      → All (RunsByPorts is_sound machine) others → All (RunsByPorts is_sound machine) (some ++ others)
  both_run [] others h g = g
  both_run (f ∷ some) others h g =
      All-cons (RunsByPorts is_sound machine) f (some ++ others) (h 0 f (omega arith))
      (both_run some others (λ k d below. h (suc k) d (omega (arith, below))) g)

  pub all_run : (cells : List CellEntry) → All KeepsRules cells → All (RunsByPorts is_sound machine) (all_models l cells)
  all_run cells keep = both_run (map (plain_model l.as_core) (cores l cells)) (drivers l cells) (plain_models_run cells keep)
      (drivers_run cells keep)

  -- The model that stands for a cell drives what drives the cell, over the model of the cell's core.

  plain_counts : (cell : DrivenData) (entity : List ℕ) → KeepsCellRules cell → may_float cell ≡ false
      → (plain_model l.as_core (l.core cell entity)).driver ≡ cell.driver
  plain_counts cell entity keeps e =
      let counts = core_counts cell entity keeps in
      let none : length cell.driver.drives ≡ 0 = ap (λ (drives : List ℕ). length drives) (nothing_drives cell e) in
      let whole = keeps.driver.is_core.outputs in
      let same_inputs = counts.of_inputs ∙ keeps.driver.is_core.inputs in
      let same_outputs : output_count (l.as_core (l.core cell entity)).ports ≡ cell.driver.outputs =
      counts.of_outputs ∙ omega (arith, whole, none) in
      (λ i. plain (same_inputs i) (same_outputs i)) ∙ sym (plain_driver cell keeps e)

  model_driver : (cell : DrivenData) (entity : List ℕ) → KeepsCellRules cell → (cell_model l cell entity).driver ≡ cell.driver
  model_driver cell entity keeps = by (may_float cell) refl
    where
      by : (b : Bool) → may_float cell ≡ b
          → (if b then over_core l cell entity else plain_model l.as_core (l.core cell entity)).driver ≡ cell.driver
      by true e = are.driver cell entity
      by false e = plain_counts cell entity keeps e

  model_core : (cell : DrivenData) (entity : List ℕ) → (cell_model l cell entity).core ≡ l.core cell entity
  model_core cell entity =
      elim (may_float cell) as (λ b. (if b then over_core l cell entity
      else plain_model l.as_core (l.core cell entity)).core ≡ l.core cell entity) [
        | true ↦ refl
        | false ↦ refl
      ]

  -- so it shows what the cell shows
  pub shows_the_same :
      (cell : DrivenData) (entity : List ℕ) (cs : List Change) → KeepsCellRules cell → IsProperFrom cell.driver.inputs [] cs
      → lines_along (machine_by machine (cell_model l cell entity)).line cs ≡ lines_along (cell_machine cell).line cs
  shows_the_same cell entity cs keeps proper =
      let of_core : IsProperFrom (inputs_of cell.core) [] cs =
      subst (λ n. IsProperFrom n [] cs) (sym keeps.driver.is_core.inputs) proper in
      let same = are.traces cell entity cs keeps of_core in
      let driver = model_driver cell entity keeps in
      let core = model_core cell entity in
      (λ i. lines_along (machine_by machine
      (record {
        name = (cell_model l cell entity).name;
        ports = (cell_model l cell entity).ports;
        core = core i;
        driver =
            driver i;
      })).line cs)
      ∙ equal_cores_drive_equally cell.driver (machine (l.core cell entity)) (cell_machine_of cell.core) cs same

  -- The model that stands for a cell has a place among all.

  get_front : {X : Type 0} (xs ys : List X) (i : ℕ) (x : X) → slice_get xs i ≡ Some x → slice_get (xs ++ ys) i ≡ Some x
  get_front [] ys i x e = absurd cc
  get_front (y ∷ xs) ys zero x e = e
  get_front (y ∷ xs) ys (suc i) x e = get_front xs ys i x e

  get_behind : {X : Type 0} (xs ys : List X) (i : ℕ) → slice_get (xs ++ ys) (length xs + i) ≡ slice_get ys i
  get_behind [] ys i = ap (slice_get ys) (let z : 0 + i ≡ i = omega arith in z)
  get_behind (x ∷ xs) ys i =
      ap (slice_get (x ∷ (xs ++ ys))) (let s : length (x ∷ xs) + i ≡ suc (length xs + i) = omega arith in s) ∙ get_behind xs ys i

  get_image : {X Y : Type 0} (f : X → Y) (xs : List X) (i : ℕ) (x : X) → slice_get xs i ≡ Some x
      → slice_get (map f xs) i ≡ Some (f x)
  get_image f [] i x e = absurd cc
  get_image f (y ∷ xs) zero x e = let same : y ≡ x = cc in ap (λ z. Some (f z)) same
  get_image f (y ∷ xs) (suc i) x e = get_image f xs i x e

  record IsAt {X : Type 0} (xs : List X) (x : X) : Type 0 where
    place : ℕ
    there : slice_get xs place ≡ Some x

  core_at : (cells : List CellEntry) (number : ℕ) (cell : DrivenData) (entity : List ℕ)
      → slice_get cells number ≡ Some (Accepted cell entity)
      → IsAt (cores l cells) (l.core cell entity)
  core_at [] number cell entity e = absurd cc
  core_at (c ∷ cells) zero cell entity e =
      let same : c ≡ Accepted cell entity = cc in
      subst (λ (one : CellEntry). IsAt (cores l (one ∷ cells)) (l.core cell entity)) (sym same)
      (record { place = 0; there = refl })
  core_at (Accepted other name ∷ cells) (suc number) cell entity e =
      let more = core_at cells number cell entity e in
      record { place = suc more.place; there = more.there }
  core_at (Refused name refusal ∷ cells) (suc number) cell entity e = core_at cells number cell entity e

  driver_at : (cells : List CellEntry) (number : ℕ) (cell : DrivenData) (entity : List ℕ) → may_float cell ≡ true
      → slice_get cells number ≡ Some (Accepted cell entity)
      → IsAt (drivers l cells) (over_core l cell entity)
  driver_at [] number cell entity floats e = absurd cc
  driver_at (c ∷ cells) zero cell entity floats e =
      let same : c ≡ Accepted cell entity = cc in
      subst (λ (one : CellEntry). IsAt (drivers l (one ∷ cells)) (over_core l cell entity)) (sym same)
      (record {
        place = 0;
        there = ap (λ b. slice_get ((if b then over_core l cell entity ∷ [] else []) ++ drivers l cells) 0)
            floats;
      })
  driver_at (Accepted other name ∷ cells) (suc number) cell entity floats e =
      let more = driver_at cells number cell entity floats e in
      record {
        place = length (cell_drivers l other name) + more.place;
        there = get_behind (cell_drivers l other name) (drivers l cells) more.place ∙ more.there;
      }
  driver_at (Refused name refusal ∷ cells) (suc number) cell entity floats e = driver_at cells number cell entity floats e

  -- where the model that stands for a cell is
  pub record IsPlaced (cells : List CellEntry) (f : FileModel M) : Type 0 where
    pub place : ℕ
    pub there : slice_get (all_models l cells) place ≡ Some f

  pub placed : (cells : List CellEntry) (number : ℕ) (cell : DrivenData) (entity : List ℕ)
      → slice_get cells number ≡ Some (Accepted cell entity)
      → IsPlaced cells (cell_model l cell entity)
  placed cells number cell entity e = by (may_float cell) refl
    where
      plains : List (FileModel M)
      plains = map (plain_model l.as_core) (cores l cells)

      by : (b : Bool) → may_float cell ≡ b
          → IsPlaced cells (if b then over_core l cell entity else plain_model l.as_core (l.core cell entity))
      by true floats =
          let behind = driver_at cells number cell entity floats e in
          record { place = length plains + behind.place; there = get_behind plains (drivers l cells) behind.place ∙ behind.there }
      by false floats =
          let core = core_at cells number cell entity e in
          record {
            place = core.place;
            there = get_front plains (drivers l cells) core.place (plain_model l.as_core (l.core cell entity))
                (get_image (plain_model l.as_core) (cores l cells) core.place (l.core cell entity) core.there);
          }
