-- Beside the models that are generated for a library's cells a simulation ends neither for want of a model nor with traces that
-- differ.
use Rattle.std.proofs.Common.{◌≡◌, ℕ, zero, suc, Bool, true, false, if◌then◌else◌, List, [], ◌∷◌, length, map, nat_lt, position}
use Rattle.std.proofs.Common.{bytes_eq, Option, Some, None, Result, Ok, Err, refl, sym, ap, subst, ◌∙◌}
use Rattle.std.specs.Prelude.{◌≢◌, slice_get, All}
use Rattle.std.specs.Option.{option_map}
use Rattle.std.proofs.lemmas.List.{length-map}
use Rattle.file_models.specs.declared.file_model.FileModel.{FileModel}
use Rattle.library_reader.specs.LibraryCells.{CellEntry, Accepted, Refused, name_of, cell_names}
use Rattle.specify_blocks.specs.declared.model.VModule.{VModule}
use Rattle.vital_models.specs.declared.model.VEntity.{VEntity}
use Rattle.stimulus.specs.declared.catalog.CellFound.{CellFound}
use Rattle.stimulus.specs.declared.catalog.CellFound.TheVariants as found
use Rattle.stimulus.specs.declared.faults.Cause.{Cause}
use Rattle.stimulus.specs.declared.faults.Cause.TheVariants as cause
use Rattle.stimulus.specs.declared.faults.StimulusFault.{StimulusFault}
use Rattle.stimulus.specs.declared.faults.StimulusFault.TheVariants as fault
use Rattle.stimulus.specs.declared.ports.Ports.{Ports}
use Rattle.stimulus.specs.declared.ports.Standing.{Standing}
use Rattle.stimulus.specs.declared.ports.Standing.TheVariants as standing
use Rattle.stimulus.specs.declared.sections.Section.{Section}
use Rattle.stimulus.specs.Catalog.{Listing, cell_answer, cell_found}
use Rattle.stimulus.specs.Laws.{NamesAnAnswer}
use Rattle.stimulus.specs.PortEntries.{listed, entry_of_cell}
use Rattle.stimulus.specs.Stimulus.{stimulus_of}
use Rattle.stimulus.proofs.BadLines.{causes_name_answers}
use Rattle.stimulus.proofs.Entries.{no_cell, some_cell}
use Rattle.run_outcome.specs.declared.status.Status.TheVariants as status
use Rattle.run_outcome.specs.FileSteps.{FileStop, answer_where}
use Rattle.model_files.specs.Limits.{stimulus_limit}
use Rattle.model_files.specs.StimulusAnswer.{long_stimulus_stop, stimulus_fault_stop, sections_or_stop, sections_in_text}
use Rattle.library_simulation.specs.NamedModels.{NamedModels, named_models}
use Rattle.library_simulation.specs.Catalog.{ports_in, cells_named}
use Rattle.library_simulation.specs.FaultLines.{cause_status, cause_stop}
use Rattle.library_simulation.specs.Generated.{modules_of, entities_of, KeepsRules, HaveOwnModels, EndsEqual, NeverModelOrDiffer}
use Rattle.library_simulation.proofs.GeneratedModels.{accepted_are_ready}
use Rattle.library_simulation.proofs.EqualTraces.{sections_equal, no_section_differs}

-- The catalog of a library beside its own models.

-- a cell that stands so does not want for a model
abbrev IsSupplied : Standing → Type 0
IsSupplied how = (how ≡ standing.VerilogPorts → ⊥) × (how ≡ standing.VitalPorts → ⊥)

-- an answer that does not tell that the cell with this number wants for a model
abbrev IsFine : ℕ → CellFound → Type 0
IsFine number answer = (answer ≡ found.VerilogPorts number → ⊥) × (answer ≡ found.VitalPorts number → ⊥)

supplied : (cells : List CellEntry) (number : ℕ) (c : CellEntry) → HaveOwnModels cells → slice_get cells number ≡ Some c
    → IsSupplied (ports_in (named_models (modules_of cells) (entities_of cells)) c).standing
supplied cells number (Accepted cell entity) own there =
    let h = accepted_are_ready cells number cell entity own there in
    (λ e. let clash = sym h.ready ∙ e in absurd cc, λ e. let clash = sym h.ready ∙ e in absurd cc)
supplied cells number (Refused name refusal) own there = (λ e. absurd cc, λ e. absurd cc)

answered : (number : ℕ) (how : Standing) → IsSupplied how → (n : ℕ) → IsFine n (cell_answer (Some (entry_of_cell number how)))
answered number standing.Ready h n = (λ e. absurd cc, λ e. absurd cc)
answered number standing.Refused h n = (λ e. absurd cc, λ e. absurd cc)
answered number standing.VerilogPorts h n = absurd (h.0 refl)
answered number standing.VitalPorts h n = absurd (h.1 refl)

answered_at : (models : NamedModels) (all : List CellEntry) (place at number : ℕ)
    → ((c : CellEntry) → slice_get all place ≡ Some c → IsSupplied (ports_in models c).standing)
    → IsFine number (cell_answer (option_map (λ (one : Ports). entry_of_cell at one.standing)
    (slice_get (map (ports_in models) all) place)))
answered_at models [] place at number h = (λ e. absurd cc, λ e. absurd cc)
answered_at models (c ∷ all) zero at number h = answered at (ports_in models c).standing (h c refl) number
answered_at models (c ∷ all) (suc place) at number h = answered_at models all place at number h

-- no answer of the catalog tells so
all_supplied : (cells : List CellEntry) → HaveOwnModels cells → (name : List ℕ) (number : ℕ)
    → IsFine number (cell_found (listed (cells_named cells (modules_of cells) (entities_of cells))) name)
all_supplied cells own name number = by (position (bytes_eq name) (cell_names cells)) refl
  where
    models : NamedModels
    models = named_models (modules_of cells) (entities_of cells)

    same_length : length (cell_names cells) ≡ length (map (ports_in models) cells)
    same_length = length-map cells name_of ∙ sym (length-map cells (ports_in models))

    by : (place : Option ℕ) → position (bytes_eq name) (cell_names cells) ≡ place
        → IsFine number (cell_found (listed (cells_named cells (modules_of cells) (entities_of cells))) name)
    by None e =
        subst (IsFine number) (sym (ap cell_answer (no_cell name (cell_names cells) (map (ports_in models) cells) e)))
        (λ f. absurd cc, λ f. absurd cc)
    by (Some at) e =
        subst (IsFine number) (sym (ap cell_answer
        (some_cell name (cell_names cells) (map (ports_in models) cells) at same_length e)))
        (answered_at models cells at at number (λ c there. supplied cells at c own there))

-- The cause of a bad line.

not_model : (listing : Listing) (why : Cause) → ((name : List ℕ) (number : ℕ) → IsFine number (cell_found listing name))
    → NamesAnAnswer listing why
    → cause_status why ≡ status.Model → ⊥
not_model listing cause.Form fine names e = absurd cc
not_model listing cause.UnknownCell fine names e = absurd cc
not_model listing (cause.RefusedCell number) fine names e = absurd cc
not_model listing (cause.VerilogPorts number) fine names e = (fine names.0 number).0 names.1
not_model listing (cause.VitalPorts number) fine names e = (fine names.0 number).1 names.1
not_model listing cause.Count fine names e = absurd cc
not_model listing cause.UnknownPin fine names e = absurd cc
not_model listing cause.OutputPin fine names e = absurd cc
not_model listing cause.Value fine names e = absurd cc
not_model listing cause.Time fine names e = absurd cc

-- a bad line ends a run neither by traces that differ nor as done
pub bad_line_stops : (why : Cause) → (cause_status why ≢ status.Differ) × (cause_status why ≢ status.Done)
bad_line_stops cause.Form = (λ e. absurd cc, λ e. absurd cc)
bad_line_stops cause.UnknownCell = (λ e. absurd cc, λ e. absurd cc)
bad_line_stops (cause.RefusedCell number) = (λ e. absurd cc, λ e. absurd cc)
bad_line_stops (cause.VerilogPorts number) = (λ e. absurd cc, λ e. absurd cc)
bad_line_stops (cause.VitalPorts number) = (λ e. absurd cc, λ e. absurd cc)
bad_line_stops cause.Count = (λ e. absurd cc, λ e. absurd cc)
bad_line_stops cause.UnknownPin = (λ e. absurd cc, λ e. absurd cc)
bad_line_stops cause.OutputPin = (λ e. absurd cc, λ e. absurd cc)
bad_line_stops cause.Value = (λ e. absurd cc, λ e. absurd cc)
bad_line_stops cause.Time = (λ e. absurd cc, λ e. absurd cc)

-- a run that is stopped, neither for want of a model nor by traces that differ
stopped_fine : (cells : List CellEntry) (modules : List (FileModel VModule)) (entities : List (FileModel VEntity))
    (stop : FileStop) → (stop.status ≡ status.Model → ⊥) → (stop.status ≡ status.Differ → ⊥)
    → EndsEqual cells modules entities (Err stop)
stopped_fine cells modules entities stop f g =
    record { not_model = f; not_differ = g; no_difference = tt; done = tt; sections = tt }

ends_equal : (cells : List CellEntry) (bytes : List ℕ) (more : Bool) → All KeepsRules cells → HaveOwnModels cells
    → EndsEqual cells (modules_of cells) (entities_of cells)
    (answer_where long_stimulus_stop
    (sections_in_text (cause_stop cells) (cells_named cells (modules_of cells) (entities_of cells))) more bytes)
ends_equal cells bytes true keep own =
    stopped_fine cells (modules_of cells) (entities_of cells) long_stimulus_stop (λ e. absurd cc) (λ e. absurd cc)
ends_equal cells bytes false keep own = by (stimulus_of listing bytes) refl
  where
    listing : Listing
    listing = listed (cells_named cells (modules_of cells) (entities_of cells))

    by : (answer : Result (List Section) StimulusFault) → stimulus_of listing bytes ≡ answer
        → EndsEqual cells (modules_of cells) (entities_of cells) (sections_or_stop (cause_stop cells) answer)
    by (Ok sections) e =
        let none = no_section_differs cells bytes sections keep own e in
        record {
          not_model = tt;
          not_differ = tt;
          no_difference = none;
          done = ap (λ b. if b then status.Differ else status.Done) none;
          sections = sections_equal cells bytes sections keep own e;
        }
    by (Err (fault.Line line why)) e =
        stopped_fine cells (modules_of cells) (entities_of cells) (stimulus_fault_stop (cause_stop cells) (fault.Line line why))
        (not_model listing why (all_supplied cells own) (causes_name_answers listing bytes line why e)) (bad_line_stops why).0
    by (Err fault.Memory) e = stopped_fine cells (modules_of cells) (entities_of cells)
        (stimulus_fault_stop (cause_stop cells) fault.Memory) (λ f. absurd cc) (λ f. absurd cc)

pub never_model_or_differ : NeverModelOrDiffer
never_model_or_differ cells bytes keep own = ends_equal cells bytes (nat_lt stimulus_limit (length bytes)) keep own
