-- The sections of a stimulus over the models of a text can be run.
use Rattle.std.proofs.Common.{◌≡◌, ℕ, zero, suc, List, [], ◌∷◌, length, position, bytes_eq, refl, sym, ap, subst, ◌∙◌, arith}
use Rattle.std.specs.Prelude.{Option, Some, None, Ok, slice_get, slice_index_or, All}
use Rattle.std.specs.Option.{option_map}
use Rattle.std.proofs.lemmas.List.{length-map}
use Rattle.cell_machine.specs.History.{IsProperFrom}
use Rattle.stimulus.specs.declared.catalog.CellFound.TheVariants as cells
use Rattle.stimulus.specs.declared.ports.Ports.{Ports}
use Rattle.stimulus.specs.declared.ports.Standing.{Standing}
use Rattle.stimulus.specs.declared.ports.Standing.TheVariants as standing
use Rattle.stimulus.specs.declared.sections.Section.{Section}
use Rattle.stimulus.specs.Catalog.{cell_answer, cell_found}
use Rattle.stimulus.specs.PortEntries.{listed, entry_of_cell}
use Rattle.stimulus.specs.Laws.{IsSectionOf}
use Rattle.stimulus.specs.Stimulus.{stimulus_of}
use Rattle.stimulus.proofs.Properness.{sections_proper}
use Rattle.stimulus.proofs.Entries.{no_cell, some_cell, inputs_below}
use Rattle.model_files.specs.Languages.{Language}
use Rattle.model_files.specs.ModelNames.{model_names, HasOwnPorts, HaveOwnNames}
use Rattle.model_replay.specs.ModelPorts.{ports_of, model_ports, models_named}
use Rattle.model_replay.specs.Replays.{CanBeRun}

-- the number of a cell that may be given changes
answered : (number : ℕ) (how : Standing) (cell : ℕ) → cell_answer (Some (entry_of_cell number how)) ≡ cells.Cell cell
    → number ≡ cell
answered number standing.Ready cell e = cc
answered number standing.Refused cell e = absurd cc
answered number standing.VerilogPorts cell e = absurd cc
answered number standing.VitalPorts cell e = absurd cc

listed_at : {M : Type 0} (l : Language M) (ms : List M) (at cell : ℕ)
    → cell_answer (option_map (λ (ports : Ports). entry_of_cell at ports.standing) (slice_get (model_ports l ms) at)) ≡ cells.Cell
    cell
    → (m : M) × (slice_get ms cell ≡ Some m)
listed_at {M = M} l ms at cell e = by_place (slice_get (model_ports l ms) at) refl e
  where
    model_at : (ms : List M) (at : ℕ) (ports : Ports) → slice_get (model_ports l ms) at ≡ Some ports → (m : M)
        × (slice_get ms at ≡ Some m)
    model_at [] at ports f = absurd cc
    model_at (m ∷ ms) zero ports f = (m, refl)
    model_at (m ∷ ms) (suc at) ports f = model_at ms at ports f

    by_place : (found : Option Ports) → slice_get (model_ports l ms) at ≡ found
        → cell_answer (option_map (λ (ports : Ports). entry_of_cell at ports.standing) found) ≡ cells.Cell cell
        → (m : M) × (slice_get ms cell ≡ Some m)
    by_place None f g = absurd cc
    by_place (Some ports) f g = subst (λ n. (m : M) × (slice_get ms n ≡ Some m)) (answered at ports.standing cell g)
        (model_at ms at ports f)

-- the model of a cell that a stimulus may name
named_model : {M : Type 0} (l : Language M) (ms : List M) (name : List ℕ) (cell : ℕ)
    → cell_found (listed (models_named l ms)) name ≡ cells.Cell cell → (m : M) × (slice_get ms cell ≡ Some m)
named_model {M = M} l ms name cell e = by_position (position (bytes_eq name) (model_names l ms)) refl
  where
    same_length : length (model_names l ms) ≡ length (model_ports l ms)
    same_length = length-map ms _ ∙ sym (length-map ms _)

    by_position : (found : Option ℕ) → position (bytes_eq name) (model_names l ms) ≡ found → (m : M)
        × (slice_get ms cell ≡ Some m)
    by_position None f = absurd (let none = ap cell_answer (no_cell name (model_names l ms) (model_ports l ms) f) in cc)
    by_position (Some at) f =
        listed_at l ms at cell (sym (ap cell_answer (some_cell name (model_names l ms) (model_ports l ms) at same_length f)) ∙ e)

ports_at : {M : Type 0} (l : Language M) (ms : List M) (cell : ℕ) (m : M) → slice_get ms cell ≡ Some m
    → slice_get (model_ports l ms) cell ≡ Some (ports_of (l.ports m))
ports_at l [] cell m f = absurd cc
ports_at l (n ∷ ms) zero m f = let same : n ≡ m = cc in ap (λ x. Some (ports_of (l.ports x))) same
ports_at l (n ∷ ms) (suc cell) m f = ports_at l ms cell m f

of_all : {M : Type 0} (P : M → Type 0) (ms : List M) (cell : ℕ) (m : M) → All P ms → slice_get ms cell ≡ Some m → P m
of_all P [] cell m all f = absurd cc
of_all P (n ∷ ms) zero m all f = let same : n ≡ m = cc in subst P same (all 0 n (omega arith))
of_all P (n ∷ ms) (suc cell) m all f = of_all P ms cell m (λ k d h. all (suc k) d (omega (arith, h))) f

can_be_run : {M : Type 0} (l : Language M) (ms : List M) → All l.is_well_formed ms → HaveOwnNames l ms → (section : Section)
    → IsSectionOf (listed (models_named l ms)) section → CanBeRun l ms section
can_be_run l ms well own section s =
    let (m, found) = named_model l ms s.named.0 section.cell s.named.1 in
    let ports : HasOwnPorts l m = of_all (HasOwnPorts l) ms section.cell m own.ports found in
    let below = inputs_below (models_named l ms) section.cell (ports_of (l.ports m)) (ports_at l ms section.cell m found) in
    record {
      model = m;
      found = found;
      well_formed = of_all l.is_well_formed ms section.cell m well found;
      inputs = ports.inputs;
      outputs = ports.outputs;
      proper = subst (λ n. IsProperFrom n [] section.changes) ports.inputs
          (s.proper (length (ports_of (l.ports m)).inputs) below);
    }

-- all sections of a stimulus
pub all_can_be_run : {M : Type 0} (l : Language M) (ms : List M) → All l.is_well_formed ms → HaveOwnNames l ms
    → (bytes : List ℕ) (sections : List Section)
    → stimulus_of (listed (models_named l ms)) bytes ≡ Ok sections → All (CanBeRun l ms) sections
all_can_be_run l ms well own bytes sections e = λ k d below.
    can_be_run l ms well own (slice_index_or sections k d)
    (sections_proper (listed (models_named l ms)) bytes sections e k d below)
