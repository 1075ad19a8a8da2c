-- The sections of a replay, appended to the report one behind another.
use Rattle.std.proofs.Common.{◌≡◌, ℕ, ◌<◌, ◌≤◌, List, take, length, get_or, Some, Result, Err, IsErr, slice_get, flat_map}
use Rattle.std.proofs.Common.{refl, sym, ap, subst, ◌∙◌}
use Rattle.std.specs.Option.{option_map}
use Rattle.std.proofs.lemmas.Option.{slice_get-map, slice_get-get_or, slice_get_within, same_Some}
use Rattle.text_io.specs.declared.slots.OutSlot.TheVariants.{Report}
use Rattle.text_io.specs.declared.stop.Stop.{Stop}
use Rattle.text_io.specs.Desk.{DeskState, wrote}
use Rattle.text_io.proofs.Wrote.{wrote-nil, wrote_items}
use Rattle.cell_machine.specs.declared.changes.Change.{Change}
use Rattle.stimulus.specs.declared.ports.Ports.{Ports}
use Rattle.stimulus.specs.declared.sections.Section.{Section}
use Rattle.stimulus.specs.PortEntries.{NamedCells}
use Rattle.stimulus.specs.Writes.{WritesTrace}
use Rattle.stimulus.proofs.Runs.{part_of_item}
use Rattle.model_files.specs.Languages.{Language, model_trace_text}
use Rattle.model_replay.specs.ModelPorts.{ports_of, models_named}
use Rattle.model_replay.specs.Outcome.{model_section, section_of, replayed_section_text, replayed_sections_text}
use Rattle.model_replay.specs.Replays.{CanBeRun, IsFound}

-- the model of a section that can be run has the section's number
pub has_model : {M : Type 0} (l : Language M) (models : List M) (section : Section) → CanBeRun l models section
    → section.cell < length models
has_model l models section run = slice_get_within models section.cell run.model run.found

pub is_found : {M : Type 0} (l : Language M) (models slice : List M) (catalog : NamedCells) (section : Section) (model : M)
    (ports : Ports) → CanBeRun l models section
    → catalog ≡ models_named l models → slice ≡ models → model ≡ get_or slice section.cell model
    → slice_get catalog.cells section.cell ≡ Some ports
    → IsFound l models section model ports
is_found {M = M} l models slice catalog section model ports run cat all is found =
    let at : model ≡ get_or models section.cell model = rw all at is in
    let same : model ≡ run.model =
    same_Some _ _ (ap Some at ∙ sym (slice_get-get_or models section.cell model (has_model l models section run)) ∙ run.found) in
    let there = rw cat at found in
    let named : ports ≡ ports_of (l.ports run.model) =
    same_Some _ _ (sym there ∙ slice_get-map (λ (m : M). ports_of (l.ports m)) models section.cell
    ∙ ap (option_map (λ (m : M). ports_of (l.ports m))) run.found) in
    subst (λ m. IsFound l models section m ports) (sym same)
    (subst (IsFound l models section run.model) (sym named)
    (record {
      found = run.found;
      named = refl;
      well_formed = run.well_formed;
      inputs = run.inputs;
      outputs = run.outputs;
      proper =
          run.proper;
    }))

-- what is appended for them is the section's text
pub section_written : {T M : Type 0} (l : Language M) (s t : DeskState) (models : List M) (section : Section) (model : M)
    (ports : Ports) (changes : List Change) (r : Result T Stop)
    → IsFound l models section model ports → changes ≡ section.changes
    → WritesTrace s t (model_trace_text l model ports changes) r
    → WritesTrace s t (replayed_section_text l models section) r
unfolding model_section
section_written l s t models section model ports changes r found given w =
    let text : model_trace_text l model ports changes ≡ replayed_section_text l models section =
    ap (model_trace_text l model ports) given
    ∙ ap (λ p. model_trace_text l model p section.changes) found.named
    ∙ sym (ap (λ m. section_of l m section.changes) found.found) in
    subst (λ x. WritesTrace s t x r) text w

-- before the first section, and behind the last
pub sections_none : {M : Type 0} (l : Language M) (models : List M) (sections : List Section) (s : DeskState)
    → s ≡ wrote s Report (flat_map (replayed_section_text l models) (take 0 sections))
sections_none l models sections s = sym (wrote-nil s Report)

pub sections_whole : {M : Type 0} (l : Language M) (models : List M) (sections : List Section) (i : ℕ) (s now : DeskState)
    → length sections ≤ i → now ≡ wrote s Report (flat_map (replayed_section_text l models) (take i sections))
    → now ≡ wrote s Report (replayed_sections_text l models sections)
unfolding replayed_sections_text
sections_whole l models sections i s now h e = wrote_items (replayed_section_text l models) sections i s now Report h e

-- a stop within one of them
pub sections_part : {S T M : Type 0} (l : Language M) (models : List M) (sections : List Section) (i : ℕ) (x : Section)
    (s now new : DeskState) (y : Stop) (r : Result T Stop)
    → i < length sections → x ≡ get_or sections i x
    → now ≡ wrote s Report (flat_map (replayed_section_text l models) (take i sections))
    → WritesTrace {T = S} now new (replayed_section_text l models x) (Err y) → IsErr r
    → WritesTrace s new (replayed_sections_text l models sections) r
unfolding replayed_sections_text
sections_part l models sections i x s now new y r h is before item e =
    part_of_item (replayed_section_text l models) sections i x s now new y r h is before item e
