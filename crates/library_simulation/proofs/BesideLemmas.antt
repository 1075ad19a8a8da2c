-- The text of the section of a cell beside the models that stand for it: how far it was appended, and whether it differs.
use Rattle.std.proofs.Common.{◌≡◌, ◌<◌, ◌≤◌, ℕ, Bool, List, ◌++◌, length, take, get_or, ◌+◌, ◌||◌, Option, is_some, Result, Ok}
use Rattle.std.proofs.Common.{Err, IfOk, IsErr, IsErrAnd, Some, sym, ap, subst, ◌∙◌, arith}
use Rattle.std.specs.List.{list_any}
use Rattle.std.proofs.lemmas.List.{take_all}
use Rattle.std.proofs.lemmas.List.Folds.{list_any_more}
use Rattle.text_io.specs.declared.outside.Failed.{Failed}
use Rattle.text_io.specs.declared.slots.OutSlot.TheVariants.{Report}
use Rattle.text_io.specs.declared.stop.Stop.TheVariants as stops
use Rattle.text_io.specs.Desk.{DeskState, wrote, Rose, WritesText, StopsWithCause}
use Rattle.text_io.proofs.Wrote.{wrote_more}
use Rattle.cell_machine.specs.declared.changes.Change.{Change}
use Rattle.three_state_cells.specs.declared.driven_cell.DrivenCell.{DrivenCell}
use Rattle.three_state_cells.specs.DrivenCells.{driven_data_of}
use Rattle.file_models.specs.FileModels.{machine_by}
use Rattle.file_models.specs.declared.file_model.FileModel.{FileModel}
use Rattle.library_reader.specs.LibraryCells.{CellEntry, all_described}
use Rattle.specify_blocks.specs.declared.model.VModule.{VModule}
use Rattle.vital_models.specs.declared.model.VEntity.{VEntity}
use Rattle.model_traces.specs.ModuleTrace.{module_machine}
use Rattle.model_traces.specs.EntityTrace.{entity_machine}
use Rattle.stimulus.specs.declared.ports.Ports.{Ports}
use Rattle.stimulus.specs.declared.sections.Section.{Section}
use Rattle.stimulus.specs.DriveLines.{DriveMachine}
use Rattle.text_io.specs.declared.stop.Stop.{Stop}
use Rattle.stimulus.specs.TraceText.{heading_text}
use Rattle.stimulus.specs.Comparison.{HavePorts, three_lines, compared_text, first_unlike, verdict_text}
use Rattle.stimulus.specs.Writes.{WritesTrace}
use Rattle.stimulus.proofs.Runs.{behind, stops_before, written_part, trace_stops}
use Rattle.model_files.proofs.KnownThings.{here-some}
use Rattle.library_simulation.specs.declared.catalog.Simulated.{Simulated}
use Rattle.library_simulation.specs.declared.known_beside.KnownBeside.{KnownBeside}
use Rattle.library_simulation.specs.declared.simulation.Simulation.{Simulation}
use Rattle.library_simulation.specs.KnownBesides.{AreBesides}
use Rattle.library_simulation.specs.Catalog.{simulated_of}
use Rattle.library_simulation.specs.Sections.{CanBeCompared}
use Rattle.std.proofs.lemmas.Option.{slice_get_within}
use Rattle.library_simulation.specs.Comparisons.{Compared, cell_machine, compared_at, lines_of, compared_section, section_by}
use Rattle.library_simulation.specs.Comparisons.{section_text, differs_by, differs, any_differs}
use Rattle.library_simulation.specs.declared.comparisons.Beside.{Beside}
use Rattle.library_simulation.specs.Besides.{machine_in, compared_with, compared_of, CanBeGiven, IsRunOn}

-- What stands for the cell of a section, with the cell's models, is what the section can be run on.

pub runs_on : (cells : List CellEntry) (modules : List (FileModel VModule)) (entities : List (FileModel VEntity))
    (section : Section) (run : CanBeCompared cells modules entities section)
    (cell : DrivenCell) (ports : Ports) (verilog : FileModel VModule) (vital : FileModel VEntity) → driven_data_of cell ≡ run.cell
    → ports ≡ run.ports → verilog ≡ run.verilog → vital ≡ run.vital
    → compared_at cells modules entities section.cell ≡ Some
    (compared_with cell.name ports (machine_in cell) (machine_by module_machine verilog) (machine_by entity_machine vital))
runs_on cells modules entities section run cell ports verilog vital d p m e =
    run.is_compared ∙ sym (λ i. Some
    (compared_with (d i).name (p i) (cell_machine (d i)) (machine_by module_machine (m i)) (machine_by entity_machine (e i))))

pub can_be_given : (cells : List CellEntry) (modules : List (FileModel VModule)) (entities : List (FileModel VEntity))
    (section : Section) (beside : Beside) (run : CanBeCompared cells modules entities section)
    → driven_data_of beside.cell.now ≡ run.cell → beside.ports.now ≡ run.ports → beside.module.now ≡ run.verilog
    → beside.entity.now ≡ run.vital
    → CanBeGiven beside section
can_be_given cells modules entities section beside run d p m e = record {
  runs_module = rw m run.runs_module;
  runs_entity = rw e run.runs_entity;
  have_ports =
      subst (λ x. HavePorts x (machine_in beside.cell.now) (machine_by module_machine beside.module.now)
      (machine_by entity_machine beside.entity.now)) (sym p)
      (subst (λ x. HavePorts run.ports (cell_machine x) (machine_by module_machine beside.module.now)
      (machine_by entity_machine beside.entity.now)) (sym d)
      (subst (λ x. HavePorts run.ports (cell_machine run.cell) (machine_by module_machine x)
      (machine_by entity_machine beside.entity.now)) (sym m)
      (subst (λ x. HavePorts run.ports (cell_machine run.cell) (machine_by module_machine run.verilog)
      (machine_by entity_machine x)) (sym e) run.have_ports)));
  proper = rw p run.proper;
}

-- What is appended for what the section is run on is the section's text, and it differs so.

pub section_is : {T : Type 0} (cells : List CellEntry) (modules : List (FileModel VModule)) (entities : List (FileModel VEntity))
    (section : Section) (beside : Beside) (s t : DeskState) (r : Result T Stop)
    → IsRunOn cells modules entities section beside → WritesTrace s t (compared_section (compared_of beside) section.changes) r
    → WritesTrace s t (section_text cells modules entities section) r
section_is cells modules entities section beside s t r is w =
    subst (λ x. WritesTrace s t x r) (sym (ap (λ c. section_by c section.changes) is)) w

pub differs_is : (cells : List CellEntry) (modules : List (FileModel VModule)) (entities : List (FileModel VEntity))
    (section : Section) (beside : Beside)
    → IsRunOn cells modules entities section beside
    → is_some (first_unlike section.changes (lines_of (compared_of beside))) ≡ differs cells modules entities section
differs_is cells modules entities section beside is = sym (ap (λ c. differs_by c section.changes) is)

-- The machines of three simulators that were started are those of what the section is run on.

pub have_ports : (beside : Beside) (liberty verilog vital : DriveMachine) → liberty ≡ machine_in beside.cell.now
    → verilog ≡ machine_by module_machine beside.module.now → vital ≡ machine_by entity_machine beside.entity.now
    → HavePorts beside.ports.now (machine_in beside.cell.now) (machine_by module_machine beside.module.now)
    (machine_by entity_machine beside.entity.now)
    → HavePorts beside.ports.now liberty verilog vital
have_ports beside liberty verilog vital l v h have = rw (l, v, h) have

pub text_is : {T : Type 0} (beside : Beside) (name : List ℕ) (liberty verilog vital : DriveMachine) (given changes : List Change)
    (s t : DeskState) (r : Result T Stop)
    → name ≡ beside.cell.now.name → given ≡ changes
    → liberty ≡ machine_in beside.cell.now → verilog ≡ machine_by module_machine beside.module.now
    → vital ≡ machine_by entity_machine beside.entity.now
    → WritesTrace s t (compared_section (compared_with name beside.ports.now liberty verilog vital) given) r
    → WritesTrace s t (compared_section (compared_of beside) changes) r
text_is beside name liberty verilog vital given changes s t r n e l v h w =
    subst (λ x. WritesTrace s t x r) (λ i. compared_section (compared_with (n i) beside.ports.now (l i) (v i) (h i)) (e i)) w

pub unlike_is : {E : Type 0} (beside : Beside) (liberty verilog vital : DriveMachine) (given changes : List Change)
    (r : Result Bool E) → given ≡ changes
    → liberty ≡ machine_in beside.cell.now → verilog ≡ machine_by module_machine beside.module.now
    → vital ≡ machine_by entity_machine beside.entity.now
    → IfOk r (λ some_differ. some_differ ≡ is_some (first_unlike given (three_lines liberty verilog vital)))
    → IfOk r (λ some_differ. some_differ ≡ is_some (first_unlike changes (lines_of (compared_of beside))))
unlike_is beside liberty verilog vital given changes r e l v h w =
    subst (λ d. IfOk r (λ some_differ. some_differ ≡ d)) (λ i. is_some (first_unlike (e i) (three_lines (l i) (v i) (h i)))) w

-- How far a section was appended: its parts are its heading, the lines and the verdict.

pub heading_stops : {S T : Type 0} (c : Compared) (changes : List Change) (s t : DeskState) (y : Failed) (r : Result T Stop)
    → WritesText {T = S} s t Report (heading_text c.name) (Err y) → IsErr r → WritesTrace s t (compared_section c changes) r
unfolding compared_section
heading_stops c changes s t y r w e =
    stops_before s t (heading_text c.name)
    (compared_text c.ports changes (lines_of c) ++ verdict_text (first_unlike changes (lines_of c))) y r w e

pub lines_stop : {S T : Type 0} (c : Compared) (changes : List Change) (s t u : DeskState) (y : Stop) (r : Result T Stop)
    → t ≡ wrote s Report (heading_text c.name) → WritesTrace {T = S} t u (compared_text c.ports changes (lines_of c)) (Err y)
    → IsErr r
    → WritesTrace s u (compared_section c changes) r
unfolding compared_section
lines_stop c changes s t u y r h w e =
    behind s t u (heading_text c.name)
    (compared_text c.ports changes (lines_of c) ++ verdict_text (first_unlike changes (lines_of c))) r h
    (trace_stops t u (compared_text c.ports changes (lines_of c)) (verdict_text (first_unlike changes (lines_of c))) y r w e)

pub verdict_stops : {S T : Type 0} (c : Compared) (changes : List Change) (first : Option ℕ) (s t u v : DeskState) (y : Failed)
    (r : Result T Stop)
    → first ≡ first_unlike changes (lines_of c) → t ≡ wrote s Report (heading_text c.name)
    → u ≡ wrote t Report (compared_text c.ports changes (lines_of c))
    → WritesText {T = S} u v Report (verdict_text first) (Err y) → IsErr r → WritesTrace s v (compared_section c changes) r
unfolding compared_section
verdict_stops {S = S} c changes first s t u v y r found h l w e =
    behind s t v (heading_text c.name)
    (compared_text c.ports changes (lines_of c) ++ verdict_text (first_unlike changes (lines_of c))) r h
    (behind t u v (compared_text c.ports changes (lines_of c)) (verdict_text (first_unlike changes (lines_of c))) r l
    (written_part u v (verdict_text (first_unlike changes (lines_of c))) y r
    (subst (λ f. WritesText {T = S} u v Report (verdict_text f) (Err y)) found w) e))

pub section_whole : (c : Compared) (changes : List Change) (first : Option ℕ) (s t u v : DeskState)
    → first ≡ first_unlike changes (lines_of c) → t ≡ wrote s Report (heading_text c.name)
    → u ≡ wrote t Report (compared_text c.ports changes (lines_of c))
    → v ≡ wrote u Report (verdict_text first) → v ≡ wrote s Report (compared_section c changes)
unfolding compared_section
section_whole c changes first s t u v found h l w =
    wrote_more s t v Report (heading_text c.name)
    (compared_text c.ports changes (lines_of c) ++ verdict_text (first_unlike changes (lines_of c))) h
    (wrote_more t u v Report (compared_text c.ports changes (lines_of c)) (verdict_text (first_unlike changes (lines_of c))) l
    (w ∙ ap (λ f. wrote u Report (verdict_text f)) found))

-- Why a section was not appended whole.

-- a write failed
pub write_cause : {T : Type 0} (before now : ℕ) (r : Result T Stop) → IsErrAnd r (λ stop. stop ≡ stops.Failed) → before ≤ now
    → Rose before now → StopsWithCause before now r
write_cause before now (Ok x) is later rose = absurd is
write_cause before now (Err z) is later rose =
    record { later = later; kept = λ m. absurd (let no = sym is ∙ m in cc); failed = λ f. rose }

-- the stop is that of a part, before which there was none
pub part_cause : {T : Type 0} (start before now : ℕ) (y : Stop) (r : Result T Stop) → before ≡ start
    → IsErrAnd r (λ stop. stop ≡ y)
    → before ≤ now → (y ≡ stops.Memory → now ≡ before) → (y ≡ stops.Failed → Rose before now) → StopsWithCause start now r
part_cause {T = T} start before now y (Ok x) same is later kept failed = absurd is
part_cause {T = T} start before now y (Err z) same is later kept failed =
    subst (λ n. StopsWithCause {T = T} n now (Err z)) same
    (record { later = later; kept = λ m. kept (sym is ∙ m); failed = λ f. failed (sym is ∙ f) })

-- one section more
pub differs_more : (cells : List CellEntry) (modules : List (FileModel VModule)) (entities : List (FileModel VEntity))
    (sections : List Section) (i : ℕ) (x : Section) (before here : Bool)
    → i < length sections → x ≡ get_or sections i x → before ≡ list_any (differs cells modules entities) (take i sections)
    → here ≡ differs cells modules entities x
    → (before || here) ≡ list_any (differs cells modules entities) (take (i + 1) sections)
differs_more cells modules entities sections i x before here h is so_far one =
    let there : here ≡ differs cells modules entities (get_or sections i x) = one ∙ ap (differs cells modules entities) is in
    (λ k. so_far k || there k) ∙ sym (list_any_more (differs cells modules entities) sections i x h)

-- all of them
pub differs_whole : (cells : List CellEntry) (modules : List (FileModel VModule)) (entities : List (FileModel VEntity))
    (sections : List Section) (i : ℕ) (some_differ : Bool)
    → length sections ≤ i → some_differ ≡ list_any (differs cells modules entities) (take i sections)
    → some_differ ≡ any_differs cells modules entities sections
differs_whole cells modules entities sections i some_differ over so_far =
    so_far ∙ ap (list_any (differs cells modules entities)) (take_all i sections over)

-- a section that can be run has the number of a cell with models
number-within : (cells : List CellEntry) (modules : List (FileModel VModule)) (entities : List (FileModel VEntity))
    (section : Section) → CanBeCompared cells modules entities section
    → section.cell < length (simulated_of cells modules entities).models
number-within cells modules entities section run =
    slice_get_within (simulated_of cells modules entities).models section.cell _ run.has_models

-- where there is room for what is known of each cell, there is room for what is known of a section's
pub known-within : (simulation : Simulation) (section : Section) (known : List (Option KnownBeside))
    → simulation.simulated ≡ simulated_of (all_described simulation.read.cells) simulation.read.modules simulation.read.entities
    → CanBeCompared (all_described simulation.read.cells) simulation.read.modules simulation.read.entities section
    → length known ≡ length simulation.simulated.models → section.cell < length known
known-within simulation section known simulated run each =
    let read = simulation.read in
    let many = number-within (all_described read.cells) read.modules read.entities section run in
    let models = ap (λ (s : Simulated). length s.models) simulated in
    omega (arith, many, models, each)

-- what was found at the place of its cell stands for the cell
pub found-stands : (simulation : Simulation) (section : Section) (known : List (Option KnownBeside)) (found : Option KnownBeside)
    (beside : KnownBeside)
    → simulation.simulated ≡ simulated_of (all_described simulation.read.cells) simulation.read.modules simulation.read.entities
    → CanBeCompared (all_described simulation.read.cells) simulation.read.modules simulation.read.entities section
    → length known ≡ length simulation.simulated.models → AreBesides simulation known
    → found ≡ get_or known section.cell found → found ≡ Some beside
    → IsRunOn (all_described simulation.read.cells) simulation.read.modules simulation.read.entities section beside.beside
    × CanBeGiven beside.beside section
found-stands simulation section known found beside simulated run each stand at is =
    let here = here-some known section.cell found beside (known-within simulation section known simulated run each) at is in
    stand section.cell beside here section.changes run
