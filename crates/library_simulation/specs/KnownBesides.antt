-- The cells and models on which sections are run, with what is known of them before any change, of some of them.
use Rattle.std.specs.Prelude.{ℕ, List, Option}
use Rattle.file_models.specs.declared.file_model.FileModel.{FileModel}
use Rattle.specify_blocks.specs.declared.model.VModule.{VModule}
use Rattle.vital_models.specs.declared.model.VEntity.{VEntity}
use Rattle.library_reader.specs.LibraryCells.{CellEntry, all_described}
use Rattle.cell_machine.specs.declared.changes.Change.{Change}
use Rattle.stimulus.specs.declared.sections.Section.{Section}
use Rattle.model_files.specs.Known.{AreKnown}
use Rattle.library_simulation.specs.Sections.{CanBeCompared}
use Rattle.library_simulation.specs.declared.comparisons.Beside.{Beside}
use Rattle.library_simulation.specs.declared.known_beside.KnownBeside.{KnownBeside}
use Rattle.library_simulation.specs.declared.simulation.Simulation.{Simulation}
use Rattle.library_simulation.specs.Besides.{CanBeGiven, IsRunOn}

-- a section of the cell with this number
abbrev pub section_of : ℕ → List Change → Section
section_of k changes = record { cell = k; changes = changes }

-- Each section of the cell with this number that can be run is run on these.
abbrev pub StandsFor : List CellEntry → List (FileModel VModule) → List (FileModel VEntity) → ℕ → Beside → Type 0
StandsFor cells modules entities k beside =
    (changes : List Change) → CanBeCompared cells modules entities (section_of k changes)
    → IsRunOn cells modules entities (section_of k changes) beside × CanBeGiven beside (section_of k changes)

-- the same of what is known of them
abbrev pub StandsAt : Simulation → ℕ → KnownBeside → Type 0
StandsAt simulation k known = StandsFor (all_described simulation.read.cells) simulation.read.modules simulation.read.entities k
    known.beside

-- what stands at a number is that of the cell with this number
abbrev pub AreBesides : Simulation → List (Option KnownBeside) → Type 0
AreBesides simulation known = AreKnown (StandsAt simulation) known
