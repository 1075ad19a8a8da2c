use Rattle.std.proofs.Common.{◌≡◌, ◌<◌, ◌∙◌, ap, sym, subst, List, Some, None, length, get_or, slice_get}
use Rattle.std.proofs.lemmas.Option.{get_or_from_slice_get, slice_get_within}
use Rattle.three_state_cells.specs.DrivenCells.{driven_data_of}
use Rattle.library_reader.specs.declared.library_cell.LibraryCell.TheVariants as kept
use Rattle.library_reader.specs.LibraryCells.{all_described}
use Rattle.cell_machine.specs.declared.changes.Change.{Change}
use Rattle.stimulus.specs.declared.sections.Section.{Section}
use Rattle.library_simulation.specs.declared.simulation.Simulation.{Simulation}
use Rattle.library_simulation.specs.Catalog.{simulated_of}
use Rattle.library_simulation.specs.Sections.{CanBeCompared}
use Rattle.library_simulation.specs.KnownBesides.{section_of}
use Rattle.library_simulation.proofs.BesideLemmas.{runs_on, can_be_given}
use Rattle.library_simulation.proofs.comparisons.stands_beside.Goals as goal

-- a section of the same cell can be run
abbrev Can : (c : goal.After-index-as_slice-numbers-2) → List Change → Type 0
Can c changes =
    let read = c.args.simulation.now.read in
    CanBeCompared (all_described read.cells) read.modules read.entities (section_of c.args.section.now.cell changes)

-- what was found at each place is what such a section can be run on
data-is : (c : goal.After-index-as_slice-numbers-2) (changes : List Change) (run : Can c changes) → driven_data_of c.in-Accepted.cell ≡ run.cell
data-is c changes run =
    let at = c.args.section.now.cell in
    let described = c.described_are_cells.ensures c.args.simulation.now.read.cells at run.cell run.entity_name run.is_accepted in
    let found : c.index-as_slice-section.result ≡ kept.Accepted described.0 run.entity_name =
    c.index-as_slice-section.is ∙ ap (λ l. get_or l at c.index-as_slice-section.result) c.as_slice.ensures
    ∙ get_or_from_slice_get _ at _ c.index-as_slice-section.result described.1 in
    let is : c.index-as_slice-section.result ≡ kept.Accepted c.in-Accepted.cell c.in-Accepted.entity = c.in-Accepted.is in
    let same : c.in-Accepted.cell ≡ described.0 = cc in
    ap driven_data_of same ∙ described.2

numbers-are : (c : goal.After-index-as_slice-numbers-2) (changes : List Change) (run : Can c changes) → c.in-Some.numbers ≡ run.numbers
numbers-are c changes run =
    let at = c.args.section.now.cell in
    let is : get_or c.as_slice-2.result.now at None ≡ Some c.in-Some.numbers = c.in-Some.is in
    let found : get_or c.as_slice-2.result.now at None ≡ Some run.numbers =
    ap (λ l. get_or l at None) c.as_slice-2.ensures ∙ ap (λ s. get_or s.models at None) c.requires.simulated
    ∙ get_or_from_slice_get _ at _ None run.has_models in
    cc

module-is : (c : goal.After-index-as_slice-numbers-2) (changes : List Change) (run : Can c changes) → c.index-as_slice-numbers.result ≡ run.verilog
module-is c changes run =
    c.index-as_slice-numbers.is ∙ ap (λ l. get_or l c.in-Some.numbers.verilog c.index-as_slice-numbers.result) c.as_slice-3.ensures
    ∙ ap (λ k. get_or c.args.simulation.now.read.modules k.verilog c.index-as_slice-numbers.result) (numbers-are c changes run)
    ∙ get_or_from_slice_get c.args.simulation.now.read.modules run.numbers.verilog run.verilog c.index-as_slice-numbers.result run.is_module

ports-are : (c : goal.After-index-as_slice-numbers-2) (changes : List Change) (run : Can c changes) → c.ports.result.now ≡ run.ports
ports-are c changes run =
    let at = c.args.section.now.cell in
    let found : slice_get c.args.simulation.now.simulated.catalog.cells at ≡ Some c.ports.result.now = c.ports.ensures in
    let wanted : slice_get c.args.simulation.now.simulated.catalog.cells at ≡ Some run.ports =
    ap (λ s. slice_get s.catalog.cells at) c.requires.simulated ∙ run.has_ports in
    cc

entity-is : (c : goal.After-index-as_slice-numbers-2) (changes : List Change) (run : Can c changes) → c.index-as_slice-numbers-2.result ≡ run.vital
entity-is c changes run =
    c.index-as_slice-numbers-2.is ∙ ap (λ l. get_or l c.in-Some.numbers.vital c.index-as_slice-numbers-2.result) c.as_slice-4.ensures
    ∙ ap (λ k. get_or c.args.simulation.now.read.entities k.vital c.index-as_slice-numbers-2.result) (numbers-are c changes run)
    ∙ get_or_from_slice_get c.args.simulation.now.read.entities run.numbers.vital run.vital c.index-as_slice-numbers-2.result run.is_entity

-- as many cells are listed by their names, and as many numbers of models, as were read
listed-there : (simulation : Simulation) (section : Section)
    → simulation.simulated ≡ simulated_of (all_described simulation.read.cells) simulation.read.modules simulation.read.entities
    → CanBeCompared (all_described simulation.read.cells) simulation.read.modules simulation.read.entities section
    → (section.cell < length simulation.simulated.catalog.cells) × (section.cell < length simulation.simulated.models)
listed-there simulation section is run = (
  slice_get_within _ section.cell _ (ap (λ s. slice_get s.catalog.cells section.cell) is ∙ run.has_ports),
  slice_get_within _ section.cell _ (ap (λ s. slice_get s.models section.cell) is ∙ run.has_models),
)

pub bounds-as_slice-section : goal.bounds-as_slice-section
bounds-as_slice-section c =
    let at = c.args.section.now.cell in
    let run = c.requires.run in
    let described = c.described_are_cells.ensures c.args.simulation.now.read.cells at run.cell run.entity_name run.is_accepted in
    subst (λ l. at < length l) (sym c.as_slice.ensures) (slice_get_within _ at _ described.1)

pub unreachable-requires : goal.unreachable-requires
unreachable-requires c =
    let at = c.args.section.now.cell in
    let run = c.requires.run in
    let described = c.described_are_cells.ensures c.args.simulation.now.read.cells at run.cell run.entity_name run.is_accepted in
    c.in_default.not-Accepted described.0 run.entity_name
    (c.index-as_slice-section.is ∙ ap (λ l. get_or l at c.index-as_slice-section.result) c.as_slice.ensures
    ∙ get_or_from_slice_get _ at _ c.index-as_slice-section.result described.1)

pub bounds-as_slice-section-in-Some-1 : goal.bounds-as_slice-section-in-Some-1
bounds-as_slice-section-in-Some-1 c =
    subst (λ l. c.args.section.now.cell < length l) (sym c.as_slice-2.ensures)
    (listed-there c.args.simulation.now c.args.section.now c.requires.simulated c.requires.run).1

pub unreachable-requires-in_default-as_slice : goal.unreachable-requires-in_default-as_slice
unreachable-requires-in_default-as_slice c =
    let at = c.args.section.now.cell in
    let run = c.requires.run in
    c.in_default-as_slice.not-Some run.numbers
    (ap (λ l. get_or l at None) c.as_slice-2.ensures ∙ ap (λ s. get_or s.models at None) c.requires.simulated
    ∙ get_or_from_slice_get _ at _ None run.has_models)

pub ports-requires : goal.ports-requires
ports-requires c = (listed-there c.args.simulation.now c.args.section.now c.requires.simulated c.requires.run).0

pub returns : goal.returns
returns c = λ changes run.
    let ports-is = ports-are c changes run in (
      runs_on _ _ _ _ run c.in-Accepted.cell c.ports.result.now c.index-as_slice-numbers.result c.index-as_slice-numbers-2.result (data-is c changes run) ports-is (module-is c changes run) (entity-is c changes run),
      can_be_given _ _ _ _ _ run (data-is c changes run) ports-is (module-is c changes run) (entity-is c changes run),
    )
