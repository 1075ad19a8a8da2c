use Rattle.std.proofs.Common.{◌≡◌, ◌∙◌, IfOk, subst}
use Rattle.library_reader.specs.LibraryCells.{all_described}
use Rattle.stimulus.proofs.Runs.{appends_nothing}
use Rattle.model_files.proofs.KnownThings.{on-ok}
use Rattle.library_simulation.proofs.BesideLemmas.{known-within, found-stands, section_is, differs_is}
use Rattle.library_simulation.proofs.comparisons.write_compared_section.Goals as goal

pub learn-requires-clause-inside : goal.learn-requires-clause-inside
learn-requires-clause-inside g c =
    known-within c.args.simulation.now c.args.section.now _ c.requires.simulated c.requires.run c.requires.each

pub write_cell_section-requires : goal.write_cell_section-requires
write_cell_section-requires g c =
    (found-stands c.args.simulation.now c.args.section.now _ _ _ c.requires.simulated c.requires.run
    (c.in_ok-learn.ensures.len ∙ c.requires.each) (c.in_ok-learn.ensures.known c.requires.known) c.index.ensures c.in-Some.is).1

pub returns-in_err-learn-clause-text : goal.returns-in_err-learn-clause-text
returns-in_err-learn-clause-text g c = appends_nothing _ _ _ c.from_residual.ensures.0

pub returns-clause-text : goal.returns-clause-text
returns-clause-text g c =
    let read = c.args.simulation.now.read in
    let stands = found-stands c.args.simulation.now c.args.section.now _ _ _ c.requires.simulated c.requires.run
    (c.in_ok-learn.ensures.len ∙ c.requires.each) (c.in_ok-learn.ensures.known c.requires.known) c.index.ensures c.in-Some.is in
    section_is (all_described read.cells) read.modules read.entities c.args.section.now c.in-Some.beside.beside _ _ _ stands.0
    c.write_cell_section.ensures.text

pub returns-clause-known : goal.returns-clause-known
returns-clause-known g c = on-ok _ c.write_cell_section.result (c.in_ok-learn.ensures.known c.requires.known)

pub returns-clause-differs : goal.returns-clause-differs
returns-clause-differs g c =
    let read = c.args.simulation.now.read in
    let stands = found-stands c.args.simulation.now c.args.section.now _ _ _ c.requires.simulated c.requires.run
    (c.in_ok-learn.ensures.len ∙ c.requires.each) (c.in_ok-learn.ensures.known c.requires.known) c.index.ensures c.in-Some.is in
    subst (λ d. IfOk c.write_cell_section.result (λ some_differ. some_differ ≡ d))
    (differs_is (all_described read.cells) read.modules read.entities c.args.section.now c.in-Some.beside.beside stands.0)
    c.write_cell_section.ensures.differs
