use Rattle.std.proofs.Common.{◌∙◌, ap, not, sym, subst, Some, set}
use Rattle.library_reader.specs.LibraryCells.{all_described}
use Rattle.model_files.proofs.KnownThings.{known-more, found-some}
use Rattle.std.proofs.lemmas.List.{get_or-set_same}
use Rattle.library_simulation.specs.declared.comparisons.Beside.{Beside}
use Rattle.library_simulation.specs.KnownBesides.{StandsFor, StandsAt, AreBesides}
use Rattle.library_simulation.proofs.known.learn.Goals as goal

pub of-requires-clause-runs_module : goal.of-requires-clause-runs_module
of-requires-clause-runs_module c = (c.stands_beside-beside.ensures c.args.section.now.changes c.requires.run).1.runs_module

pub of-requires-clause-runs_entity : goal.of-requires-clause-runs_entity
of-requires-clause-runs_entity c = (c.stands_beside-beside.ensures c.args.section.now.changes c.requires.run).1.runs_entity

pub returns-in_ok-of-clause-known : goal.returns-in_ok-of-clause-known
returns-in_ok-of-clause-known c = λ are.
    let simulation = c.args.simulation.now in
    let read = simulation.read in
    let cell = c.args.section.now.cell in
    let stands = subst (λ (b : Beside). StandsFor (all_described read.cells) read.modules read.entities cell b) (sym c.in_ok-of.ensures) c.stands_beside-beside.ensures in
    known-more (StandsAt simulation) c.args.known.now.items cell c.in_ok-of.field-0 are c.requires.inside stands

pub returns-in_ok-of-clause-found : goal.returns-in_ok-of-clause-found
returns-in_ok-of-clause-found c =
    (c.in_ok-of.field-0, get_or-set_same c.args.known.now.items c.args.section.now.cell (Some c.in_ok-of.field-0) _ c.requires.inside)

pub returns-else-is_none-clause-found : goal.returns-else-is_none-clause-found
returns-else-is_none-clause-found c =
    found-some c.args.known.now.items c.args.section.now.cell c.index.result.now c.requires.inside c.index.ensures (c.is_none.ensures ∙ ap not c.if-is_none.false)
