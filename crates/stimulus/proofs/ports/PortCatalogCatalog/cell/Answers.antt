use Rattle.std.proofs.Common.{◌≡◌, sym, ap, subst, ◌∙◌, length}
use Rattle.bool_functions.specs.NameList.{number_of}
use Rattle.stimulus.specs.Catalog.{cell_answer}
use Rattle.stimulus.specs.PortEntries.{NamedCells}
use Rattle.stimulus.proofs.Entries.{no_cell, some_cell}
use Rattle.stimulus.proofs.ports.PortCatalogCatalog.cell.Goals as goal

pub returns-in-None : goal.returns-in-None
returns-in-None c =
    sym (ap cell_answer (no_cell c.args.name.now c.args.self.now.names c.args.self.now.cells (sym (c.in-None.ensures ∙ ap (λ named. number_of named.names c.args.name.now) c.self.view_is))))

pub returns-in-Some : goal.returns-in-Some
returns-in-Some c =
    let P : NamedCells → Type 0 = λ named. length named.names ≡ length named.cells in
    let lengths : P c.args.self.now = subst P c.self.view_is c.self.invariant in
    c.found.ensures ∙ sym (ap cell_answer (some_cell c.args.name.now c.args.self.now.names c.args.self.now.cells c.in-Some.number lengths (sym (c.in-Some.ensures ∙ ap (λ named. number_of named.names c.args.name.now) c.self.view_is))))
