use Rattle.library_simulation.proofs.simulation.catalog_of.Goals as goal

pub returns-in-Ok-clause-catalog : goal.returns-in-Ok-clause-catalog
returns-in-Ok-clause-catalog c = rw (c.as_slice-cells.ensures, c.as_slice.ensures, c.as_slice-2.ensures) at c.in-Ok.ensures
