use Rattle.scan_cells.proofs.by_points.+first_from.Given as goal

abbrev pub decreases-first_from : goal.decreases-first_from
decreases-first_from g l = l.places
