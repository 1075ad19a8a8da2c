use Rattle.std.proofs.Common.{◌≡◌, ◌++◌, map, drop}
use Rattle.process_runs.proofs.entity_rows.rows_of_all.Given as goal

-- what is known so far and what is of the tables that are left are all
abbrev pub invariant-loop-part : goal.invariant-loop-part
invariant-loop-part g l = l.all ++ map g.T.Tabled.rows (drop l.part-index l.parts) ≡ map g.T.Tabled.rows l.parts
