use Rattle.std.proofs.Common.{◌≡◌, ◌+◌, map, drop}
use Rattle.statetables.specs.Reading.{read_rows as read_rows_of}
use Rattle.statetables.proofs.Onto.{onto}
use Rattle.statetables.proofs.read.read_rows.Given as goal

-- the rows so far, with what the other texts give, are what all texts give
abbrev pub invariant-loop-place : goal.invariant-loop-place
invariant-loop-place l = onto l.rows (read_rows_of (l.place + 1) l.inputs l.nodes (map (λ text. text.now) (drop l.place l.texts))) ≡ read_rows_of 1 l.inputs l.nodes (map (λ text. text.now) l.texts)
