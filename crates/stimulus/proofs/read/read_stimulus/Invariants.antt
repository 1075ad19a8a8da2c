use Rattle.std.proofs.Common.{◌≡◌, ◌+◌, ◌≤◌, length}
use Rattle.std.specs.Option.{option_map}
use Rattle.stimulus.specs.Stimulus.{stimulus_of, all_said}
use Rattle.stimulus.proofs.ReadSoFar.{resumed, lines_left, left}
use Rattle.stimulus.proofs.read.read_stimulus.Given as goal

-- the sections so far, with what the lines from here on say, are what all lines make
abbrev pub invariant-loop-rest : goal.invariant-loop-rest
invariant-loop-rest g l = record {
  whole : resumed l.sections.ended.items l.sections.current (all_said (g.C.Catalog.listing l.catalog) (l.before + 1) l.context (lines_left (option_map (λ text. text.now) l.rest))) ≡ stimulus_of (g.C.Catalog.listing l.catalog) l.bytes;
  lines : l.before + left (option_map (λ text. text.now) l.rest) ≤ length l.bytes + 1;
  changes : l.context.changes ≤ l.before;
}

abbrev pub decreases-loop-rest : goal.decreases-loop-rest
decreases-loop-rest g l = left (option_map (λ text. text.now) l.rest)
