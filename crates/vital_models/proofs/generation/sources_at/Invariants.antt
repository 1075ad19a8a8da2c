use Rattle.std.proofs.Common.{◌≡◌, ◌++◌, map, drop}
use Rattle.vital_models.specs.Generated.{source_at}
use Rattle.vital_models.proofs.generation.sources_at.Given as goal

abbrev pub invariant-loop-source : goal.invariant-loop-source
invariant-loop-source l = l.sources ++ map (source_at l.pins) (drop l.source-index l.support) ≡ map (source_at l.pins) l.support
