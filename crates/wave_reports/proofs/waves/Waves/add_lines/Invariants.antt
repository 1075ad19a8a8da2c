use Rattle.std.proofs.Common.{◌≡◌, ◌+◌, [], length}
use Rattle.std.specs.Option.{option_copied, option_map_or}
use Rattle.wave_reports.specs.Pieces.{pieces, pieces_left}
use Rattle.wave_reports.specs.Waves.{held, with_lines}
use Rattle.wave_reports.proofs.waves.Waves.add_lines.Given as goal

-- the lines that are left lead to what all lines lead to
abbrev pub invariant-loop-rest : goal.invariant-loop-rest
invariant-loop-rest l = with_lines (held l.self) l.number l.previous (pieces_left 10 (option_copied l.rest)) ≡ with_lines (held l.fn.self) 1 [] (pieces 10 l.report)

-- each turn leaves less of the report
abbrev pub decreases-loop-rest : goal.decreases-loop-rest
decreases-loop-rest l = option_map_or (λ text. 1 + length text.now) l.rest 0
