use Rattle.std.proofs.Common.{◌≡◌, ◌+◌, length}
use Rattle.std.specs.Prelude.{is_some}
use Rattle.std.specs.List.{list_all}
use Rattle.std.specs.Option.{option_copied, option_map_or}
use Rattle.wave_reports.specs.Pieces.{pieces_left}
use Rattle.wave_reports.specs.Signs.{sign_of}
use Rattle.wave_reports.proofs.traces.are_signs.Given as goal

-- all words are such where those that are left are
abbrev pub invariant-loop-rest : goal.invariant-loop-rest
invariant-loop-rest l =
    list_all (λ word. is_some (sign_of word)) (pieces_left 32 (option_copied l.rest)) ≡ list_all (λ word. is_some (sign_of word)) (pieces_left 32 (option_copied l.fn.words))

-- each turn leaves less of the words
abbrev pub decreases-loop-rest : goal.decreases-loop-rest
decreases-loop-rest l = option_map_or (λ text. 1 + length text.now) l.rest 0
