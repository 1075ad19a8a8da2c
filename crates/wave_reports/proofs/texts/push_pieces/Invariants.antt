use Rattle.std.proofs.Common.{◌≡◌, ◌++◌, drop}
use Rattle.std.specs.List.{flat_map}
use Rattle.wave_reports.proofs.texts.push_pieces.Given as goal

-- the text so far, with the pieces from here on, is the text with all pieces
abbrev pub invariant-loop-piece : goal.invariant-loop-piece
invariant-loop-piece l = l.text.items ++ flat_map (λ piece. piece.now) (drop l.piece-index l.pieces) ≡ l.fn.text.items ++ flat_map (λ piece. piece.now) l.pieces
