use Rattle.std.proofs.Common.{[], ◌∷◌, ◌++◌, ap, refl}
use Rattle.text_io.proofs.LineLaws.{puts_on, put_stops}
use Rattle.stimulus.proofs.Runs.{appended, written_alone}
use Rattle.stimulus.proofs.waiting.write_first.Goals as goal

pub returns-in_err-write_waiting-clause-text : goal.returns-in_err-write_waiting-clause-text
returns-in_err-write_waiting-clause-text g c =
    put_stops _ _ _ _ _ _ [] (c.args.line.now.tag ∷ (c.args.line.now.text.now ++ c.args.line.now.pieces.now)) _ _ c.in_err-write_waiting.ensures.text
    c.from_residual.ensures.0

pub returns-then-has_room-clause-text : goal.returns-then-has_room-clause-text
returns-then-has_room-clause-text g c =
    let mid = c.write_waiting.new.waiting in
    puts_on _ _ _ _ _ mid _ [] (c.args.line.now.tag ∷ (c.args.line.now.text.now ++ c.args.line.now.pieces.now)) _ c.in_ok-write_waiting.ensures.text.whole
    (appended _ mid (c.args.line.now.tag ∷ (c.args.line.now.text.now ++ c.args.line.now.pieces.now)) _ _ c.put_behind.ensures)

pub returns-clause-text : goal.returns-clause-text
returns-clause-text g c =
    let mid = c.write_waiting.new.waiting in
    puts_on _ _ _ _ _ mid _ [] (c.args.line.now.tag ∷ (c.args.line.now.text.now ++ c.args.line.now.pieces.now)) _ c.in_ok-write_waiting.ensures.text.whole
    (written_alone _ _ mid _ (c.args.line.now.tag ∷ (c.args.line.now.text.now ++ c.args.line.now.pieces.now)) _ _ c.in_ok-write_waiting.ensures.empty refl
    (ap (λ t. c.args.line.now.tag ∷ (c.args.line.now.text.now ++ t)) c.as_slice.ensures) c.write_line.ensures.text)
