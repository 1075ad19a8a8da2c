use Rattle.std.proofs.Common.{◌∷◌, ◌++◌}
use Rattle.text_io.proofs.LineLaws.{puts_on, put_stops}
use Rattle.stimulus.proofs.comparison.put_tags.Goals as goal

pub returns-in_err-put_tagged-clause-text : goal.returns-in_err-put_tagged-clause-text
returns-in_err-put_tagged-clause-text g c =
    let shown = c.args.text.now ++ c.args.pieces.now in
    put_stops _ _ _ _ _ _ (76 ∷ shown) (86 ∷ shown ++ 72 ∷ shown) _ _ c.in_err-put_tagged.ensures.text c.from_residual.ensures.0

pub returns-in_err-put_tagged-2-clause-text : goal.returns-in_err-put_tagged-2-clause-text
returns-in_err-put_tagged-2-clause-text g c =
    let shown = c.args.text.now ++ c.args.pieces.now in
    puts_on _ _ _ _ _ _ _ (76 ∷ shown) (86 ∷ shown ++ 72 ∷ shown) _ c.in_ok-put_tagged.ensures.text.whole
    (put_stops _ _ _ _ _ _ (86 ∷ shown) (72 ∷ shown) _ _ c.in_err-put_tagged-2.ensures.text c.from_residual-in_err-put_tagged-2.ensures.0)

pub returns-clause-text : goal.returns-clause-text
returns-clause-text g c =
    let shown = c.args.text.now ++ c.args.pieces.now in
    puts_on _ _ _ _ _ _ _ (76 ∷ shown) (86 ∷ shown ++ 72 ∷ shown) _ c.in_ok-put_tagged.ensures.text.whole
    (puts_on _ _ _ _ _ _ _ (86 ∷ shown) (72 ∷ shown) _ c.in_ok-put_tagged-2.ensures.text.whole c.put_tagged-3.ensures.text)
