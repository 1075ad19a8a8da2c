use Rattle.std.proofs.Common.{sym, ap, ◌∙◌}
use Rattle.std.specs.Option.{option_copied}
use Rattle.text_io.proofs.WordLemmas.{among-end, among-here, among-later}
use Rattle.text_io.proofs.asked.is_among.Goals as goal

pub returns-in_default : goal.returns-in_default
returns-in_default g c = among-end _ c.loop-place.place _ (sym c.word.ensures ∙ ap option_copied c.in_default.is) ∙ c.loop-place.invariant

pub returns-then-eq : goal.returns-then-eq
returns-then-eq g c =
    among-here _ c.loop-place.place _ _ (sym c.word.ensures ∙ ap option_copied c.in-Some.is) (sym c.eq.ensures ∙ c.if-eq.true) ∙ c.loop-place.invariant

pub loop-place-preserved : goal.loop-place-preserved
loop-place-preserved g c =
    among-later _ c.loop-place.place _ _ (sym c.word.ensures ∙ ap option_copied c.in-Some.is) (sym c.eq.ensures ∙ c.if-eq.false) ∙ c.loop-place.invariant
