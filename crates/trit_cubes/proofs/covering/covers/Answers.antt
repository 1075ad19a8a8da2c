use Rattle.std.proofs.Common.{sym, ◌∙◌}
use Rattle.std.proofs.lemmas.Bool.{eq-eqb, ne_eqb}
use Rattle.trit_cubes.proofs.WordLemmas.{covers-then, covers-else, covers-unlike}
use Rattle.trit_cubes.proofs.covering.covers.Goals as goal

pub returns-then-len : goal.returns-then-len
returns-then-len c = sym (covers-unlike _ _ (λ e. c.if-len.true (c.len.ensures.value ∙ e ∙ sym c.len-2.ensures.value)))

pub returns-then-wide_fixed-narrow_fixed : goal.returns-then-wide_fixed-narrow_fixed
returns-then-wide_fixed-narrow_fixed c =
    covers-else _ _ _ _ c.words-wide_fixed.ensures.fixed c.words-narrow_fixed.ensures.fixed
    (sym c.len.ensures.value ∙ c.if-len.false ∙ c.len-2.ensures.value) (ne_eqb _ _ c.if-wide_fixed-narrow_fixed.true)

pub returns : goal.returns
returns c =
    covers-then _ _ _ _ _ _ c.words-wide_fixed.ensures.fixed c.words-wide_fixed.ensures.values c.words-narrow_fixed.ensures.fixed
    c.words-narrow_fixed.ensures.values (sym c.len.ensures.value ∙ c.if-len.false ∙ c.len-2.ensures.value) (eq-eqb _ _ c.if-wide_fixed-narrow_fixed.false)
