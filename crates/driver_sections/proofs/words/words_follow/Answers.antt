use Rattle.std.proofs.Common.{◌<◌, length, [], refl, sym, ◌∙◌, arith}
use Rattle.driver_sections.proofs.Parts.{word_stands, other_stands, none_stands}
use Rattle.driver_sections.proofs.words.words_follow.Goals as goal

pub returns-in_default : goal.returns-in_default
returns-in_default g c =
    let w : c.loop-word.word-index < length c.args.words.now = omega arith in
    none_stands g.L.Language.is_same g.S.Lexicon.lexis (g.S.TokenState.flag c.loop-word.before) c.args.text.now
    c.args.words.now c.loop-word.word-index (record { ref_ptr = (0, 0); now = [] }) w c.loop-word.next (c.in_default.ensures.none refl)
    ∙ c.loop-word.invariant.0

pub returns-then-not-is_same : goal.returns-then-not-is_same
returns-then-not-is_same g c =
    let w : c.loop-word.word-index < length c.args.words.now = omega arith in
    other_stands g.L.Language.is_same g.S.Lexicon.lexis (g.S.TokenState.flag c.loop-word.before) c.args.text.now
    c.args.words.now c.loop-word.word-index _ w c.loop-word.next c.in-Some.token c.in-Some.ensures.next
    (sym c.is_same.ensures ∙ c.if-not-is_same.true)
    ∙ c.loop-word.invariant.0

pub loop-word-preserved : goal.loop-word-preserved
loop-word-preserved g c =
    let w : c.loop-word.word-index < length c.args.words.now = omega arith in (
      word_stands g.L.Language.is_same g.S.Lexicon.lexis (g.S.TokenState.flag c.loop-word.before) c.args.text.now
          c.args.words.now c.loop-word.word-index _ w c.loop-word.next c.in-Some.token c.in-Some.ensures.next
          (sym c.is_same.ensures ∙ c.if-not-is_same.false) (g.S.TokenState.flag c.after-before.result) c.after-before.ensures
          ∙ c.loop-word.invariant.0,
      c.in-Some.ensures.next.within,
    )
