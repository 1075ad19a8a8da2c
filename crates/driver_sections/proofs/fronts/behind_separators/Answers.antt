use Rattle.std.proofs.Common.{◌≡◌, ◌+◌, ◌<◌, ◌≤◌, ℕ, length, drop, sym, ap, ◌∙◌, arith, length-drop}
use Rattle.lexer.specs.Tokens.{Lexis}
use Rattle.driver_sections.proofs.Gaps.{one_more, no_more, ended}
use Rattle.driver_sections.proofs.fronts.behind_separators.Goals as goal

pub loop-at-preserved : goal.loop-at-preserved
loop-at-preserved g c =
    let l : Lexis = g.L.Lexicon.lexis in
    let at : ℕ = c.loop-at.at in
    let n : ℕ = c.separator_length-length.result in
    let w : at + n ≤ length c.args.text.now = omega (arith, length-drop at c.args.text.now, ap (length {A = ℕ}) c.split_at.ensures.back, c.separator_length-length.ensures.within) in
    let p : 0 < n = omega arith in
    (one_more l c.args.text.now at n w p (c.separator_length-length.ensures.value ∙ ap l.separator_length c.split_at.ensures.back) ∙ c.loop-at.invariant.0, w)

pub returns-then-length-eq0-clause-value : goal.returns-then-length-eq0-clause-value
returns-then-length-eq0-clause-value g c =
    let l : Lexis = g.L.Lexicon.lexis in
    let z : c.separator_length-length.result ≡ 0 = omega arith in
    let e : l.separator_length (drop c.loop-at.at c.args.text.now) ≡ 0 =
    sym (c.separator_length-length.ensures.value ∙ ap l.separator_length c.split_at.ensures.back) ∙ z in
    sym (no_more l c.args.text.now c.loop-at.at (omega arith) e) ∙ c.loop-at.invariant.0

pub returns-clause-value : goal.returns-clause-value
returns-clause-value g c = sym (ended g.L.Lexicon.lexis c.args.text.now c.loop-at.at (omega arith)) ∙ c.loop-at.invariant.0
