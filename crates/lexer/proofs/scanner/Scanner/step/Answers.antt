use Rattle.std.proofs.Common.{◌≡◌, ◌+◌, ◌<◌, ◌≤◌, ℕ, Bool, Some, length, sym, ap, ◌∙◌, arith, length-drop}
use Rattle.std.proofs.lemmas.Bool.Decides.{nat_tests}
use Rattle.lexer.specs.Tokens.{Lexis}
use Rattle.lexer.specs.Spans.{tokens_of}
use Rattle.lexer.proofs.Turns.{behind_separator, over_blanks, fault}
use Rattle.lexer.proofs.scanner.Scanner.step.Goals as goal

pub returns-in_default-clause-goes_on : goal.returns-in_default-clause-goes_on
returns-in_default-clause-goes_on g c _ =
    over_blanks g.L.Lexicon.lexis g.met.L.Lexicon.blank_length c.args.text.now c.args.tokens.now.items (g.L.TokenState.flag c.args.self.now.before)
    c.args.self.now.next (length c.args.text.now) (sym c.in_default.ensures.value)

pub returns-then-length-eq1-clause-goes_on : goal.returns-then-length-eq1-clause-goes_on
returns-then-length-eq1-clause-goes_on g c _ =
    c.pass_token.ensures.goes_on
    ∙ over_blanks g.L.Lexicon.lexis g.met.L.Lexicon.blank_length c.args.text.now c.args.tokens.now.items (g.L.TokenState.flag c.args.self.now.before)
    c.args.self.now.next c.in-Some.at c.in-Some.ensures.value

pub returns-then-length-gt0-clause-goes_on : goal.returns-then-length-gt0-clause-goes_on
returns-then-length-gt0-clause-goes_on g c _ =
    c.pass_token-then-length-gt0.ensures.goes_on
    ∙ over_blanks g.L.Lexicon.lexis g.met.L.Lexicon.blank_length c.args.text.now c.args.tokens.now.items (g.L.TokenState.flag c.args.self.now.before)
    c.args.self.now.next c.in-Some.at c.in-Some.ensures.value

pub returns-clause-stops : goal.returns-clause-stops
returns-clause-stops g c h =
    let x : Lexis = g.L.Lexicon.lexis in
    let t : Bool = g.L.TokenState.flag c.args.self.now.before in
    let at : ℕ = c.in-Some.at in
    let z : 0 ≡ c.separator_length-skipped.result = grind (arith, nat_tests, h) in
    let n : 0 ≡ c.token_length-length.result = omega arith in
    let e : at ≡ at + c.separator_length-skipped.result = omega (arith, z) in
    sym (over_blanks x g.met.L.Lexicon.blank_length c.args.text.now c.args.tokens.now.items t c.args.self.now.next at c.in-Some.ensures.value)
    ∙ fault x c.args.text.now c.args.tokens.now.items t at at
    c.in-Some.ensures.within (omega arith) (z ∙ c.separator_length-skipped.ensures.value ∙ ap x.separator_length c.split_at.ensures.back) (n ∙ c.token_length-length.ensures.value ∙ ap (x.token_length t) c.split_at.ensures.back)
    ∙ ap (λ (m : ℕ). (tokens_of c.args.text.now c.args.tokens.now.items, Some m)) e

pub returns-clause-goes_on : goal.returns-clause-goes_on
returns-clause-goes_on g c h =
    let x : Lexis = g.L.Lexicon.lexis in
    let t : Bool = g.L.TokenState.flag c.args.self.now.before in
    let at : ℕ = c.in-Some.at in
    let n : ℕ = c.separator_length-skipped.result in
    let w : at + n ≤ length c.args.text.now = omega (arith, length-drop at c.args.text.now, ap (length {A = ℕ}) c.split_at.ensures.back, c.separator_length-skipped.ensures.within, c.in-Some.ensures.within) in
    let p : 0 < n = grind (arith, nat_tests, h) in
    behind_separator x c.args.text.now c.args.tokens.now.items t at n w
    p (c.separator_length-skipped.ensures.value ∙ ap x.separator_length c.split_at.ensures.back)
    ∙ over_blanks x g.met.L.Lexicon.blank_length c.args.text.now c.args.tokens.now.items t c.args.self.now.next at c.in-Some.ensures.value
