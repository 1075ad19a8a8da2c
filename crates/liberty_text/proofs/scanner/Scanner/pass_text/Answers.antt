use Rattle.std.proofs.Common.{◌≡◌, ◌+◌, ◌++◌, ◌∷◌, [], List, false, get_or, sym, ap, ◌∙◌}
use Rattle.liberty_text.specs.declared.token.Token.{Token}
use Rattle.liberty_text.specs.declared.token.TokenKind.TheVariants.{Text}
use Rattle.liberty_text.specs.declared.scanner.Mode.{Mode}
use Rattle.liberty_text.specs.declared.scanner.Mode.TheVariants.{Between, InText}
use Rattle.liberty_text.specs.Idle.{is_mark_byte}
use Rattle.liberty_text.specs.Scanner.{step, token}
use Rattle.liberty_text.proofs.Quiet.{open_quiet, open_passes, step_passes, never}
use Rattle.liberty_text.proofs.scanner.Scanner.pass_text.Goals as goal

pub returns-then-bytes-end-eq34 : goal.returns-then-bytes-end-eq34
returns-then-bytes-end-eq34 c =
    let line = c.args.line_before in
    let at = c.args.at in
    let bytes = c.args.bytes.now in
    let end = 1 + c.text_run-end.result in
    let quiet =
    open_quiet line at bytes c.split_at.result.1.now c.text_run-end.result (InText at line false) c.requires.some c.requires.begins c.split_at.ensures.back c.text_run-end.ensures.within c.text_run-end.ensures.value in
    let stepped : step (InText at line false) (at + end) (get_or bytes end 0) ≡ (Between false, token Text at (at + end + 1) line ∷ [])
    = ap (step (InText at line false) (at + end)) c.if-bytes-end-eq34.true in
    step_passes (Between line) at bytes c.args.self.now c.push.new.self c.gone_past.result end (InText at line false) c.if-end-bytes.true quiet
    (c.in_ok-push.ensures.tokens
    ∙ ap (λ (p : Mode × List Token). c.args.self.now.tokens.items ++ p.1) (sym stepped))
    c.gone_past.ensures.count
    (λ _. ap (λ (p : Mode × List Token). p.0) stepped ∙ ap Between (sym c.gone_past.ensures.line_before))
    (λ _. ap is_mark_byte c.if-bytes-end-eq34.true) (λ e. never c.gone_past.result.goes_on c.gone_past.ensures.goes_on e)

pub returns : goal.returns
returns c =
    let line = c.args.line_before in
    let at = c.args.at in
    open_passes line at c.args.bytes.now c.split_at.result.1.now c.text_run-end.result (InText at line false) c.args.self.now c.behind.new.self
    c.behind.result c.requires.some c.requires.begins c.split_at.ensures.back c.text_run-end.ensures.within c.text_run-end.ensures.value
    c.behind.ensures.tokens c.behind.ensures.count c.behind.ensures.mode c.behind.ensures.ends
