use Rattle.std.proofs.Common.{◌≡◌, ◌+◌, ◌++◌, ◌∷◌, [], ◌==◌, List, false, None, get_or, sym, ap, ◌∙◌, arith}
use Rattle.std.proofs.lemmas.Bool.Decides.{nat_tests}
use Rattle.std.proofs.lemmas.List.{append_assoc}
use Rattle.liberty_text.specs.declared.token.Token.{Token}
use Rattle.liberty_text.specs.declared.token.TokenKind.TheVariants.{Word}
use Rattle.liberty_text.specs.declared.scanner.Mode.TheVariants.{Between, InWord}
use Rattle.liberty_text.specs.Idle.{front_run, is_plain_in_word}
use Rattle.liberty_text.specs.Scanner.{opened, token}
use Rattle.liberty_text.proofs.Quiet.{open_quiet, open_passes, word_mode, word_tokens, step_passes}
use Rattle.liberty_text.proofs.scanner.Scanner.pass_word.Goals as goal

pub returns-then-bytes-end-ne47 : goal.returns-then-bytes-end-ne47
returns-then-bytes-end-ne47 c =
    let line = c.args.line_before in
    let at = c.args.at in
    let bytes = c.args.bytes.now in
    let run = c.word_run-end.result in
    let end = 1 + run in
    let old = c.args.self.now.tokens.items in
    let next = opened false (at + end) (get_or bytes end 0) in
    let quiet =
    open_quiet line at bytes c.split_at.result.1.now run (InWord at line None) c.requires.some c.requires.begins c.split_at.ensures.back c.word_run-end.ensures.within c.word_run-end.ensures.value in
    let is_run : run ≡ front_run is_plain_in_word c.split_at.result.1.now = c.word_run-end.ensures.value in
    let front = is_run ∙ ap (front_run is_plain_in_word) c.split_at.ensures.back in
    let other : (get_or bytes end 0 == 47) ≡ false = grind (arith, nat_tests, c.if-bytes-end-ne47.true) in
    let mode = word_mode at (at + end) end line bytes run (omega arith) front c.if-end-bytes.true other in
    let tokens = word_tokens at (at + end) end line bytes run (omega arith) front c.if-end-bytes.true other in
    step_passes (Between line) at bytes c.args.self.now c.behind.new.self c.behind.result end (InWord at line None) c.if-end-bytes.true quiet
    (c.behind.ensures.tokens
    ∙ c.in_ok-mode.ensures.tokens
    ∙ ap (λ (l : List Token). l ++ next.1) c.in_ok-push.ensures.tokens
    ∙ append_assoc old (token Word at (at + end) line ∷ []) next.1
    ∙ ap (λ (l : List Token). old ++ l) (sym tokens))
    c.behind.ensures.count (λ on. mode ∙ sym c.in_ok-mode.ensures.mode ∙ c.behind.ensures.mode on)
    (λ on. sym c.is_mark_byte.ensures ∙ c.behind.ensures.mark on) (λ off. c.behind.ensures.ends off ∙ c.in_ok-mode.ensures.mode ∙ sym mode)

pub returns : goal.returns
returns c =
    let line = c.args.line_before in
    let at = c.args.at in
    open_passes line at c.args.bytes.now c.split_at.result.1.now c.word_run-end.result (InWord at line None) c.args.self.now c.behind-2.new.self
    c.behind-2.result c.requires.some c.requires.begins c.split_at.ensures.back c.word_run-end.ensures.within c.word_run-end.ensures.value
    c.behind-2.ensures.tokens c.behind-2.ensures.count c.behind-2.ensures.mode c.behind-2.ensures.ends
