use Rattle.std.proofs.Common.{sym, ap, length, ◌∙◌, ◌+◌, ◌≤◌, arith}
use Rattle.std.proofs.lemmas.List.{length-drop}
use Rattle.liberty_text.specs.Idle.{idle_run}
use Rattle.liberty_text.proofs.Runs.{mode_turn, tokens_turn, none_turn, some_ended}
use Rattle.liberty_text.proofs.Staying.{idle_turn}
use Rattle.liberty_text.proofs.scanner.Scanner.step_on.Goals as goal

pub returns-then-tokens-ended-clause-mode : goal.returns-then-tokens-ended-clause-mode
returns-then-tokens-ended-clause-mode c =
    let idled = idle_turn c.args.self.now.mode c.args.at c.args.bytes.now c.loop-done.done c.loop-done.self.mode c.idle_run-done.result c.loop-done.invariant.none (omega (arith, c.if-done-bytes.true)) (c.idle_run-done.ensures.value ∙ ap (idle_run c.loop-done.self.mode) c.split_at.ensures.back) in
    mode_turn c.args.self.now.mode c.args.at c.args.bytes.now (c.loop-done.done + c.idle_run-done.result) c.loop-done.self.mode c.step.new.self.mode c.if-done-bytes.true idled c.in_ok-step.ensures.mode

pub returns-then-tokens-ended-clause-tokens : goal.returns-then-tokens-ended-clause-tokens
returns-then-tokens-ended-clause-tokens c =
    let idled = idle_turn c.args.self.now.mode c.args.at c.args.bytes.now c.loop-done.done c.loop-done.self.mode c.idle_run-done.result c.loop-done.invariant.none (omega (arith, c.if-done-bytes.true)) (c.idle_run-done.ensures.value ∙ ap (idle_run c.loop-done.self.mode) c.split_at.ensures.back) in
    tokens_turn c.args.self.now.mode c.args.at c.args.bytes.now (c.loop-done.done + c.idle_run-done.result) c.loop-done.self.mode c.args.self.now.tokens.items c.loop-done.self.tokens.items c.step.new.self.tokens.items
    c.if-done-bytes.true idled c.loop-done.invariant.tokens c.in_ok-step.ensures.tokens

pub returns-then-tokens-ended-clause-none_before : goal.returns-then-tokens-ended-clause-none_before
returns-then-tokens-ended-clause-none_before c =
    let idled = idle_turn c.args.self.now.mode c.args.at c.args.bytes.now c.loop-done.done c.loop-done.self.mode c.idle_run-done.result c.loop-done.invariant.none (omega (arith, c.if-done-bytes.true)) (c.idle_run-done.ensures.value ∙ ap (idle_run c.loop-done.self.mode) c.split_at.ensures.back) in
    idled.none

pub returns-then-tokens-ended-clause-all : goal.returns-then-tokens-ended-clause-all
returns-then-tokens-ended-clause-all c = λ nothing.
    (let more = returns-then-tokens-ended-clause-tokens c in
    absurd (c.if-tokens-ended.true
    (ap length c.tokens.ensures ∙ some_ended c.args.self.now.mode c.args.at c.args.bytes.now _ c.args.self.now.tokens.items c.step.new.self.tokens.items more nothing ∙ sym (ap length c.tokens-ended.ensures))))

pub loop-done-preserved-else-tokens-ended : goal.loop-done-preserved-else-tokens-ended
loop-done-preserved-else-tokens-ended c =
    let idled = idle_turn c.args.self.now.mode c.args.at c.args.bytes.now c.loop-done.done c.loop-done.self.mode c.idle_run-done.result c.loop-done.invariant.none (omega (arith, c.if-done-bytes.true)) (c.idle_run-done.ensures.value ∙ ap (idle_run c.loop-done.self.mode) c.split_at.ensures.back) in
    let both = none_turn c.args.self.now.mode c.args.at c.args.bytes.now (c.loop-done.done + c.idle_run-done.result) c.loop-done.self.mode c.step.new.self.mode c.args.self.now.tokens.items c.loop-done.self.tokens.items
    c.step.new.self.tokens.items c.if-done-bytes.true idled c.loop-done.invariant.tokens c.in_ok-step.ensures.mode c.in_ok-step.ensures.tokens
    (sym (ap length c.tokens.ensures) ∙ c.if-tokens-ended.false ∙ ap length c.tokens-ended.ensures) in
    record { tokens = both.0; none = both.1; within = omega (arith, c.if-done-bytes.true) }

pub loop-done-preserved : goal.loop-done-preserved
loop-done-preserved c =
    let within : c.loop-done.done + c.idle_run-done.result ≤ length c.args.bytes.now = grind (arith, c.idle_run-done.ensures.within, c.loop-done.invariant.within, length-drop) in
    record {
      tokens = c.loop-done.invariant.tokens;
      none = idle_turn c.args.self.now.mode c.args.at c.args.bytes.now c.loop-done.done c.loop-done.self.mode c.idle_run-done.result c.loop-done.invariant.none within (c.idle_run-done.ensures.value ∙ ap (idle_run c.loop-done.self.mode) c.split_at.ensures.back);
      within = within;
    }
