use Rattle.std.proofs.Common.{length, ap, sym, ◌∙◌, ◌+◌, ◌≤◌, arith}
use Rattle.std.proofs.lemmas.List.{length-drop}
use Rattle.liberty_text.specs.Idle.{idle_run}
use Rattle.liberty_text.proofs.Runs.{mode_by}
use Rattle.liberty_text.proofs.Marked.{tokens_by, marked_turn, idle_marked, step_unmarked}
use Rattle.liberty_text.proofs.scanner.Scanner.open_to_mark.Goals as goal

pub returns-then-is_mark_byte-clause-mode : goal.returns-then-is_mark_byte-clause-mode
returns-then-is_mark_byte-clause-mode c =
    let idled = idle_marked c.args.self.now.mode c.args.at c.args.bytes.now c.loop-done.done c.loop-done.self.mode c.args.self.now.tokens.items c.loop-done.self.tokens.items c.idle_run-done.result c.loop-done.invariant.read (omega (arith, c.if-done-bytes.true)) (c.idle_run-done.ensures.value ∙ ap (idle_run c.loop-done.self.mode) c.split_at.ensures.back) in
    mode_by c.args.self.now.mode c.args.at c.args.bytes.now (c.loop-done.done + c.idle_run-done.result) c.loop-done.self.mode c.step.new.self.mode c.if-done-bytes.true idled.mode_is c.in_ok-step.ensures.mode

pub returns-then-is_mark_byte-clause-tokens : goal.returns-then-is_mark_byte-clause-tokens
returns-then-is_mark_byte-clause-tokens c =
    let idled = idle_marked c.args.self.now.mode c.args.at c.args.bytes.now c.loop-done.done c.loop-done.self.mode c.args.self.now.tokens.items c.loop-done.self.tokens.items c.idle_run-done.result c.loop-done.invariant.read (omega (arith, c.if-done-bytes.true)) (c.idle_run-done.ensures.value ∙ ap (idle_run c.loop-done.self.mode) c.split_at.ensures.back) in
    tokens_by c.step.new.self.tokens.items c.if-done-bytes.true idled c.in_ok-step.ensures.tokens

pub returns-then-is_mark_byte-clause-none_before : goal.returns-then-is_mark_byte-clause-none_before
returns-then-is_mark_byte-clause-none_before c =
    let idled = idle_marked c.args.self.now.mode c.args.at c.args.bytes.now c.loop-done.done c.loop-done.self.mode c.args.self.now.tokens.items c.loop-done.self.tokens.items c.idle_run-done.result c.loop-done.invariant.read (omega (arith, c.if-done-bytes.true)) (c.idle_run-done.ensures.value ∙ ap (idle_run c.loop-done.self.mode) c.split_at.ensures.back) in
    idled.none

pub loop-done-preserved-else-is_mark_byte : goal.loop-done-preserved-else-is_mark_byte
loop-done-preserved-else-is_mark_byte c =
    let idled = idle_marked c.args.self.now.mode c.args.at c.args.bytes.now c.loop-done.done c.loop-done.self.mode c.args.self.now.tokens.items c.loop-done.self.tokens.items c.idle_run-done.result c.loop-done.invariant.read (omega (arith, c.if-done-bytes.true)) (c.idle_run-done.ensures.value ∙ ap (idle_run c.loop-done.self.mode) c.split_at.ensures.back) in
    record {
      read =
          marked_turn c.step.new.self.mode c.step.new.self.tokens.items c.if-done-bytes.true idled c.in_ok-step.ensures.mode c.in_ok-step.ensures.tokens
          (step_unmarked c.loop-done.self.mode _ _ (sym c.is_mark_byte.ensures ∙ c.if-is_mark_byte.false));
      within = omega (arith, c.if-done-bytes.true);
    }

pub loop-done-preserved : goal.loop-done-preserved
loop-done-preserved c =
    let within : c.loop-done.done + c.idle_run-done.result ≤ length c.args.bytes.now = grind (arith, c.idle_run-done.ensures.within, c.loop-done.invariant.within, length-drop) in
    record {
      read =
          idle_marked c.args.self.now.mode c.args.at c.args.bytes.now c.loop-done.done c.loop-done.self.mode c.args.self.now.tokens.items c.loop-done.self.tokens.items c.idle_run-done.result c.loop-done.invariant.read within
          (c.idle_run-done.ensures.value ∙ ap (idle_run c.loop-done.self.mode) c.split_at.ensures.back);
      within = within;
    }
