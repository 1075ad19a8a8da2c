use Rattle.std.proofs.lemmas.Bool.{not-true as not_true, not-false as not_false}
use Rattle.liberty_text.specs.declared.scanner.Mode.TheVariants.{Between}
use Rattle.liberty_text.proofs.Quiet.{passes_mode, passes_tokens, passes_none, passes_marked, within_behind}
use Rattle.liberty_text.proofs.scanner.Scanner.between_to_mark.Goals as goal

pub returns-then-not-passed-clause-mode : goal.returns-then-not-passed-clause-mode
returns-then-not-passed-clause-mode c =
    passes_mode c.args.self.now.mode c.args.at c.args.bytes.now c.loop-done.done (Between c.loop-done.line_before) c.args.self.now.tokens.items c.loop-done.self c.pass_between.new.self
    _ c.split_at.ensures.back c.in_ok-passed.passed
    c.loop-done.invariant.read c.loop-done.invariant.within c.in_ok-passed.ensures (not_true c.in_ok-passed.passed.goes_on c.if-not-passed.true)

pub returns-then-not-passed-clause-tokens : goal.returns-then-not-passed-clause-tokens
returns-then-not-passed-clause-tokens c =
    passes_tokens c.args.self.now.mode c.args.at c.args.bytes.now c.loop-done.done (Between c.loop-done.line_before) c.args.self.now.tokens.items c.loop-done.self c.pass_between.new.self
    _ c.split_at.ensures.back c.in_ok-passed.passed
    c.loop-done.invariant.read c.loop-done.invariant.within c.in_ok-passed.ensures

pub returns-then-not-passed-clause-none_before : goal.returns-then-not-passed-clause-none_before
returns-then-not-passed-clause-none_before c =
    passes_none c.args.self.now.mode c.args.at c.args.bytes.now c.loop-done.done (Between c.loop-done.line_before) c.args.self.now.tokens.items c.loop-done.self c.pass_between.new.self
    _ c.split_at.ensures.back c.in_ok-passed.passed
    c.loop-done.invariant.read c.loop-done.invariant.within c.in_ok-passed.ensures

pub loop-done-preserved : goal.loop-done-preserved
loop-done-preserved c =
    record {
      read =
          passes_marked c.args.self.now.mode c.args.at c.args.bytes.now c.loop-done.done (Between c.loop-done.line_before) c.args.self.now.tokens.items c.loop-done.self c.pass_between.new.self
          _ c.split_at.ensures.back c.in_ok-passed.passed
          c.loop-done.invariant.read c.loop-done.invariant.within c.in_ok-passed.ensures (not_false c.in_ok-passed.passed.goes_on c.if-not-passed.false);
      within =
          within_behind c.args.bytes.now c.split_at.result.1.now c.loop-done.done c.in_ok-passed.passed.count c.loop-done.invariant.within c.split_at.ensures.back c.in_ok-passed.ensures.within;
    }
