use Rattle.std.proofs.Common.{length, sym, ap, ◌∙◌, arith}
use Rattle.std.proofs.lemmas.List.{length-drop}
use Rattle.cell_cursor.proofs.Stretches.{run_ends, tokens_so_far, mode_so_far, none_so_far, outer_so_far, counted_so_far}
use Rattle.cell_cursor.proofs.Stretches.{passed_token, passed_rest, open_before}
use Rattle.cell_cursor.proofs.part.scan_tokens.Goals as goal

pub returns-then-may_end-clause-tokens : goal.returns-then-may_end-clause-tokens
returns-then-may_end-clause-tokens c =
    tokens_so_far c.loop-count.invariant c.split_at.ensures.back
    (record { within = c.in_ok-taken.ensures.count; tokens_are = c.in_ok-taken.ensures.tokens; mode_is = c.in_ok-taken.ensures.mode; none_before = c.in_ok-taken.ensures.none_before; kind_is = c.in_ok-taken.ensures.kind })

pub returns-then-may_end-clause-mode : goal.returns-then-may_end-clause-mode
returns-then-may_end-clause-mode c =
    mode_so_far c.loop-count.invariant c.split_at.ensures.back
    (record { within = c.in_ok-taken.ensures.count; tokens_are = c.in_ok-taken.ensures.tokens; mode_is = c.in_ok-taken.ensures.mode; none_before = c.in_ok-taken.ensures.none_before; kind_is = c.in_ok-taken.ensures.kind })

pub returns-then-may_end-clause-counted : goal.returns-then-may_end-clause-counted
returns-then-may_end-clause-counted c =
    counted_so_far c.depth_behind-open.result c.loop-count.invariant
    (record { within = c.in_ok-taken.ensures.count; tokens_are = c.in_ok-taken.ensures.tokens; mode_is = c.in_ok-taken.ensures.mode; none_before = c.in_ok-taken.ensures.none_before; kind_is = sym c.in-Some.is ∙ c.in_ok-taken.ensures.kind })
    c.depth_behind-open.ensures

pub returns-then-may_end-clause-closes : goal.returns-then-may_end-clause-closes
returns-then-may_end-clause-closes c = λ may.
    run_ends
    (record { within = c.in_ok-taken.ensures.count; tokens_are = c.in_ok-taken.ensures.tokens; mode_is = c.in_ok-taken.ensures.mode; none_before = c.in_ok-taken.ensures.none_before; kind_is = sym c.in-Some.is ∙ c.in_ok-taken.ensures.kind })

pub returns-then-may_end-clause-none_before : goal.returns-then-may_end-clause-none_before
returns-then-may_end-clause-none_before c =
    none_so_far c.loop-count.invariant c.split_at.ensures.back
    (record { within = c.in_ok-taken.ensures.count; tokens_are = c.in_ok-taken.ensures.tokens; mode_is = c.in_ok-taken.ensures.mode; none_before = c.in_ok-taken.ensures.none_before; kind_is = c.in_ok-taken.ensures.kind })

pub returns-then-may_end-clause-outer : goal.returns-then-may_end-clause-outer
returns-then-may_end-clause-outer c =
    outer_so_far c.depth_behind-open.result c.may_end-may_end.result c.loop-count.invariant
    (record { within = c.in_ok-taken.ensures.count; tokens_are = c.in_ok-taken.ensures.tokens; mode_is = c.in_ok-taken.ensures.mode; none_before = c.in_ok-taken.ensures.none_before; kind_is = sym c.in-Some.is ∙ c.in_ok-taken.ensures.kind })
    c.depth_behind-open.ensures c.may_end-may_end.ensures.outer

pub returns-then-open-eq0-2-clause-tokens : goal.returns-then-open-eq0-2-clause-tokens
returns-then-open-eq0-2-clause-tokens c =
    (passed_rest c.loop-count.invariant c.split_at.ensures.back
    (record { within = c.in_ok-taken.ensures.count; tokens_are = c.in_ok-taken.ensures.tokens; mode_is = c.in_ok-taken.ensures.mode; none_before = c.in_ok-taken.ensures.none_before; kind_is = sym c.in_default.is ∙ c.in_ok-taken.ensures.kind })).tokens_are

pub returns-then-open-eq0-2-clause-mode : goal.returns-then-open-eq0-2-clause-mode
returns-then-open-eq0-2-clause-mode c =
    (passed_rest c.loop-count.invariant c.split_at.ensures.back
    (record { within = c.in_ok-taken.ensures.count; tokens_are = c.in_ok-taken.ensures.tokens; mode_is = c.in_ok-taken.ensures.mode; none_before = c.in_ok-taken.ensures.none_before; kind_is = sym c.in_default.is ∙ c.in_ok-taken.ensures.kind })).mode_is

pub returns-then-open-eq0-2-clause-counted : goal.returns-then-open-eq0-2-clause-counted
returns-then-open-eq0-2-clause-counted c =
    (passed_rest c.loop-count.invariant c.split_at.ensures.back
    (record { within = c.in_ok-taken.ensures.count; tokens_are = c.in_ok-taken.ensures.tokens; mode_is = c.in_ok-taken.ensures.mode; none_before = c.in_ok-taken.ensures.none_before; kind_is = sym c.in_default.is ∙ c.in_ok-taken.ensures.kind })).counted

pub returns-then-open-eq0-2-clause-none_before : goal.returns-then-open-eq0-2-clause-none_before
returns-then-open-eq0-2-clause-none_before c = λ none n less.
    (let passed = passed_rest c.loop-count.invariant c.split_at.ensures.back
    (record { within = c.in_ok-taken.ensures.count; tokens_are = c.in_ok-taken.ensures.tokens; mode_is = c.in_ok-taken.ensures.mode; none_before = c.in_ok-taken.ensures.none_before; kind_is = sym c.in_default.is ∙ c.in_ok-taken.ensures.kind }) in
    passed.inner none n (omega (arith, less)))

pub returns-then-open-eq0-2-clause-outer : goal.returns-then-open-eq0-2-clause-outer
returns-then-open-eq0-2-clause-outer c = λ none.
    (let passed = passed_rest c.loop-count.invariant c.split_at.ensures.back
    (record { within = c.in_ok-taken.ensures.count; tokens_are = c.in_ok-taken.ensures.tokens; mode_is = c.in_ok-taken.ensures.mode; none_before = c.in_ok-taken.ensures.none_before; kind_is = sym c.in_default.is ∙ c.in_ok-taken.ensures.kind }) in
    open_before passed none)

pub loop-count-preserved-in-Some : goal.loop-count-preserved-in-Some
loop-count-preserved-in-Some c =
    let size = ap length c.split_at.ensures.back in
    passed_token c.depth_behind-open.result c.may_end-may_end.result c.loop-count.invariant c.split_at.ensures.back
    (record { within = c.in_ok-taken.ensures.count; tokens_are = c.in_ok-taken.ensures.tokens; mode_is = c.in_ok-taken.ensures.mode; none_before = c.in_ok-taken.ensures.none_before; kind_is = sym c.in-Some.is ∙ c.in_ok-taken.ensures.kind })
    c.depth_behind-open.ensures c.may_end-may_end.ensures.outer c.if-may_end.false (c.in_ok-taken.ensures.some (omega (arith, size, length-drop c.loop-count.count c.args.more.now, c.loop-count-test.true)))

pub loop-count-preserved : goal.loop-count-preserved
loop-count-preserved c =
    passed_rest c.loop-count.invariant c.split_at.ensures.back
    (record { within = c.in_ok-taken.ensures.count; tokens_are = c.in_ok-taken.ensures.tokens; mode_is = c.in_ok-taken.ensures.mode; none_before = c.in_ok-taken.ensures.none_before; kind_is = sym c.in_default.is ∙ c.in_ok-taken.ensures.kind })
