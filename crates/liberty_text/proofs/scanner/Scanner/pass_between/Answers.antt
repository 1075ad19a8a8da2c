use Rattle.std.proofs.Common.{true, sym, ◌∙◌, arith}
use Rattle.liberty_text.proofs.Quiet.{gap_passes, line_first, blank_first, blanks, continued}
use Rattle.liberty_text.proofs.scanner.Scanner.pass_between.Goals as goal

pub returns-in-LineEnd : goal.returns-in-LineEnd
returns-in-LineEnd c =
    gap_passes c.args.line_before true c.args.at 1 c.indentation.result c.args.bytes.now c.split_at.result.1.now c.args.self.now
    c.gone_past.result (omega arith) (omega (arith, c.requires.some))
    (line_first c.args.line_before c.args.at c.args.bytes.now c.requires.some (sym c.class_of.ensures ∙ c.in-LineEnd.is))
    c.split_at.ensures.back c.indentation.ensures.within c.indentation.ensures.blank c.gone_past.ensures.count
    c.gone_past.ensures.goes_on c.gone_past.ensures.line_before

pub returns-in-Blank : goal.returns-in-Blank
returns-in-Blank c =
    let behind = c.split_at.result.1.now in
    gap_passes c.args.line_before c.args.line_before c.args.at 1 c.blank_run.result c.args.bytes.now behind c.args.self.now
    c.gone_past-in-Blank.result (omega arith) (omega (arith, c.requires.some))
    (blank_first c.args.line_before c.args.at c.args.bytes.now c.requires.some (sym c.class_of.ensures ∙ c.in-Blank.is))
    c.split_at.ensures.back c.blank_run.ensures.within
    (blanks behind c.blank_run.result c.blank_run.ensures.within c.blank_run.ensures.value) c.gone_past-in-Blank.ensures.count
    c.gone_past-in-Blank.ensures.goes_on c.gone_past-in-Blank.ensures.line_before

pub returns-in-Backslash : goal.returns-in-Backslash
returns-in-Backslash c =
    let is = sym c.class_of.ensures ∙ c.in-Backslash.is in
    gap_passes c.args.line_before c.args.line_before c.args.at 2 c.indentation-in-Backslash.result c.args.bytes.now
    c.split_at-in-Backslash.result.1.now c.args.self.now c.gone_past-in-Backslash.result (omega arith)
    (omega (arith, c.if-bytes-gt1.true))
    (continued c.args.line_before c.args.at c.args.bytes.now c.if-bytes-gt1.true is c.if-bytes-eq10.true)
    c.split_at-in-Backslash.ensures.back c.indentation-in-Backslash.ensures.within c.indentation-in-Backslash.ensures.blank
    c.gone_past-in-Backslash.ensures.count c.gone_past-in-Backslash.ensures.goes_on c.gone_past-in-Backslash.ensures.line_before
