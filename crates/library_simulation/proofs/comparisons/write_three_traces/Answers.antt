use Rattle.std.proofs.Common.{◌∙◌, ap, is_some}
use Rattle.library_simulation.proofs.BesideLemmas.{heading_stops, lines_stop, verdict_stops, section_whole, write_cause}
use Rattle.library_simulation.proofs.comparisons.write_three_traces.Goals as goal

pub returns-in_err-write_heading-clause-text : goal.returns-in_err-write_heading-clause-text
returns-in_err-write_heading-clause-text g c = heading_stops _ _ _ _ _ _ c.in_err-write_heading.ensures.text c.from_residual.ensures.0

pub returns-in_err-write_heading-clause-cause : goal.returns-in_err-write_heading-clause-cause
returns-in_err-write_heading-clause-cause g c =
    write_cause _ _ _ c.from_residual.ensures.1 c.in_err-write_heading.ensures.cause.later c.in_err-write_heading.ensures.cause.failed

pub returns-in_err-first-clause-text : goal.returns-in_err-first-clause-text
returns-in_err-first-clause-text g c = lines_stop _ _ _ _ _ _ _ c.in_ok-write_heading.ensures.text.whole c.in_err-first.ensures.text c.from_residual-in_err-first.ensures.0

pub returns-in_err-write_verdict-clause-text : goal.returns-in_err-write_verdict-clause-text
returns-in_err-write_verdict-clause-text g c =
    verdict_stops _ _ _ _ _ _ _ _ _ c.in_ok-first.ensures.first c.in_ok-write_heading.ensures.text.whole c.in_ok-first.ensures.text.whole c.in_err-write_verdict.ensures.text c.from_residual-in_err-write_verdict.ensures.0

pub returns-clause-text : goal.returns-clause-text
returns-clause-text g c = record {
  whole = section_whole _ _ _ _ _ _ _ c.in_ok-first.ensures.first c.in_ok-write_heading.ensures.text.whole c.in_ok-first.ensures.text.whole c.in_ok-write_verdict.ensures.text.whole;
  part = tt;
}

pub returns-clause-differs : goal.returns-clause-differs
returns-clause-differs g c = c.is_some.ensures ∙ ap is_some c.in_ok-first.ensures.first
