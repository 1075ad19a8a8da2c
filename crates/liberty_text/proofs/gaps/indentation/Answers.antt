use Rattle.std.proofs.Common.{◌≤◌, List, ℕ, length, drop, ap, subst, ◌∙◌}
use Rattle.liberty_text.specs.Idle.{is_blank, front_run}
use Rattle.liberty_text.proofs.Quiet.{blanks, more_blanks}
use Rattle.liberty_text.proofs.gaps.indentation.Goals as goal

pub returns-clause-blank : goal.returns-clause-blank
returns-clause-blank c =
    more_blanks c.args.bytes.now c.fours-wide.result c.blank_run.result c.fours-wide.ensures.within c.fours-wide.ensures.blank
    (blanks (drop c.fours-wide.result c.args.bytes.now) c.blank_run.result
    (subst (λ (l : List ℕ). c.blank_run.result ≤ length l) c.split_at.ensures.back c.blank_run.ensures.within)
    (c.blank_run.ensures.value ∙ ap (front_run is_blank) c.split_at.ensures.back))
