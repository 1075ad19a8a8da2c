use Rattle.std.proofs.Common.{◌≡◌, [], ◌∷◌, sym, ap, subst, ◌∙◌}
use Rattle.std.specs.Prelude.{MatchOption}
use Rattle.stimulus.specs.Text.{lines_of}
use Rattle.stimulus.specs.Written.{written_in}
use Rattle.stimulus.proofs.PlainLines.{first_line_found}
use Rattle.stimulus.proofs.next_line.next_line.Goals as goal

pub returns-clause-line : goal.returns-clause-line
returns-clause-line c =
    subst (λ line. MatchOption c.first_line.result.1 (lines_of c.args.text.now ≡ line ∷ []) (λ rest. lines_of c.args.text.now ≡ line ∷ lines_of rest.now))
    (sym (first_line_found c.args.text.now c.first_line.result.0.now c.first_line.result.1 c.first_line.ensures.line)) c.first_line.ensures.line

pub returns-clause-written : goal.returns-clause-written
returns-clause-written c =
    c.written_in.ensures ∙ ap written_in (sym (first_line_found c.args.text.now c.first_line.result.0.now c.first_line.result.1 c.first_line.ensures.line))
