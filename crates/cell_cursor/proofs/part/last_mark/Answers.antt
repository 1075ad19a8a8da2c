use Rattle.std.proofs.Common.{ap, ◌∙◌}
use Rattle.liberty_text.specs.declared.token.Token.{Token}
use Rattle.cell_cursor.specs.Scanned.{mark_of}
use Rattle.cell_cursor.proofs.RunTokens.{last_at}
use Rattle.cell_cursor.proofs.part.last_mark.Goals as goal

pub returns-in-len1-up : goal.returns-in-len1-up
returns-in-len1-up c =
    c.mark_of.ensures ∙ ap (λ (x : Token). mark_of x.kind) c.token.ensures
    ∙ last_at c.args.tokens.now c.last-item.result c.last-item.result c.in-len1-up.len_at_least c.last-item.is
