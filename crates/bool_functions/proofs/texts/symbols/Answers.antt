use Rattle.std.proofs.Common.{◌≡◌, ◌+◌, ◌∙◌, [], ◌∷◌, ◌++◌, ap, append_assoc, drop, map, slice_index_or, sym}
use Rattle.std.proofs.lemmas.List.{drop_more}
use Rattle.bool_functions.specs.declared.tokens.Span.{Span}
use Rattle.bool_functions.specs.Token.{span, symbol_of, bytes_at}
use Rattle.bool_functions.proofs.texts.symbols.Goals as goal

pub loop-token-preserved : goal.loop-token-preserved
loop-token-preserved c =
    let at = c.loop-token.token-index in
    let found = c.loop-token.found.items in
    let meaning = λ (t : Span). symbol_of c.args.names.now (bytes_at c.args.text.now t) in
    let t = slice_index_or c.args.tokens.now at (span 0 0) in
    let later = drop (at + 1) c.args.tokens.now in
    let pushed : c.push.new.self.items ≡ found ++ meaning t ∷ [] =
    c.in_ok-push.ensures.items ∙ ap (λ symbol. found ++ symbol ∷ []) (c.symbol_of.ensures ∙ ap (symbol_of c.args.names.now) c.bytes_at.ensures) in
    ap (λ symbols. symbols ++ map meaning later) pushed ∙ append_assoc found (meaning t ∷ []) (map meaning later)
    ∙ sym (ap (λ tokens. found ++ map meaning tokens) (drop_more c.args.tokens.now at (span 0 0) c.loop-token-test.true))
    ∙ c.loop-token.invariant
