use Rattle.std.proofs.Common.{◌≤◌, ◌&&◌, ◌++◌, List, ℕ, length, take, ap, ◌∙◌, arith}
use Rattle.vhdl_tokens.specs.Spelling.{are_alike}
use Rattle.vhdl_tokens.proofs.SameBytes.{parted}
use Rattle.vhdl_tokens.proofs.numbered.is_joined.Goals as goal

pub returns : goal.returns
returns c =
    let token = c.args.token.now in
    let word = c.args.word.now in
    let rest = c.args.rest.now in
    let exact = c.is_character.result in
    let fits : length word ≤ length token = omega arith in
    c.are_parts.ensures
    ∙ ap (λ (x : List ℕ). are_alike exact x word && are_alike exact c.split_at.result.1.now rest) c.split_at.ensures.front
    ∙ ap (λ (x : List ℕ). are_alike exact (take (length word) token) word && are_alike exact x rest) c.split_at.ensures.back
    ∙ parted exact token word rest fits
    ∙ ap (λ e. are_alike e token (word ++ rest)) c.is_character.ensures
