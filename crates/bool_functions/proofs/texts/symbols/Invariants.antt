use Rattle.std.proofs.Common.{◌≡◌, ◌++◌, map, drop}
use Rattle.bool_functions.specs.Token.{symbol_of, bytes_at}
use Rattle.bool_functions.proofs.texts.symbols.Given as goal

abbrev pub invariant-loop-token : goal.invariant-loop-token
invariant-loop-token l =
    l.found.items ++ map (λ t. symbol_of l.names (bytes_at l.text t)) (drop l.token-index l.tokens) ≡ map (λ t. symbol_of l.names (bytes_at l.text t)) l.tokens
