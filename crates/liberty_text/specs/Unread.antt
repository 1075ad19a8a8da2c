-- The first of some tokens, and the others.
use Rattle.std.specs.Prelude.{List, [], ◌∷◌, Option, Some, None}
use Rattle.liberty_text.specs.declared.token.Token.{Token}

abbrev pub first : List Token → Option Token
first [] = None
first (t ∷ ts) = Some t

abbrev pub others : List Token → List Token
others [] = []
others (t ∷ ts) = ts
