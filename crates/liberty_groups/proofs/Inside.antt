-- Tokens that lie inside a text, by recursion on their list.
use Rattle.std.proofs.Common.{ℕ, List, [], ◌∷◌, length, All, arith}
use Rattle.std.proofs.lemmas.List.Elements.{recursion_from_All}
use Rattle.std.specs.List.{AllByRecursion}
use Rattle.liberty_text.specs.declared.token.Token.{Token}
use Rattle.liberty_text.specs.TokenLaws.{IsInside}
use Rattle.liberty_groups.specs.Lexeme.{LieInside}

pub by_recursion : (text : List ℕ) (ts : List Token) → AllByRecursion (IsInside (length text)) ts → LieInside text ts
by_recursion text [] h = tt
by_recursion text (t ∷ ts) h = let i = h.0 in (omega (arith, i.some), i.within, by_recursion text ts h.1)

pub lie_inside : (text : List ℕ) (ts : List Token) → All (IsInside (length text)) ts → LieInside text ts
lie_inside text ts h = by_recursion text ts (recursion_from_All (IsInside (length text)) ts h)
