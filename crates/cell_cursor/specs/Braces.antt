-- The braces of a part of a library, and those with which a group of the library ends (Liberty Reference Manual, general syntax
-- of a library file).
use Rattle.std.specs.Prelude.{◌≡◌, ℕ, ◌+◌, ◌-◌, ◌==◌, ◌&&◌, ◌||◌, Bool, true, false, List, [], ◌∷◌, ◌++◌, if◌then◌else◌}
use Rattle.liberty_text.specs.declared.token.Token.{Token}
use Rattle.liberty_text.specs.declared.token.TokenKind.{TokenKind}
use Rattle.liberty_text.specs.declared.token.TokenKind.TheVariants.{Brace}
use Rattle.liberty_groups.specs.Lexeme.{Lexeme}
use Rattle.cell_cursor.specs.declared.part.Place.{Place}
use Rattle.cell_cursor.specs.declared.part.Place.TheVariants as place

-- "{"
abbrev pub begins_group : TokenKind → Bool
begins_group (Brace byte) = byte == 123
begins_group _ = false

-- "}"
abbrev pub ends_group : TokenKind → Bool
ends_group (Brace byte) = byte == 125
ends_group _ = false

-- how many groups are open behind a token, where so many are open before it
abbrev pub depth_behind : ℕ → TokenKind → ℕ
depth_behind depth kind = if begins_group kind then depth + 1 else (if ends_group kind then depth - 1 else depth)

abbrev pub depth_after : ℕ → List TokenKind → ℕ
depth_after depth [] = depth
depth_after depth (kind ∷ kinds) = depth_after (depth_behind depth kind) kinds

-- An outer brace of a part, where so many groups of the part are open before it: at the start of a file a brace that begins a
-- group, as the library does, and among the statements of the library one that ends a group and behind which none is open, as it
-- is at the end of a cell.
abbrev pub is_outer : Place → ℕ → TokenKind → Bool
is_outer place.Start depth kind = begins_group kind
is_outer place.Inside depth kind = ends_group kind && depth_behind depth kind == 0
is_outer place.Behind depth kind = false

-- this holds of one of the tokens, told by its kind and by how many groups are open before it
abbrev pub shows : (ℕ → TokenKind → Bool) → ℕ → List TokenKind → Bool
shows is depth [] = false
shows is depth (kind ∷ kinds) = is depth kind || shows is (depth_behind depth kind) kinds

abbrev pub has_outer : Place → List TokenKind → Bool
has_outer here kinds = shows (is_outer here) 0 kinds

-- none of the tokens but the last one is an outer brace
abbrev pub LastMayBeOuter : Place → List TokenKind → Type 0
LastMayBeOuter here kinds = (front : List TokenKind) × (last : TokenKind) × (kinds ≡ front ++ last ∷ [])
    × (has_outer here front ≡ false)

-- the last of the tokens is no outer brace, where none before it is one
abbrev pub LastIsNotOuter : Place → List TokenKind → Type 0
LastIsNotOuter here kinds = (front : List TokenKind) (last : TokenKind) → kinds ≡ front ++ last ∷ []
    → has_outer here front ≡ false → has_outer here kinds ≡ false

-- whether the last of the tokens may be an outer brace; none before it is one
abbrev pub ShowsOuter : Bool → Place → List TokenKind → Type 0
ShowsOuter true here kinds = LastMayBeOuter here kinds
ShowsOuter false here kinds = has_outer here kinds ≡ false

abbrev pub kinds_of : List Token → List TokenKind
kinds_of [] = []
kinds_of (t ∷ tokens) = t.kind ∷ kinds_of tokens

abbrev pub lexeme_kinds : List Lexeme → List TokenKind
lexeme_kinds [] = []
lexeme_kinds (x ∷ s) = x.token.kind ∷ lexeme_kinds s
