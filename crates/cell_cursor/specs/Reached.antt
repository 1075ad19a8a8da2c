-- What the tokens of a part of a library come to, whatever follows them.
use Rattle.std.specs.Prelude.{◌≡◌, ℕ, ◌++◌, length, ◌||◌, not, nat_lt, Bool, true, false, List, [], ◌∷◌, Result, Ok, Err}
use Rattle.grammar_rules.specs.Reading.{read}
use Rattle.liberty_groups.specs.declared.fault.Refusal.{Refusal}
use Rattle.liberty_groups.specs.declared.fault.Stop.{Stop}
use Rattle.liberty_groups.specs.declared.fault.Stop.TheVariants.{Refused, Memory}
use Rattle.liberty_text.specs.declared.token.Token.{Token}
use Rattle.liberty_groups.specs.Library.{is_word}
use Rattle.liberty_groups.specs.Fault.{fault_at}
use Rattle.liberty_groups.specs.Lexeme.{Lexeme}
use Rattle.liberty_groups.specs.Answer.{is_nil}
use Rattle.cell_cursor.specs.declared.item.LibraryItem.{LibraryItem}
use Rattle.cell_cursor.specs.declared.part.Place.{Place}
use Rattle.cell_cursor.specs.declared.part.Place.TheVariants as place
use Rattle.cell_cursor.specs.declared.statements.Reached.{Reached}
use Rattle.cell_cursor.specs.declared.statements.Reached.TheVariants as reached
use Rattle.cell_cursor.specs.Braces.{LastIsNotOuter, lexeme_kinds}
use Rattle.cell_cursor.specs.Items.{statements_after, rest_at}
use Rattle.cell_cursor.specs.Leads.{is_start}

-- Whatever follows these tokens: the statements from them on, behind these items, are those from the tokens left on, behind
-- all items.
abbrev pub ReadsOn : List LibraryItem → List Lexeme → List LibraryItem → List Lexeme → Type 0
ReadsOn items s all left = (more : List Lexeme)
    → read (statements_after items) (s ++ more) ≡ read (statements_after all) (left ++ more)

-- The tokens are read on up to the last so many of them, where a statement ends.
abbrev pub ReadsUpTo : List LibraryItem → List Lexeme → List LibraryItem → ℕ → Type 0
ReadsUpTo items s all count = (front left : List Lexeme) × (s ≡ front ++ left) × (length left ≡ count) × ReadsOn items s all left

-- a token is the same whatever follows the bytes up to this offset: a Word that ends with them may go on
abbrev pub is_final : ℕ → Token → Bool
is_final end t = not (is_word t.kind) || nat_lt t.end end

-- A token with these behind it is the same whatever follows the bytes up to this offset: only the last one may go on.
abbrev pub is_settled : ℕ → Lexeme → List Lexeme → Bool
is_settled end x left = not (is_nil left) || is_final end x.token

-- From a place on, behind these items, the tokens of a part that ends at an offset come to this, with all items: what follows is
-- read from another place on; or a token is refused, with this fault, that is the same whatever follows; or a statement may go
-- on, and no group of the library ends with the last token.
abbrev pub Comes : Reached → Place → List LibraryItem → List Lexeme → List LibraryItem → ℕ → Type 0
Comes (reached.To there) here items s all end = (is_start there ≡ false)
    × ((more : List Lexeme) → read (rest_at here items) (s ++ more) ≡ read (rest_at there all) more)
Comes (reached.Refused fault) here items s all end =
    (k : Refusal) × (x : Lexeme) × (m : List Lexeme) × (fault ≡ fault_at k x.token.at)
    × (read (rest_at here items) s ≡ Err ((all, k), x ∷ m)) × (is_settled end x m ≡ true)
Comes reached.Unfinished here items s all end = LastIsNotOuter here (lexeme_kinds s)

-- where a reading stops at the end of the tokens, no group of the library ends with the last of them
abbrev pub StopsInner : Place → List Lexeme → List Lexeme → Type 0
StopsInner here s left = left ≡ [] → LastIsNotOuter here (lexeme_kinds s)

-- the same of a statement of the library
abbrev pub EndsInner : {T : Type 0} → Result T Stop → List Lexeme → List Lexeme → Type 0
EndsInner (Ok u) s left = Unit {0}
EndsInner (Err (Refused k)) s left = StopsInner place.Inside s left
EndsInner (Err Memory) s left = Unit {0}

-- what tokens come to in a reading that stops where it is refused, with these tokens left
abbrev pub ComesSo : Result Reached Stop → Place → List LibraryItem → List Lexeme → List LibraryItem → List Lexeme → Type 0
ComesSo (Ok (reached.To there)) here items s all left = (is_start there ≡ false)
    × ((more : List Lexeme) → read (rest_at here items) (s ++ more) ≡ read (rest_at there all) more)
ComesSo (Ok (reached.Refused fault)) here items s all left = ⊥
ComesSo (Ok reached.Unfinished) here items s all left = LastIsNotOuter here (lexeme_kinds s)
ComesSo (Err (Refused k)) here items s all left = (read (rest_at here items) s ≡ Err ((all, k), left)) × StopsInner here s left
ComesSo (Err Memory) here items s all left = Unit {0}
