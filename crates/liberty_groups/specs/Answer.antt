-- What a Liberty text is read as: its groups, and its end or its first fault.
use Rattle.std.specs.Prelude.{◌≡◌, ◌⊎◌, ℕ, Bool, true, false, ◌||◌, ◌&&◌, ◌==◌, nat_eq, if◌then◌else◌, List, [], ◌∷◌, ◌++◌}
use Rattle.std.specs.Prelude.{length, Option, Some, None, unwrap_or, Ok, Err, codes}
use Rattle.std.specs.Str.{bytes_eq}
use Rattle.std.specs.List.{starts_with}
use Rattle.liberty_text.specs.declared.token.Token.{Token}
use Rattle.liberty_text.specs.declared.token.Stop.{Stop}
use Rattle.liberty_text.specs.declared.token.Stop.TheVariants as stops
use Rattle.liberty_text.specs.Scanner.{scan_of}
use Rattle.liberty_text.specs.Tokens as lex
use Rattle.grammar_rules.specs.Rule.{Takes, Refuses, Front}
use Rattle.grammar_rules.specs.Reading.{Outcome, read}
use Rattle.liberty_groups.specs.declared.fault.LibraryFault.{LibraryFault}
use Rattle.liberty_groups.specs.declared.fault.Refusal.{Refusal}
use Rattle.liberty_groups.specs.declared.read.End.{End}
use Rattle.liberty_groups.specs.declared.read.End.TheVariants.{Whole, Cut, Fault}
use Rattle.liberty_groups.specs.declared.read.Halt.{Halt}
use Rattle.liberty_groups.specs.declared.read.Halt.TheVariants as halt
use Rattle.liberty_groups.specs.declared.read.Reading.{Reading}
use Rattle.liberty_groups.specs.Lexeme.{Lexeme, lexemes_of}
use Rattle.liberty_groups.specs.Fault.{fault_at, lexical_fault}
use Rattle.liberty_groups.specs.Library.{Found, found_of, library, is_word}
use Rattle.liberty_groups.specs.Outline.{has_outline}

-- The bytes are a library text: they are tokens, without a fault, that the grammar takes.
abbrev pub IsLibraryText : List ℕ → Type 0
IsLibraryText bytes = (ts : List Token) × (found : Found) × lex.Reads bytes ts stops.End
    × Takes library (lexemes_of bytes ts) found []

-- Some library text begins with these bytes.
abbrev pub IsFrontOfText : List ℕ → Type 0
IsFrontOfText bytes = (more : List ℕ) × IsLibraryText (bytes ++ more)

-- What the statements give that ended before the end of the library, or before the place where the
-- grammar refuses a token or the end of the tokens.
abbrev pub GathersFirst : List Lexeme → Found → Type 0
GathersFirst s found = Takes library s found [] ⊎ ((k : Refusal) × (m : List Lexeme) × Refuses library s (found, k) m)

-- The first fault of a text of this length, with these tokens before this stop. It is the first token
-- with which the tokens so far are no front of the grammar; where there is none, the byte, text or
-- comment that stopped the tokens; and where there is none either, the end of the text.
abbrev pub FaultsAt : ℕ → List Lexeme → Stop → LibraryFault → Type 0
FaultsAt len s stop fault =
    ((found : Found) × (k : Refusal) × (x : Lexeme) × (m : List Lexeme) × Refuses library s (found, k) (x ∷ m)
    × (fault ≡ fault_at k x.token.at))
    ⊎ ((Front library s × (lexical_fault stop ≡ Some fault))
    ⊎ ((lexical_fault stop ≡ None) × (found : Found) × (k : Refusal) × Refuses library s (found, k) []
    × (fault ≡ fault_at k len)))

-- How a reading ends. A text that is whole ends so, or has its first fault. Bytes that are only the
-- front of a file are cut where some library text begins with them, and have the fault else.
abbrev pub EndsSo : List ℕ → Bool → List Lexeme → Stop → End → Type 0
EndsSo bytes true s stop Whole = (stop ≡ stops.End) × (found : Found) × Takes library s found []
EndsSo bytes true s stop Cut = ⊥
EndsSo bytes true s stop (Fault f) = FaultsAt (length bytes) s stop f
EndsSo bytes false s stop Whole = ⊥
EndsSo bytes false s stop Cut = IsFrontOfText bytes
EndsSo bytes false s stop (Fault f) = (IsFrontOfText bytes → ⊥) × FaultsAt (length bytes) s stop f

-- bytes, whole or the front of a file, are read as these groups with this end
pub record IsReading (bytes : List ℕ) (whole : Bool) (found : Found) (end : End) : Type 0 where
  pub tokens : List Token
  pub stop : Stop
  pub lexes : lex.Reads bytes tokens stop
  pub gathers : GathersFirst (lexemes_of bytes tokens) found
  pub ends : EndsSo bytes whole (lexemes_of bytes tokens) stop end

-- a reading of the code is this one
pub record Is (r : Reading) (found : Found) (end : End) : Type 0 where
  pub same_found : found_of r.found ≡ found
  pub same_end : r.end ≡ end

-- Below: the same as a function of the bytes.

-- A refused word at the end of the bytes may be the front of a token that is not refused: a slash, with
-- which a comment may begin, and what may become the name of the library, where it is the only token.
abbrev pub may_become_other : Bool → List ℕ → Bool
may_become_other is_only bytes = bytes_eq bytes (codes "/") || (is_only && starts_with nat_eq (codes "library/") bytes)

abbrev pub is_nil : {T : Type 0} → List T → Bool
is_nil [] = true
is_nil (x ∷ s) = false

abbrev pub is_last : List Lexeme → Bool
is_last [] = false
is_last (x ∷ m) = is_nil m

-- the next token is a refused word up to the end of a text of this length
abbrev pub is_unfinished : ℕ → Bool → List Lexeme → Bool
is_unfinished len is_only [] = false
is_unfinished len is_only (x ∷ m) = is_nil m && (is_word x.token.kind && (x.token.end == len && may_become_other is_only x.bytes))

-- where a reading of a text of this length halts
abbrev pub halt_at : ℕ → Bool → Refusal → List Lexeme → Halt
halt_at len is_only k [] = halt.Short k
halt_at len is_only k (x ∷ m) = halt.Refused k x.token.at (is_unfinished len is_only (x ∷ m))

abbrev pub halt_of : ℕ → Bool → Outcome Lexeme (Found × Refusal) Found → Halt
halt_of len is_only (Ok p) = halt.Whole
halt_of len is_only (Err e) = halt_at len is_only e.0.1 e.1

abbrev pub found_in : Outcome Lexeme (Found × Refusal) Found → Found
found_in (Ok p) = p.0
found_in (Err e) = e.0.0

abbrev pub fault_of : ℕ → Halt → Stop → Option LibraryFault
fault_of len halt.Whole stop = lexical_fault stop
fault_of len (halt.Short k) stop = Some (unwrap_or (lexical_fault stop) (fault_at k len))
fault_of len (halt.Refused k at u) stop = Some (fault_at k at)

-- bytes that end in an open text, with the text closed
abbrev pub closed_text : List ℕ → List ℕ
closed_text bytes = bytes ++ 32 ∷ 34 ∷ []

abbrev pub closed_has_outline : List ℕ → Bool
closed_has_outline bytes = has_outline (lexemes_of (closed_text bytes) (scan_of (closed_text bytes)).0)

abbrev pub goes_on_after : List ℕ → Stop → Bool
goes_on_after bytes (stops.BadByte at) = false
goes_on_after bytes (stops.OpenText at) = closed_has_outline bytes
goes_on_after bytes _ = true

abbrev pub is_end : Stop → Bool
is_end stops.End = true
is_end _ = false

-- some library text begins with these bytes
abbrev pub may_go_on : List ℕ → Halt → Stop → Bool
may_go_on bytes (halt.Refused k at u) stop = is_end stop && u
may_go_on bytes _ stop = goes_on_after bytes stop

abbrev pub end_by : Option LibraryFault → End
end_by None = Whole
end_by (Some f) = Fault f

abbrev pub end_of : List ℕ → Bool → Halt → Stop → End
end_of bytes true halt stop = end_by (fault_of (length bytes) halt stop)
end_of bytes false halt stop = if may_go_on bytes halt stop then Cut else end_by (fault_of (length bytes) halt stop)

-- the tokens of the bytes, read
unfoldable pub outcome_of : List ℕ → Outcome Lexeme (Found × Refusal) Found
outcome_of bytes = read library (lexemes_of bytes (scan_of bytes).0)

abbrev pub found_of_bytes : List ℕ → Found
found_of_bytes bytes = found_in (outcome_of bytes)

abbrev pub end_of_bytes : List ℕ → Bool → End
end_of_bytes bytes whole = end_of bytes whole
    (halt_of (length bytes) (is_last (lexemes_of bytes (scan_of bytes).0)) (outcome_of bytes)) (scan_of bytes).1

-- Bytes are read as one thing, and this is it.
pub record HasOneReading (bytes : List ℕ) (whole : Bool) : Type 0 where
  pub found : Found
  pub end : End
  pub is_reading : IsReading bytes whole found end
  pub same_found : (f : Found) (e : End) → IsReading bytes whole f e → f ≡ found
  pub same_end : (f : Found) (e : End) → IsReading bytes whole f e → e ≡ end
