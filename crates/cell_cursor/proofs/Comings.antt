-- What a reading that stops comes to.
use Rattle.std.proofs.Common.{◌≡◌, ℕ, Bool, false, not, ◌||◌, nat_lt, List, [], ◌∷◌, ◌++◌, Some, None, Result, Ok}
use Rattle.std.proofs.Common.{Err, IfOk, refl, sym, ap, subst, ◌∙◌}
use Rattle.std.proofs.lemmas.List.{append-nil}
use Rattle.grammar_rules.specs.Reading.{Outcome, and_then, marked, read}
use Rattle.grammar_rules.proofs.Steps.{rest_of}
use Rattle.grammar_rules.proofs.Places.{Suffix, suffix}
use Rattle.liberty_text.specs.declared.token.Token.{Token}
use Rattle.liberty_text.specs.declared.token.TokenKind.{TokenKind}
use Rattle.liberty_text.specs.declared.token.TokenKind.TheVariants.{Word, Text, Brace, Colon, Semicolon, Comma}
use Rattle.liberty_groups.specs.declared.fault.Expected.TheVariants as expected
use Rattle.liberty_groups.specs.declared.fault.Refusal.{Refusal}
use Rattle.liberty_groups.specs.declared.fault.Refusal.TheVariants.{Syntax}
use Rattle.liberty_groups.specs.declared.fault.Stop.{Stop}
use Rattle.liberty_groups.specs.declared.fault.Stop.TheVariants.{Refused, Memory}
use Rattle.liberty_groups.specs.declared.reader.Mark.TheVariants as mark
use Rattle.liberty_groups.specs.declared.reader.Start.TheVariants as start
use Rattle.liberty_groups.specs.declared.tree.Item.{Item}
use Rattle.liberty_groups.specs.Answer.{is_last}
use Rattle.liberty_groups.specs.Lexeme.{Lexeme, next_token, next_bytes, rest}
use Rattle.liberty_groups.specs.Grammar.{Reads, expect, next_start, next_at, statement}
use Rattle.liberty_groups.specs.Library.{is_word, levels_inside, header}
use Rattle.cell_cursor.specs.declared.item.LibraryItem.{LibraryItem}
use Rattle.cell_cursor.specs.declared.part.Place.{Place}
use Rattle.cell_cursor.specs.declared.part.Place.TheVariants as place
use Rattle.cell_cursor.specs.declared.statements.Reached.{Reached}
use Rattle.cell_cursor.specs.declared.statements.Reached.TheVariants as reached
use Rattle.cell_cursor.specs.Braces.{has_outer, LastIsNotOuter, lexeme_kinds}
use Rattle.cell_cursor.specs.Items.{Adds, has_ended, item_statement, statements_after, file_end, library_end, rest_inside}
use Rattle.cell_cursor.specs.Items.{rest_at}
use Rattle.cell_cursor.specs.Reached.{ComesSo, EndsInner, is_final}
use Rattle.cell_cursor.proofs.Closed.{reads_on, closed_header, closed_mark}
use Rattle.cell_cursor.proofs.Depths.{lexeme_kinds_append, word_is_not_outer}
use Rattle.cell_cursor.proofs.OpenParts.{Walked, item_failed, item_open, last_open, header_short, header_long, behind_not_outer}
use Rattle.cell_cursor.proofs.Prefix.{Told}

pub end_refused : (items : List LibraryItem) (s left : List Lexeme) (e : Stop)
    → Adds {T = Unit {0}} (read (file_end items) s) (Err e) items left → ComesSo (Err e) place.Behind items s items left
end_refused items s left (Refused k) h = (h, λ none. behind_not_outer (lexeme_kinds s))
end_refused items s left Memory h = tt

pub end_reached : (items : List LibraryItem) (s : List Lexeme) → read (file_end items) s ≡ Ok (items, s) → (more : List Lexeme)
    → read (file_end items) (s ++ more) ≡ read (file_end items) more
end_reached items [] e more = refl
end_reached items (x ∷ s) e more = absurd cc

pub header_reached : (items : List LibraryItem) (s more : List Lexeme) → read header s ≡ Ok (tt, [])
    → read (rest_at place.Start items) (s ++ more) ≡ read (rest_at place.Inside items) more
header_reached items s more e =
    ap (λ (o : Outcome Lexeme Refusal (Unit {0})). and_then (marked (λ k. (items, k)) o) (λ _ m. read (rest_inside items) m))
    (closed_header s tt [] more e refl)

pub no_next : (s : List Lexeme) → next_token s ≡ None → s ≡ []
no_next [] e = refl
no_next (x ∷ s) e = absurd cc

-- the statements, then the brace that ends the library
inside_more : (items all : List LibraryItem) (s left next more : List Lexeme) → read (statements_after items) s ≡ Ok (all, left) →
    read {K = Refusal} (expect mark.End (Syntax expected.Statement)) left ≡ Ok (tt, next)
    → read (rest_inside items) (s ++ more) ≡ read (file_end all) (next ++ more)
unfolding rest_inside library_end
inside_more items all s [] next more e f = absurd cc
inside_more items all s (x ∷ left) next more e f =
    ap (λ (o : Told). and_then o (λ a m. read (library_end a) m)) (reads_on (statements_after items) s all x left more e)
    ∙ ap (λ (o : Outcome Lexeme Refusal (Unit {0})). and_then (marked (λ k. (all, k)) o) (λ _ m. read (file_end all) m))
    (closed_mark (x ∷ left) tt next more f refl)

pub inside_now : (items all : List LibraryItem) (s left next : List Lexeme) → read (statements_after items) s ≡ Ok (all, left) →
    read {K = Refusal} (expect mark.End (Syntax expected.Statement)) left ≡ Ok (tt, next)
    → read (rest_inside items) s ≡ read (file_end all) next
inside_now items all s left next e f =
    ap (read (rest_inside items)) (sym (append-nil s)) ∙ inside_more items all s left next [] e f
    ∙ ap (read (file_end all)) (append-nil next)

refused_some : (all : List LibraryItem) (next : List Lexeme) (k : Refusal) → read (file_end all) next ≡ Err ((all, k), next)
    → next ≡ [] → ⊥
refused_some all [] k e none = absurd cc
refused_some all (x ∷ next) k e none = cc

pub end_on : (r : Result Reached Stop) (items all : List LibraryItem) (s left next : List Lexeme)
    → read (statements_after items) s ≡ Ok (all, left) →
    read {K = Refusal} (expect mark.End (Syntax expected.Statement)) left ≡ Ok (tt, next)
    → ComesSo r place.Behind all next all next →
    IfOk r (λ v. v ≡ reached.To place.Behind) → ComesSo r place.Inside items s all next
end_on (Ok (reached.To there)) items all s left next e f h is =
    (h.0, λ more. inside_more items all s left next more e f ∙ h.1 more)
end_on (Ok (reached.Refused fault)) items all s left next e f h is = h
end_on (Ok reached.Unfinished) items all s left next e f h is = absurd cc
end_on (Err (Refused k)) items all s left next e f h is =
    (inside_now items all s left next e f ∙ h.0, λ none. absurd (refused_some all next k h.0 none))
end_on (Err Memory) items all s left next e f h is = tt

-- Where a reading stops, the last token is no outer brace.

-- before the statements of the library
pub header_refused : (items : List LibraryItem) (s left : List Lexeme) (e : Stop)
    → Reads {A = Unit {0}} (read header s) (Err e) left → ComesSo (Err e) place.Start items s items left
header_refused items s left (Refused k) h = (
  ap (λ (o : Outcome Lexeme Refusal (Unit {0})). and_then (marked (λ k. (items, k)) o) (λ _ m. read (rest_inside items) m)) h,
  λ none. header_short s left k h none,
)
header_refused items s left Memory h = tt

pub header_behind : (s left : List Lexeme) (t : Token) → read header s ≡ Ok (tt, left) → next_token left ≡ Some t
    → LastIsNotOuter place.Start (lexeme_kinds s)
header_behind s [] t e f = absurd cc
header_behind s (x ∷ left) t e f = header_long s x left e

-- a statement of the library
pub open_statement : (s r : List Lexeme) (name : List ℕ) (at : ℕ) (one : Item) (left : List Lexeme) → r ≡ rest s
    → read (statement levels_inside name at) r ≡ Ok (one, left) → has_ended one left ≡ false →
    has_outer place.Inside (lexeme_kinds (rest s)) ≡ false
open_statement s r name at one [] e f h = ap (λ (l : List Lexeme). has_outer place.Inside (lexeme_kinds l)) (sym e)
    ∙ item_open name at r one f h
open_statement s r name at one (x ∷ left) e f h = absurd cc

pub failed_inner : (items more_items : List LibraryItem) (s left next : List Lexeme) (e : Stop) → Walked s left
    → next_start left ≡ start.Named →
    Adds {T = Bool} (read (item_statement items (next_bytes left) (next_at left)) (rest left)) (Err e) more_items next
    → EndsInner {T = Bool} (Err e) s next
failed_inner items more_items s left next (Refused k) w e h = λ none.
    last_open s left w e
    (item_failed items more_items k (next_bytes left) (next_at left) (rest left)
    (h ∙ ap (λ (l : List Lexeme). Err ((more_items, k), l)) none))
failed_inner items more_items s left next Memory w e h = tt

-- a token that is refused

word_by : (k : TokenKind) (b : Bool) → (not (is_word k) || b) ≡ false → k ≡ Word
word_by Word b e = refl
word_by Text b e = absurd cc
word_by (Brace byte) b e = absurd cc
word_by Colon b e = absurd cc
word_by Semicolon b e = absurd cc
word_by Comma b e = absurd cc

refused_open : (here : Place) (items all : List LibraryItem) (s left : List Lexeme) (k : Refusal) (t : Token) (end : ℕ)
    → read (rest_at here items) s ≡ Err ((all, k), left) →
    next_token left ≡ Some t → (not (is_last left) || is_final end t) ≡ false → LastIsNotOuter here (lexeme_kinds s)
refused_open here items all s [] k t end e f h = absurd cc
refused_open here items all s (x ∷ []) k t end e f h =
    let same : x.token ≡ t = cc in
    let final : is_final end x.token ≡ false = ap (is_final end) same ∙ h in
    let word : x.token.kind ≡ Word = word_by x.token.kind (nat_lt x.token.end end) final in
    let behind : Suffix s (x ∷ []) = subst (λ (o : Told). Suffix s (rest_of o)) e (suffix (rest_at here items) s) in
    word_is_not_outer here (lexeme_kinds s) (lexeme_kinds behind.0)
    (ap lexeme_kinds behind.1 ∙ lexeme_kinds_append behind.0 (x ∷ [])
    ∙ ap (λ (j : TokenKind). lexeme_kinds behind.0 ++ j ∷ []) word)
refused_open here items all s (x ∷ y ∷ left) k t end e f h = absurd cc

-- as found by the code
pub refused_here : (here : Place) (items all : List LibraryItem) (s left : List Lexeme) (e : Stop) (k : Refusal) (t : Token)
    (end : ℕ) → ComesSo (Err e) here items s all left → e ≡ Refused k →
    next_token left ≡ Some t → (not (is_last left) || is_final end t) ≡ false → LastIsNotOuter here (lexeme_kinds s)
refused_here here items all s left e k t end comes is f h =
    let c : ComesSo (Err (Refused k)) here items s all left = subst (λ (v : Stop). ComesSo (Err v) here items s all left) is comes
    in
    refused_open here items all s left k t end c.0 f h
