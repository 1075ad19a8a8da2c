-- How far a library has come, one part after another.
use Rattle.std.proofs.Common.{◌≡◌, ◌≢◌, ℕ, ◌+◌, Bool, true, false, List, [], ◌∷◌, ◌++◌, length, slice_range, Ok, Err, ◌⊎◌, inl}
use Rattle.std.proofs.Common.{inr, not, refl, sym, ap, subst, ◌∙◌, arith, length-append}
use Rattle.std.proofs.lemmas.List.{append-nil, append_assoc, map-append}
use Rattle.grammar_rules.specs.Rule.{Verdict, Fits, Foul, Misfit}
use Rattle.grammar_rules.specs.Reading.{Outcome, and_then, marked, judge, read}
use Rattle.liberty_text.specs.declared.token.Token.{Token}
use Rattle.liberty_text.specs.declared.token.Stop.{Stop}
use Rattle.liberty_text.specs.declared.token.Stop.TheVariants.{End, BadByte, OpenText, OpenComment, OpenContinuation}
use Rattle.liberty_text.specs.declared.scanner.Mode.{Mode}
use Rattle.liberty_text.specs.declared.scanner.Mode.TheVariants.{Between}
use Rattle.liberty_text.specs.Scanner.{token, run, scan_of}
use Rattle.liberty_groups.specs.declared.fault.Expected.TheVariants as expected
use Rattle.liberty_groups.specs.declared.fault.Refusal.{Refusal}
use Rattle.liberty_groups.specs.declared.fault.Refusal.TheVariants.{Syntax, NotLibrary}
use Rattle.liberty_groups.specs.declared.reader.Mark.TheVariants as mark
use Rattle.liberty_groups.specs.Grammar.{◌>>=◌, expect, arguments}
use Rattle.liberty_groups.specs.Lexeme.{Lexeme, lexeme_behind, lexemes_of, behind, lexemes_behind, LieInside}
use Rattle.liberty_groups.specs.Library.{header, library_name}
use Rattle.liberty_groups.specs.Answer.{is_last}
use Rattle.cell_cursor.specs.declared.item.LibraryItem.{LibraryItem}
use Rattle.cell_cursor.specs.declared.part.Place.{Place}
use Rattle.cell_cursor.specs.declared.part.Place.TheVariants as place
use Rattle.cell_cursor.specs.Items.{rest_at, rest_inside, library_end, items_outcome}
use Rattle.cell_cursor.specs.Leads.{LeadTo, is_start}
use Rattle.cell_cursor.specs.Scanned.{AreScanned, stop_behind}
use Rattle.cell_cursor.proofs.Prefix.{Told, prefixed, rest_prefixed, rest_behind}
use Rattle.cell_cursor.proofs.Shift.{scan_on, lexemes_longer, lexemes_split}

-- from the beginning

behind_zero : (t : Token) → behind 0 t ≡ t
behind_zero t =
    let a : t.at + 0 ≡ t.at = omega arith in
    let e : t.end + 0 ≡ t.end = omega arith in
    ap (λ (i : ℕ). token t.kind i (t.end + 0) t.line_before) a ∙ ap (λ (i : ℕ). token t.kind t.at i t.line_before) e

pub lexemes_zero : (bytes : List ℕ) (ts : List Token) → lexemes_of bytes ts ≡ lexemes_behind 0 bytes ts
lexemes_zero bytes [] = refl
lexemes_zero bytes (t ∷ ts) =
    ap (λ (u : Token). record { token = u; bytes = slice_range bytes t.at t.end } ∷ lexemes_of bytes ts) (sym (behind_zero t))
    ∙ ap (λ (s : List Lexeme). lexeme_behind 0 bytes t ∷ s) (lexemes_zero bytes ts)

stop_zero : (stop : Stop) → stop ≡ stop_behind 0 stop
stop_zero End = refl
stop_zero (BadByte at) = let e : at ≡ at + 0 = omega arith in ap BadByte e
stop_zero (OpenText at) = let e : at ≡ at + 0 = omega arith in ap OpenText e
stop_zero (OpenComment at) = let e : at ≡ at + 0 = omega arith in ap OpenComment e
stop_zero (OpenContinuation at) = let e : at ≡ at + 0 = omega arith in ap OpenContinuation e

begin_outcome : (more : List ℕ) → items_outcome more ≡ read (rest_at place.Start []) (lexemes_behind 0 more (scan_of more).0)
unfolding items_outcome
begin_outcome more = ap (read (rest_at place.Start [])) (lexemes_zero more (scan_of more).0)

pub leads_first : (more : List ℕ) → LeadTo [] more place.Start []
leads_first more = record {
  outcome = begin_outcome more;
  stop = stop_zero (scan_of more).1;
  several = λ e. absurd cc;
  begins =
      λ e. refl;
}

-- bytes that lead on whatever follows the first of the others, where no more follow
pub leads_here : (before bytes : List ℕ) (here : Place) (items : List LibraryItem)
    → ((more : List ℕ) → LeadTo before (bytes ++ more) here items) → LeadTo before bytes here items
leads_here before bytes here items leads = subst (λ (b : List ℕ). LeadTo before b here items) (append-nil bytes) (leads [])

-- a part whatever is open at its end: its tokens are the first ones
part_tokens : (bytes : List ℕ) (tokens : List Token) (mode : Mode) (more : List ℕ) → AreScanned bytes tokens mode
    → (scan_of (bytes ++ more)).0 ≡ tokens ++ (run mode (length bytes) more).0
part_tokens bytes tokens mode more h = ap (λ (p : List Token × Stop). p.0) (h more)

pub part_lexemes : (n : ℕ) (bytes : List ℕ) (tokens : List Token) (mode : Mode) (more : List ℕ) → AreScanned bytes tokens mode
    → LieInside bytes tokens →
    (others : List Lexeme) × (lexemes_behind n (bytes ++ more) (scan_of (bytes ++ more)).0 ≡ lexemes_behind n bytes tokens
    ++ others)
part_lexemes n bytes tokens mode more h i =
    let us = (run mode (length bytes) more).0 in (
      lexemes_behind n (bytes ++ more) us,
      ap (lexemes_behind n (bytes ++ more)) (part_tokens bytes tokens mode more h)
          ∙ map-append (lexeme_behind n (bytes ++ more)) tokens us
          ∙ ap (λ (s : List Lexeme). s ++ lexemes_behind n (bytes ++ more) us) (lexemes_longer n bytes more tokens i),
    )

-- a part with nothing open at its end
closed_lexemes : (n : ℕ) (bytes : List ℕ) (tokens : List Token) (more : List ℕ) → AreScanned bytes tokens (Between false)
    → LieInside bytes tokens →
    lexemes_behind n (bytes ++ more) (scan_of (bytes ++ more)).0 ≡ lexemes_behind n bytes tokens
    ++ lexemes_behind (n + length bytes) more (scan_of more).0
closed_lexemes n bytes tokens more h i =
    ap (λ (p : List Token × Stop). lexemes_behind n (bytes ++ more) p.0) (scan_on bytes tokens h more)
    ∙ lexemes_split n bytes more tokens (scan_of more).0 i

pub stop_twice : (n k : ℕ) (stop : Stop) → stop_behind n (stop_behind k stop) ≡ stop_behind (n + k) stop
stop_twice n k End = refl
stop_twice n k (BadByte at) = let e : at + k + n ≡ at + (n + k) = omega arith in ap BadByte e
stop_twice n k (OpenText at) = let e : at + k + n ≡ at + (n + k) = omega arith in ap OpenText e
stop_twice n k (OpenComment at) = let e : at + k + n ≡ at + (n + k) = omega arith in ap OpenComment e
stop_twice n k (OpenContinuation at) = let e : at + k + n ≡ at + (n + k) = omega arith in ap OpenContinuation e

-- a library has at least two tokens before its statements

abbrev kind_of : Told → Refusal
kind_of (Ok p) = NotLibrary
kind_of (Err e) = e.0.1

abbrev left_of : Told → List Lexeme
left_of (Ok p) = p.1
left_of (Err e) = e.1

abbrev Taking : Type 0
Taking = Unit {0} → List Lexeme → Outcome Lexeme Refusal (Unit {0})

abbrev first_of : Verdict (Unit {0}) Refusal → Lexeme → Taking → (List Lexeme → Told) → Told
first_of v x g q = and_then (marked (λ k. ([], k)) (and_then (judge v (λ a. Ok (a, [])) (λ j. Err (j, x ∷ []))) g)) (λ _ m. q m)

first_kind : (v : Verdict (Unit {0}) Refusal) (x : Lexeme) (g : Taking) (q : List Lexeme → Told)
    → ((a : Unit {0}) → g a [] ≡ Err (Syntax expected.Opening, [])) →
    (kind_of (first_of v x g q) ≡ Syntax expected.Opening) ⊎ (left_of (first_of v x g q) ≡ x ∷ [])
first_kind (Fits a) x g q h = inl
    (ap (λ (o : Outcome Lexeme Refusal (Unit {0})). kind_of (and_then (marked (λ k. ([], k)) o) (λ _ m. q m))) (h a))
first_kind (Foul k a) x g q h = inr refl
first_kind (Misfit k) x g q h = inr refl

one_token : (x : Lexeme) → (kind_of (read (rest_at place.Start []) (x ∷ [])) ≡ Syntax expected.Opening)
    ⊎ (left_of (read (rest_at place.Start []) (x ∷ [])) ≡ x ∷ [])
unfolding header
one_token x =
    first_kind (library_name x) x (λ _ m. read
    (expect mark.Open (Syntax expected.Opening) >>= λ _. arguments >>= λ _. expect mark.Begin (Syntax expected.Opening)) m)
    (λ m. read (rest_inside []) m) (λ a. refl)

is_syntax : Refusal → Bool
is_syntax (Syntax e) = true
is_syntax _ = false

at_end_kind : (there : Place) (all : List LibraryItem) → is_start there ≡ false
    → kind_of (read (rest_at there all) []) ≢ Syntax expected.Opening
unfolding rest_inside library_end
at_end_kind place.Start all e h = absurd cc
at_end_kind place.Inside all e h = absurd cc
at_end_kind place.Behind all e h = absurd cc

at_end_left : (there : Place) (all : List LibraryItem) → is_start there ≡ false → left_of (read (rest_at there all) []) ≡ []
unfolding rest_inside library_end
at_end_left place.Start all e = absurd cc
at_end_left place.Inside all e = refl
at_end_left place.Behind all e = refl

refused_first : Told → Bool
refused_first (Ok p) = false
refused_first (Err e) = not (is_syntax e.0.1)

no_token_first : refused_first (read (rest_at place.Start []) []) ≡ true
unfolding header refused_first is_syntax
no_token_first = refl

at_end_first : (there : Place) (all : List LibraryItem) → is_start there ≡ false
    → refused_first (read (rest_at there all) []) ≡ false
unfolding rest_inside library_end refused_first is_syntax
at_end_first place.Start all e = absurd cc
at_end_first place.Inside all e = refl
at_end_first place.Behind all e = refl

-- tokens that lead from the beginning to another place are several, also with others behind them
pub several_lead : (s : List Lexeme) (there : Place) (all : List LibraryItem) (others : List Lexeme) → is_start there ≡ false →
    read (rest_at place.Start []) s ≡ read (rest_at there all) [] → is_last (s ++ others) ≡ false
several_lead [] there all others h e =
    absurd (let f : true ≡ false = sym no_token_first ∙ ap refused_first e ∙ at_end_first there all h in cc)
several_lead (x ∷ []) there all others h e =
    elim (one_token x) [
      | inl k ↦ absurd (at_end_kind there all h (sym (ap kind_of e) ∙ k))
      | inr k ↦ absurd (let f : [] ≡ x ∷ [] = sym (at_end_left there all h) ∙ sym (ap left_of e) ∙ k in cc)
    ]
several_lead (x ∷ y ∷ s) there all others h e = refl

several_on : (before bytes : List ℕ) (tokens : List Token) (here there : Place) (items all : List LibraryItem) (more : List ℕ) →
    LeadTo before (bytes ++ more) here items → AreScanned bytes tokens (Between false) → LieInside bytes tokens
    → is_start there ≡ false →
    ((more : List Lexeme) → read (rest_at here []) (lexemes_behind (length before) bytes tokens ++ more) ≡ read
    (rest_at there all) more) →
    is_last (lexemes_of (before ++ (bytes ++ more)) (scan_of (before ++ (bytes ++ more))).0) ≡ false
several_on before bytes tokens place.Start there items all more leads scanned inside not_start comes =
    let none : before ≡ [] = leads.begins refl in
    let size : length before ≡ 0 = ap length none in
    let lead : read (rest_at place.Start []) (lexemes_behind (length before) bytes tokens) ≡ read (rest_at there all) [] =
    ap (read (rest_at place.Start [])) (sym (append-nil (lexemes_behind (length before) bytes tokens))) ∙ comes [] in
    ap (λ (b : List ℕ). is_last (lexemes_of (b ++ (bytes ++ more)) (scan_of (b ++ (bytes ++ more))).0)) none
    ∙ ap is_last (lexemes_zero (bytes ++ more) (scan_of (bytes ++ more)).0 ∙ closed_lexemes 0 bytes tokens more scanned inside
    ∙ ap (λ (n : ℕ). lexemes_behind n bytes tokens ++ lexemes_behind (0 + length bytes) more (scan_of more).0) (sym size))
    ∙ several_lead (lexemes_behind (length before) bytes tokens) there all
    (lexemes_behind (0 + length bytes) more (scan_of more).0) not_start lead
several_on before bytes tokens place.Inside there items all more leads scanned inside not_start comes = leads.several refl
several_on before bytes tokens place.Behind there items all more leads scanned inside not_start comes = leads.several refl

-- a part with nothing open at its end leads on
pub leads_on : (before bytes : List ℕ) (tokens : List Token) (here there : Place) (items all : List LibraryItem) (more : List ℕ) →
    LeadTo before (bytes ++ more) here items → AreScanned bytes tokens (Between false) → LieInside bytes tokens
    → is_start there ≡ false →
    ((more : List Lexeme) → read (rest_at here []) (lexemes_behind (length before) bytes tokens ++ more) ≡ read
    (rest_at there all) more) →
    LeadTo (before ++ bytes) more there (items ++ all)
leads_on before bytes tokens here there items all more leads scanned inside not_start comes = record {
  outcome =
      ap items_outcome (append_assoc before bytes more)
      ∙ leads.outcome
      ∙ ap (read (rest_at here items)) (closed_lexemes (length before) bytes tokens more scanned inside)
      ∙ rest_behind here items (lexemes_behind (length before) bytes tokens
      ++ lexemes_behind (length before + length bytes) more (scan_of more).0)
      ∙ ap (prefixed items) (comes (lexemes_behind (length before + length bytes) more (scan_of more).0))
      ∙ sym (rest_prefixed there items all (lexemes_behind (length before + length bytes) more (scan_of more).0))
      ∙ ap (λ (n : ℕ). read (rest_at there (items ++ all)) (lexemes_behind n more (scan_of more).0))
      (sym (length-append before bytes));
  stop =
      ap (λ (b : List ℕ). (scan_of b).1) (append_assoc before bytes more)
      ∙ leads.stop
      ∙ ap (λ (p : List Token × Stop). stop_behind (length before) p.1) (scan_on bytes tokens scanned more)
      ∙ stop_twice (length before) (length bytes) (scan_of more).1
      ∙ ap (λ (n : ℕ). stop_behind n (scan_of more).1) (sym (length-append before bytes));
  several = λ e.
      ap (λ (b : List ℕ). is_last (lexemes_of b (scan_of b).0)) (append_assoc before bytes more)
      ∙ several_on before bytes tokens here there items all more leads scanned inside not_start comes;
  begins = λ e. absurd (let f : true ≡ false = sym e ∙ not_start in cc);
}
