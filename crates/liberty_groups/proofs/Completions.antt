-- Each front of a library can be completed.
use Rattle.std.proofs.Common.{◌≡◌, ◌≢◌, ℕ, zero, suc, ◌+◌, ◌-◌, Bool, true, false, List, [], ◌∷◌, ◌++◌, length, take, drop}
use Rattle.std.proofs.Common.{slice_range, Option, Some, None, Ok, Err, refl, ap, subst, ◌∙◌, arith}
use Rattle.std.specs.Prelude.{option_and_then, codes}
use Rattle.std.proofs.Math.Seq.{drop-append_seam}
use Rattle.liberty_text.specs.declared.token.Token.{Token}
use Rattle.liberty_text.specs.declared.token.TokenKind.TheVariants.{Word, Brace, Colon, Semicolon}
use Rattle.liberty_text.specs.declared.token.Stop.TheVariants.{End}
use Rattle.liberty_text.specs.Scanner.{token}
use Rattle.liberty_text.specs.Tokens.{ends_word, WordBytes, Lexes}
use Rattle.liberty_text.specs.Tokens as lex
use Rattle.grammar_rules.specs.Rule.{Takes}
use Rattle.grammar_rules.specs.Reading.{Outcome, read}
use Rattle.grammar_rules.proofs.Exact.{sound}
use Rattle.grammar_rules.proofs.Steps.{rest_of}
use Rattle.grammar_rules.proofs.Fronts.{UsesUp}
use Rattle.liberty_groups.specs.declared.fault.Refusal.{Refusal}
use Rattle.liberty_groups.specs.declared.outline.Standing.{Standing}
use Rattle.liberty_groups.specs.declared.outline.Standing.TheVariants.{Start, AfterLibrary, HeadArguments, AfterHead, Statements}
use Rattle.liberty_groups.specs.declared.outline.Standing.TheVariants.{AfterName, Arguments, AfterArguments, ValueStart, Value}
use Rattle.liberty_groups.specs.declared.outline.Standing.TheVariants.{Done}
use Rattle.liberty_groups.specs.Lexeme.{Lexeme, lexemes_of}
use Rattle.liberty_groups.specs.Library.{Found, library, rest_of_library, is_library_name}
use Rattle.liberty_groups.specs.Outline.{step, stands}
use Rattle.liberty_groups.proofs.Guides.{Fate, ErrFollows, dead, open_, done, fate, fate_at, fate_of, Follows}
use Rattle.liberty_groups.proofs.Outlines.{leads_library}
use Rattle.liberty_groups.proofs.Lexemes.{bytes_agree}
use Rattle.liberty_groups.proofs.Pieces.{word_any}

pub stands-append : (p q : Standing) (s t : List Lexeme) → stands p s ≡ Some q → stands p (s ++ t) ≡ stands q t
stands-append p q [] t e = ap (λ (r : Standing). stands r t) (same e)
  where
    same : {a b : Standing} → Some a ≡ Some b → a ≡ b
    same e = cc
stands-append p q (x ∷ s) t e = by_step (step p x.token (is_library_name x)) e (λ r h. stands-append r q s t h)
  where
    by_step : (o : Option Standing) → option_and_then (λ r. stands r s) o ≡ Some q →
        ((r : Standing) → stands r s ≡ Some q → stands r (s ++ t) ≡ stands q t)
        → option_and_then (λ r. stands r (s ++ t)) o ≡ stands q t
    by_step None h go = absurd cc
    by_step (Some r) h go = go r h

-- tokens that stand have fronts that stand
pub stands_front : (p q : Standing) (s t : List Lexeme) → stands p (s ++ t) ≡ Some q → (r : Standing) × (stands p s ≡ Some r)
    × (stands r t ≡ Some q)
stands_front p q [] t e = (p, refl, e)
stands_front p q (x ∷ s) t e = by_step (step p x.token (is_library_name x)) e (λ r h. stands_front r q s t h)
  where
    by_step : (o : Option Standing) → option_and_then (λ r. stands r (s ++ t)) o ≡ Some q →
        ((r : Standing) → stands r (s ++ t) ≡ Some q → (v : Standing) × (stands r s ≡ Some v) × (stands v t ≡ Some q)) →
        (r : Standing) × (option_and_then (λ r. stands r s) o ≡ Some r) × (stands r t ≡ Some q)
    by_step None h go = absurd cc
    by_step (Some r) h go = go r h

-- a library leaves no token
pub whole : (s : List Lexeme) (found : Found) (r : List Lexeme) → Takes library s found r → r ≡ []
unfolding library rest_of_library
whole s found r (u, m, t, (found', n, t', (u', n', t'', (e, f, g)))) = g

fate_found : (s : List Lexeme) (o : Outcome Lexeme (Found × Refusal) Found) → read library s ≡ o → Follows Done done o
    → (found : Found) × Takes library s found []
fate_found s (Ok p) e h =
    let t = sound library s p.0 p.1 e in
    (p.0, subst (λ (r : List Lexeme). Takes library s p.0 r) (whole s p.0 p.1 t) t)
fate_found s (Err z) e h = absurd (not_done z.1 h)
  where
    not_done : (m : List Lexeme) → ErrFollows done m → ⊥
    not_done [] h = absurd cc
    not_done (x ∷ m) h = absurd cc

-- tokens whose outline is done are a library
pub done_whole : (s : List Lexeme) → stands Start s ≡ Some Done → (found : Found) × Takes library s found []
done_whole s e =
    let h = leads_library s in
    fate_found s (read library s) refl (subst (λ (f : Fate). Follows Done f (read library s)) (ap fate e) h)

fate_some : (o : Option Standing) → fate o ≢ dead → (p : Standing) × (o ≡ Some p)
fate_some None h = absurd (h refl)
fate_some (Some p) h = (p, refl)

-- tokens that a reading uses up have an outline
pub used_stands : (s : List Lexeme) → UsesUp (read library s) → (p : Standing) × (stands Start s ≡ Some p)
used_stands s h = fate_some (stands Start s) (not_dead (stands Start s) (read library s) h (leads_library s))
  where
    not_dead : (v : Option Standing) (o : Outcome Lexeme (Found × Refusal) Found) → UsesUp o → Follows Done (fate v) o
        → fate v ≢ dead
    not_dead v (Ok p) u f = λ e. (let i : fate_of Done p.1 ≡ done = ap (λ (m : List Lexeme). fate_of Done m) u in absurd cc)
    not_dead v (Err z) u f = λ e. (let i : fate v ≡ open_ = subst (λ (m : List Lexeme). ErrFollows (fate v) m) u f in absurd cc)

-- tokens with an outline are used up
pub stands_used : (s : List Lexeme) (p : Standing) → stands Start s ≡ Some p → UsesUp (read library s)
stands_used s p e = all_used (read library s) refl
    (subst (λ (v : Option Standing). Follows Done (fate v) (read library s)) e (leads_library s))
  where
    open_or_done : (q : Standing) (m : List Lexeme) → ErrFollows (fate_at q) m → m ≡ []
    open_or_done q [] h = refl
    open_or_done q (x ∷ m) h = absurd (alive q h)
      where
        alive : (q : Standing) → fate_at q ≡ dead → ⊥
        alive Done h = absurd cc
        alive Start h = absurd cc
        alive AfterLibrary h = absurd cc
        alive HeadArguments h = absurd cc
        alive AfterHead h = absurd cc
        alive (Statements d) h = absurd cc
        alive (AfterName d) h = absurd cc
        alive (Arguments d) h = absurd cc
        alive (AfterArguments d) h = absurd cc
        alive (ValueStart d) h = absurd cc
        alive (Value d) h = absurd cc

    all_used : (o : Outcome Lexeme (Found × Refusal) Found) → read library s ≡ o → Follows Done (fate_at p) o → rest_of o ≡ []
    all_used (Ok y) i h = whole s y.0 y.1 (sound library s y.0 y.1 i)
    all_used (Err z) i h = open_or_done p z.1 h

-- the braces that close so many groups inside the library, and the library
abbrev pub braces : ℕ → List ℕ
braces zero = 125 ∷ []
braces (suc d) = 125 ∷ braces d

-- bytes that complete a library from a standing on
abbrev pub tail : Standing → List ℕ
tail Start = 108 ∷ 105 ∷ 98 ∷ 114 ∷ 97 ∷ 114 ∷ 121 ∷ 40 ∷ 41 ∷ 123 ∷ 125 ∷ []
tail AfterLibrary = 40 ∷ 41 ∷ 123 ∷ 125 ∷ []
tail HeadArguments = 41 ∷ 123 ∷ 125 ∷ []
tail AfterHead = 123 ∷ 125 ∷ []
tail (Statements d) = braces d
tail (AfterName d) = 58 ∷ 59 ∷ braces d
tail (Arguments d) = 41 ∷ braces d
tail (AfterArguments d) = braces d
tail (ValueStart d) = 59 ∷ braces d
tail (Value d) = 59 ∷ braces d
tail Done = []

-- the bytes are tokens that lead from a standing to the end of the library
abbrev pub Completes : List ℕ → ℕ → Bool → List ℕ → Standing → Type 0
Completes text n l bytes p = (ts : List Token) × Lexes n l bytes ts End × (stands p (lexemes_of text ts) ≡ Some Done)

close_braces : (d : ℕ) (text : List ℕ) (n : ℕ) (l : Bool) → Completes text n l (braces d) (Statements d)
close_braces zero text n l = (token (Brace 125) n (n + 1) l ∷ [], lex.mark (Brace 125) refl lex.end, refl)
close_braces (suc d) text n l =
    let i = close_braces d text (n + 1) false in
    (token (Brace 125) n (n + 1) l ∷ i.0, lex.mark (Brace 125) refl i.1, i.2)

close_arguments : (d : ℕ) (text : List ℕ) (n : ℕ) (l : Bool) → Completes text n l (braces d) (AfterArguments d)
close_arguments zero text n l = (token (Brace 125) n (n + 1) l ∷ [], lex.mark (Brace 125) refl lex.end, refl)
close_arguments (suc d) text n l =
    let i = close_braces d text (n + 1) false in
    (token (Brace 125) n (n + 1) l ∷ i.0, lex.mark (Brace 125) refl i.1, i.2)

close_head : (text : List ℕ) (n : ℕ) (l : Bool) → Completes text n l (40 ∷ 41 ∷ 123 ∷ 125 ∷ []) AfterLibrary
close_head text n l = (
  token (Brace 40) n (n + 1) l ∷ token (Brace 41) (n + 1) (n + 1 + 1) false ∷ token (Brace 123) (n + 1 + 1)
      (n + 1 + 1 + 1) false ∷ token (Brace 125) (n + 1 + 1 + 1) (n + 1 + 1 + 1 + 1) false ∷ [],
  lex.mark (Brace 40) refl (lex.mark (Brace 41) refl (lex.mark (Brace 123) refl (lex.mark (Brace 125) refl lex.end))),
  refl,
)

-- the name of a library is a word, whatever ends it
pub library_bytes : (y : List ℕ) → ends_word y ≡ true → WordBytes (108 ∷ 105 ∷ 98 ∷ 114 ∷ 97 ∷ 114 ∷ 121 ∷ []) y
library_bytes y e = word_any library_word y e
  where
    library_word : WordBytes (108 ∷ 105 ∷ 98 ∷ 114 ∷ 97 ∷ 114 ∷ 121 ∷ []) []
    library_word =
        lex.word_byte refl (lex.word_byte refl
        (lex.word_byte refl (lex.word_byte refl
        (lex.word_byte refl (lex.word_byte refl (lex.word_byte refl (lex.word_ends refl)))))))

-- a word that is the name of a library stands first
pub first_word : (text : List ℕ) (a n : ℕ) (l : Bool) → slice_range text a n ≡ codes "library"
    → step Start (token Word a n l) (is_library_name (record { token = token Word a n l; bytes = slice_range text a n })) ≡ Some
    AfterLibrary
first_word text a n l e = rw (bytes_agree (slice_range text a n) (codes "library") e) refl

pub completes : (p : Standing) (pre : List ℕ) (n : ℕ) (l : Bool) → n ≡ length pre → Completes (pre ++ tail p) n l (tail p) p
completes Start pre n l e =
    let text = pre ++ tail Start in
    let i = close_head text (n + 1 + 6) false in
    let g : n + 1 + 6 - n ≡ 7 = omega arith in
    let s : slice_range text n (n + 1 + 6) ≡ codes "library" =
    ap (λ (k : ℕ). take k (drop n text)) g ∙ ap (λ (k : ℕ). take 7 (drop k text)) e
    ∙ ap (take 7) (drop-append_seam pre (tail Start)) in (
      token Word n (n + 1 + 6) l ∷ i.0,
      lex.word 108 (105 ∷ 98 ∷ 114 ∷ 97 ∷ 114 ∷ 121 ∷ []) (40 ∷ 41 ∷ 123 ∷ 125 ∷ [])
          (library_bytes (40 ∷ 41 ∷ 123 ∷ 125 ∷ []) refl) refl i.1,
      ap (λ (o : Option Standing). option_and_then (λ q. stands q (lexemes_of text i.0)) o) (first_word text n (n + 1 + 6) l s)
          ∙ i.2,
    )
completes AfterLibrary pre n l e = close_head (pre ++ tail AfterLibrary) n l
completes HeadArguments pre n l e = (
  token (Brace 41) n (n + 1) l ∷ token (Brace 123) (n + 1) (n + 1 + 1) false ∷ token (Brace 125) (n + 1 + 1)
      (n + 1 + 1 + 1) false ∷ [],
  lex.mark (Brace 41) refl (lex.mark (Brace 123) refl (lex.mark (Brace 125) refl lex.end)),
  refl,
)
completes AfterHead pre n l e = (
  token (Brace 123) n (n + 1) l ∷ token (Brace 125) (n + 1) (n + 1 + 1) false ∷ [],
  lex.mark (Brace 123) refl (lex.mark (Brace 125) refl lex.end),
  refl,
)
completes (Statements d) pre n l e = close_braces d (pre ++ tail (Statements d)) n l
completes (AfterName d) pre n l e =
    let i = close_braces d (pre ++ tail (AfterName d)) (n + 1 + 1) false in (
      token Colon n (n + 1) l ∷ token Semicolon (n + 1) (n + 1 + 1) false ∷ i.0,
      lex.mark Colon refl (lex.mark Semicolon refl i.1),
      i.2,
    )
completes (Arguments d) pre n l e =
    let i = close_arguments d (pre ++ tail (Arguments d)) (n + 1) false in
    (token (Brace 41) n (n + 1) l ∷ i.0, lex.mark (Brace 41) refl i.1, i.2)
completes (AfterArguments d) pre n l e = close_arguments d (pre ++ tail (AfterArguments d)) n l
completes (ValueStart d) pre n l e =
    let i = close_braces d (pre ++ tail (ValueStart d)) (n + 1) false in
    (token Semicolon n (n + 1) l ∷ i.0, lex.mark Semicolon refl i.1, i.2)
completes (Value d) pre n l e =
    let i = close_braces d (pre ++ tail (Value d)) (n + 1) false in
    (token Semicolon n (n + 1) l ∷ i.0, lex.mark Semicolon refl i.1, i.2)
completes Done pre n l e = ([], lex.end, refl)
