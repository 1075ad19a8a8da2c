-- Bytes with which some library text begins may go on, as the code finds it.
use Rattle.std.proofs.Common.{◌≡◌, ℕ, zero, suc, ◌+◌, ◌-◌, ◌==◌, ◌&&◌, Bool, true, false, nat_lt, cond, List, [], ◌∷◌, ◌++◌}
use Rattle.std.proofs.Common.{length, take, slice_range, Option, Some, None, Ok, Err, inl, inr, refl, sym, ap, subst, ◌∙◌, arith}
use Rattle.std.proofs.Common.{length-append, append_assoc}
use Rattle.std.specs.Prelude.{option_and_then, is_some, codes}
use Rattle.std.specs.Str.{bytes_eq}
use Rattle.std.proofs.lemmas.List.{append-nil}
use Rattle.std.proofs.lemmas.Bool.Decides.{nat_tests}
use Rattle.std.proofs.lemmas.Bool.{or_left as first_or, or_right as second_or}
use Rattle.liberty_text.specs.declared.token.Token.{Token}
use Rattle.liberty_text.specs.declared.token.TokenKind.TheVariants.{Word, Text}
use Rattle.liberty_text.specs.declared.token.Stop.{Stop}
use Rattle.liberty_text.specs.declared.token.Stop.TheVariants.{End, BadByte, OpenText, OpenComment, OpenContinuation}
use Rattle.liberty_text.specs.Scanner.{token, scan_of}
use Rattle.liberty_text.specs.Tokens.{Reads}
use Rattle.liberty_text.proofs.Complete.{one_reading}
use Rattle.grammar_rules.specs.Rule.{Front}
use Rattle.grammar_rules.specs.Reading.{Outcome, read}
use Rattle.grammar_rules.specs.Laws.{IsNoLongerFront}
use Rattle.grammar_rules.proofs.Steps.{rest_of}
use Rattle.grammar_rules.proofs.Exact.{complete, sound}
use Rattle.grammar_rules.proofs.Refusals.{refused}
use Rattle.grammar_rules.proofs.Fronts.{UsesUp, ends_front}
use Rattle.grammar_rules.proofs.Places.{refuses_at_first}
use Rattle.liberty_groups.specs.declared.fault.Refusal.{Refusal}
use Rattle.liberty_groups.specs.declared.outline.Standing.{Standing}
use Rattle.liberty_groups.specs.declared.outline.Standing.TheVariants.{Start, AfterLibrary, HeadArguments, AfterHead, Statements}
use Rattle.liberty_groups.specs.declared.outline.Standing.TheVariants.{AfterName, Arguments, AfterArguments, ValueStart, Value}
use Rattle.liberty_groups.specs.declared.outline.Standing.TheVariants.{Done}
use Rattle.liberty_groups.specs.Lexeme.{Lexeme, lexeme_of, lexemes_of, LieInside}
use Rattle.liberty_groups.specs.Library.{Found, library, levels_inside, is_library_name}
use Rattle.liberty_groups.specs.declared.reader.Mark.TheVariants as mark
use Rattle.liberty_groups.specs.declared.reader.Place.TheVariants as place
use Rattle.liberty_groups.specs.declared.reader.Start.{Start as Begun}
use Rattle.liberty_groups.specs.declared.reader.Start.TheVariants as begun
use Rattle.liberty_groups.specs.Grammar.{is_mark, is_argument, is_value, goes_on, ends_by, ends_value, start_by}
use Rattle.liberty_groups.specs.Outline.{at_mark, after_end, among_statements, at_statement, at_value, step, stands, has_outline}
use Rattle.liberty_groups.specs.Answer.{IsFrontOfText, may_become_other, is_last, is_unfinished, halt_at, halt_of, closed_text}
use Rattle.liberty_groups.specs.Answer.{goes_on_after, may_go_on}
use Rattle.liberty_groups.proofs.Lexemes.{bytes_are, bytes_agree, begins_so, slice_more, slice_end, slice_over, lexemes_more}
use Rattle.liberty_groups.proofs.Lexemes.{lexemes-append, inside_reads, inside_front}
use Rattle.liberty_groups.proofs.Pieces.{splits, head_same}
use Rattle.liberty_groups.proofs.Fronts.{IsCutOf, between, in_soft, in_text, in_word, in_slash, slash_alone, cuts}
use Rattle.liberty_groups.proofs.Completions.{stands-append, stands_front, whole, used_stands, stands_used}

-- whether bytes with these tokens and this stop may go on
abbrev pub decides : List ℕ → List Token → Stop → Bool
decides bytes ts stop =
    may_go_on bytes (halt_of (length bytes) (is_last (lexemes_of bytes ts)) (read library (lexemes_of bytes ts))) stop

-- where all tokens are used up, the stop decides
pub front_halts : (bytes : List ℕ) (n : ℕ) (only : Bool) (o : Outcome Lexeme (Found × Refusal) Found) (stop : Stop) → UsesUp o →
    may_go_on bytes (halt_of n only o) stop ≡ goes_on_after bytes stop
front_halts bytes n only (Ok p) stop u = refl
front_halts bytes n only (Err z) stop u =
    subst (λ (m : List Lexeme). may_go_on bytes (halt_at n only z.0.1 m) stop ≡ goes_on_after bytes stop) (sym u) refl

front_decides : (bytes : List ℕ) (ts : List Token) (stop : Stop) (p : Standing) → stands Start (lexemes_of bytes ts) ≡ Some p
    → decides bytes ts stop ≡ goes_on_after bytes stop
front_decides bytes ts stop p e =
    front_halts bytes (length bytes) (is_last (lexemes_of bytes ts)) (read library (lexemes_of bytes ts)) stop
    (stands_used (lexemes_of bytes ts) p e)

-- the start is no standing behind a token
abbrev IsBehind : Standing → Type 0
IsBehind Start = ⊥
IsBehind _ = Unit {0}

abbrev AreBehind : Option Standing → Type 0
AreBehind None = Unit {0}
AreBehind (Some q) = IsBehind q

either_behind : (b : Bool) (x y : Option Standing) → AreBehind x → AreBehind y → AreBehind (cond b x y)
either_behind true x y h i = h
either_behind false x y h i = i

mark_behind : (b : Bool) (q : Standing) → IsBehind q → AreBehind (at_mark b q)
mark_behind true q h = h
mark_behind false q h = tt

end_behind : (d : ℕ) → IsBehind (after_end d)
end_behind zero = tt
end_behind (suc d) = tt

among_behind : (d : ℕ) (b : Begun) (ends : Bool) → AreBehind (among_statements d b ends)
among_behind d begun.Named ends = tt
among_behind d begun.Empty ends = tt
among_behind d begun.Other true = end_behind d
among_behind d begun.Other false = tt

statement_behind : (d : ℕ) (t : Token) → AreBehind (at_statement d t)
statement_behind d t = among_behind d (start_by t.kind) (is_mark mark.End t.kind)

value_behind : (d : ℕ) (g e : Bool) (t : Token) → AreBehind (at_value d g e t)
value_behind d g e t = either_behind g (Some (Value d)) (cond e (at_statement d t) None) tt
    (either_behind e (at_statement d t) None (statement_behind d t) tt)

step_behind : (p : Standing) (t : Token) (b : Bool) → AreBehind (step p t b)
step_behind Start t b = mark_behind b AfterLibrary tt
step_behind AfterLibrary t b = mark_behind (is_mark mark.Open t.kind) HeadArguments tt
step_behind HeadArguments t b = either_behind (is_argument t.kind) (Some HeadArguments)
    (at_mark (is_mark mark.Close t.kind) AfterHead) tt (mark_behind (is_mark mark.Close t.kind) AfterHead tt)
step_behind AfterHead t b = mark_behind (is_mark mark.Begin t.kind) (Statements 0) tt
step_behind (Statements d) t b = statement_behind d t
step_behind (AfterName d) t b = either_behind (is_mark mark.Colon t.kind) (Some (ValueStart d))
    (at_mark (is_mark mark.Open t.kind) (Arguments d)) tt (mark_behind (is_mark mark.Open t.kind) (Arguments d) tt)
step_behind (Arguments d) t b =
    either_behind (is_argument t.kind) (Some (Arguments d)) (at_mark (is_mark mark.Close t.kind) (AfterArguments d)) tt
    (mark_behind (is_mark mark.Close t.kind) (AfterArguments d) tt)
step_behind (AfterArguments d) t b =
    either_behind (is_mark mark.Begin t.kind) (cond (nat_lt d levels_inside) (Some (Statements (d + 1))) None) (at_statement d t)
    (either_behind (nat_lt d levels_inside) (Some (Statements (d + 1))) None tt tt) (statement_behind d t)
step_behind (ValueStart d) t b = value_behind d (is_value t.kind) (ends_by t.kind) t
step_behind (Value d) t b = value_behind d (goes_on place.Value t) (ends_value place.Value t) t
step_behind Done t b = tt

start_behind : (p : Standing) (s : List Lexeme) → stands p s ≡ Some Start → s ≡ []
start_behind p [] e = refl
start_behind p (x ∷ s) e = absurd
    (no_start (step p x.token (is_library_name x)) (step_behind p x.token (is_library_name x)) e (λ q h. start_behind q s h))
  where
    no_start : (o : Option Standing) → AreBehind o → option_and_then (λ q. stands q s) o ≡ Some Start
        → ((q : Standing) → stands q s ≡ Some Start → s ≡ []) → ⊥
    no_start None h e go = absurd cc
    no_start (Some q) h e go =
        let none = go q e in
        let i : q ≡ Start = same (subst (λ (t : List Lexeme). stands q t ≡ Some Start) none e) in
        subst IsBehind i h
      where
        same : {a b : Standing} → Some a ≡ Some b → a ≡ b
        same e = cc

-- A word that is refused, where another word stands, is refused because it is no name of a library.
word_steps : (p q : Standing) (a n b e : ℕ) (l f g : Bool) → step p (token Word a n l) f ≡ None
    → step p (token Word b e l) g ≡ Some q → (p ≡ Start) × (g ≡ true)
word_steps Start q a n b e l f true h i = (refl, refl)
word_steps Start q a n b e l f false h i = absurd cc
word_steps AfterLibrary q a n b e l f g h i = absurd cc
word_steps HeadArguments q a n b e l f g h i = absurd cc
word_steps AfterHead q a n b e l f g h i = absurd cc
word_steps (Statements d) q a n b e l f g h i = absurd cc
word_steps (AfterName d) q a n b e l f g h i = absurd cc
word_steps (Arguments d) q a n b e l f g h i = absurd cc
word_steps (AfterArguments d) q a n b e l f g h i = absurd cc
word_steps (ValueStart d) q a n b e l f g h i = absurd cc
word_steps (Value d) q a n b e l f g h i = absurd cc
word_steps Done q a n b e l f g h i = absurd cc

-- texts with one line end or none before them stand at the same places
text_steps : (p : Standing) (a n b e : ℕ) (l : Bool) → step p (token Text a n l) false ≡ step p (token Text b e l) false
text_steps Start a n b e l = refl
text_steps AfterLibrary a n b e l = refl
text_steps HeadArguments a n b e l = refl
text_steps AfterHead a n b e l = refl
text_steps (Statements d) a n b e l = refl
text_steps (AfterName d) a n b e l = refl
text_steps (Arguments d) a n b e l = refl
text_steps (AfterArguments d) a n b e l = refl
text_steps (ValueStart d) a n b e l = refl
text_steps (Value d) a n b e l = refl
text_steps Done a n b e l = refl

-- where the tokens before a refused last word stand, the reading halts at it
refused_last : (s : List Lexeme) (x : Lexeme) (p : Standing) → stands Start s ≡ Some p → step p x.token (is_library_name x) ≡ None
    →
    (z : (Found × Refusal) × List Lexeme) × (read library (s ++ x ∷ []) ≡ Err z) × (z.1 ≡ x ∷ [])
refused_last s x p e none = by_outcome (read library (s ++ x ∷ [])) refl
  where
    not_used : UsesUp (read library (s ++ x ∷ [])) → ⊥
    not_used u =
        let q = used_stands (s ++ x ∷ []) u in
        let h : stands p (x ∷ []) ≡ None = ap (λ (o : Option Standing). option_and_then (λ q. Some q) o) none in
        let i : None ≡ Some q.0 = sym h ∙ sym (stands-append Start p s (x ∷ []) e) ∙ q.1 in absurd cc

    at_last : (front : List Lexeme) (y : Lexeme) (m : List Lexeme) → s ++ x ∷ [] ≡ front ++ (y ∷ m)
        → IsNoLongerFront library front (y ∷ m) → y ∷ m ≡ x ∷ []
    at_last front y m i j = elim (splits front (y ∷ m) s (x ∷ []) (sym i))
        [ inl h ↦ behind h.0 h.1 h.2 | inr h ↦ too_long h.1 h.3 ]
      where
        behind : (v : List Lexeme) → s ≡ front ++ v → y ∷ m ≡ v ++ x ∷ [] → y ∷ m ≡ x ∷ []
        behind [] h k = k
        behind (c ∷ v) h k =
            let first : c ≡ y = sym (head_same k) in
            let longer : s ≡ (front ++ y ∷ []) ++ v = h ∙ ap (λ (z : Lexeme). front ++ (z ∷ v)) first
            ∙ sym (append_assoc front (y ∷ []) v) in
            let is_front : Front library s = ends_front library s (stands_used s p e) in
            absurd (j ((refuses_at_first library).shorter (front ++ y ∷ []) v (subst (Front library) longer is_front)))

        too_long : (r : List Lexeme) {c : Lexeme} → x ∷ [] ≡ (c ∷ r) ++ (y ∷ m) → y ∷ m ≡ x ∷ []
        too_long r k = let i = ap length k in let j = length-append r (y ∷ m) in absurd (omega arith)

    by_outcome : (o : Outcome Lexeme (Found × Refusal) Found) → read library (s ++ x ∷ []) ≡ o →
        (z : (Found × Refusal) × List Lexeme) × (read library (s ++ x ∷ []) ≡ Err z) × (z.1 ≡ x ∷ [])
    by_outcome (Ok y) h = absurd (not_used (ap rest_of h ∙ whole (s ++ x ∷ []) y.0 y.1 (sound library (s ++ x ∷ []) y.0 y.1 h)))
    by_outcome (Err z) h = (z, h, by_rest z.1 refl)
      where
        by_rest : (m : List Lexeme) → z.1 ≡ m → z.1 ≡ x ∷ []
        by_rest [] i = absurd (not_used (ap rest_of h ∙ i))
        by_rest (y ∷ m) i =
            let r = (refuses_at_first library).place (s ++ x ∷ []) z.0 (y ∷ m)
            (refused library (s ++ x ∷ []) z.0 (y ∷ m) (h ∙ ap (λ (t : List Lexeme). Err (z.0, t)) i)) in
            i ∙ at_last r.0 y m r.1 r.3

same_number : (n : ℕ) → (n == n) ≡ true
same_number n = grind (arith, nat_tests)

-- a refused last word that may become another token
word_decides : (bytes : List ℕ) (E : List Token) (a n : ℕ) (l : Bool) (p : Standing) → n ≡ length bytes
    → stands Start (lexemes_of bytes E) ≡ Some p →
    step p (token Word a n l) (is_library_name (lexeme_of bytes (token Word a n l))) ≡ None →
    may_become_other (is_last (lexemes_of bytes E ++ lexeme_of bytes (token Word a n l) ∷ [])) (slice_range bytes a n) ≡ true →
    decides bytes (E ++ token Word a n l ∷ []) End ≡ true
word_decides bytes E a n l p h e none m =
    let x = lexeme_of bytes (token Word a n l) in
    let s = lexemes_of bytes E in
    let r = refused_last s x p e none in
    let only = is_last (s ++ x ∷ []) in
    let same : lexemes_of bytes (E ++ token Word a n l ∷ []) ≡ s ++ x ∷ [] = lexemes-append bytes E (token Word a n l ∷ []) in
    let unfinished : is_unfinished (length bytes) only (x ∷ []) ≡ true =
    ap (λ (k : ℕ). (n == k) && may_become_other only (slice_range bytes a n)) (sym h) ∙ rw (same_number n) m in
    let at : may_go_on bytes (halt_of (length bytes) only (read library (s ++ x ∷ []))) End ≡ true =
    ap (λ (o : Outcome Lexeme (Found × Refusal) Found). may_go_on bytes (halt_of (length bytes) only o) End) r.1
    ∙ ap (λ (t : List Lexeme). may_go_on bytes (halt_at (length bytes) only r.0.0.1 t) End) r.2
    ∙ unfinished in
    ap (λ (t : List Lexeme). may_go_on bytes (halt_of (length bytes) (is_last t) (read library t)) End) same ∙ at

-- a last word decides, whether it is refused or not
last_decides : (bytes : List ℕ) (E : List Token) (a n : ℕ) (l : Bool) (p : Standing) → n ≡ length bytes
    → stands Start (lexemes_of bytes E) ≡ Some p →
    (step p (token Word a n l) (is_library_name (lexeme_of bytes (token Word a n l))) ≡ None →
    may_become_other (is_last (lexemes_of bytes E ++ lexeme_of bytes (token Word a n l) ∷ [])) (slice_range bytes a n) ≡ true) →
    decides bytes (E ++ token Word a n l ∷ []) End ≡ true
last_decides bytes E a n l p h e other =
    by_step (step p (token Word a n l) (is_library_name (lexeme_of bytes (token Word a n l)))) refl
  where
    by_step : (o : Option Standing) → step p (token Word a n l) (is_library_name (lexeme_of bytes (token Word a n l))) ≡ o
        → decides bytes (E ++ token Word a n l ∷ []) End ≡ true
    by_step None i = word_decides bytes E a n l p h e i (other i)
    by_step (Some q) i =
        front_decides bytes (E ++ token Word a n l ∷ []) End q
        (ap (stands Start) (lexemes-append bytes E (token Word a n l ∷ []))
        ∙ stands-append Start p (lexemes_of bytes E) (lexeme_of bytes (token Word a n l) ∷ []) e
        ∙ ap (λ (o : Option Standing). option_and_then (λ q. Some q) o) i)

-- the tokens of a front stand where they stand in the whole
prefix_stands : (bytes more : List ℕ) (E U : List Token) (r : Standing) → LieInside bytes E
    → stands Start (lexemes_of (bytes ++ more) (E ++ U)) ≡ Some r →
    (p : Standing) × (stands Start (lexemes_of bytes E) ≡ Some p) × (stands p (lexemes_of (bytes ++ more) U) ≡ Some r)
prefix_stands bytes more E U r h e =
    stands_front Start r (lexemes_of bytes E) (lexemes_of (bytes ++ more) U)
    (ap (λ (t : List Lexeme). stands Start (t ++ lexemes_of (bytes ++ more) U)) (sym (lexemes_more bytes more E h))
    ∙ ap (stands Start) (sym (lexemes-append (bytes ++ more) E U)) ∙ e)

-- the first of the tokens behind stands too
first_stands : (p r : Standing) (x : Lexeme) (s : List Lexeme) → stands p (x ∷ s) ≡ Some r → (q : Standing)
    × (step p x.token (is_library_name x) ≡ Some q)
first_stands p r x s e = by_step (step p x.token (is_library_name x)) refl e
  where
    by_step : (o : Option Standing) → step p x.token (is_library_name x) ≡ o → option_and_then (λ q. stands q s) o ≡ Some r
        → (q : Standing) × (step p x.token (is_library_name x) ≡ Some q)
    by_step None i h = absurd cc
    by_step (Some q) i h = (q, i)

-- a word with which the name of a library begins, where that name stands
name_becomes : (bytes : List ℕ) (E : List Token) (a n b e : ℕ) (l f : Bool) (p q : Standing) (r : List ℕ)
    → stands Start (lexemes_of bytes E) ≡ Some p →
    step p (token Word a n l) f ≡ None → (g : Bool) → step p (token Word b e l) g ≡ Some q →
    (g ≡ true → codes "library/" ≡ slice_range bytes a n ++ r) →
    may_become_other (is_last (lexemes_of bytes E ++ lexeme_of bytes (token Word a n l) ∷ [])) (slice_range bytes a n) ≡ true
name_becomes bytes E a n b e l f p q r h none g some begins =
    let w = word_steps p q a n b e l f g none some in
    let first : lexemes_of bytes E ≡ [] = start_behind Start (lexemes_of bytes E) (h ∙ ap Some w.0) in
    let only : is_last (lexemes_of bytes E ++ lexeme_of bytes (token Word a n l) ∷ []) ≡ true =
    ap (λ (t : List Lexeme). is_last (t ++ lexeme_of bytes (token Word a n l) ∷ [])) first in
    second_or (bytes_eq (slice_range bytes a n) (codes "/")) _
    (rw (only, begins_so (codes "library/") (slice_range bytes a n) r (begins w.1)) refl)

-- the word in the whole text has the bytes of the name
name_bytes : (text : List ℕ) (a e : ℕ) (l : Bool) → is_library_name (lexeme_of text (token Word a e l)) ≡ true
    → slice_range text a e ≡ codes "library"
name_bytes text a e l h = bytes_are (slice_range text a e) (codes "library") h

by_cut : (bytes more : List ℕ) (us : List Token) (r : Standing) → stands Start (lexemes_of (bytes ++ more) us) ≡ Some r
    → IsCutOf 0 false bytes us →
    (ts : List Token) × (stop : Stop) × Reads bytes ts stop × (decides bytes ts stop ≡ true)
by_cut bytes more us r e (between E U d i) =
    let p = prefix_stands bytes more E U r (inside_reads d)
    (ap (λ (t : List Token). stands Start (lexemes_of (bytes ++ more) t)) (sym i) ∙ e) in
    (E, End, d, front_decides bytes E End p.0 p.1)
by_cut bytes more us r e (in_soft E U (OpenComment a) soft d i) =
    let p = prefix_stands bytes more E U r (inside_reads d)
    (ap (λ (t : List Token). stands Start (lexemes_of (bytes ++ more) t)) (sym i) ∙ e) in
    (E, OpenComment a, d, front_decides bytes E (OpenComment a) p.0 p.1)
by_cut bytes more us r e (in_soft E U (OpenContinuation a) soft d i) =
    let p = prefix_stands bytes more E U r (inside_reads d)
    (ap (λ (t : List Token). stands Start (lexemes_of (bytes ++ more) t)) (sym i) ∙ e) in
    (E, OpenContinuation a, d, front_decides bytes E (OpenContinuation a) p.0 p.1)
by_cut bytes more us r e (in_soft E U End soft d i) = absurd soft
by_cut bytes more us r e (in_soft E U (BadByte a) soft d i) = absurd soft
by_cut bytes more us r e (in_soft E U (OpenText a) soft d i) = absurd soft
by_cut bytes more us r e (in_text E U a b f l d c i) =
    let h = inside_reads d in
    let p = prefix_stands bytes more E (token Text a b l ∷ U) r h
    (ap (λ (t : List Token). stands Start (lexemes_of (bytes ++ more) t)) (sym i) ∙ e) in
    let q = first_stands p.0 r (lexeme_of (bytes ++ more) (token Text a b l)) (lexemes_of (bytes ++ more) U) p.2 in
    let closed = closed_text bytes in
    let ts = E ++ token Text a f l ∷ [] in
    let at : stands Start (lexemes_of closed ts) ≡ Some q.0 =
    ap (stands Start) (lexemes-append closed E (token Text a f l ∷ []))
    ∙ ap (λ (t : List Lexeme). stands Start (t ++ lexeme_of closed (token Text a f l) ∷ []))
    (lexemes_more bytes (32 ∷ 34 ∷ []) E h)
    ∙ stands-append Start p.0 (lexemes_of bytes E) (lexeme_of closed (token Text a f l) ∷ []) p.1
    ∙ ap (λ (o : Option Standing). option_and_then (λ q. Some q) o) (text_steps p.0 a f a b l ∙ q.1) in
    let scanned : scan_of closed ≡ (ts, End) = (one_reading closed ts End).0 c in (
      E,
      OpenText a,
      d,
      front_decides bytes E (OpenText a) p.0 p.1
          ∙ ap (λ (v : List Token × Stop). has_outline (lexemes_of closed v.0)) scanned ∙ ap is_some at,
    )
by_cut bytes more us r e (in_word E U a b n l h d i j k) =
    let inside = inside_front bytes E (token Word a n l ∷ []) (inside_reads d) in
    let p = prefix_stands bytes more E (token Word a b l ∷ U) r inside
    (ap (λ (t : List Token). stands Start (lexemes_of (bytes ++ more) t)) (sym i) ∙ e) in
    let q = first_stands p.0 r (lexeme_of (bytes ++ more) (token Word a b l)) (lexemes_of (bytes ++ more) U) p.2 in
    let len : n ≡ length bytes = omega arith in (
      E ++ token Word a n l ∷ [],
      End,
      d,
      last_decides bytes E a n l p.0 len p.1
          (λ none. name_becomes bytes E a n a b l (is_library_name (lexeme_of bytes (token Word a n l))) p.0 q.0
          (take (b - n) more ++ 47 ∷ []) p.1 none
          (is_library_name (lexeme_of (bytes ++ more) (token Word a b l))) q.1
          (λ g. ap (λ (t : List ℕ). t ++ 47 ∷ [])
          (sym (name_bytes (bytes ++ more) a b l g) ∙ slice_over bytes more a n b len (omega arith) k)
          ∙ append_assoc (slice_range bytes a n) (take (b - n) more) (47 ∷ []))),
    )
by_cut bytes more us r e (in_slash E U a b n l pre h g d i j k) =
    let inside = inside_front bytes E (token Word a n l ∷ []) (inside_reads d) in
    let p = prefix_stands bytes more E (token Word a b l ∷ U) r inside
    (ap (λ (t : List Token). stands Start (lexemes_of (bytes ++ more) t)) (sym i) ∙ e) in
    let q = first_stands p.0 r (lexeme_of (bytes ++ more) (token Word a b l)) (lexemes_of (bytes ++ more) U) p.2 in
    let len : n ≡ length bytes = omega arith in
    let x = ap length g in let y = length-append pre (47 ∷ []) in
    let here : b ≡ length pre = omega arith in (
      E ++ token Word a n l ∷ [],
      End,
      d,
      last_decides bytes E a n l p.0 len p.1
          (λ none. name_becomes bytes E a n a b l (is_library_name (lexeme_of bytes (token Word a n l))) p.0 q.0 [] p.1 none
          (is_library_name (lexeme_of (bytes ++ more) (token Word a b l))) q.1
          (λ v. ap (λ (t : List ℕ). t ++ 47 ∷ [])
          (sym (name_bytes (bytes ++ more) a b l v)
          ∙ ap (λ (t : List ℕ). slice_range t a b) (ap (λ (t : List ℕ). t ++ more) g ∙ append_assoc pre (47 ∷ []) more)
          ∙ slice_more pre (47 ∷ more) a b (omega arith) (omega arith))
          ∙ sym (ap (λ (t : List ℕ). slice_range t a n) g ∙ slice_over pre (47 ∷ []) a b n here (omega arith) (omega arith)
          ∙ ap (λ (m : ℕ). slice_range pre a b ++ take m (47 ∷ [])) (let z : n - b ≡ 1 = omega arith in z))
          ∙ sym (append-nil (slice_range bytes a n)))),
    )
by_cut bytes more us r e (slash_alone E U a n l pre h g d i j) =
    let inside = inside_front bytes E (token Word a n l ∷ []) (inside_reads d) in
    let p = prefix_stands bytes more E U r inside (ap (λ (t : List Token). stands Start (lexemes_of (bytes ++ more) t)) (sym i)
    ∙ e) in
    let len : n ≡ length bytes = omega arith in
    let x = ap length g in let y = length-append pre (47 ∷ []) in
    let is_slash : slice_range bytes a n ≡ codes "/" = ap (λ (t : List ℕ). slice_range t a n) g
    ∙ slice_end pre (47 ∷ []) a n (omega arith) (omega arith) in (
      E ++ token Word a n l ∷ [],
      End,
      d,
      last_decides bytes E a n l p.0 len p.1
          (λ none. first_or (bytes_eq (slice_range bytes a n) (codes "/")) _
          (bytes_agree (slice_range bytes a n) (codes "/") is_slash)),
    )

-- bytes with which some library text begins may go on
pub front_of_text : (bytes : List ℕ) → IsFrontOfText bytes → decides bytes (scan_of bytes).0 (scan_of bytes).1 ≡ true
front_of_text bytes (more, (us, found, d, t)) =
    let q = used_stands (lexemes_of (bytes ++ more) us) (ap rest_of (complete library (lexemes_of (bytes ++ more) us) found [] t))
    in
    let c = by_cut bytes more us q.0 q.1 (cuts d bytes more refl) in
    ap (λ (v : List Token × Stop). decides bytes v.0 v.1) ((one_reading bytes c.0 c.1).0 c.2) ∙ c.3
