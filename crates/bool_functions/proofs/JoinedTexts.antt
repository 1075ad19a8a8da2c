-- The symbols of two texts, one behind the other.
use Rattle.std.proofs.Common.{◌≡◌, ℕ, zero, suc, ◌+◌, ◌-◌, ◌<◌, ◌≤◌, Bool, true, false, ◌&&◌, List, [], ◌∷◌, ◌++◌, length, map}
use Rattle.std.proofs.Common.{take, slice_range, if◌then◌else◌, refl, sym, ap, ◌∙◌, arith}
use Rattle.std.proofs.lemmas.List.{map-append}
use Rattle.std.specs.List.{AllByRecursion, list_all}
use Rattle.std.proofs.lemmas.Bool.{and_parts}
use Rattle.bool_functions.specs.declared.tokens.Span.{Span}
use Rattle.bool_functions.specs.Token.{is_blank, is_word_byte, begins_word, span, grown, spans_from, spans, bytes_at, symbol_of}
use Rattle.bool_functions.specs.Token.{symbols}
use Rattle.bool_functions.specs.Laws.{runs_on}
use Rattle.bool_functions.proofs.Runs.{Within, spans_within}

-- the tokens of a text that begins with a byte, by what that byte and the one behind it are
abbrev first_by : (word more blank : Bool) → ℕ → List Span → List Span
first_by word more blank at ts =
    if word then (if more then grown at ts else span at (at + 1) ∷ ts) else (if blank then ts else span at (at + 1) ∷ ts)

some_grown : (at : ℕ) (ts : List Span) → 0 < length ts → 0 < length (grown at ts)
some_grown at [] h = h
some_grown at (t ∷ ts) h = omega arith

some_first : (more blank : Bool) (at : ℕ) (ts : List Span) → (more ≡ true → 0 < length ts)
    → 0 < length (first_by true more blank at ts)
some_first true blank at ts h = some_grown at ts (h refl)
some_first false blank at ts h = omega arith

some_run : (at : ℕ) (s : List ℕ) → begins_word s ≡ true → 0 < length (spans_from at s)
some_run at [] h = absurd cc
some_run at (b ∷ s) h = rw h (some_first (begins_word s) (is_blank b) at (spans_from (at + 1) s) (some_run (at + 1) s))

grown_append : (at : ℕ) (ts us : List Span) → 0 < length ts → grown at (ts ++ us) ≡ grown at ts ++ us
grown_append at [] us h = absurd (omega (arith, h))
grown_append at (t ∷ ts) us h = refl

first_append :
    (word more blank : Bool) (at : ℕ) (ts us : List Span) → (more ≡ true → 0 < length ts)
    → first_by word more blank at (ts ++ us) ≡ first_by word more blank at ts ++ us
first_append true true blank at ts us h = grown_append at ts us (h refl)
first_append true false blank at ts us h = refl
first_append false more true at ts us h = refl
first_append false more false at ts us h = refl

-- one byte, and a text behind it that does not go on with its run
first_alone : (word more blank : Bool) (at : ℕ) (us : List Span) → (word && more) ≡ false
    → first_by word more blank at us ≡ first_by word false blank at [] ++ us
first_alone true true blank at us h = absurd cc
first_alone true false blank at us h = refl
first_alone false more true at us h = refl
first_alone false more false at us h = refl

spans_append :
    (at : ℕ) (a b : List ℕ) → runs_on a b ≡ false → spans_from at (a ++ b) ≡ spans_from at a ++ spans_from (at + length a) b
spans_append at [] b h = let e : at + 0 ≡ at = omega arith in rw e refl
spans_append at (c ∷ []) b h = first_alone (is_word_byte c) (begins_word b) (is_blank c) at (spans_from (at + 1) b) h
spans_append at (c ∷ d ∷ s) b h =
    let e : (at + 1) + length (d ∷ s) ≡ at + length (c ∷ d ∷ s) = omega arith in
    ap (λ ts. first_by (is_word_byte c) (is_word_byte d) (is_blank c) at ts)
    (spans_append (at + 1) (d ∷ s) b h ∙ ap (λ n. spans_from (at + 1) (d ∷ s) ++ spans_from n b) e)
    ∙ first_append (is_word_byte c) (is_word_byte d) (is_blank c) at (spans_from (at + 1) (d ∷ s))
    (spans_from (at + length (c ∷ d ∷ s)) b) (some_run (at + 1) (d ∷ s))

-- tokens further back by some bytes
abbrev moved_by : ℕ → Span → Span
moved_by n t = span (n + t.start) (n + t.end)

moved_grown : (n at : ℕ) (ts : List Span) → grown (n + at) (map (moved_by n) ts) ≡ map (moved_by n) (grown at ts)
moved_grown n at [] = refl
moved_grown n at (t ∷ ts) = refl

moved_first : (word more blank : Bool) (n at : ℕ) (ts : List Span)
    → first_by word more blank (n + at) (map (moved_by n) ts) ≡ map (moved_by n) (first_by word more blank at ts)
moved_first true true blank n at ts = moved_grown n at ts
moved_first true false blank n at ts = let e : (n + at) + 1 ≡ n + (at + 1) = omega arith in rw e refl
moved_first false more true n at ts = refl
moved_first false more false n at ts = let e : (n + at) + 1 ≡ n + (at + 1) = omega arith in rw e refl

moved_spans : (n at : ℕ) (s : List ℕ) → spans_from (n + at) s ≡ map (moved_by n) (spans_from at s)
moved_spans n at [] = refl
moved_spans n at (b ∷ s) =
    let e : (n + at) + 1 ≡ n + (at + 1) = omega arith in
    ap (λ ts. first_by (is_word_byte b) (begins_word s) (is_blank b) (n + at) ts)
    (ap (λ k. spans_from k s) e ∙ moved_spans n (at + 1) s)
    ∙ moved_first (is_word_byte b) (begins_word s) (is_blank b) n at (spans_from (at + 1) s)

-- the bytes of a token in two texts
take_front : (n : ℕ) (a b : List ℕ) → n ≤ length a → take n (a ++ b) ≡ take n a
take_front zero a b h = refl
take_front (suc n) [] b h = absurd (omega (arith, h))
take_front (suc n) (x ∷ a) b h = ap (λ u. x ∷ u) (take_front n a b (omega (arith, h)))

range_front : (start end : ℕ) (a b : List ℕ) → end ≤ length a → slice_range (a ++ b) start end ≡ slice_range a start end
range_front zero end a b h = take_front (end - 0) a b (omega (arith, h))
range_front (suc start) end [] b h = let e : end - suc start ≡ 0 = omega (arith, h) in rw e refl
range_front (suc start) zero (x ∷ a) b h = let e : zero - suc start ≡ zero = omega arith in rw e refl
range_front (suc start) (suc end) (x ∷ a) b h =
    let e : suc end - suc start ≡ end - start = omega arith in rw e (range_front start end a b (omega (arith, h)))

range_behind : (a b : List ℕ) (start end : ℕ) → slice_range (a ++ b) (length a + start) (length a + end) ≡ slice_range b start end
range_behind [] b start end = let e : 0 + start ≡ start = omega arith in let f : 0 + end ≡ end = omega arith in rw (e, f) refl
range_behind (x ∷ a) b start end =
    let e : length (x ∷ a) + start ≡ suc (length a + start) = omega arith in
    let f : length (x ∷ a) + end ≡ suc (length a + end) = omega arith in
    let g : suc (length a + end) - suc (length a + start) ≡ (length a + end) - (length a + start) = omega arith in
    rw (e, f) (rw g (range_behind a b start end))

symbols_front :
    (names : List (List ℕ)) (a b : List ℕ) (ts : List Span) → AllByRecursion (Within 0 (length a)) ts
    → map (λ t. symbol_of names (bytes_at (a ++ b) t)) ts ≡ map (λ t. symbol_of names (bytes_at a t)) ts
symbols_front names a b [] h = refl
symbols_front names a b (t ∷ ts) h =
    let here : bytes_at (a ++ b) t ≡ bytes_at a t = range_front t.start t.end a b h.0.2 in
    ap (λ w. symbol_of names w ∷ map (λ t. symbol_of names (bytes_at (a ++ b) t)) ts) here
    ∙ ap (λ rest. symbol_of names (bytes_at a t) ∷ rest) (symbols_front names a b ts h.1)

symbols_behind :
    (names : List (List ℕ)) (a b : List ℕ) (ts : List Span)
    → map (λ t. symbol_of names (bytes_at (a ++ b) t)) (map (moved_by (length a)) ts) ≡ map (λ t. symbol_of names (bytes_at b t))
    ts
symbols_behind names a b [] = refl
symbols_behind names a b (t ∷ ts) =
    ap (λ w. symbol_of names w ∷ map (λ t. symbol_of names (bytes_at (a ++ b) t)) (map (moved_by (length a)) ts))
    (range_behind a b t.start t.end)
    ∙ ap (λ rest. symbol_of names (bytes_at b t) ∷ rest) (symbols_behind names a b ts)

-- where no run goes on from the one text into the other, the symbols are those of both
pub symbols_append : (names : List (List ℕ)) (a b : List ℕ) → runs_on a b ≡ false
    → symbols names (a ++ b) ≡ symbols names a ++ symbols names b
symbols_append names a b h =
    let none : 0 + length a ≡ length a = omega arith in
    let moved : spans_from (length a) b ≡ map (moved_by (length a)) (spans b) =
    let e : length a + 0 ≡ length a = omega arith in ap (λ n. spans_from n b) (sym e) ∙ moved_spans (length a) 0 b in
    ap (λ ts. map (λ t. symbol_of names (bytes_at (a ++ b) t)) ts)
    (spans_append 0 a b h ∙ (ap (λ n. spans a ++ spans_from n b) none ∙ ap (λ ts. spans a ++ ts) moved))
    ∙ map-append (λ t. symbol_of names (bytes_at (a ++ b) t)) (spans a) (map (moved_by (length a)) (spans b))
    ∙ ap (λ front. front ++ map (λ t. symbol_of names (bytes_at (a ++ b) t)) (map (moved_by (length a)) (spans b)))
    (symbols_front names a b (spans a) (spans_within 0 a (length a) (omega arith)))
    ∙ ap (λ behind. symbols names a ++ behind) (symbols_behind names a b (spans b))

-- a text of letters, digits and `_` alone is one token
spans_word : (at : ℕ) (w : List ℕ) → list_all is_word_byte w ≡ true → 0 < length w
    → spans_from at w ≡ span at (at + length w) ∷ []
spans_word at [] h l = absurd (omega (arith, l))
spans_word at (b ∷ []) h l = let e : is_word_byte b ≡ true = (and_parts (is_word_byte b) true h).0 in rw e refl
spans_word at (b ∷ c ∷ s) h l =
    let parts = and_parts (is_word_byte b) (list_all is_word_byte (c ∷ s)) h in
    let next : is_word_byte c ≡ true = (and_parts (is_word_byte c) (list_all is_word_byte s) parts.1).0 in
    let end : (at + 1) + length (c ∷ s) ≡ at + length (b ∷ c ∷ s) = omega arith in
    ap (λ word. first_by word (is_word_byte c) (is_blank b) at (spans_from (at + 1) (c ∷ s))) parts.0
    ∙ (ap (λ more. first_by true more (is_blank b) at (spans_from (at + 1) (c ∷ s))) next
    ∙ (ap (grown at) (spans_word (at + 1) (c ∷ s) parts.1 (omega arith)) ∙ ap (λ n. span at n ∷ []) end))

take_whole : (w : List ℕ) → take (length w) w ≡ w
take_whole [] = refl
take_whole (b ∷ w) = ap (λ u. b ∷ u) (take_whole w)

pub symbols_word : (names : List (List ℕ)) (w : List ℕ) → list_all is_word_byte w ≡ true → 0 < length w
    → symbols names w ≡ symbol_of names w ∷ []
symbols_word names w h l =
    let whole : 0 + length w - 0 ≡ length w = omega arith in
    ap (λ ts. map (λ t. symbol_of names (bytes_at w t)) ts) (spans_word 0 w h l)
    ∙ (ap (λ n. symbol_of names (take n w) ∷ []) whole ∙ ap (λ u. symbol_of names u ∷ []) (take_whole w))
