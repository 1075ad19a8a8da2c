-- The tokens of a text as a walk over its bytes finds them.
use Rattle.std.proofs.Common.{◌≡◌, ℕ, ◌+◌, ◌<◌, ◌≤◌, Bool, true, false, List, [], ◌∷◌, ◌++◌, length, Option, None, Some}
use Rattle.std.proofs.Common.{if◌then◌else◌, refl, sym, ap, ◌∙◌, arith, unwrap_or, append_assoc, slice_index_or, drop, add-one}
use Rattle.std.proofs.Common.{drop-cons}
use Rattle.std.specs.List.{AllByRecursion}
use Rattle.std.proofs.lemmas.List.Elements.{All-from_recursion}
use Rattle.bool_functions.specs.declared.tokens.Span.{Span}
use Rattle.bool_functions.specs.Token.{is_blank, is_word_byte, begins_word, span, grown, spans_from, spans, run_before, LieIn}

-- the tokens that are still to come, where a run that has begun is among them
abbrev pub ahead : Option ℕ → ℕ → List ℕ → List Span
ahead None at s = spans_from at s
ahead (Some start) at s = if begins_word s then grown start (spans_from at s) else span start at ∷ spans_from at s

grown_twice : (w : Bool) (start at : ℕ) (ts : List Span) (end : ℕ)
    → grown start (if w then grown at ts else span at end ∷ ts) ≡ (if w then grown start ts else span start end ∷ ts)
grown_twice true start at [] end = refl
grown_twice true start at (t ∷ ts) end = refl
grown_twice false start at ts end = refl

-- a byte of a word goes on with the run, or begins one
pub ahead_word : (begun : Option ℕ) (at b : ℕ) (s : List ℕ) → is_word_byte b ≡ true
    → ahead begun at (b ∷ s) ≡ ahead (Some (unwrap_or begun at)) (at + 1) s
ahead_word None at b s e = ap (λ w. if w
    then (if begins_word s then grown at (spans_from (at + 1) s) else span at (at + 1) ∷ spans_from (at + 1) s)
    else (if is_blank b then spans_from (at + 1) s else span at (at + 1) ∷ spans_from (at + 1) s)) e
ahead_word (Some start) at b s e = rw e (grown_twice (begins_word s) start at (spans_from (at + 1) s) (at + 1))

-- any other byte ends it
pub ahead_other : (begun : Option ℕ) (at b : ℕ) (s : List ℕ) → is_word_byte b ≡ false →
    ahead begun at (b ∷ s) ≡ run_before begun at
    ++ (if is_blank b then spans_from (at + 1) s else span at (at + 1) ∷ spans_from (at + 1) s)
ahead_other None at b s e = ap (λ w. if w
    then (if begins_word s then grown at (spans_from (at + 1) s) else span at (at + 1) ∷ spans_from (at + 1) s)
    else (if is_blank b then spans_from (at + 1) s else span at (at + 1) ∷ spans_from (at + 1) s)) e
ahead_other (Some start) at b s e = rw e refl

drop_cons : (text : List ℕ) (at : ℕ) → at < length text → drop at text ≡ slice_index_or text at 0 ∷ drop (at + 1) text
drop_cons text at lt = rw (add-one, drop-cons text at 0)

-- a byte further, where what it adds is known for every rest of the text
pub moved : (text : List ℕ) (found new all : List Span) (begun next : Option ℕ) (at : ℕ) → at < length text
    → found ++ ahead begun at (drop at text) ≡ all
    → ((rest : List ℕ) → new ++ ahead next (at + 1) rest ≡ found ++ ahead begun at (slice_index_or text at 0 ∷ rest))
    → new ++ ahead next (at + 1) (drop (at + 1) text) ≡ all
moved text found new all begun next at lt inv step =
    step (drop (at + 1) text) ∙ ap (λ s. found ++ ahead begun at s) (sym (drop_cons text at lt)) ∙ inv

module _ (found new : List Span) (begun next : Option ℕ) (at b : ℕ) (rest : List ℕ) where
  pub by_word : is_word_byte b ≡ true → new ≡ found → next ≡ Some (unwrap_or begun at)
      → new ++ ahead next (at + 1) rest ≡ found ++ ahead begun at (b ∷ rest)
  by_word e n x =
      ap (λ l. l ++ ahead next (at + 1) rest) n ∙ ap (λ o. found ++ ahead o (at + 1) rest) x
      ∙ ap (λ l. found ++ l) (sym (ahead_word begun at b rest e))

  pub by_blank : is_word_byte b ≡ false → is_blank b ≡ true → new ≡ found ++ run_before begun at → next ≡ None
      → new ++ ahead next (at + 1) rest ≡ found ++ ahead begun at (b ∷ rest)
  by_blank e k n x =
      ap (λ l. l ++ ahead next (at + 1) rest) n ∙ ap (λ o. (found ++ run_before begun at) ++ ahead o (at + 1) rest) x
      ∙ append_assoc found (run_before begun at) (spans_from (at + 1) rest)
      ∙ ap (λ l. found ++ l) (sym (ahead_other begun at b rest e
      ∙ ap (λ c. run_before begun at ++ (if c then spans_from (at + 1) rest else span at (at + 1) ∷ spans_from (at + 1) rest))
      k))

  pub by_mark : is_word_byte b ≡ false → is_blank b ≡ false → new ≡ (found ++ run_before begun at) ++ span at (at + 1) ∷ []
      → next ≡ None → new ++ ahead next (at + 1) rest ≡ found ++ ahead begun at (b ∷ rest)
  by_mark e k n x =
      ap (λ l. l ++ ahead next (at + 1) rest) n
      ∙ ap (λ o. ((found ++ run_before begun at) ++ span at (at + 1) ∷ []) ++ ahead o (at + 1) rest) x
      ∙ append_assoc (found ++ run_before begun at) (span at (at + 1) ∷ []) (spans_from (at + 1) rest)
      ∙ append_assoc found (run_before begun at) (span at (at + 1) ∷ spans_from (at + 1) rest)
      ∙ ap (λ l. found ++ l) (sym (ahead_other begun at b rest e
      ∙ ap (λ c. run_before begun at ++ (if c then spans_from (at + 1) rest else span at (at + 1) ∷ spans_from (at + 1) rest))
      k))

-- tokens that lie in a text from an offset on
abbrev pub Within : ℕ → ℕ → Span → Type 0
Within low high t = (low ≤ t.start) × (t.start < t.end) × (t.end ≤ high)

lower : (low at high : ℕ) → low ≤ at → (ts : List Span) → AllByRecursion (Within at high) ts → AllByRecursion (Within low high) ts
lower low at high le [] h = h
lower low at high le (t ∷ ts) h = ((omega (arith, h.0.0), h.0.1, h.0.2), lower low at high le ts h.1)

grown_within : (at high : ℕ) → (ts : List Span) → AllByRecursion (Within (at + 1) high) ts
    → AllByRecursion (Within at high) (grown at ts)
grown_within at high [] h = h
grown_within at high (t ∷ ts) h = ((omega arith, omega (arith, h.0.0, h.0.1), h.0.2), lower at (at + 1) high (omega arith) ts h.1)

first_within : (word more blank : Bool) (at high : ℕ) (ts : List Span) → at + 1 ≤ high → AllByRecursion (Within (at + 1) high) ts
    →
    AllByRecursion (Within at high) (if word then (if more then grown at ts else span at (at + 1) ∷ ts)
    else (if blank then ts else span at (at + 1) ∷ ts))
first_within true true blank at high ts le h = grown_within at high ts h
first_within true false blank at high ts le h = ((omega arith, omega arith, le), lower at (at + 1) high (omega arith) ts h)
first_within false more true at high ts le h = lower at (at + 1) high (omega arith) ts h
first_within false more false at high ts le h = ((omega arith, omega arith, le), lower at (at + 1) high (omega arith) ts h)

pub spans_within : (at : ℕ) (s : List ℕ) (high : ℕ) → at + length s ≤ high → AllByRecursion (Within at high) (spans_from at s)
spans_within at [] high le = tt
spans_within at (b ∷ s) high le = first_within (is_word_byte b) (begins_word s) (is_blank b) at high (spans_from (at + 1) s)
    (omega (arith, le)) (spans_within (at + 1) s high (omega (arith, le)))

forget : (low : ℕ) (text : List ℕ) (ts : List Span) → AllByRecursion (Within low (length text)) ts
    → AllByRecursion (λ t. (t.start < t.end) × (t.end ≤ length text)) ts
forget low text [] h = h
forget low text (t ∷ ts) h = ((h.0.1, h.0.2), forget low text ts h.1)

-- each token lies in the text
pub spans_lie_in : (text : List ℕ) → LieIn text (spans text)
spans_lie_in text = All-from_recursion _ (spans text)
    (forget 0 text (spans text) (spans_within 0 text (length text) (omega arith)))
