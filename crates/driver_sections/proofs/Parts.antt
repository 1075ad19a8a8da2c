-- Words and ends of parts, by the next token.
use Rattle.std.proofs.Common.{◌≡◌, ℕ, ◌+◌, ◌-◌, ◌≤◌, ◌<◌, Bool, true, false, ◌||◌, List, [], ◌∷◌, length, map, get_or, Bor, drop}
use Rattle.std.proofs.Common.{slice_range, refl, sym, ap, ◌∙◌, arith, length-drop}
use Rattle.std.proofs.lemmas.List.{length-take-le, drop_more}
use Rattle.lexer.specs.Tokens.{Lexis}
use Rattle.lexer.specs.declared.span.Span.{Span}
use Rattle.lexer.specs.Spans.{token_of}
use Rattle.driver_sections.specs.Marks.{Ending, are_next, behind, ends}
use Rattle.driver_sections.specs.Fronts.{IsNext, HasNoNext, tokens_from, tokens_at}
use Rattle.driver_sections.proofs.NextTokens.{with_next, without_next}

-- the offset behind a token is the end of its place
pub end_of : (text : List ℕ) (t : Span) → t.at ≤ t.end → t.end ≤ length text → behind (token_of text t) ≡ t.end
end_of text t h k =
    let n : length (slice_range text t.at t.end) ≡ t.end - t.at =
    length-take-le (t.end - t.at) (drop t.at text) (omega (arith, h, k, length-drop t.at text)) in
    omega (arith, n, h)

module _ (is_same : List ℕ → List ℕ → Bool) (l : Lexis) (flag : Bool) (text : List ℕ) where
  -- the word that is asked for next, and those behind it
  pub words_more : (word : List ℕ) (words : List (List ℕ)) (from : ℕ) (t : Span) → IsNext l flag text from t
      → is_same (slice_range text t.at t.end) word ≡ true →
      are_next is_same (word ∷ words) (tokens_from l flag text from)
      ≡ are_next is_same words (tokens_from l (l.flag_after flag (slice_range text t.at t.end)) text t.end)
  words_more word words from t next e = rw (with_next l flag text from t next, e) refl

  pub words_other : (word : List ℕ) (words : List (List ℕ)) (from : ℕ) (t : Span) → IsNext l flag text from t
      → is_same (slice_range text t.at t.end) word ≡ false →
      are_next is_same (word ∷ words) (tokens_from l flag text from) ≡ false
  words_other word words from t next e = rw (with_next l flag text from t next, e) refl

  pub words_none : (word : List ℕ) (words : List (List ℕ)) (from : ℕ) → HasNoNext l flag text from →
      are_next is_same (word ∷ words) (tokens_from l flag text from) ≡ false
  words_none word words from none = rw (without_next l flag text from none) refl

  -- the words from a place on
  abbrev pub words_from : List (Bor (List ℕ)) → ℕ → List (List ℕ)
  words_from words i = map (λ word. word.now) (drop i words)

  from_word : (words : List (Bor (List ℕ))) (i : ℕ) (d : Bor (List ℕ)) → i < length words
      → words_from words i ≡ (get_or words i d).now ∷ words_from words (i + 1)
  from_word words i d h = ap (map (λ word. word.now)) (drop_more words i d h)

  pub word_stands : (words : List (Bor (List ℕ))) (i : ℕ) (d : Bor (List ℕ)) → i < length words → (from : ℕ) (t : Span)
      → IsNext l flag text from t →
      is_same (slice_range text t.at t.end) (get_or words i d).now ≡ true → (set : Bool)
      → set ≡ l.flag_after flag (slice_range text t.at t.end) →
      are_next is_same (words_from words (i + 1)) (tokens_from l set text t.end) ≡ are_next is_same (words_from words i)
      (tokens_from l flag text from)
  word_stands words i d h from t next e set f =
      ap (λ (s : Bool). are_next is_same (words_from words (i + 1)) (tokens_from l s text t.end)) f
      ∙ sym (words_more (get_or words i d).now (words_from words (i + 1)) from t next e)
      ∙ ap (λ ws. are_next is_same ws (tokens_from l flag text from)) (sym (from_word words i d h))

  pub other_stands : (words : List (Bor (List ℕ))) (i : ℕ) (d : Bor (List ℕ)) → i < length words → (from : ℕ) (t : Span)
      → IsNext l flag text from t →
      is_same (slice_range text t.at t.end) (get_or words i d).now ≡ false
      → false ≡ are_next is_same (words_from words i) (tokens_from l flag text from)
  other_stands words i d h from t next e =
      sym (words_other (get_or words i d).now (words_from words (i + 1)) from t next e)
      ∙ ap (λ ws. are_next is_same ws (tokens_from l flag text from)) (sym (from_word words i d h))

  pub none_stands : (words : List (Bor (List ℕ))) (i : ℕ) (d : Bor (List ℕ)) → i < length words → (from : ℕ)
      → HasNoNext l flag text from →
      false ≡ are_next is_same (words_from words i) (tokens_from l flag text from)
  none_stands words i d h from none =
      sym (words_none (get_or words i d).now (words_from words (i + 1)) from none)
      ∙ ap (λ ws. are_next is_same ws (tokens_from l flag text from)) (sym (from_word words i d h))

  -- what a token says of the ends of parts: whether the words that end one were met, and whether it closes one
  abbrev pub met : Ending → Bool → Span → Bool
  met e ended t = ended || are_next is_same e.words (tokens_at l flag text t)

  -- a part that ends with the next token
  pub ends_here : (e : Ending) (ended : Bool) (from : ℕ) (t : Span) → IsNext l flag text from t → met e ended t ≡ true →
      is_same (slice_range text t.at t.end) e.closing ≡ true →
      ends is_same e ended (tokens_from l flag text from) ≡ t.end ∷ ends is_same e false
      (tokens_from l (l.flag_after flag (slice_range text t.at t.end)) text t.end)
  ends_here e ended from t next m c =
      let some : t.at < t.end = next.some in
      let w : t.end ≤ length text = next.within in
      let b : behind (token_of text t) ≡ t.end = end_of text t (omega (arith, some)) w in
      rw (with_next l flag text from t next, m, c)
      (ap (λ (n : ℕ). n ∷ ends is_same e false (tokens_from l (l.flag_after flag (slice_range text t.at t.end)) text t.end))
      b)

  -- a part that does not end with the next token
  pub ends_later : (e : Ending) (ended : Bool) (from : ℕ) (t : Span) → IsNext l flag text from t → met e ended t ≡ true →
      is_same (slice_range text t.at t.end) e.closing ≡ false →
      ends is_same e ended (tokens_from l flag text from) ≡ ends is_same e true
      (tokens_from l (l.flag_after flag (slice_range text t.at t.end)) text t.end)
  ends_later e ended from t next m c = rw (with_next l flag text from t next, m, c) refl

  pub ends_not : (e : Ending) (ended : Bool) (from : ℕ) (t : Span) → IsNext l flag text from t → met e ended t ≡ false →
      ends is_same e ended (tokens_from l flag text from) ≡ ends is_same e false
      (tokens_from l (l.flag_after flag (slice_range text t.at t.end)) text t.end)
  ends_not e ended from t next m = rw (with_next l flag text from t next, m) refl

  pub ends_none : (e : Ending) (ended : Bool) (from : ℕ) → HasNoNext l flag text from
      → ends is_same e ended (tokens_from l flag text from) ≡ []
  ends_none e ended from none = rw (without_next l flag text from none) refl
