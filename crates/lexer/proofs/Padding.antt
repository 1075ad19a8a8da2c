-- What is added between tokens changes none.
use Rattle.std.proofs.Common.{◌≡◌, ℕ, zero, suc, ◌+◌, ◌<◌, Bool, true, false, not, ◌==◌, List, [], ◌∷◌, ◌++◌, length, take}
use Rattle.std.proofs.Common.{Option, refl, sym, ap, ◌∙◌, arith, subst, append_assoc}
use Rattle.std.proofs.lemmas.Bool.{and_parts}
use Rattle.std.specs.List.{prefix_len, list_all}
use Rattle.lexer.specs.Tokens.{Token, Lexis, is_blank, at_front, after, scan}
use Rattle.lexer.specs.Separators.{IsSeparation, IsLineComment, Padded, spelled, HaveSameTokens}
use Rattle.lexer.specs.Separators as pad
use Rattle.lexer.proofs.Alike.{Alike, behind, alike_self}
use Rattle.lexer.proofs.Alike as alike

-- the tokens found, and whether there is a fault behind them
abbrev pub Found : Type 0
Found = List (List ℕ) × Bool

abbrev pub word_before : List ℕ → Found → Found
word_before w (ws, f) = (w ∷ ws, f)

spelled_after : (t : Token) (r : List Token × Option ℕ) → spelled (after t r) ≡ word_before t.bytes (spelled r)
spelled_after t (ts, f) = refl

front_is : (w r : List ℕ) → take (length w) (w ++ r) ≡ w
front_is [] r = refl
front_is (c ∷ w) r = ap (λ (s : List ℕ). c ∷ s) (front_is w r)

-- the bytes before a line end
line_run : (body r : List ℕ) → list_all (λ c. not (c == 10)) body ≡ true
    → prefix_len (λ c. not (c == 10)) (body ++ (10 ∷ r)) ≡ length body
line_run [] r e = refl
line_run (c ∷ body) r e =
    let s = and_parts (not (c == 10)) (list_all (λ c. not (c == 10)) body) e in
    let i : prefix_len (λ c. not (c == 10)) (body ++ (10 ∷ r)) ≡ length body = line_run body r s.1 in
    rw s.0 (omega arith)

module _ (l : Lexis) where
  any_front : (t : Bool) (at z : ℕ) (bytes : List ℕ) (f g : Bool → ℕ → List Token × Option ℕ) (n m : ℕ) →
      ((o : Bool) (k : ℕ) → spelled (f o k) ≡ spelled (g o k))
      → spelled (at_front l t at bytes f n m) ≡ spelled (at_front l t z bytes g n m)
  any_front t at z bytes f g zero zero same = refl
  any_front t at z bytes f g zero (suc m) same =
      spelled_after (record { at = at; bytes = take (suc m) bytes }) (f (l.flag_after t (take (suc m) bytes)) m)
      ∙ ap (word_before (take (suc m) bytes)) (same (l.flag_after t (take (suc m) bytes)) m)
      ∙ sym (spelled_after (record { at = z; bytes = take (suc m) bytes }) (g (l.flag_after t (take (suc m) bytes)) m))
  any_front t at z bytes f g (suc n) m same = same t n

  -- the tokens are the same at any offset
  pub any_offset : (t : Bool) (at z n : ℕ) (s : List ℕ) → spelled (scan l t at n s) ≡ spelled (scan l t z n s)
  any_offset t at z n [] = refl
  any_offset t at z (suc n) (b ∷ s) = any_offset t (at + 1) (z + 1) n s
  any_offset t at z zero (b ∷ s) =
      any_front t at z (b ∷ s) (λ o k. scan l o (at + 1) k s) (λ o k. scan l o (z + 1) k s) (l.separator_length (b ∷ s))
      (l.token_length t (b ∷ s))
      (λ o k. any_offset o (at + 1) (z + 1) k s)

  -- bytes of what stands before are passed over
  passes : (t : Bool) (at z : ℕ) (w r : List ℕ) → spelled (scan l t at (length w) (w ++ r)) ≡ spelled (scan l t z 0 r)
  passes t at z [] r = any_offset t at z 0 r
  passes t at z (c ∷ w) r = passes t (at + 1) z w r

  pub over_separator : (t : Bool) (at z b : ℕ) (w r : List ℕ) → l.separator_length (b ∷ w ++ r) ≡ suc (length w) →
      spelled (scan l t at 0 (b ∷ w ++ r)) ≡ spelled (scan l t z 0 r)
  over_separator t at z b w r e =
      ap (λ n. spelled (at_front l t at (b ∷ w ++ r) (λ o k. scan l o (at + 1) k (w ++ r)) n (l.token_length t (b ∷ w ++ r)))) e
      ∙ passes t (at + 1) z w r

  pub over_token : (t : Bool) (at z b : ℕ) (w r : List ℕ) → l.separator_length (b ∷ w ++ r) ≡ 0
      → l.token_length t (b ∷ w ++ r) ≡ suc (length w) →
      spelled (scan l t at 0 (b ∷ w ++ r)) ≡ word_before (b ∷ w) (spelled (scan l (l.flag_after t (b ∷ w)) z 0 r))
  over_token t at z b w r e f =
      ap (λ n. spelled (at_front l t at (b ∷ w ++ r) (λ o k. scan l o (at + 1) k (w ++ r)) n (l.token_length t (b ∷ w ++ r)))) e
      ∙ ap (λ n. spelled (at_front l t at (b ∷ w ++ r) (λ o k. scan l o (at + 1) k (w ++ r)) 0 n)) f
      ∙ ap (λ (s : List ℕ). spelled (after (record { at = at; bytes = b ∷ s })
      (scan l (l.flag_after t (b ∷ s)) (at + 1) (length w) (w ++ r)))) (front_is w r)
      ∙ spelled_after (record { at = at; bytes = b ∷ w }) (scan l (l.flag_after t (b ∷ w)) (at + 1) (length w) (w ++ r))
      ∙ ap (word_before (b ∷ w)) (passes (l.flag_after t (b ∷ w)) (at + 1) z w r)

  -- a blank is passed over, where it is a separator
  pub over_blank : ((b : ℕ) (s : List ℕ) → is_blank b ≡ true → l.separator_length (b ∷ s) ≡ 1)
      → (t : Bool) (at z b : ℕ) (r : List ℕ) → is_blank b ≡ true →
      spelled (scan l t at 0 (b ∷ r)) ≡ spelled (scan l t z 0 r)
  over_blank blank_length t at z b r e = over_separator t at z b [] r (blank_length b r e)

  -- a comment of one line is passed over, with its line end
  pub over_line : ((b : ℕ) (s : List ℕ) → is_blank b ≡ true → l.separator_length (b ∷ s) ≡ 1) → (mark : ℕ)
      → ((s : List ℕ) → l.separator_length (mark ∷ mark ∷ s) ≡ 1 + (1 + prefix_len (λ b. not (b == 10)) s))
      → (c : List ℕ) → IsLineComment mark c → (t : Bool) (at z : ℕ) (r : List ℕ)
      → spelled (scan l t at 0 (c ++ r)) ≡ spelled (scan l t z 0 r)
  over_line blank_length mark long c (body, e, f) t at z r =
      let n : l.separator_length (mark ∷ mark ∷ body ++ (10 ∷ r)) ≡ suc (length (mark ∷ body)) =
      omega (arith, long (body ++ (10 ∷ r)), line_run body r e) in
      ap (λ (x : List ℕ). spelled (scan l t at 0 (x ++ r))) f
      ∙ ap (λ (x : List ℕ). spelled (scan l t at 0 (mark ∷ mark ∷ x))) (append_assoc body (10 ∷ []) r)
      ∙ over_separator t at 0 mark (mark ∷ body) (10 ∷ r) n ∙ over_blank blank_length t 0 z 10 r refl

-- In a language a blank is a separator, and a comment is passed over; where a token begins, no separator does; and a token stays,
-- however the bytes behind it change behind a blank.
pub record Lets (l : Lexis) (IsComment : List ℕ → Type 0) : Type 0 where
  pub blank_length : (b : ℕ) (s : List ℕ) → is_blank b ≡ true → l.separator_length (b ∷ s) ≡ 1
  pub over_comment : (c : List ℕ) → IsComment c → (t : Bool) (at z : ℕ) (r : List ℕ)
      → spelled (scan l t at 0 (c ++ r)) ≡ spelled (scan l t z 0 r)
  pub token_first : (t : Bool) (s : List ℕ) → 0 < l.token_length t s → l.separator_length s ≡ 0
  pub token_stays : (t : Bool) (b : ℕ) (w : List ℕ) {r p : List ℕ} → Alike r p → l.token_length t (b ∷ w ++ r) ≡ suc (length w)
      → l.token_length t (b ∷ w ++ p) ≡ suc (length w)

module _ (l : Lexis) (IsComment : List ℕ → Type 0) (lets : Lets l IsComment) where
  -- what is added is passed over
  added : {s : List ℕ} → IsSeparation IsComment s → (t : Bool) (at z : ℕ) (r : List ℕ)
      → spelled (scan l t at 0 (s ++ r)) ≡ spelled (scan l t z 0 r)
  added pad.nothing t at z r = any_offset l t at z 0 r
  added (pad.blank {b} {s} e h) t at z r = over_blank l lets.blank_length t at 0 b (s ++ r) e ∙ added h t 0 z r
  added (pad.comment b c rest e k h g) t at z r =
      ap (λ (x : List ℕ). spelled (scan l t at 0 (x ++ r))) g
      ∙ over_blank l lets.blank_length t at 0 b ((c ++ rest) ++ r) e
      ∙ ap (λ (x : List ℕ). spelled (scan l t 0 0 x)) (append_assoc c rest r)
      ∙ lets.over_comment c k t 0 0 (rest ++ r) ∙ added h t 0 z r

  -- what is added begins with a blank, or is nothing
  alike_added : {s : List ℕ} → IsSeparation IsComment s → {r p : List ℕ} → Alike r p → Alike r (s ++ p)
  alike_added pad.nothing h = h
  alike_added (pad.blank {b} {s} e g) h = alike.blank b e
  alike_added (pad.comment b c rest e k g f) {r} {p} h = subst (λ (x : List ℕ). Alike r (x ++ p)) (sym f) (alike.blank b e)

  padded_alike : {t : Bool} {b q : List ℕ} → Padded l (IsSeparation IsComment) t b q → Alike b q
  padded_alike (pad.same {bytes = s}) = alike_self s
  padded_alike (pad.added {bytes = b} s rest g h e) = subst (λ (x : List ℕ). Alike b x) (sym e) (alike_added g (padded_alike h))
  padded_alike (pad.separator c s rest more e f g k h) = rw (e, f) (behind (c ∷ s) (padded_alike h))
  padded_alike (pad.token c s rest more e f g k h) = rw (e, f) (behind (c ∷ s) (padded_alike h))

  padded_same : {t : Bool} {b q : List ℕ} → Padded l (IsSeparation IsComment) t b q → (at z : ℕ)
      → spelled (scan l t at 0 b) ≡ spelled (scan l t z 0 q)
  padded_same (pad.same {flag = t} {bytes = s}) at z = any_offset l t at z 0 s
  padded_same (pad.added {flag = t} {bytes = b} s rest g h e) at z =
      padded_same h at 0 ∙ sym (added g t z 0 rest) ∙ ap (λ (x : List ℕ). spelled (scan l t z 0 x)) (sym e)
  padded_same (pad.separator {flag = t} c s rest more e f g k h) at z =
      ap (λ (x : List ℕ). spelled (scan l t at 0 x)) e
      ∙ over_separator l t at 0 c s rest (ap l.separator_length (sym e) ∙ g)
      ∙ padded_same h 0 0
      ∙ sym (over_separator l t z 0 c s more (ap l.separator_length (sym f) ∙ k))
      ∙ ap (λ (x : List ℕ). spelled (scan l t z 0 x)) (sym f)
  padded_same (pad.token {flag = t} c s rest more e f g k h) at z =
      let n : l.separator_length (c ∷ s ++ rest) ≡ 0 = ap l.separator_length (sym e) ∙ g in
      let stands : l.token_length t (c ∷ s ++ rest) ≡ suc (length s) = ap (l.token_length t) (sym e) ∙ k in
      let stays : l.token_length t (c ∷ s ++ more) ≡ suc (length s) = lets.token_stays t c s (padded_alike h) stands in
      ap (λ (x : List ℕ). spelled (scan l t at 0 x)) e
      ∙ over_token l t at 0 c s rest n stands
      ∙ ap (word_before (c ∷ s)) (padded_same h 0 0)
      ∙ sym (over_token l t z 0 c s more (lets.token_first t (c ∷ s ++ more) (omega (arith, stays))) stays)
      ∙ ap (λ (x : List ℕ). spelled (scan l t z 0 x)) (sym f)

  -- what is added between tokens changes none
  pub same_tokens : (text other : List ℕ) → Padded l (IsSeparation IsComment) false text other → HaveSameTokens l text other
  same_tokens text other h = padded_same h 0 0
