-- Bytes that separators and tokens make up, one behind the other, before other bytes.
use Rattle.std.proofs.Common.{◌≡◌, ℕ, zero, suc, ◌≤◌, Bool, true, false, List, [], ◌∷◌, ◌++◌, length, take, drop, Option, Some}
use Rattle.std.proofs.Common.{None, refl, sym, ap, subst, ◌∙◌, arith, append_assoc, length-take}
use Rattle.std.proofs.lemmas.List.{take-append-drop}
use Rattle.lexer.specs.Tokens.{Lexis, scan}
use Rattle.lexer.specs.Separators.{spelled}
use Rattle.lexer.proofs.Padding.{word_before, any_offset, over_separator, over_token}
use Rattle.grammar_reader.proofs.Fronts.{Front, in_front}

-- which tokens must not stand in a text: by the flag before a token, its bytes, and the bytes behind it
abbrev pub Barred : Type 0
Barred = Bool → List ℕ → List ℕ → Bool

-- Before other bytes a text is these tokens, with separators between them. None of them goes on into those bytes, and none is
-- barred. The flags are those before the text and behind it.
pub data Passes (l : Lexis) (barred : Barred) : Bool → List ℕ → List ℕ → Front → Bool → Type 0 where
  at_end : {t : Bool} {r : List ℕ} → Passes l barred t [] r (λ s. s) t
  separator : {t u : Bool} {text r : List ℕ} {f : Front} (b : ℕ) (w more : List ℕ) → text ≡ b ∷ w ++ more →
      l.separator_length (b ∷ w ++ (more ++ r)) ≡ suc (length w) → Passes l barred t more r f u → Passes l barred t text r f u
  token : {t u : Bool} {text r : List ℕ} {f : Front} (b : ℕ) (w more : List ℕ) → text ≡ b ∷ w ++ more →
      l.separator_length (b ∷ w ++ (more ++ r)) ≡ 0 → l.token_length t (b ∷ w ++ (more ++ r)) ≡ suc (length w) →
      barred t (b ∷ w) (more ++ r) ≡ false → Passes l barred (l.flag_after t (b ∷ w)) more r f u →
      Passes l barred t text r (λ s. (b ∷ w) ∷ f s) u

-- the bytes behind the first part of a text that has one
pub behind_part : {text : List ℕ} (b : ℕ) (w more : List ℕ) → text ≡ b ∷ w ++ more → (r : List ℕ)
    → text ++ r ≡ b ∷ w ++ (more ++ r)
behind_part b w more e r = ap (λ (s : List ℕ). s ++ r) e ∙ ap (λ (s : List ℕ). b ∷ s) (append_assoc w more r)

pub behind_both : {q : List ℕ} (more c r : List ℕ) → q ≡ c ++ r → more ++ q ≡ (more ++ c) ++ r
behind_both more c r e = ap (λ (s : List ℕ). more ++ s) e ∙ sym (append_assoc more c r)

module _ {l : Lexis} {barred : Barred} where
  -- one text behind another
  pub one_behind : {t u v : Bool} {a q : List ℕ} {f g : Front} → Passes l barred t a q f u → (c r : List ℕ) → q ≡ c ++ r
      → Passes l barred u c r g v →
      Passes l barred t (a ++ c) r (λ s. f (g s)) v
  one_behind {v = v} {g = g} (at_end {t}) c r same k = k
  one_behind (separator b w more e n h) c r same k =
      separator b w (more ++ c) (behind_part b w more e c)
      (ap (λ (s : List ℕ). l.separator_length (b ∷ w ++ s)) (sym (behind_both more c r same)) ∙ n)
      (one_behind h c r same k)
  one_behind (token {t} b w more e n m o h) c r same k =
      let all = sym (behind_both more c r same) in
      token b w (more ++ c) (behind_part b w more e c) (ap (λ (s : List ℕ). l.separator_length (b ∷ w ++ s)) all ∙ n)
      (ap (λ (s : List ℕ). l.token_length t (b ∷ w ++ s)) all ∙ m) (ap (barred t (b ∷ w)) all ∙ o) (one_behind h c r same k)

  -- its tokens, and those behind it
  pub tokens_found : {t u : Bool} {text r : List ℕ} {f : Front} → Passes l barred t text r f u → (at z : ℕ) →
      spelled (scan l t at 0 (text ++ r)) ≡ in_front f (spelled (scan l u z 0 r))
  tokens_found (at_end {t} {r}) at z = any_offset l t at z 0 r
  tokens_found (separator {t} {r = r} b w more e n h) at z =
      ap (λ (s : List ℕ). spelled (scan l t at 0 s)) (behind_part b w more e r) ∙ over_separator l t at 0 b w (more ++ r) n
      ∙ tokens_found h 0 z
  tokens_found (token {t} {r = r} b w more e n m o h) at z =
      ap (λ (s : List ℕ). spelled (scan l t at 0 s)) (behind_part b w more e r) ∙ over_token l t at 0 b w (more ++ r) n m
      ∙ ap (word_before (b ∷ w)) (tokens_found h 0 z)

  -- what bars less
  pub barred_less : {other : Barred} → ((t : Bool) (x s : List ℕ) → barred t x s ≡ false → other t x s ≡ false)
      → {t u : Bool} {text r : List ℕ} {f : Front}
      → Passes l barred t text r f u → Passes l other t text r f u
  barred_less less at_end = at_end
  barred_less less (separator b w more e n h) = separator b w more e n (barred_less less h)
  barred_less less (token {t} {r = r} b w more e n m o h) =
      token b w more e n m (less t (b ∷ w) (more ++ r) o) (barred_less less h)

-- Texts whose tokens are found by computing.

-- the tokens of a text, and the flag behind it
abbrev pub Tokens : Type 0
Tokens = List (List ℕ) × Bool

abbrev pub unless_barred : List ℕ → Option Tokens → Bool → Option Tokens
unless_barred x found true = None
unless_barred x None false = None
unless_barred x (Some (xs, u)) false = Some (x ∷ xs, u)

-- what a text is before other bytes by its first byte and those behind it, and by what it is behind the separator or the token
-- there
abbrev pub passed_front : Lexis → Barred → Bool → ℕ → List ℕ → List ℕ → (Bool → ℕ → Option Tokens) → ℕ → ℕ → Option Tokens
passed_front l barred t b bs r rest zero zero = None
passed_front l barred t b bs r rest zero (suc n) =
    unless_barred (b ∷ take n bs) (rest (l.flag_after t (b ∷ take n bs)) n) (barred t (b ∷ take n bs) (drop n bs ++ r))
passed_front l barred t b bs r rest (suc n) _ = rest t n

-- The tokens of a text before other bytes, where so many of its bytes belong to what stands before it. None where something goes
-- on into those bytes, or a token is barred, or there is a lexical fault.
abbrev pub passed : Lexis → Barred → Bool → ℕ → List ℕ → List ℕ → Option Tokens
passed l barred t zero [] r = Some ([], t)
passed l barred t (suc n) [] r = None
passed l barred t (suc n) (b ∷ bs) r = passed l barred t n bs r
passed l barred t zero (b ∷ bs) r =
    passed_front l barred t b bs r (λ set n. passed l barred set n bs r) (l.separator_length (b ∷ bs ++ r))
    (l.token_length t (b ∷ bs ++ r))

some_same : (p q : Tokens) → Some p ≡ Some q → p ≡ q
some_same p q e = cc

module _ (l : Lexis) (barred : Barred) where
  -- what was found of a text, where so many of its bytes belong to what stands before
  record Found (t : Bool) (n : ℕ) (text r : List ℕ) (xs : List (List ℕ)) (u : Bool) : Type 0 where
    within : n ≤ length text
    passes : Passes l barred t (drop n text) r (λ s. xs ++ s) u

  parts : (b n : ℕ) (bs : List ℕ) → b ∷ bs ≡ b ∷ take n bs ++ drop n bs
  parts b n bs = ap (λ (s : List ℕ). b ∷ s) (sym (take-append-drop n bs))

  size : (n : ℕ) (bs : List ℕ) → n ≤ length bs → suc (length (take n bs)) ≡ suc n
  size n bs h = omega (arith, h, length-take n bs)

  all_parts : (b n : ℕ) (bs r : List ℕ) → b ∷ take n bs ++ (drop n bs ++ r) ≡ b ∷ bs ++ r
  all_parts b n bs r = ap (λ (s : List ℕ). b ∷ s)
      (sym (append_assoc (take n bs) (drop n bs) r) ∙ ap (λ (s : List ℕ). s ++ r) (take-append-drop n bs))

  with_separator : (t : Bool) (b n : ℕ) (bs r : List ℕ) (xs : List (List ℕ)) (u : Bool) → l.separator_length (b ∷ bs ++ r) ≡ suc n
      → Found t n bs r xs u →
      Found t 0 (b ∷ bs) r xs u
  with_separator t b n bs r xs u e h = record {
    within = omega arith;
    passes = separator b (take n bs) (drop n bs) (parts b n bs)
        (ap l.separator_length (all_parts b n bs r) ∙ e ∙ sym (size n bs h.within)) h.passes;
  }

  with_token : (t : Bool) (b n : ℕ) (bs r : List ℕ) (xs : List (List ℕ)) (u : Bool) → l.separator_length (b ∷ bs ++ r) ≡ 0 →
      l.token_length t (b ∷ bs ++ r) ≡ suc n → barred t (b ∷ take n bs) (drop n bs ++ r) ≡ false →
      Found (l.flag_after t (b ∷ take n bs)) n bs r xs u → Found t 0 (b ∷ bs) r ((b ∷ take n bs) ∷ xs) u
  with_token t b n bs r xs u e f o h = record {
    within = omega arith;
    passes = token b (take n bs) (drop n bs) (parts b n bs) (ap l.separator_length (all_parts b n bs r) ∙ e)
        (ap (l.token_length t) (all_parts b n bs r) ∙ f ∙ sym (size n bs h.within)) o h.passes;
  }

  -- what stands at the front of a text
  by_token : (t : Bool) (b n : ℕ) (bs r : List ℕ) (found : Option Tokens) (no : Bool) (xs : List (List ℕ)) (u : Bool) →
      l.separator_length (b ∷ bs ++ r) ≡ 0 → l.token_length t (b ∷ bs ++ r) ≡ suc n
      → barred t (b ∷ take n bs) (drop n bs ++ r) ≡ no →
      ((ys : List (List ℕ)) → found ≡ Some (ys, u) → Found (l.flag_after t (b ∷ take n bs)) n bs r ys u) →
      unless_barred (b ∷ take n bs) found no ≡ Some (xs, u) → Found t 0 (b ∷ bs) r xs u
  by_token t b n bs r found true xs u e f o go h = absurd cc
  by_token t b n bs r None false xs u e f o go h = absurd cc
  by_token t b n bs r (Some (ys, v)) false xs u e f o go h =
      let all : ◌≡◌ {A = Tokens} ((b ∷ take n bs) ∷ ys, v) (xs, u) = some_same ((b ∷ take n bs) ∷ ys, v) (xs, u) h in
      subst (λ (zs : List (List ℕ)). Found t 0 (b ∷ bs) r zs u) (ap (λ (p : Tokens). p.0) all)
      (with_token t b n bs r ys u e f o (go ys (ap (λ (p : Tokens). Some (ys, p.1)) all)))

  by_front : (t : Bool) (b : ℕ) (bs r : List ℕ) (k m : ℕ) (xs : List (List ℕ)) (u : Bool) →
      l.separator_length (b ∷ bs ++ r) ≡ k → l.token_length t (b ∷ bs ++ r) ≡ m →
      ((set : Bool) (n : ℕ) (ys : List (List ℕ)) → passed l barred set n bs r ≡ Some (ys, u) → Found set n bs r ys u) →
      passed_front l barred t b bs r (λ set n. passed l barred set n bs r) k m ≡ Some (xs, u) → Found t 0 (b ∷ bs) r xs u
  by_front t b bs r zero zero xs u e f go h = absurd cc
  by_front t b bs r (suc n) m xs u e f go h = with_separator t b n bs r xs u e (go t n xs h)
  by_front t b bs r zero (suc n) xs u e f go h =
      let set : Bool = l.flag_after t (b ∷ take n bs) in
      by_token t b n bs r (passed l barred set n bs r) (barred t (b ∷ take n bs) (drop n bs ++ r)) xs u e f refl (go set n) h

  -- what is found by computing is so
  found : (text r : List ℕ) (t : Bool) (n : ℕ) (xs : List (List ℕ)) (u : Bool) → passed l barred t n text r ≡ Some (xs, u)
      → Found t n text r xs u
  found [] r t zero xs u h =
      record {
        within = omega arith;
        passes = subst (λ (p : Tokens). Passes l barred t [] r (λ s. p.0 ++ s) p.1) (some_same ([], t) (xs, u) h) at_end;
      }
  found [] r t (suc n) xs u h = absurd cc
  found (b ∷ bs) r t (suc n) xs u h = let i = found bs r t n xs u h
      in record { within = omega (arith, i.within); passes = i.passes }
  found (b ∷ bs) r t zero xs u h =
      by_front t b bs r (l.separator_length (b ∷ bs ++ r)) (l.token_length t (b ∷ bs ++ r)) xs u refl refl
      (λ set n ys e. found bs r set n ys u e) h

  pub passes_found : (text r : List ℕ) (t : Bool) (xs : List (List ℕ)) (u : Bool) → passed l barred t 0 text r ≡ Some (xs, u) →
      Passes l barred t text r (λ s. xs ++ s) u
  passes_found text r t xs u h = (found text r t 0 xs u h).passes
