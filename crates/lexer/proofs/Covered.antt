-- The tokens of a text, with only separators between them, are its bytes.
use Rattle.std.proofs.Common.{◌≡◌, ℕ, zero, suc, ◌+◌, ◌≤◌, ◌<◌, Bool, true, false, not, ◌==◌, cond, List, [], ◌∷◌, ◌++◌, length}
use Rattle.std.proofs.Common.{take, drop, Option, refl, sym, ap, ◌∙◌, arith, subst, append_assoc, length-append}
use Rattle.std.proofs.lemmas.Bool.{and_parts, eqb-true}
use Rattle.std.proofs.lemmas.List.{length-take-le, take-append-drop}
use Rattle.std.specs.List.{prefix_len, list_all}
use Rattle.lexer.specs.Tokens.{Token, begins_with, at_front, after, scan}
use Rattle.lexer.specs.Cover.{EndsLine, Spelling, EndsWith, CoversLast, CoversFirst, Covers, IsCovered}
use Rattle.lexer.specs.Cover as cover
use Rattle.lexer.proofs.Alike.{more}
use Rattle.lexer.proofs.Runs.{run_at}

is_line_end : (c : ℕ) → not (c == 10) ≡ false → c ≡ 10
is_line_end c e = by (c == 10) refl e
  where
    by : (t : Bool) → (c == 10) ≡ t → not t ≡ false → c ≡ 10
    by true f g = eqb-true c 10 f
    by false f g = absurd cc

-- a comment of one line goes to the end of its line
line_ends : (n : ℕ) (s : List ℕ) → prefix_len (λ c. not (c == 10)) s ≡ n → EndsLine (drop n s)
line_ends zero [] e = tt
line_ends (suc n) [] e = absurd (omega arith)
line_ends zero (c ∷ s) e = by (not (c == 10)) refl e
  where
    by : (t : Bool) → not (c == 10) ≡ t → cond t (1 + prefix_len (λ d. not (d == 10)) s) 0 ≡ 0 → c ≡ 10
    by true f g = absurd (omega arith)
    by false f g = is_line_end c f
line_ends (suc n) (c ∷ s) e = line_ends n s (more (not (c == 10)) (prefix_len (λ d. not (d == 10)) s) n e).1

-- what is found as a separator is one
abbrev pub AsSeparator : (List ℕ → List ℕ → Type 0) → ℕ → List ℕ → ℕ → Type 0
AsSeparator IsSeparator b s k = IsSeparator (b ∷ take k s) (drop k s) × (k ≤ length s)

-- a byte that is a separator
pub blank_here : (IsSeparator : List ℕ → List ℕ → Type 0) (b k : ℕ) (s : List ℕ) → IsSeparator (b ∷ []) s → 1 ≡ suc k
    → AsSeparator IsSeparator b s k
blank_here IsSeparator b zero s e h = (e, omega arith)
blank_here IsSeparator b (suc k) s e h = absurd (omega arith)

-- a comment of one line, which begins with a mark given twice
module _ (IsSeparator : List ℕ → List ℕ → Type 0) (mark : ℕ) (is_no_end : not (mark == 10) ≡ true)
    (comment : (rest body : List ℕ) → list_all (λ c. not (c == 10)) body ≡ true → EndsLine rest
    → IsSeparator (mark ∷ mark ∷ body) rest) where
  two_at_least : (s : List ℕ) → prefix_len (λ d. not (d == 10)) (mark ∷ mark ∷ s) ≡ 1 → ⊥
  two_at_least s e =
      let n : ℕ = prefix_len (λ d. not (d == 10)) s in
      let z : 1 + (1 + n) ≡ 1 = sym (ap (λ (t : Bool). cond t (1 + cond t (1 + n) 0) 0) is_no_end) ∙ e in
      absurd (omega arith)

  pub line_here : (b k : ℕ) (s : List ℕ) → begins_with (b ∷ s) (mark ∷ mark ∷ []) ≡ true
      → prefix_len (λ c. not (c == 10)) (b ∷ s) ≡ suc k → AsSeparator IsSeparator b s k
  line_here b k [] e h = absurd (let p = (and_parts (mark == b) (begins_with [] (mark ∷ [])) e).1 in cc)
  line_here b zero (c ∷ s) e h =
      let p = and_parts (mark == b) (begins_with (c ∷ s) (mark ∷ [])) e in
      let q = and_parts (mark == c) true p.1 in
      let i : mark ≡ b = eqb-true mark b p.0 in
      let j : mark ≡ c = eqb-true mark c q.0 in
      absurd
      (two_at_least s
      (subst (λ (x : ℕ). prefix_len (λ d. not (d == 10)) (mark ∷ x ∷ s) ≡ 1) (sym j)
      (subst (λ (x : ℕ). prefix_len (λ d. not (d == 10)) (x ∷ c ∷ s) ≡ 1) (sym i) h)))
  line_here b (suc k) (c ∷ s) e h =
      let p = and_parts (mark == b) (begins_with (c ∷ s) (mark ∷ [])) e in
      let q = and_parts (mark == c) true p.1 in
      let i : mark ≡ b = eqb-true mark b p.0 in
      let j : mark ≡ c = eqb-true mark c q.0 in
      let m = more (not (b == 10)) (prefix_len (λ d. not (d == 10)) (c ∷ s)) (suc k) h in
      let n = more (not (c == 10)) (prefix_len (λ d. not (d == 10)) s) k m.1 in
      let r = run_at (λ d. not (d == 10)) k s n.1 in (
        subst (λ (x : ℕ). IsSeparator (x ∷ c ∷ take k s) (drop k s)) i
            (subst (λ (x : ℕ). IsSeparator (mark ∷ x ∷ take k s) (drop k s)) j
            (comment (drop k s) (take k s) r.0 (line_ends k s n.1))),
        omega (arith, r.1),
      )

-- a separator more before what is covered
module _ (l : Spelling) (s rest : List ℕ) (from : ℕ) (sep : l.IsSeparator s rest) where
  before_last : (f : Option ℕ) → CoversLast l (from + length s) rest f → CoversLast l from (s ++ rest) f
  before_last f c =
      let e : from + length s + length c.gap ≡ from + length (s ++ c.gap) = omega (arith, length-append s c.gap) in
      record {
        gap = s ++ c.gap;
        rest = c.rest;
        split = ap (λ (x : List ℕ). s ++ x) c.split ∙ sym (append_assoc s c.gap c.rest);
        between = cover.one_between s c.gap (subst (λ (x : List ℕ). l.IsSeparator s x) c.split sep) c.between refl;
        ends = subst (λ (n : ℕ). EndsWith n c.rest f) e c.ends;
      }

  before_first : (t : Bool) (k : Token) (r : List ℕ) → CoversFirst l t (from + length s) rest k r
      → CoversFirst l t from (s ++ rest) k r
  before_first t k r c =
      let e : from + length s + length c.gap ≡ from + length (s ++ c.gap) = omega (arith, length-append s c.gap) in
      record {
        gap = s ++ c.gap;
        split = ap (λ (x : List ℕ). s ++ x) c.split ∙ sym (append_assoc s c.gap (k.bytes ++ r));
        between = cover.one_between s c.gap (subst (λ (x : List ℕ). l.IsSeparator s x) c.split sep) c.between refl;
        place = c.place ∙ e;
        token = c.token;
        longest = c.longest;
      }

  before : (t : Bool) (ts : List Token) (f : Option ℕ) → Covers l t (from + length s) rest ts f → Covers l t from (s ++ rest) ts f
  before t [] f c = before_last f c
  before t (k ∷ ts) f (r, c, d) = (r, before_first t k r c, d)

-- What must be known of a language: what is found at the front of bytes as a separator, or as a token, is one, and no token in
-- front is longer.
pub record Finds (l : Spelling) : Type 0 where
  pub separator_here : (b k : ℕ) (s : List ℕ) → l.lexis.separator_length (b ∷ s) ≡ suc k → AsSeparator l.IsSeparator b s k
  pub token_here : (t : Bool) (b : ℕ) (s : List ℕ) (m : ℕ) → l.lexis.token_length t (b ∷ s) ≡ suc m
      → (l.spells_token t (b ∷ take m s) ≡ true) × (m ≤ length s)
  pub token_least : (t : Bool) (u r : List ℕ) → l.spells_token t u ≡ true → 0 < l.lexis.token_length t (u ++ r)
      → length u ≤ l.lexis.token_length t (u ++ r)

module _ (l : Spelling) (finds : Finds l) where
  -- no longer token begins where this one does
  no_longer : (t : Bool) (w rest : List ℕ) → l.lexis.token_length t (w ++ rest) ≡ length w → 0 < length w →
      (more others : List ℕ) → rest ≡ more ++ others → 0 < length more → l.spells_token t (w ++ more) ≡ true → ⊥
  no_longer t w rest e p more others h q s =
      let same : w ++ rest ≡ (w ++ more) ++ others = ap (λ (x : List ℕ). w ++ x) h ∙ sym (append_assoc w more others) in
      let long : l.lexis.token_length t ((w ++ more) ++ others) ≡ length w = ap (l.lexis.token_length t) (sym same) ∙ e in
      let i = finds.token_least t (w ++ more) others s (omega (arith, long, p)) in
      absurd (omega (arith, i, long, q, length-append w more))

  first : (t : Bool) (from : ℕ) (bytes rest : List ℕ) (k : Token) (r : List Token × Option ℕ) → CoversFirst l t from bytes k rest
      →
      Covers l (l.lexis.flag_after t k.bytes) (k.at + length k.bytes) rest r.0 r.1
      → Covers l t from bytes (after k r).0 (after k r).1
  first t from bytes rest k (ts, f) c d = (rest, c, d)

  token_first : (t : Bool) (at b m : ℕ) (s : List ℕ) → l.lexis.token_length t (b ∷ s) ≡ suc m →
      CoversFirst l t at (b ∷ s) (record { at = at; bytes = b ∷ take m s }) (drop m s)
  token_first t at b m s e =
      let h = finds.token_here t b s m e in
      let joined : b ∷ take m s ++ drop m s ≡ b ∷ s = ap (λ (x : List ℕ). b ∷ x) (take-append-drop m s) in
      let many : suc m ≡ length (b ∷ take m s) = omega (arith, length-take-le m s h.1) in
      record {
        gap = [];
        split = sym joined;
        between = cover.nothing_between;
        place = omega arith;
        token = h.0;
        longest = no_longer t (b ∷ take m s) (drop m s) (ap (l.lexis.token_length t) joined ∙ e ∙ many) (omega arith);
      }

  front : (t : Bool) (at b : ℕ) (s : List ℕ) (go : Bool → ℕ → List Token × Option ℕ) (n m : ℕ)
      → l.lexis.separator_length (b ∷ s) ≡ n → l.lexis.token_length t (b ∷ s) ≡ m →
      ((o : Bool) (k : ℕ) → Covers l o (at + 1 + k) (drop k s) (go o k).0 (go o k).1) →
      Covers l t at (b ∷ s) (at_front l.lexis t at (b ∷ s) go n m).0 (at_front l.lexis t at (b ∷ s) go n m).1
  front t at b s go zero zero e f all =
      record { gap = []; rest = b ∷ s; split = refl; between = cover.nothing_between; ends = (omega arith, omega arith) }
  front t at b s go zero (suc m) e f all =
      let k : Token = record { at = at; bytes = b ∷ take m s } in
      let h = finds.token_here t b s m f in
      let place : at + 1 + m ≡ at + length (b ∷ take m s) = omega (arith, length-take-le m s h.1) in
      let o = l.lexis.flag_after t (b ∷ take m s) in
      let r = go o m in
      first t at (b ∷ s) (drop m s) k r (token_first t at b m s f)
      (subst (λ (from : ℕ). Covers l o from (drop m s) r.0 r.1) place (all o m))
  front t at b s go (suc n) m e f all =
      let h = finds.separator_here b n s e in
      let place : at + 1 + n ≡ at + length (b ∷ take n s) = omega (arith, length-take-le n s h.1) in
      let r = go t n in
      let joined : b ∷ take n s ++ drop n s ≡ b ∷ s = ap (λ (x : List ℕ). b ∷ x) (take-append-drop n s) in
      subst (λ (x : List ℕ). Covers l t at x r.0 r.1) joined
      (before l (b ∷ take n s) (drop n s) at h.0 t r.0 r.1
      (subst (λ (from : ℕ). Covers l t from (drop n s) r.0 r.1) place (all t n)))

  covers : (t : Bool) (at n : ℕ) (s : List ℕ) → Covers l t (at + n) (drop n s) (scan l.lexis t at n s).0 (scan l.lexis t at n s).1
  covers t at zero [] = record { gap = []; rest = []; split = refl; between = cover.nothing_between; ends = refl }
  covers t at (suc n) [] = record { gap = []; rest = []; split = refl; between = cover.nothing_between; ends = refl }
  covers t at (suc n) (b ∷ s) =
      let place : at + 1 + n ≡ at + suc n = omega arith in
      subst (λ (from : ℕ). Covers l t from (drop n s) (scan l.lexis t (at + 1) n s).0 (scan l.lexis t (at + 1) n s).1) place
      (covers t (at + 1) n s)
  covers t at zero (b ∷ s) =
      let place : at ≡ at + 0 = omega arith in
      let r = scan l.lexis t at 0 (b ∷ s) in
      subst (λ (from : ℕ). Covers l t from (b ∷ s) r.0 r.1) place
      (front t at b s (λ o k. scan l.lexis o (at + 1) k s) (l.lexis.separator_length (b ∷ s)) (l.lexis.token_length t (b ∷ s))
      refl refl (λ o k. covers o (at + 1) k s))

  pub covered : (text : List ℕ) → IsCovered l text
  covered text = covers false 0 0 text
