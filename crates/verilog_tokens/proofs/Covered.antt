-- The tokens of a text, with only separators between them, are its bytes.
use Rattle.std.proofs.Common.{◌≡◌, ℕ, zero, suc, ◌+◌, ◌≤◌, Bool, true, false, not, ◌&&◌, ◌==◌, if◌then◌else◌, List, [], ◌∷◌}
use Rattle.std.proofs.Common.{length, take, drop, Option, Some, None, unwrap_or, refl, sym, ap, ◌∙◌, arith, subst, codes}
use Rattle.std.proofs.lemmas.Bool.{and_parts, eqb-true}
use Rattle.std.specs.List.{prefix_len}
use Rattle.verilog_tokens.specs.Tokens.{is_blank, begins_with, later, comment_rest, block_length, separator_length}
use Rattle.verilog_tokens.specs.Cover.{IsSeparator, spelling}
use Rattle.verilog_tokens.specs.Cover as cover
use Rattle.lexer.proofs.Covered.{AsSeparator, blank_here, line_here, Finds}
use Rattle.verilog_tokens.proofs.Longest.{token_here, token_least}

some_is : (x y : ℕ) → Some x ≡ Some y → x ≡ y
some_is x y e = cc

-- a comment ends with the first slash behind a star
closed : (star : Bool) (s : List ℕ) (j : ℕ) → comment_rest star s ≡ Some j
    → (comment_rest star (take j s) ≡ Some (length (take j s))) × (j ≤ length s)
closed star [] j e = absurd cc
closed star (c ∷ s) zero e = absurd (by (star && c == 47) (comment_rest (c == 42) s) e)
  where
    by : (t : Bool) (o : Option ℕ) → (if t then Some 1 else later 1 o) ≡ Some 0 → ⊥
    by true o f = let n = some_is 1 0 f in omega arith
    by false None f = absurd cc
    by false (Some i) f = let n = some_is (1 + i) 0 f in omega arith
closed star (c ∷ s) (suc j) e = by (star && c == 47) (comment_rest (c == 42) s) refl refl e (closed (c == 42) s j)
  where
    by : (t : Bool) (o : Option ℕ) → (star && c == 47) ≡ t → comment_rest (c == 42) s ≡ o
        → (if t then Some 1 else later 1 o) ≡ Some (suc j) →
        (comment_rest (c == 42) s ≡ Some j → (comment_rest (c == 42) (take j s) ≡ Some (length (take j s))) × (j ≤ length s)) →
        (comment_rest star (c ∷ take j s) ≡ Some (length (c ∷ take j s))) × (suc j ≤ length (c ∷ s))
    by true o f g h next =
        let n = some_is 1 (suc j) h in
        let z : j ≡ 0 = omega arith in
        (subst (λ (k : ℕ). comment_rest star (c ∷ take k s) ≡ Some (length (c ∷ take k s))) (sym z) (rw f refl), omega arith)
    by false None f g h next = absurd cc
    by false (Some i) f g h next =
        let n = some_is (1 + i) (suc j) h in
        let z : i ≡ j = omega arith in
        let r = next (g ∙ ap (λ (k : ℕ). Some k) z) in
        let l : 1 + length (take j s) ≡ length (c ∷ take j s) = omega arith in
        (rw f (ap (later 1) r.0 ∙ ap (λ (k : ℕ). Some k) l), omega (arith, r.1))

block_at : (b c k : ℕ) (s : List ℕ) → 47 ≡ b → 42 ≡ c → (o : Option ℕ) → comment_rest false s ≡ o
    → unwrap_or (later 2 o) 0 ≡ suc k → AsSeparator IsSeparator b (c ∷ s) k
block_at b c k s i j None f h = absurd (omega arith)
block_at b c zero s i j (Some n) f h = absurd (omega arith)
block_at b c (suc k) s i j (Some n) f h =
    let z : n ≡ k = omega arith in
    let r = closed false s k (f ∙ ap (λ (x : ℕ). Some x) z) in (
      subst (λ (x : ℕ). IsSeparator (x ∷ c ∷ take k s) (drop k s)) i
          (subst (λ (x : ℕ). IsSeparator (47 ∷ x ∷ take k s) (drop k s)) j (cover.block_comment (take k s) r.0)),
      omega (arith, r.1),
    )

block_here : (b k : ℕ) (s : List ℕ) → begins_with (b ∷ s) (codes "/*") ≡ true → block_length (b ∷ s) ≡ suc k
    → AsSeparator IsSeparator b s k
block_here b k [] e h = absurd (omega arith)
block_here b k (c ∷ s) e h =
    let p = and_parts (47 == b) (begins_with (c ∷ s) (codes "*")) e in
    let q = and_parts (42 == c) true p.1 in
    block_at b c k s (eqb-true 47 b p.0) (eqb-true 42 c q.0) (comment_rest false s) refl h

separator_here : (b k : ℕ) (s : List ℕ) → separator_length (b ∷ s) ≡ suc k → AsSeparator IsSeparator b s k
separator_here b k s e = by (is_blank b) (begins_with (b ∷ s) (codes "//")) (begins_with (b ∷ s) (codes "/*")) refl refl refl e
  where
    by : (blank line block : Bool) → is_blank b ≡ blank → begins_with (b ∷ s) (codes "//") ≡ line
        → begins_with (b ∷ s) (codes "/*") ≡ block →
        (if blank then 1 else (if line then prefix_len (λ c. not (c == 10)) (b ∷ s)
        else (if block then block_length (b ∷ s) else 0))) ≡ suc k → AsSeparator IsSeparator b s k
    by true line block f g h e = blank_here IsSeparator b k s (cover.blank b f) e
    by false true block f g h e = line_here IsSeparator 47 refl (λ rest body. cover.line_comment body) b k s g e
    by false false true f g h e = block_here b k s h e
    by false false false f g h e = absurd (omega arith)

-- what must be known of the language
pub finds : Finds spelling
finds = record { separator_here = separator_here; token_here = token_here; token_least = token_least }
