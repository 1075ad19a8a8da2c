-- Bytes that differ only behind a blank of the second, and what the tokens in front of them are.
use Rattle.std.proofs.Common.{◌≡◌, ℕ, suc, ◌+◌, ◌≤◌, ◌||◌, Bool, true, false, not, nat_eq, nat_le, cond, if◌then◌else◌, List, []}
use Rattle.std.proofs.Common.{◌∷◌, ◌++◌, length, refl, sym, ap, ◌∙◌, arith}
use Rattle.std.proofs.lemmas.Bool.{and_parts, and_from, eqb-true}
use Rattle.std.specs.List.{prefix_len, list_all}
use Rattle.std.specs.Char.{is_ascii_digit}
use Rattle.lexer.specs.Tokens.{is_blank, is_name_byte, begins_with, decimal_length}

-- what a space, a tab and a line end have in common, each blank has
pub blanks : {A : Type 0} {z : A} (c : ℕ) → is_blank c ≡ true → (f : ℕ → A) → f 32 ≡ z → f 9 ≡ z → f 10 ≡ z → f c ≡ z
blanks {A} {z} c b f space tab line_end = first (nat_eq 32 c) refl b
  where
    third : (t : Bool) → nat_eq 10 c ≡ t → (t || false) ≡ true → f c ≡ z
    third true e h = ap f (sym (eqb-true 10 c e)) ∙ line_end
    third false e h = absurd cc

    second : (t : Bool) → nat_eq 9 c ≡ t → (t || (nat_eq 10 c || false)) ≡ true → f c ≡ z
    second true e h = ap f (sym (eqb-true 9 c e)) ∙ tab
    second false e h = third (nat_eq 10 c) refl h

    first : (t : Bool) → nat_eq 32 c ≡ t → (t || (nat_eq 9 c || (nat_eq 10 c || false))) ≡ true → f c ≡ z
    first true e h = ap f (sym (eqb-true 32 c e)) ∙ space
    first false e h = second (nat_eq 9 c) refl h

pub no_name_byte : (c : ℕ) → is_blank c ≡ true → is_name_byte c ≡ false
no_name_byte c b = blanks c b is_name_byte refl refl refl

pub no_digit : (c : ℕ) → is_blank c ≡ true → is_ascii_digit c ≡ false
no_digit c b = blanks c b is_ascii_digit refl refl refl

-- the second bytes are the first, or have a blank where they differ first
pub data Alike : List ℕ → List ℕ → Type 0 where
  blank : {r p : List ℕ} (c : ℕ) → is_blank c ≡ true → Alike r (c ∷ p)
  empty : Alike [] []
  cons : {r p : List ℕ} (c : ℕ) → Alike r p → Alike (c ∷ r) (c ∷ p)

pub alike_self : (s : List ℕ) → Alike s s
alike_self [] = empty
alike_self (c ∷ s) = cons c (alike_self s)

pub behind : (w : List ℕ) {r p : List ℕ} → Alike r p → Alike (w ++ r) (w ++ p)
behind [] h = h
behind (c ∷ w) h = cons c (behind w h)

pub more : (t : Bool) (n m : ℕ) → cond t (1 + n) 0 ≡ suc m → (t ≡ true) × (n ≡ m)
more true n m e = (refl, omega arith)
more false n m e = absurd (omega arith)

none : (t : Bool) (n : ℕ) → cond t (1 + n) 0 ≡ 0 → t ≡ false
none true n e = absurd (omega arith)
none false n e = refl

-- a run that no blank is part of ends where it ended
pub run_ends : (f : ℕ → Bool) → ((c : ℕ) → is_blank c ≡ true → f c ≡ false) → (w : List ℕ) {r p : List ℕ} → Alike r p →
    prefix_len f (w ++ r) ≡ length w → prefix_len f (w ++ p) ≡ length w
run_ends f stops [] (blank c b) e = rw (stops c b) refl
run_ends f stops [] empty e = e
run_ends f stops [] (cons {r} {p} c h) e = rw (none (f c) (prefix_len f r) e) refl
run_ends f stops (c ∷ w) {r} {p} h e =
    let s = more (f c) (prefix_len f (w ++ r)) (length w) e in
    let i : prefix_len f (w ++ p) ≡ length w = run_ends f stops w h s.1 in
    rw s.0 (omega arith)

-- bytes that are no blanks
abbrev pub are_no_blanks : List ℕ → Bool
are_no_blanks cs = list_all (λ c. not (is_blank c)) cs

-- what begins the second bytes begins the first, where it has no blank
pub begins_first : (lit : List ℕ) → are_no_blanks lit ≡ true → {r p : List ℕ} → Alike r p → begins_with p lit ≡ true
    → begins_with r lit ≡ true
begins_first [] n h e = refl
begins_first (l ∷ ls) n (blank {r} {p} c b) e =
    let s = and_parts (nat_eq l c) (begins_with p ls) e in
    let same : not (is_blank l) ≡ not (is_blank c) = ap (λ d. not (is_blank d)) (eqb-true l c s.0) in
    let k = and_parts (not (is_blank l)) (are_no_blanks ls) n in
    let no : not (is_blank c) ≡ false = ap not b in
    absurd (cc (k.0, same, no))
begins_first (l ∷ ls) n empty e = e
begins_first (l ∷ ls) n (cons {r} {p} c h) e =
    let s = and_parts (nat_eq l c) (begins_with p ls) e in
    and_from (nat_eq l c) (begins_with r ls) s.0 (begins_first ls (and_parts (not (is_blank l)) (are_no_blanks ls) n).1 h s.1)

pub begins_not : (lit : List ℕ) → are_no_blanks lit ≡ true → {r p : List ℕ} → Alike r p → begins_with r lit ≡ false
    → begins_with p lit ≡ false
begins_not lit n {r} {p} h e = by (begins_with p lit) refl
  where
    by : (t : Bool) → begins_with p lit ≡ t → t ≡ false
    by true f = absurd (cc (e, begins_first lit n h f))
    by false f = refl

-- what begins bytes, and is no longer than their front, begins each others with this front
pub begins_still : (lit w r p : List ℕ) → length lit ≤ length w → begins_with (w ++ r) lit ≡ true
    → begins_with (w ++ p) lit ≡ true
begins_still [] w r p n e = refl
begins_still (l ∷ ls) [] r p n e = absurd (omega arith)
begins_still (l ∷ ls) (c ∷ w) r p n e =
    let s = and_parts (nat_eq l c) (begins_with (w ++ r) ls) e in
    and_from (nat_eq l c) (begins_with (w ++ p) ls) s.0 (begins_still ls w r p (omega arith) s.1)

decimal_by : (run run_then n : ℕ) → (run ≡ suc n → run_then ≡ suc n) →
    (if nat_le run 15 then run else 0) ≡ suc n → (if nat_le run_then 15 then run_then else 0) ≡ suc n
decimal_by run rt n r e = by (nat_le run 15) refl e
  where
    by : (t : Bool) → nat_le run 15 ≡ t → (if t then run else 0) ≡ suc n → (if nat_le rt 15 then rt else 0) ≡ suc n
    by true f g = let same : rt ≡ run = r g ∙ sym g in rw (same, f) g
    by false f g = absurd (omega arith)

-- a decimal number stays
pub decimal_stays : (b : ℕ) (w : List ℕ) {r p : List ℕ} → Alike r p → decimal_length (b ∷ w ++ r) ≡ suc (length w)
    → decimal_length (b ∷ w ++ p) ≡ suc (length w)
decimal_stays b w {r} {p} h e =
    decimal_by (prefix_len is_ascii_digit (b ∷ w ++ r)) (prefix_len is_ascii_digit (b ∷ w ++ p)) (length w)
    (run_ends is_ascii_digit no_digit (b ∷ w) h) e
