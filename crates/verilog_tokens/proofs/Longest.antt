-- The token in front of bytes is one, and none that goes on from it is longer.
use Rattle.std.proofs.Common.{◌≡◌, ℕ, suc, ◌+◌, ◌≤◌, ◌<◌, Bool, true, false, ◌&&◌, ◌||◌, nat_eq, nat_le, if◌then◌else◌, List, []}
use Rattle.std.proofs.Common.{◌∷◌, ◌++◌, length, take, refl, sym, ap, ◌∙◌, arith, subst, codes}
use Rattle.std.proofs.lemmas.Bool.{and_parts, and_from, eqb-true}
use Rattle.std.proofs.lemmas.List.{length-take-le}
use Rattle.std.proofs.lemmas.Slice.Eq.{bytes_eq-Decides}
use Rattle.std.specs.Char.{is_ascii_alphabetic, is_ascii_digit}
use Rattle.std.specs.List.{prefix_len, list_all}
use Rattle.std.specs.Str.{bytes_eq}
use Rattle.verilog_tokens.specs.Tokens.{is_name_byte, is_one_of, begins_with, token_length, word_length, number_length}
use Rattle.verilog_tokens.specs.Tokens.{sign_length, is_mark, is_symbol, begins_word}
use Rattle.verilog_tokens.specs.Cover.{spells_number, spells_word, spells_sign, spells_token}
use Rattle.lexer.specs.Cover.{is_nothing}
use Rattle.lexer.proofs.Runs.{run_at, run_least, Spelled, spelled_as, nothing_here, nothing_least}

word_here : (b : ℕ) (s : List ℕ) (m : ℕ) → word_length (b ∷ s) ≡ suc m → (spells_word b (take m s) ≡ true) × (m ≤ length s)
word_here b s m e = by (is_one_of (codes "$`") b) refl e
  where
    by : (t : Bool) → is_one_of (codes "$`") b ≡ t
        → (if t then 1 + prefix_len is_ascii_alphabetic s else 1 + prefix_len is_name_byte s) ≡ suc m →
        (spells_word b (take m s) ≡ true) × (m ≤ length s)
    by true f g = let i = run_at is_ascii_alphabetic m s (omega arith) in (rw f i.0, i.1)
    by false f g = let i = run_at is_name_byte m s (omega arith) in (rw f i.0, i.1)

or_last : (a b c d : Bool) → d ≡ true → (a || (b || (c || d))) ≡ true
or_last true b c d e = refl
or_last false true c d e = refl
or_last false false true d e = refl
or_last false false false d e = e

digits_here : (b : ℕ) (s : List ℕ) (m : ℕ) → prefix_len is_ascii_digit (b ∷ s) ≡ suc m → nat_le (suc m) 15 ≡ true
    → Spelled spells_number b s m
digits_here b s m e f =
    let i = run_at is_ascii_digit (suc m) (b ∷ s) e in
    let n : m ≤ length s = omega (arith, i.1) in
    let l : suc m ≡ length (b ∷ take m s) = omega (arith, length-take-le m s n) in
    let w : List ℕ = b ∷ take m s in (
      or_last (bytes_eq w (codes "1ps")) (bytes_eq w (codes "1'b0")) (bytes_eq w (codes "1'b1"))
          (list_all is_ascii_digit w && nat_le (length w) 15)
          (and_from (list_all is_ascii_digit w) (nat_le (length w) 15) i.0 (subst (λ (k : ℕ). nat_le k 15 ≡ true) l f)),
      n,
    )

number_here : (b : ℕ) (s : List ℕ) (m : ℕ) → number_length (b ∷ s) ≡ suc m → Spelled spells_number b s m
number_here b s m e =
    by (begins_with (b ∷ s) (codes "1ps")) (begins_with (b ∷ s) (codes "1'b0")) (begins_with (b ∷ s) (codes "1'b1"))
    (nat_le (prefix_len is_ascii_digit (b ∷ s)) 15)
    refl refl refl refl e
  where
    by : (unit low high short : Bool) → begins_with (b ∷ s) (codes "1ps") ≡ unit → begins_with (b ∷ s) (codes "1'b0") ≡ low
        → begins_with (b ∷ s) (codes "1'b1") ≡ high →
        nat_le (prefix_len is_ascii_digit (b ∷ s)) 15 ≡ short →
        (if unit then 3 else (if low || high then 4 else (if short then prefix_len is_ascii_digit (b ∷ s) else 0))) ≡ suc m
        → Spelled spells_number b s m
    by true low high short f g h k e = spelled_as spells_number b s m (codes "1ps") refl f e
    by false true high short f g h k e = spelled_as spells_number b s m (codes "1'b0") refl g e
    by false false true short f g h k e = spelled_as spells_number b s m (codes "1'b1") refl h e
    by false false false true f g h k e = digits_here b s m e (subst (λ (n : ℕ). nat_le n 15 ≡ true) e k)
    by false false false false f g h k e = absurd (omega arith)

sign_here : (b : ℕ) (s : List ℕ) (m : ℕ) → sign_length (b ∷ s) ≡ suc m → Spelled spells_sign b s m
sign_here b s m e =
    by (begins_with (b ∷ s) (codes "&&&")) (begins_with (b ∷ s) (codes "=>")) (begins_with (b ∷ s) (codes "="))
    (begins_with (b ∷ s) (codes "//") || begins_with (b ∷ s) (codes "/*")) (begins_with (b ∷ s) (codes "/")) refl refl refl refl e
  where
    by : (three two one comment slash : Bool) → begins_with (b ∷ s) (codes "&&&") ≡ three → begins_with (b ∷ s) (codes "=>") ≡ two
        → begins_with (b ∷ s) (codes "=") ≡ one →
        begins_with (b ∷ s) (codes "/") ≡ slash →
        (if three then 3 else (if two then 2 else (if one then 1 else (if comment then 0 else (if slash then 1 else 0))))) ≡ suc m
        → Spelled spells_sign b s m
    by true two one comment slash f g h k e = spelled_as spells_sign b s m (codes "&&&") refl f e
    by false true one comment slash f g h k e = spelled_as spells_sign b s m (codes "=>") refl g e
    by false false true comment slash f g h k e = spelled_as spells_sign b s m (codes "=") refl h e
    by false false false true slash f g h k e = absurd (omega arith)
    by false false false false true f g h k e = spelled_as spells_sign b s m (codes "/") refl k e
    by false false false false false f g h k e = absurd (omega arith)

here_by : (symbol mark letter digit nothing word number sign : Bool) (one two three m l : ℕ)
    → (1 ≡ suc m → (nothing ≡ true) × (m ≤ l)) →
    (one ≡ suc m → (word ≡ true) × (m ≤ l)) → (two ≡ suc m → (number ≡ true) × (m ≤ l))
    → (three ≡ suc m → (sign ≡ true) × (m ≤ l)) →
    (if symbol then 1 else (if mark then 1 else (if letter then one else (if digit then two else three)))) ≡ suc m →
    ((if symbol then nothing else (if mark then nothing else (if letter then word else (if digit then number else sign)))) ≡ true)
    × (m ≤ l)
here_by true mark letter digit nothing word number sign one two three m l f g h k e = f e
here_by false true letter digit nothing word number sign one two three m l f g h k e = f e
here_by false false true digit nothing word number sign one two three m l f g h k e = g e
here_by false false false true nothing word number sign one two three m l f g h k e = h e
here_by false false false false nothing word number sign one two three m l f g h k e = k e

-- what is found as a token spells one
pub token_here : (t : Bool) (b : ℕ) (s : List ℕ) (m : ℕ) → token_length t (b ∷ s) ≡ suc m → (spells_token t (b ∷ take m s) ≡ true)
    × (m ≤ length s)
token_here t b s m e =
    here_by (t && is_symbol b) (is_mark b) (begins_word b) (is_ascii_digit b) (is_nothing (take m s)) (spells_word b (take m s))
    (spells_number (b ∷ take m s))
    (spells_sign (b ∷ take m s)) (word_length (b ∷ s)) (number_length (b ∷ s)) (sign_length (b ∷ s)) m (length s)
    (nothing_here s m) (word_here b s m) (number_here b s m) (sign_here b s m) e

word_least : (b : ℕ) (u r : List ℕ) → spells_word b u ≡ true → length (b ∷ u) ≤ word_length (b ∷ u ++ r)
word_least b u r e = by (is_one_of (codes "$`") b) e
  where
    by : (t : Bool) → (if t then list_all is_ascii_alphabetic u else list_all is_name_byte u) ≡ true →
        length (b ∷ u) ≤ (if t then 1 + prefix_len is_ascii_alphabetic (u ++ r) else 1 + prefix_len is_name_byte (u ++ r))
    by true f = let i = run_least is_ascii_alphabetic u r f in omega (arith, i)
    by false f = let i = run_least is_name_byte u r f in omega (arith, i)

-- digits in front of a one and what is no digit are at most one
one_digit : (c : ℕ) (lit u r : List ℕ) → is_ascii_digit c ≡ false → list_all is_ascii_digit u ≡ true
    → begins_with (u ++ r) (49 ∷ c ∷ lit) ≡ true → length u ≤ 1
one_digit c lit [] r n e f = omega arith
one_digit c lit (x ∷ []) r n e f = omega arith
one_digit c lit (x ∷ y ∷ u) r n e f =
    let p = and_parts (nat_eq 49 x) (begins_with (y ∷ u ++ r) (c ∷ lit)) f in
    let q = and_parts (nat_eq c y) (begins_with (u ++ r) lit) p.1 in
    let d = and_parts (is_ascii_digit x) (list_all is_ascii_digit (y ∷ u)) e in
    let g = and_parts (is_ascii_digit y) (list_all is_ascii_digit u) d.1 in
    let s : is_ascii_digit c ≡ is_ascii_digit y = ap is_ascii_digit (eqb-true c y q.0) in
    absurd (cc (n, s, g.0))

digits_by : (unit low high short : Bool) (n run : ℕ) → (unit ≡ true → n ≤ 1) → (low ≡ true → n ≤ 1) → (high ≡ true → n ≤ 1)
    → n ≤ run →
    0 < (if unit then 3 else (if low || high then 4 else (if short then run else 0))) →
    n ≤ (if unit then 3 else (if low || high then 4 else (if short then run else 0)))
digits_by true low high short n run f g h k e = let i = f refl in omega (arith, i)
digits_by false true high short n run f g h k e = let i = g refl in omega (arith, i)
digits_by false false true short n run f g h k e = let i = h refl in omega (arith, i)
digits_by false false false true n run f g h k e = k
digits_by false false false false n run f g h k e = absurd (omega arith)

digits_least : (u r : List ℕ) → list_all is_ascii_digit u ≡ true → 0 < number_length (u ++ r) → length u ≤ number_length (u ++ r)
digits_least u r e h =
    digits_by (begins_with (u ++ r) (codes "1ps")) (begins_with (u ++ r) (codes "1'b0")) (begins_with (u ++ r) (codes "1'b1"))
    (nat_le (prefix_len is_ascii_digit (u ++ r)) 15) (length u) (prefix_len is_ascii_digit (u ++ r))
    (one_digit 112 (codes "s") u r refl e) (one_digit 39 (codes "b0") u r refl e) (one_digit 39 (codes "b1") u r refl e)
    (run_least is_ascii_digit u r e) h

number_least : (u r : List ℕ) → spells_number u ≡ true → 0 < number_length (u ++ r) → length u ≤ number_length (u ++ r)
number_least u r e h = by (bytes_eq u (codes "1ps")) (bytes_eq u (codes "1'b0")) (bytes_eq u (codes "1'b1")) refl refl refl e
  where
    by : (unit low high : Bool) → bytes_eq u (codes "1ps") ≡ unit → bytes_eq u (codes "1'b0") ≡ low
        → bytes_eq u (codes "1'b1") ≡ high →
        (unit || (low || (high || (list_all is_ascii_digit u && nat_le (length u) 15)))) ≡ true
        → length u ≤ number_length (u ++ r)
    by true low high f g k e = subst (λ (w : List ℕ). length w ≤ number_length (w ++ r))
        (sym ((bytes_eq-Decides u (codes "1ps")).0 f)) (omega arith)
    by false true high f g k e = subst (λ (w : List ℕ). length w ≤ number_length (w ++ r))
        (sym ((bytes_eq-Decides u (codes "1'b0")).0 g)) (omega arith)
    by false false true f g k e = subst (λ (w : List ℕ). length w ≤ number_length (w ++ r))
        (sym ((bytes_eq-Decides u (codes "1'b1")).0 k)) (omega arith)
    by false false false f g k e = digits_least u r (and_parts (list_all is_ascii_digit u) (nat_le (length u) 15) e).0 h

sign_least : (u r : List ℕ) → spells_sign u ≡ true → 0 < sign_length (u ++ r) → length u ≤ sign_length (u ++ r)
sign_least u r e h = by (bytes_eq u (codes "&&&")) (bytes_eq u (codes "=>")) (bytes_eq u (codes "="))
    (bytes_eq u (codes "/")) refl refl refl refl e
  where
    one : (lit : List ℕ) → length lit ≡ 1 → u ≡ lit → length u ≤ sign_length (u ++ r)
    one lit n e = let l : length u ≡ 1 = ap length e ∙ n in omega (arith, h)

    by : (three two equal slash : Bool) → bytes_eq u (codes "&&&") ≡ three → bytes_eq u (codes "=>") ≡ two
        → bytes_eq u (codes "=") ≡ equal → bytes_eq u (codes "/") ≡ slash →
        (three || (two || (equal || slash))) ≡ true → length u ≤ sign_length (u ++ r)
    by true two equal slash f g k l e =
        subst (λ (w : List ℕ). length w ≤ sign_length (w ++ r)) (sym ((bytes_eq-Decides u (codes "&&&")).0 f)) (omega arith)
    by false true equal slash f g k l e =
        subst (λ (w : List ℕ). length w ≤ sign_length (w ++ r)) (sym ((bytes_eq-Decides u (codes "=>")).0 g)) (omega arith)
    by false false true slash f g k l e = one (codes "=") refl ((bytes_eq-Decides u (codes "=")).0 k)
    by false false false true f g k l e = one (codes "/") refl ((bytes_eq-Decides u (codes "/")).0 l)
    by false false false false f g k l e = absurd cc

least_by : (symbol mark letter digit nothing word number sign : Bool) (n one two three : ℕ) → (nothing ≡ true → n ≤ 1)
    → (word ≡ true → n ≤ one) →
    (number ≡ true → 0 < two → n ≤ two) → (sign ≡ true → 0 < three → n ≤ three) →
    (if symbol then nothing else (if mark then nothing else (if letter then word else (if digit then number else sign)))) ≡ true →
    0 < (if symbol then 1 else (if mark then 1 else (if letter then one else (if digit then two else three)))) →
    n ≤ (if symbol then 1 else (if mark then 1 else (if letter then one else (if digit then two else three))))
least_by true mark letter digit nothing word number sign n one two three f g h k e p = f e
least_by false true letter digit nothing word number sign n one two three f g h k e p = f e
least_by false false true digit nothing word number sign n one two three f g h k e p = g e
least_by false false false true nothing word number sign n one two three f g h k e p = h e p
least_by false false false false nothing word number sign n one two three f g h k e p = k e p

-- where a token begins, no bytes in front that spell one are more than it
pub token_least : (t : Bool) (u r : List ℕ) → spells_token t u ≡ true → 0 < token_length t (u ++ r)
    → length u ≤ token_length t (u ++ r)
token_least t [] r e p = omega arith
token_least t (b ∷ u) r e p =
    least_by (t && is_symbol b) (is_mark b) (begins_word b) (is_ascii_digit b) (is_nothing u) (spells_word b u)
    (spells_number (b ∷ u)) (spells_sign (b ∷ u))
    (length (b ∷ u)) (word_length (b ∷ u ++ r)) (number_length (b ∷ u ++ r)) (sign_length (b ∷ u ++ r))
    (nothing_least b u) (word_least b u r) (number_least (b ∷ u) r) (sign_least (b ∷ u) r) e p
