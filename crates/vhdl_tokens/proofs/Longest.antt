-- The token in front of bytes is one, and none that goes on from it is longer.
use Rattle.std.proofs.Common.{◌≡◌, ℕ, zero, suc, ◌+◌, ◌≤◌, ◌<◌, Bool, true, false, not, ◌&&◌, ◌||◌, ◌==◌, nat_le, if◌then◌else◌}
use Rattle.std.proofs.Common.{List, [], ◌∷◌, ◌++◌, length, take, Option, Some, None, unwrap_or, refl, sym, ap, ◌∙◌, arith, subst}
use Rattle.std.proofs.Common.{codes}
use Rattle.std.proofs.lemmas.Bool.{and_parts, and_from}
use Rattle.std.proofs.lemmas.List.{length-take-le}
use Rattle.std.proofs.lemmas.Slice.Eq.{bytes_eq-Decides}
use Rattle.std.specs.Char.{is_ascii_alphabetic, is_ascii_digit}
use Rattle.std.specs.List.{prefix_len, list_all}
use Rattle.std.specs.Str.{bytes_eq}
use Rattle.vhdl_tokens.specs.Tokens.{is_name_byte, is_printable, begins_with, later, string_rest, string_length, character_length}
use Rattle.vhdl_tokens.specs.Tokens.{token_length, word_length, number_length, sign_length, is_mark}
use Rattle.vhdl_tokens.specs.Cover.{spells_number, spells_sign, closes_string, closes_character, spells_token}
use Rattle.lexer.specs.Cover.{is_nothing}
use Rattle.lexer.proofs.Runs.{run_at, run_least, Spelled, spelled_as, nothing_here, nothing_least}

-- bytes behind the first pass a test
abbrev Ends : (List ℕ → Bool) → List ℕ → ℕ → Type 0
Ends P s m = (P (take m s) ≡ true) × (m ≤ length s)

word_here : (b : ℕ) (s : List ℕ) (m : ℕ) → word_length (b ∷ s) ≡ suc m → Ends (list_all is_name_byte) s m
word_here b s m e = run_at is_name_byte m s (omega arith)

number_here : (b : ℕ) (s : List ℕ) (m : ℕ) → number_length (b ∷ s) ≡ suc m → Spelled spells_number b s m
number_here b s m e = by (nat_le (prefix_len is_ascii_digit (b ∷ s)) 15) refl e
  where
    by : (short : Bool) → nat_le (prefix_len is_ascii_digit (b ∷ s)) 15 ≡ short
        → (if short then prefix_len is_ascii_digit (b ∷ s) else 0) ≡ suc m → Spelled spells_number b s m
    by true f g =
        let i = run_at is_ascii_digit (suc m) (b ∷ s) g in
        let n : m ≤ length s = omega (arith, i.1) in
        let l : suc m ≡ length (b ∷ take m s) = omega (arith, length-take-le m s n) in
        let w : List ℕ = b ∷ take m s in
        let few : nat_le (suc m) 15 ≡ true = subst (λ (k : ℕ). nat_le k 15 ≡ true) g f in
        (and_from (list_all is_ascii_digit w) (nat_le (length w) 15) i.0 (subst (λ (k : ℕ). nat_le k 15 ≡ true) l few), n)
    by false f g = absurd (omega arith)

sign_here : (b : ℕ) (s : List ℕ) (m : ℕ) → sign_length (b ∷ s) ≡ suc m → Spelled spells_sign b s m
sign_here b s m e =
    by (begins_with (b ∷ s) (codes ":=")) (begins_with (b ∷ s) (codes "=>")) (begins_with (b ∷ s) (codes "<="))
    (begins_with (b ∷ s) (codes "/=")) (begins_with (b ∷ s) (codes ":")) (begins_with (b ∷ s) (codes "=")) refl refl refl refl
    refl refl e
  where
    by : (a c d f g h : Bool) → begins_with (b ∷ s) (codes ":=") ≡ a → begins_with (b ∷ s) (codes "=>") ≡ c
        → begins_with (b ∷ s) (codes "<=") ≡ d →
        begins_with (b ∷ s) (codes "/=") ≡ f → begins_with (b ∷ s) (codes ":") ≡ g → begins_with (b ∷ s) (codes "=") ≡ h →
        (if a then 2 else (if c then 2 else (if d then 2 else (if f then 2 else (if g then 1 else (if h then 1 else 0)))))) ≡ suc
        m → Spelled spells_sign b s m
    by true c d f g h i j k l n o e = spelled_as spells_sign b s m (codes ":=") refl i e
    by false true d f g h i j k l n o e = spelled_as spells_sign b s m (codes "=>") refl j e
    by false false true f g h i j k l n o e = spelled_as spells_sign b s m (codes "<=") refl k e
    by false false false true g h i j k l n o e = spelled_as spells_sign b s m (codes "/=") refl l e
    by false false false false true h i j k l n o e = spelled_as spells_sign b s m (codes ":") refl n e
    by false false false false false true i j k l n o e = spelled_as spells_sign b s m (codes "=") refl o e
    by false false false false false false i j k l n o e = absurd cc

some_is : (x y : ℕ) → Some x ≡ Some y → x ≡ y
some_is x y e = cc

-- a string ends with the first quotation mark
closed : (s : List ℕ) (j : ℕ) → string_rest s ≡ Some j → Ends closes_string s j
closed [] j e = absurd cc
closed (c ∷ s) zero e = absurd (by (c == 34) (c == 10) (string_rest s) e)
  where
    by : (t u : Bool) (o : Option ℕ) → (if t then Some 1 else (if u then None else later 1 o)) ≡ Some 0 → ⊥
    by true u o f = let n = some_is 1 0 f in omega arith
    by false true o f = absurd cc
    by false false None f = absurd cc
    by false false (Some i) f = let n = some_is (1 + i) 0 f in omega arith
closed (c ∷ s) (suc j) e = by (c == 34) (c == 10) (string_rest s) refl refl refl e (closed s j)
  where
    by : (t u : Bool) (o : Option ℕ) → (c == 34) ≡ t → (c == 10) ≡ u → string_rest s ≡ o →
        (if t then Some 1 else (if u then None else later 1 o)) ≡ Some (suc j) → (string_rest s ≡ Some j → Ends closes_string s j)
        →
        Ends closes_string (c ∷ s) (suc j)
    by true u o f g k h next =
        let n = some_is 1 (suc j) h in
        let z : j ≡ 0 = omega arith in
        (subst (λ (k : ℕ). closes_string (c ∷ take k s) ≡ true) (sym z) (rw f refl), omega arith)
    by false true o f g k h next = absurd cc
    by false false None f g k h next = absurd cc
    by false false (Some i) f g k h next =
        let n = some_is (1 + i) (suc j) h in
        let z : i ≡ j = omega arith in
        let r = next (k ∙ ap (λ (k : ℕ). Some k) z) in
        (rw (f, g) r.0, omega (arith, r.1))

string_here : (b : ℕ) (s : List ℕ) (m : ℕ) → string_length (b ∷ s) ≡ suc m → Ends closes_string s m
string_here b s m e = by (string_rest s) refl e
  where
    by : (o : Option ℕ) → string_rest s ≡ o → unwrap_or (later 1 o) 0 ≡ suc m → Ends closes_string s m
    by None f g = absurd (omega arith)
    by (Some i) f g = let z : i ≡ m = omega arith in closed s m (f ∙ ap (λ (k : ℕ). Some k) z)

character_here : (b : ℕ) (s : List ℕ) (m : ℕ) → character_length (b ∷ s) ≡ suc m → Ends closes_character s m
character_here b [] m e = absurd (omega arith)
character_here b (c ∷ []) m e = absurd (omega arith)
character_here b (c ∷ d ∷ s) m e = by (is_printable c) (d == 39) refl refl e
  where
    by : (t u : Bool) → is_printable c ≡ t → (d == 39) ≡ u → (if t && u then 3 else 0) ≡ suc m
        → Ends closes_character (c ∷ d ∷ s) m
    by true true f g h =
        let z : 2 ≡ m = omega arith in
        subst (Ends closes_character (c ∷ d ∷ s)) z (rw (f, g) refl, omega arith)
    by true false f g h = absurd (omega arith)
    by false u f g h = absurd (omega arith)

here_by : (mark tick named text letter digit nothing literal string word number sign : Bool) (one two three four five m l : ℕ) →
    (1 ≡ suc m → (nothing ≡ true) × (m ≤ l)) → (one ≡ suc m → (literal ≡ true) × (m ≤ l))
    → (two ≡ suc m → (string ≡ true) × (m ≤ l)) →
    (three ≡ suc m → (word ≡ true) × (m ≤ l)) → (four ≡ suc m → (number ≡ true) × (m ≤ l))
    → (five ≡ suc m → (sign ≡ true) × (m ≤ l)) →
    (if mark then 1 else (if tick then (if named then 1 else one)
    else (if text then two else (if letter then three else (if digit then four else five))))) ≡ suc m →
    ((if mark then nothing else (if tick then (if named then nothing else literal)
    else (if text then string else (if letter then word else (if digit then number else sign))))) ≡ true) × (m ≤ l)
here_by true tick named text letter digit nothing literal string word number sign one two three four five m l z f g h i j e = z e
here_by false true true text letter digit nothing literal string word number sign one two three four five m l z f g h i j e = z e
here_by false true false text letter digit nothing literal string word number sign one two three four five m l z f g h i j e = f e
here_by false false named true letter digit nothing literal string word number sign one two three four five m l z f g h i j e =
    g e
here_by false false named false true digit nothing literal string word number sign one two three four five m l z f g h i j e = h e
here_by false false named false false true nothing literal string word number sign one two three four five m l z f g h i j e = i e
here_by false false named false false false nothing literal string word number sign one two three four five m l z f g h i j e =
    j e

-- what is found as a token spells one
pub token_here : (t : Bool) (b : ℕ) (s : List ℕ) (m : ℕ) → token_length t (b ∷ s) ≡ suc m → (spells_token t (b ∷ take m s) ≡ true)
    × (m ≤ length s)
token_here t b s m e =
    here_by (is_mark b) (b == 39) t (b == 34) (is_ascii_alphabetic b) (is_ascii_digit b) (is_nothing (take m s))
    (closes_character (take m s)) (closes_string (take m s))
    (list_all is_name_byte (take m s)) (spells_number (b ∷ take m s)) (spells_sign (b ∷ take m s))
    (character_length (b ∷ s)) (string_length (b ∷ s)) (word_length (b ∷ s)) (number_length (b ∷ s)) (sign_length (b ∷ s)) m
    (length s)
    (nothing_here s m) (character_here b s m) (string_here b s m) (word_here b s m) (number_here b s m) (sign_here b s m) e

word_least : (b : ℕ) (u r : List ℕ) → list_all is_name_byte u ≡ true → length (b ∷ u) ≤ word_length (b ∷ u ++ r)
word_least b u r e = let i = run_least is_name_byte u r e in omega (arith, i)

number_least : (u r : List ℕ) → spells_number u ≡ true → 0 < number_length (u ++ r) → length u ≤ number_length (u ++ r)
number_least u r e h = by (nat_le (prefix_len is_ascii_digit (u ++ r)) 15) h
  where
    by : (short : Bool) → 0 < (if short then prefix_len is_ascii_digit (u ++ r) else 0)
        → length u ≤ (if short then prefix_len is_ascii_digit (u ++ r) else 0)
    by true f = run_least is_ascii_digit u r (and_parts (list_all is_ascii_digit u) (nat_le (length u) 15) e).0
    by false f = absurd (omega arith)

-- a string that closes is not longer than what is found
closes_there : (u r : List ℕ) → closes_string u ≡ true → string_rest (u ++ r) ≡ Some (length u)
closes_there [] r e = absurd cc
closes_there (c ∷ u) r e = by (c == 34) (c == 10) refl refl e (closes_there u r)
  where
    by : (t v : Bool) → (c == 34) ≡ t → (c == 10) ≡ v → (if t then is_nothing u else not v && closes_string u) ≡ true →
        (closes_string u ≡ true → string_rest (u ++ r) ≡ Some (length u)) → string_rest (c ∷ u ++ r) ≡ Some (length (c ∷ u))
    by true v f g h next =
        let n = nothing_least c u h in
        let l : 1 ≡ length (c ∷ u) = omega arith in
        rw f (ap (λ (k : ℕ). Some k) l)
    by false true f g h next = absurd cc
    by false false f g h next =
        let l : 1 + length u ≡ length (c ∷ u) = omega arith in
        rw (f, g) (ap (later 1) (next h) ∙ ap (λ (k : ℕ). Some k) l)

string_least : (b : ℕ) (u r : List ℕ) → closes_string u ≡ true → length (b ∷ u) ≤ string_length (b ∷ u ++ r)
string_least b u r e =
    let k : string_length (b ∷ u ++ r) ≡ 1 + length u = ap (λ (o : Option ℕ). unwrap_or (later 1 o) 0) (closes_there u r e) in
    omega arith

character_least : (b : ℕ) (u r : List ℕ) → closes_character u ≡ true → length (b ∷ u) ≤ character_length (b ∷ u ++ r)
character_least b [] r e = absurd cc
character_least b (c ∷ []) r e = absurd cc
character_least b (c ∷ d ∷ u) r e =
    let p = and_parts (is_printable c) (d == 39 && is_nothing u) e in
    let q = and_parts (d == 39) (is_nothing u) p.1 in
    let n = nothing_least d u q.1 in
    rw (p.0, q.0) (omega arith)

sign_least : (u r : List ℕ) → spells_sign u ≡ true → 0 < sign_length (u ++ r) → length u ≤ sign_length (u ++ r)
sign_least u r e h =
    by (bytes_eq u (codes ":=")) (bytes_eq u (codes "=>")) (bytes_eq u (codes "<=")) (bytes_eq u (codes "/="))
    (bytes_eq u (codes ":")) (bytes_eq u (codes "="))
    refl refl refl refl refl refl e
  where
    one : (lit : List ℕ) → length lit ≡ 1 → u ≡ lit → length u ≤ sign_length (u ++ r)
    one lit n e = let l : length u ≡ 1 = ap length e ∙ n in omega (arith, h)

    by : (a b c d f g : Bool) → bytes_eq u (codes ":=") ≡ a → bytes_eq u (codes "=>") ≡ b → bytes_eq u (codes "<=") ≡ c
        → bytes_eq u (codes "/=") ≡ d →
        bytes_eq u (codes ":") ≡ f → bytes_eq u (codes "=") ≡ g → (a || (b || (c || (d || (f || g))))) ≡ true
        → length u ≤ sign_length (u ++ r)
    by true b c d f g i j k l n o e =
        subst (λ (w : List ℕ). length w ≤ sign_length (w ++ r)) (sym ((bytes_eq-Decides u (codes ":=")).0 i)) (omega arith)
    by false true c d f g i j k l n o e =
        subst (λ (w : List ℕ). length w ≤ sign_length (w ++ r)) (sym ((bytes_eq-Decides u (codes "=>")).0 j)) (omega arith)
    by false false true d f g i j k l n o e =
        subst (λ (w : List ℕ). length w ≤ sign_length (w ++ r)) (sym ((bytes_eq-Decides u (codes "<=")).0 k)) (omega arith)
    by false false false true f g i j k l n o e =
        subst (λ (w : List ℕ). length w ≤ sign_length (w ++ r)) (sym ((bytes_eq-Decides u (codes "/=")).0 l)) (omega arith)
    by false false false false true g i j k l n o e = one (codes ":") refl ((bytes_eq-Decides u (codes ":")).0 n)
    by false false false false false true i j k l n o e = one (codes "=") refl ((bytes_eq-Decides u (codes "=")).0 o)
    by false false false false false false i j k l n o e = absurd cc

least_by : (mark tick named text letter digit nothing literal string word number sign : Bool) (n one two three four five : ℕ) →
    (nothing ≡ true → n ≤ 1) → (literal ≡ true → n ≤ one) → (string ≡ true → n ≤ two) → (word ≡ true → n ≤ three) →
    (number ≡ true → 0 < four → n ≤ four) → (sign ≡ true → 0 < five → n ≤ five) →
    (if mark then nothing else (if tick then (if named then nothing else literal)
    else (if text then string else (if letter then word else (if digit then number else sign))))) ≡ true →
    0 < (if mark then 1 else (if tick then (if named then 1 else one)
    else (if text then two else (if letter then three else (if digit then four else five))))) →
    n ≤ (if mark then 1 else (if tick then (if named then 1 else one)
    else (if text then two else (if letter then three else (if digit then four else five)))))
least_by true tick named text letter digit nothing literal string word number sign n one two three four five z f g h i j e p = z e
least_by false true true text letter digit nothing literal string word number sign n one two three four five z f g h i j e p = z e
least_by false true false text letter digit nothing literal string word number sign n one two three four five z f g h i j e p =
    f e
least_by false false named true letter digit nothing literal string word number sign n one two three four five z f g h i j e p =
    g e
least_by false false named false true digit nothing literal string word number sign n one two three four five z f g h i j e p =
    h e
least_by false false named false false true nothing literal string word number sign n one two three four five z f g h i j e p =
    i e p
least_by false false named false false false nothing literal string word number sign n one two three four five z f g h i j e p =
    j e p

-- where a token begins, no bytes in front that spell one are more than it
pub token_least : (t : Bool) (u r : List ℕ) → spells_token t u ≡ true → 0 < token_length t (u ++ r)
    → length u ≤ token_length t (u ++ r)
token_least t [] r e p = omega arith
token_least t (b ∷ u) r e p =
    least_by (is_mark b) (b == 39) t (b == 34) (is_ascii_alphabetic b) (is_ascii_digit b) (is_nothing u) (closes_character u)
    (closes_string u)
    (list_all is_name_byte u) (spells_number (b ∷ u)) (spells_sign (b ∷ u)) (length (b ∷ u))
    (character_length (b ∷ u ++ r)) (string_length (b ∷ u ++ r)) (word_length (b ∷ u ++ r)) (number_length (b ∷ u ++ r))
    (sign_length (b ∷ u ++ r))
    (nothing_least b u) (character_least b u r) (string_least b u r) (word_least b u r) (number_least (b ∷ u) r)
    (sign_least (b ∷ u) r) e p
