-- A token in front of bytes stays one where the bytes behind it change only behind a blank.
use Rattle.std.proofs.Common.{◌≡◌, ℕ, zero, suc, ◌+◌, ◌≤◌, Bool, true, false, ◌&&◌, ◌==◌, if◌then◌else◌, List, [], ◌∷◌, ◌++◌}
use Rattle.std.proofs.Common.{length, Option, Some, None, unwrap_or, refl, sym, ap, ◌∙◌, arith, codes}
use Rattle.std.specs.Char.{is_ascii_alphabetic, is_ascii_digit}
use Rattle.std.specs.List.{prefix_len}
use Rattle.vhdl_tokens.specs.Tokens.{is_name_byte, is_printable, begins_with, later, string_rest, string_length, character_length}
use Rattle.vhdl_tokens.specs.Tokens.{token_length, word_length, number_length, sign_length, is_mark}
use Rattle.lexer.proofs.Alike.{no_name_byte, Alike, behind, decimal_stays, run_ends, begins_not, begins_still}

word : (b : ℕ) (w : List ℕ) {r p : List ℕ} → Alike r p → word_length (b ∷ w ++ r) ≡ suc (length w)
    → word_length (b ∷ w ++ p) ≡ suc (length w)
word b w {r} {p} h e =
    let f : prefix_len is_name_byte (w ++ r) ≡ length w = omega arith in
    let s : prefix_len is_name_byte (w ++ p) ≡ length w = run_ends is_name_byte no_name_byte w h f in
    omega arith

some_is : (x y : ℕ) → Some x ≡ Some y → x ≡ y
some_is x y e = cc

-- a string is not empty
some_more : (s : List ℕ) → string_rest s ≡ Some 0 → ⊥
some_more [] e = cc
some_more (c ∷ s) e = by (c == 34) (c == 10) (string_rest s) e
  where
    by : (t u : Bool) (o : Option ℕ) → (if t then Some 1 else (if u then None else later 1 o)) ≡ Some 0 → ⊥
    by true u o f = let n = some_is 1 0 f in omega arith
    by false true o f = cc
    by false false None f = cc
    by false false (Some i) f = let n = some_is (1 + i) 0 f in omega arith

-- a string that closes among the first bytes closes there
closes_still : (w r p : List ℕ) (n : ℕ) → n ≤ length w → string_rest (w ++ r) ≡ Some n → string_rest (w ++ p) ≡ Some n
closes_still [] r p zero l e = absurd (some_more r e)
closes_still [] r p (suc n) l e = absurd (omega arith)
closes_still (c ∷ w) r p n l e = by (c == 34) (c == 10) (string_rest (w ++ r)) refl e (closes_still w r p)
  where
    by : (t u : Bool) (o : Option ℕ) → string_rest (w ++ r) ≡ o → (if t then Some 1 else (if u then None else later 1 o)) ≡ Some n
        →
        ((i : ℕ) → i ≤ length w → string_rest (w ++ r) ≡ Some i → string_rest (w ++ p) ≡ Some i) →
        (if t then Some 1 else (if u then None else later 1 (string_rest (w ++ p)))) ≡ Some n
    by true u o f g next = g
    by false true o f g next = absurd cc
    by false false None f g next = absurd cc
    by false false (Some i) f g next =
        let same = some_is (1 + i) n g in
        let k = next i (omega arith) f in
        ap (later 1) k ∙ g

string : (b : ℕ) (w r p : List ℕ) → string_length (b ∷ w ++ r) ≡ suc (length w) → string_length (b ∷ w ++ p) ≡ suc (length w)
string b w r p e = by (string_rest (w ++ r)) refl e
  where
    by : (o : Option ℕ) → string_rest (w ++ r) ≡ o → unwrap_or (later 1 o) 0 ≡ suc (length w)
        → string_length (b ∷ w ++ p) ≡ suc (length w)
    by None f g = absurd (omega arith)
    by (Some i) f g =
        let l : i ≤ length w = omega arith in
        let k = closes_still w r p i l f in
        ap (λ (o : Option ℕ). unwrap_or (later 1 o) 0) k ∙ g

three : (t : Bool) (n : ℕ) → (if t then 3 else 0) ≡ suc n → n ≡ 2
three true n e = omega arith
three false n e = absurd (omega arith)

character : (b : ℕ) (w r p : List ℕ) → character_length (b ∷ w ++ r) ≡ suc (length w)
    → character_length (b ∷ w ++ p) ≡ suc (length w)
character b [] [] p e = absurd (omega arith)
character b [] (c ∷ []) p e = absurd (omega arith)
character b [] (c ∷ d ∷ r) p e = absurd (let n = three (is_printable c && d == 39) 0 e in omega arith)
character b (c ∷ []) [] p e = absurd (omega arith)
character b (c ∷ []) (d ∷ r) p e = absurd (let n = three (is_printable c && d == 39) 1 e in omega arith)
character b (c ∷ d ∷ w) r p e = e

sign_by : (n : ℕ) (a b c d f g a' b' c' d' f' g' : Bool) →
    (a ≡ false → a' ≡ false) → (a ≡ true → 2 ≡ suc n → a' ≡ true) →
    (b ≡ false → b' ≡ false) → (b ≡ true → 2 ≡ suc n → b' ≡ true) →
    (c ≡ false → c' ≡ false) → (c ≡ true → 2 ≡ suc n → c' ≡ true) →
    (d ≡ false → d' ≡ false) → (d ≡ true → 2 ≡ suc n → d' ≡ true) →
    (f ≡ false → f' ≡ false) → (f ≡ true → 1 ≡ suc n → f' ≡ true) →
    (g ≡ true → 1 ≡ suc n → g' ≡ true) →
    (if a then 2 else (if b then 2 else (if c then 2 else (if d then 2 else (if f then 1 else (if g then 1 else 0)))))) ≡ suc n →
    (if a' then 2 else (if b' then 2 else (if c' then 2 else (if d' then 2 else (if f' then 1 else (if g' then 1 else 0)))))) ≡
    suc n
sign_by n true b c d f g a' b' c' d' f' g' ka ta kb tb kc tc kd td kf tf tg e = rw (ta refl e) e
sign_by n false true c d f g a' b' c' d' f' g' ka ta kb tb kc tc kd td kf tf tg e = rw (ka refl, tb refl e) e
sign_by n false false true d f g a' b' c' d' f' g' ka ta kb tb kc tc kd td kf tf tg e = rw (ka refl, kb refl, tc refl e) e
sign_by n false false false true f g a' b' c' d' f' g' ka ta kb tb kc tc kd td kf tf tg e =
    rw (ka refl, kb refl, kc refl, td refl e) e
sign_by n false false false false true g a' b' c' d' f' g' ka ta kb tb kc tc kd td kf tf tg e =
    rw (ka refl, kb refl, kc refl, kd refl, tf refl e) e
sign_by n false false false false false true a' b' c' d' f' g' ka ta kb tb kc tc kd td kf tf tg e =
    rw (ka refl, kb refl, kc refl, kd refl, kf refl, tg refl e) e
sign_by n false false false false false false a' b' c' d' f' g' ka ta kb tb kc tc kd td kf tf tg e = absurd cc

sign : (b : ℕ) (w : List ℕ) {r p : List ℕ} → Alike r p → sign_length (b ∷ w ++ r) ≡ suc (length w)
    → sign_length (b ∷ w ++ p) ≡ suc (length w)
sign b w {r} {p} h e =
    let all : Alike (b ∷ w ++ r) (b ∷ w ++ p) = behind (b ∷ w) h in
    sign_by (length w)
    (begins_with (b ∷ w ++ r) (codes ":=")) (begins_with (b ∷ w ++ r) (codes "=>")) (begins_with (b ∷ w ++ r) (codes "<="))
    (begins_with (b ∷ w ++ r) (codes "/=")) (begins_with (b ∷ w ++ r) (codes ":")) (begins_with (b ∷ w ++ r) (codes "="))
    (begins_with (b ∷ w ++ p) (codes ":=")) (begins_with (b ∷ w ++ p) (codes "=>")) (begins_with (b ∷ w ++ p) (codes "<="))
    (begins_with (b ∷ w ++ p) (codes "/=")) (begins_with (b ∷ w ++ p) (codes ":")) (begins_with (b ∷ w ++ p) (codes "="))
    (begins_not (codes ":=") refl all) (λ f g. begins_still (codes ":=") (b ∷ w) r p (omega arith) f)
    (begins_not (codes "=>") refl all) (λ f g. begins_still (codes "=>") (b ∷ w) r p (omega arith) f)
    (begins_not (codes "<=") refl all) (λ f g. begins_still (codes "<=") (b ∷ w) r p (omega arith) f)
    (begins_not (codes "/=") refl all) (λ f g. begins_still (codes "/=") (b ∷ w) r p (omega arith) f)
    (begins_not (codes ":") refl all) (λ f g. begins_still (codes ":") (b ∷ w) r p (omega arith) f)
    (λ f g. begins_still (codes "=") (b ∷ w) r p (omega arith) f) e

token_by : (mark tick named text letter digit : Bool) (n one two three four five one' two' three' four' five' : ℕ) →
    (one ≡ suc n → one' ≡ suc n) → (two ≡ suc n → two' ≡ suc n) → (three ≡ suc n → three' ≡ suc n) →
    (four ≡ suc n → four' ≡ suc n) → (five ≡ suc n → five' ≡ suc n) →
    (if mark then 1 else (if tick then (if named then 1 else one)
    else (if text then two else (if letter then three else (if digit then four else five))))) ≡ suc n →
    (if mark then 1 else (if tick then (if named then 1 else one')
    else (if text then two' else (if letter then three' else (if digit then four' else five'))))) ≡ suc n
token_by true tick named text letter digit n one two three four five one' two' three' four' five' f g h i j e = e
token_by false true true text letter digit n one two three four five one' two' three' four' five' f g h i j e = e
token_by false true false text letter digit n one two three four five one' two' three' four' five' f g h i j e = f e
token_by false false named true letter digit n one two three four five one' two' three' four' five' f g h i j e = g e
token_by false false named false true digit n one two three four five one' two' three' four' five' f g h i j e = h e
token_by false false named false false true n one two three four five one' two' three' four' five' f g h i j e = i e
token_by false false named false false false n one two three four five one' two' three' four' five' f g h i j e = j e

-- the token stays
pub token_stays : (t : Bool) (b : ℕ) (w : List ℕ) {r p : List ℕ} → Alike r p → token_length t (b ∷ w ++ r) ≡ suc (length w)
    → token_length t (b ∷ w ++ p) ≡ suc (length w)
token_stays t b w {r} {p} h e =
    token_by (is_mark b) (b == 39) t (b == 34) (is_ascii_alphabetic b) (is_ascii_digit b) (length w)
    (character_length (b ∷ w ++ r)) (string_length (b ∷ w ++ r)) (word_length (b ∷ w ++ r)) (number_length (b ∷ w ++ r))
    (sign_length (b ∷ w ++ r))
    (character_length (b ∷ w ++ p)) (string_length (b ∷ w ++ p)) (word_length (b ∷ w ++ p)) (number_length (b ∷ w ++ p))
    (sign_length (b ∷ w ++ p))
    (character b w r p) (string b w r p) (word b w h) (decimal_stays b w h) (sign b w h) e
