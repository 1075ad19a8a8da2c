-- A token in front of bytes stays one where the bytes behind it change only behind a blank.
use Rattle.std.proofs.Common.{◌≡◌, ℕ, suc, ◌+◌, Bool, true, false, ◌&&◌, ◌||◌, if◌then◌else◌, List, ◌∷◌, ◌++◌, length, refl}
use Rattle.std.proofs.Common.{arith, codes}
use Rattle.std.specs.Char.{is_ascii_alphabetic, is_ascii_digit}
use Rattle.std.specs.List.{prefix_len}
use Rattle.lexer.specs.Tokens.{decimal_length}
use Rattle.verilog_tokens.specs.Tokens.{is_blank, is_name_byte, is_one_of, begins_with, token_length, word_length, number_length}
use Rattle.verilog_tokens.specs.Tokens.{sign_length, is_mark, is_symbol, begins_word}
use Rattle.lexer.proofs.Alike.{blanks, no_name_byte, are_no_blanks, Alike, behind, decimal_stays, run_ends, begins_not, begins_still}

no_letter : (c : ℕ) → is_blank c ≡ true → is_ascii_alphabetic c ≡ false
no_letter c b = blanks c b is_ascii_alphabetic refl refl refl

word_by : (t : Bool) (letters names others more n : ℕ) → (letters ≡ n → others ≡ n) → (names ≡ n → more ≡ n) →
    (if t then 1 + letters else 1 + names) ≡ suc n → (if t then 1 + others else 1 + more) ≡ suc n
word_by true letters names others more n f g e = let s = f (omega arith) in omega arith
word_by false letters names others more n f g e = let s = g (omega arith) in omega arith

word : (b : ℕ) (w : List ℕ) {r p : List ℕ} → Alike r p → word_length (b ∷ w ++ r) ≡ suc (length w)
    → word_length (b ∷ w ++ p) ≡ suc (length w)
word b w {r} {p} h e =
    word_by (is_one_of (codes "$`") b) (prefix_len is_ascii_alphabetic (w ++ r)) (prefix_len is_name_byte (w ++ r))
    (prefix_len is_ascii_alphabetic (w ++ p)) (prefix_len is_name_byte (w ++ p)) (length w)
    (run_ends is_ascii_alphabetic no_letter w h) (run_ends is_name_byte no_name_byte w h) e

-- a text that bytes begin with, before and then: where they are changed behind it alone, they still do
record Kept (begun still : Bool) (size n : ℕ) : Type 0 where
  gone : begun ≡ false → still ≡ false
  stays : begun ≡ true → size ≡ suc n → still ≡ true

kept : (text : List ℕ) (b : ℕ) (w : List ℕ) {r p : List ℕ} → are_no_blanks text ≡ true → Alike r p
    → Kept (begins_with (b ∷ w ++ r) text) (begins_with (b ∷ w ++ p) text) (length text) (length w)
kept text b w {r} {p} n h =
    let all : Alike (b ∷ w ++ r) (b ∷ w ++ p) = behind (b ∷ w) h in
    record { gone = begins_not text n all; stays = λ f g. begins_still text (b ∷ w) r p (omega (arith, g)) f }

number_by : (unit low high unit' low' high' : Bool) (decimal decimal' n : ℕ)
    → Kept unit unit' 3 n → Kept low low' 4 n → Kept high high' 4 n → (decimal ≡ suc n → decimal' ≡ suc n)
    → (if unit then 3 else (if low || high then 4 else decimal)) ≡ suc n
    → (if unit' then 3 else (if low' || high' then 4 else decimal')) ≡ suc n
number_by true low high ut lt ht d dt n u l h still e = rw (u.stays refl e) e
number_by false true high ut lt ht d dt n u l h still e = rw (u.gone refl, l.stays refl e) e
number_by false false true ut lt ht d dt n u l h still e = rw (u.gone refl, l.gone refl, h.stays refl e) e
number_by false false false ut lt ht d dt n u l h still e = rw (u.gone refl, l.gone refl, h.gone refl) (still e)

number : (b : ℕ) (w : List ℕ) {r p : List ℕ} → Alike r p → number_length (b ∷ w ++ r) ≡ suc (length w)
    → number_length (b ∷ w ++ p) ≡ suc (length w)
number b w {r} {p} h e =
    number_by _ _ _ _ _ _ (decimal_length (b ∷ w ++ r)) (decimal_length (b ∷ w ++ p)) (length w)
    (kept (codes "1ps") b w refl h) (kept (codes "1'b0") b w refl h) (kept (codes "1'b1") b w refl h) (decimal_stays b w h) e

sign_by : (three two one line block slash three' two' one' line' block' slash' : Bool) (n : ℕ)
    → Kept three three' 3 n → Kept two two' 2 n → Kept one one' 1 n → Kept line line' 2 n → Kept block block' 2 n
    → Kept slash slash' 1 n
    → (if three then 3 else (if two then 2 else (if one then 1 else (if line || block then 0 else (if slash then 1 else 0)))))
    ≡ suc n
    → (if three' then 3 else (if two' then 2
    else (if one' then 1 else (if line' || block' then 0 else (if slash' then 1 else 0))))) ≡ suc n
sign_by true b c d f s b3 b2 b1 bl bb bs n k3 k2 k1 kl kb ks e = rw (k3.stays refl e) e
sign_by false true c d f s b3 b2 b1 bl bb bs n k3 k2 k1 kl kb ks e = rw (k3.gone refl, k2.stays refl e) e
sign_by false false true d f s b3 b2 b1 bl bb bs n k3 k2 k1 kl kb ks e = rw (k3.gone refl, k2.gone refl, k1.stays refl e) e
sign_by false false false true f s b3 b2 b1 bl bb bs n k3 k2 k1 kl kb ks e = absurd (omega arith)
sign_by false false false false true s b3 b2 b1 bl bb bs n k3 k2 k1 kl kb ks e = absurd (omega arith)
sign_by false false false false false true b3 b2 b1 bl bb bs n k3 k2 k1 kl kb ks e =
    rw (k3.gone refl, k2.gone refl, k1.gone refl, kl.gone refl, kb.gone refl, ks.stays refl e) e
sign_by false false false false false false b3 b2 b1 bl bb bs n k3 k2 k1 kl kb ks e = absurd (omega arith)

sign : (b : ℕ) (w : List ℕ) {r p : List ℕ} → Alike r p → sign_length (b ∷ w ++ r) ≡ suc (length w)
    → sign_length (b ∷ w ++ p) ≡ suc (length w)
sign b w h e =
    sign_by _ _ _ _ _ _ _ _ _ _ _ _ (length w) (kept (codes "&&&") b w refl h) (kept (codes "=>") b w refl h)
    (kept (codes "=") b w refl h) (kept (codes "//") b w refl h) (kept (codes "/*") b w refl h) (kept (codes "/") b w refl h) e

token_by : (symbol mark letter digit : Bool) (one two three one' two' three' n : ℕ) →
    (one ≡ suc n → one' ≡ suc n) → (two ≡ suc n → two' ≡ suc n) → (three ≡ suc n → three' ≡ suc n) →
    (if symbol then 1 else (if mark then 1 else (if letter then one else (if digit then two else three)))) ≡ suc n →
    (if symbol then 1 else (if mark then 1 else (if letter then one' else (if digit then two' else three')))) ≡ suc n
token_by true mark letter digit one two three one' two' three' n f g h e = e
token_by false true letter digit one two three one' two' three' n f g h e = e
token_by false false true digit one two three one' two' three' n f g h e = f e
token_by false false false true one two three one' two' three' n f g h e = g e
token_by false false false false one two three one' two' three' n f g h e = h e

-- the token stays
pub token_stays : (t : Bool) (b : ℕ) (w : List ℕ) {r p : List ℕ} → Alike r p → token_length t (b ∷ w ++ r) ≡ suc (length w)
    → token_length t (b ∷ w ++ p) ≡ suc (length w)
token_stays t b w {r} {p} h e =
    token_by (t && is_symbol b) (is_mark b) (begins_word b) (is_ascii_digit b)
    (word_length (b ∷ w ++ r)) (number_length (b ∷ w ++ r)) (sign_length (b ∷ w ++ r))
    (word_length (b ∷ w ++ p)) (number_length (b ∷ w ++ p)) (sign_length (b ∷ w ++ p)) (length w)
    (word b w h) (number b w h) (sign b w h) e
