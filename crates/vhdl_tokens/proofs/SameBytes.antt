-- Tokens that are spelled alike stand for the same.
use Rattle.std.proofs.Common.{◌≡◌, ℕ, ◌+◌, ◌<◌, ◌≤◌, ◌==◌, ◌&&◌, Bool, true, false, List, [], ◌∷◌, ◌++◌, length}
use Rattle.std.proofs.Common.{take, drop, refl, sym, ap, subst, ◌∙◌, arith}
use Rattle.std.specs.Char.{to_ascii_lowercase}
use Rattle.std.specs.Str.{bytes_eq, str_eq_ignore_ascii_case, str_to_ascii_lowercase}
use Rattle.std.proofs.lemmas.List.{length-append, length-map}
use Rattle.std.proofs.lemmas.Slice.Eq.{bytes_eq-Decides}
use Rattle.vhdl_tokens.specs.Spelling.{are_alike, is_character, is_same}

own : (x : List ℕ) (exact : Bool) → are_alike exact x x ≡ true
own x true = (bytes_eq-Decides x x).1 refl
own x false = (bytes_eq-Decides (str_to_ascii_lowercase x) (str_to_ascii_lowercase x)).1 refl

pub same_bytes : (x y : List ℕ) → bytes_eq x y ≡ true → is_same x y ≡ true
same_bytes x y e = subst (λ z. is_same x z ≡ true) ((bytes_eq-Decides x y).0 e) (own x (is_character x))

-- one byte alone is another where they are equal
pub same_byte : (x y : ℕ) → bytes_eq (x ∷ []) (y ∷ []) ≡ (x == y)
same_byte x y = by (x == y)
  where
    by : (b : Bool) → (b && true) ≡ b
    by true = refl
    by false = refl

unlike_bytes : (x y : List ℕ) → (length x ≡ length y → ⊥) → bytes_eq x y ≡ false
unlike_bytes x y h = by (bytes_eq x y) refl
  where
    by : (b : Bool) → bytes_eq x y ≡ b → b ≡ false
    by true e = absurd (h (ap length ((bytes_eq-Decides x y).0 e)))
    by false e = refl

unlike_letters : (x y : List ℕ) → (length x ≡ length y → ⊥) → str_eq_ignore_ascii_case x y ≡ false
unlike_letters x y h =
    unlike_bytes (str_to_ascii_lowercase x) (str_to_ascii_lowercase y)
    (λ e. h (sym (length-map x to_ascii_lowercase) ∙ e ∙ length-map y to_ascii_lowercase))

-- tokens of unlike lengths do not stand for the same
pub unlike : (x y : List ℕ) → (length x ≡ length y → ⊥) → is_same x y ≡ false
unlike x y h = by (is_character x)
  where
    by : (exact : Bool) → are_alike exact x y ≡ false
    by true = unlike_bytes x y h
    by false = unlike_letters x y h

and_both : (a b c : Bool) → (a && (b && c)) ≡ ((a && b) && c)
and_both true b c = refl
and_both false b c = refl

-- a text is others put together where as many as the first of these are those, and the rest of them the second
bytes_parted : (x w r : List ℕ) → length w ≤ length x
    → (bytes_eq (take (length w) x) w && bytes_eq (drop (length w) x) r) ≡ bytes_eq x (w ++ r)
bytes_parted x [] r h = refl
bytes_parted [] (c ∷ w) r h = absurd (omega arith)
bytes_parted (b ∷ x) (c ∷ w) r h =
    sym (and_both (b == c) (bytes_eq (take (length w) x) w) (bytes_eq (drop (length w) x) r))
    ∙ ap (λ e. (b == c) && e) (bytes_parted x w r (omega arith))

-- the same whatever the case of their letters
letters_parted : (x w r : List ℕ) → length w ≤ length x
    → (str_eq_ignore_ascii_case (take (length w) x) w && str_eq_ignore_ascii_case (drop (length w) x) r)
    ≡ str_eq_ignore_ascii_case x (w ++ r)
letters_parted x [] r h = refl
letters_parted [] (c ∷ w) r h = absurd (omega arith)
letters_parted (b ∷ x) (c ∷ w) r h =
    sym (and_both (to_ascii_lowercase b == to_ascii_lowercase c) (str_eq_ignore_ascii_case (take (length w) x) w)
    (str_eq_ignore_ascii_case (drop (length w) x) r))
    ∙ ap (λ e. (to_ascii_lowercase b == to_ascii_lowercase c) && e) (letters_parted x w r (omega arith))

pub parted : (exact : Bool) (x w r : List ℕ) → length w ≤ length x
    → (are_alike exact (take (length w) x) w && are_alike exact (drop (length w) x) r) ≡ are_alike exact x (w ++ r)
parted true = bytes_parted
parted false = letters_parted

-- a token that is shorter than a word does not stand for the word followed by others
pub unlike_joined : (x w r : List ℕ) → length x < length w → is_same x (w ++ r) ≡ false
unlike_joined x w r h =
    let longer : length (w ++ r) ≡ length w + length r = length-append w r in
    unlike x (w ++ r) (λ e. omega (arith, h, e, longer))
