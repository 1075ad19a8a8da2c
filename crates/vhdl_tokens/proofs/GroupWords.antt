-- The words of groups, whatever the case of the bytes that are looked up.
use Rattle.std.proofs.Common.{◌≡◌, ℕ, ◌<◌, false, List, [], ◌∷◌, Bor, map, length, get_or, sym, subst, arith}
use Rattle.std.specs.Char.{to_ascii_lowercase}
use Rattle.std.specs.List.{list_any}
use Rattle.std.specs.Str.{bytes_eq, str_eq_ignore_ascii_case, str_to_ascii_lowercase}

-- where what begins with a letter is in its group as it is among all words, so are bytes that begin with it in some case
pub whatever_case :
    (words : List (List ℕ)) (group : List (Bor (List ℕ))) (name : List ℕ) (letter : ℕ)
    → 0 < length name → letter ≡ to_ascii_lowercase (get_or name 0 0)
    → ((rest : List ℕ) → list_any (λ (word : Bor (List ℕ)). bytes_eq (letter ∷ rest) (str_to_ascii_lowercase word.now)) group
    ≡ list_any (bytes_eq (letter ∷ rest)) words)
    → list_any (λ (word : Bor (List ℕ)). str_eq_ignore_ascii_case name word.now) group
    ≡ list_any (bytes_eq (str_to_ascii_lowercase name)) words
whatever_case words group [] letter some e h = absurd (omega arith)
whatever_case words group (b ∷ bs) letter some e h =
    subst
    (λ (l : ℕ). list_any (λ (word : Bor (List ℕ)). bytes_eq (l ∷ map to_ascii_lowercase bs) (str_to_ascii_lowercase word.now)) group
    ≡ list_any (bytes_eq (l ∷ map to_ascii_lowercase bs)) words) e (h (map to_ascii_lowercase bs))

-- no bytes are none of words of which none is empty
pub no_bytes : (words : List (List ℕ)) (name : List ℕ) → length name < 1 → list_any (bytes_eq []) words ≡ false
    → false ≡ list_any (bytes_eq (str_to_ascii_lowercase name)) words
no_bytes words [] few e = sym e
no_bytes words (b ∷ bs) few e = absurd (omega arith)
