-- Bytes that are no word of Verilog.
use Rattle.std.proofs.Common.{◌≡◌, ◌<◌, List, ℕ, [], ◌∷◌, length, Bool, true, false, ◌||◌, refl, sym, ap, ◌∙◌, arith}
use Rattle.std.specs.List.{list_any, list_all}
use Rattle.std.specs.Str.{bytes_eq}
use Rattle.std.proofs.lemmas.Bool.{and_parts}
use Rattle.std.proofs.lemmas.Slice.Eq.{bytes_eq-Decides}
use Rattle.verilog_tokens.specs.Words.{is_verilog_word, verilog_words, begins_small}

pub nothing_is_no_word : (name : List ℕ) → length name < 1 → false ≡ is_verilog_word name
unfolding is_verilog_word verilog_words
nothing_is_no_word [] h = refl
nothing_is_no_word (x ∷ name) h = absurd (omega arith)

-- a small letter stands behind the first byte
abbrev is_small_second : List ℕ → Bool
is_small_second [] = false
is_small_second (_ ∷ bytes) = begins_small bytes

-- a name without one is none of words that have one
other : (name word : List ℕ) → is_small_second word ≡ true → is_small_second name ≡ false → (b : Bool) → bytes_eq name word ≡ b → b ≡ false
other name word w e true f = absurd (let g = sym e ∙ ap is_small_second ((bytes_eq-Decides name word).0 f) ∙ w in cc)
other name word w e false f = refl

none : (words : List (List ℕ)) (name : List ℕ) → list_all is_small_second words ≡ true → is_small_second name ≡ false
    → list_any (bytes_eq name) words ≡ false
none [] name a e = refl
none (w ∷ words) name a e =
    let p = and_parts (is_small_second w) (list_all is_small_second words) a in
    ap (λ b. b || list_any (bytes_eq name) words) (other name w p.0 e (bytes_eq name w) refl) ∙ none words name p.1 e

-- each word of Verilog goes on with a small letter
pub no_word : (first : ℕ) (rest : List ℕ) → begins_small rest ≡ false → is_verilog_word (first ∷ rest) ≡ false
unfolding is_verilog_word verilog_words
no_word first rest e = none verilog_words (first ∷ rest) refl e
