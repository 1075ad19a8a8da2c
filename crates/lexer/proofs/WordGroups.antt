-- Words by their first letters: where those of a table begin with one letter after another, a word is among them exactly where it
-- is among those with its own first letter.
use Rattle.std.proofs.Common.{◌≡◌, ℕ, zero, suc, ◌+◌, ◌<◌, ◌≤◌, Bool, true, false, ◌||◌, nat_eq, List, [], ◌∷◌, map}
use Rattle.std.proofs.Common.{length, get_or, refl, sym, ap, ◌∙◌, arith}
use Rattle.std.proofs.lemmas.Bool.{and_parts, eqb-true}
use Rattle.std.proofs.lemmas.Bool.Decides.{nat_tests}
use Rattle.std.proofs.lemmas.List.Folds.{list_any-append}
use Rattle.std.specs.List.{list_all, list_any}
use Rattle.std.specs.Str.{bytes_eq}
use Rattle.std.proofs.Math.Bool.{or-false as or_false}
use Rattle.lexer.specs.WordGroups.{begins, begin_from, joined}

-- words that begin with another letter
none_of : (letter first : ℕ) (rest : List ℕ) → nat_eq first letter ≡ false → (words : List (List ℕ))
    → list_all (begins letter) words ≡ true →
    list_any (bytes_eq (first ∷ rest)) words ≡ false
none_of letter first rest n [] e = refl
none_of letter first rest n ([] ∷ words) e = absurd cc
none_of letter first rest n ((b ∷ bs) ∷ words) e =
    let p = and_parts (nat_eq b letter) (list_all (begins letter) words) e in
    let other : nat_eq first b ≡ false = ap (nat_eq first) (eqb-true b letter p.0) ∙ n in
    rw other (none_of letter first rest n words p.1)

-- words that begin with a letter are not empty
none_empty : (letter : ℕ) (words : List (List ℕ)) → list_all (begins letter) words ≡ true → list_any (bytes_eq []) words ≡ false
none_empty letter [] e = refl
none_empty letter ([] ∷ words) e = absurd cc
none_empty letter ((b ∷ bs) ∷ words) e =
    none_empty letter words (and_parts (nat_eq b letter) (list_all (begins letter) words) e).1

-- the groups of a table, each with its words
module _ {G W : Type 0} (words : G → List W) (bytes : W → List ℕ) where
  abbrev texts : G → List (List ℕ)
  texts g = map bytes (words g)

  -- the words of the group at a place, none behind the last one
  abbrev at : List G → ℕ → List (List ℕ)
  at [] i = []
  at (g ∷ groups) zero = texts g
  at (g ∷ groups) (suc i) = at groups i

  -- a letter before that of the first group
  pub before : (letter first : ℕ) (rest : List ℕ) (groups : List G) → begin_from groups words bytes letter ≡ true → first < letter
      → list_any (bytes_eq (first ∷ rest)) (joined groups words bytes) ≡ false
  before letter first rest [] e h = refl
  before letter first rest (g ∷ groups) e h =
      let p = and_parts (list_all (begins letter) (texts g)) (begin_from groups words bytes (letter + 1)) e in
      let other : nat_eq first letter ≡ false = grind (arith, nat_tests, h) in
      list_any-append (bytes_eq (first ∷ rest)) (texts g) (joined groups words bytes)
      ∙ ap (λ (b : Bool). b || list_any (bytes_eq (first ∷ rest)) (joined groups words bytes))
      (none_of letter first rest other (texts g) p.0)
      ∙ before (letter + 1) first rest groups p.1 (omega arith)

  by_place : (letter first i : ℕ) (rest : List ℕ) (groups : List G) → begin_from groups words bytes letter ≡ true
      → first ≡ letter + i →
      list_any (bytes_eq (first ∷ rest)) (joined groups words bytes) ≡ list_any (bytes_eq (first ∷ rest)) (at groups i)
  by_place letter first i rest [] e h = refl
  by_place letter first zero rest (g ∷ groups) e h =
      let p = and_parts (list_all (begins letter) (texts g)) (begin_from groups words bytes (letter + 1)) e in
      list_any-append (bytes_eq (first ∷ rest)) (texts g) (joined groups words bytes)
      ∙ ap (λ (b : Bool). list_any (bytes_eq (first ∷ rest)) (texts g) || b)
      (before (letter + 1) first rest groups p.1 (omega arith))
      ∙ or_false (list_any (bytes_eq (first ∷ rest)) (texts g))
  by_place letter first (suc i) rest (g ∷ groups) e h =
      let p = and_parts (list_all (begins letter) (texts g)) (begin_from groups words bytes (letter + 1)) e in
      let other : nat_eq first letter ≡ false = grind (arith, nat_tests, h) in
      list_any-append (bytes_eq (first ∷ rest)) (texts g) (joined groups words bytes)
      ∙ ap (λ (b : Bool). b || list_any (bytes_eq (first ∷ rest)) (joined groups words bytes))
      (none_of letter first rest other (texts g) p.0)
      ∙ by_place (letter + 1) first i rest groups p.1 (omega arith)

  some_at : (groups : List G) (i : ℕ) (d : G) → i < length groups → at groups i ≡ texts (get_or groups i d)
  some_at [] i d h = absurd (omega arith)
  some_at (g ∷ groups) zero d h = refl
  some_at (g ∷ groups) (suc i) d h = some_at groups i d (omega arith)

  none_behind : (groups : List G) (i : ℕ) → length groups ≤ i → at groups i ≡ []
  none_behind [] i h = refl
  none_behind (g ∷ groups) zero h = absurd (omega arith)
  none_behind (g ∷ groups) (suc i) h = none_behind groups i (omega arith)

  -- a letter behind that of the last group
  pub untold : (letter first i : ℕ) (rest : List ℕ) (groups : List G) → begin_from groups words bytes letter ≡ true
      → first ≡ letter + i → length groups ≤ i → list_any (bytes_eq (first ∷ rest)) (joined groups words bytes) ≡ false
  untold letter first i rest groups e h k = by_place letter first i rest groups e h
      ∙ ap (list_any (bytes_eq (first ∷ rest))) (none_behind groups i k)

  -- no bytes are none of the words
  pub nothing : (letter : ℕ) (groups : List G) → begin_from groups words bytes letter ≡ true
      → list_any (bytes_eq []) (joined groups words bytes) ≡ false
  nothing letter [] e = refl
  nothing letter (g ∷ groups) e =
      let p = and_parts (list_all (begins letter) (texts g)) (begin_from groups words bytes (letter + 1)) e in
      list_any-append (bytes_eq []) (texts g) (joined groups words bytes)
      ∙ ap (λ (b : Bool). b || list_any (bytes_eq []) (joined groups words bytes)) (none_empty letter (texts g) p.0)
      ∙ nothing (letter + 1) groups p.1

  any_text : (test : List ℕ → Bool) (ws : List W) → list_any (λ w. test (bytes w)) ws ≡ list_any test (map bytes ws)
  any_text test [] = refl
  any_text test (w ∷ ws) = ap (λ (b : Bool). test (bytes w) || b) (any_text test ws)

  -- the words of the group with this letter
  pub told : (letter first i : ℕ) (rest : List ℕ) (groups : List G) (d : G) → begin_from groups words bytes letter ≡ true
      → first ≡ letter + i → i < length groups →
      list_any (λ w. bytes_eq (first ∷ rest) (bytes w)) (words (get_or groups i d)) ≡ list_any (bytes_eq (first ∷ rest))
      (joined groups words bytes)
  told letter first i rest groups d e h k =
      any_text (bytes_eq (first ∷ rest)) (words (get_or groups i d))
      ∙ ap (list_any (bytes_eq (first ∷ rest))) (sym (some_at groups i d k)) ∙ sym (by_place letter first i rest groups e h)
