-- What names models are given, and which of them are apart, whatever the case of their letters.
use Rattle.std.proofs.Common.{◌≡◌, ℕ, ◌^◌, ◌<◌, Bool, true, false, not, ◌&&◌, ◌==◌, ◌⊎◌, inl, inr, IsTrue, List, [], ◌∷◌, ◌++◌}
use Rattle.std.proofs.Common.{map, refl, sym, ap, ◌∙◌, codes, decimal, is_some, if◌then◌else◌}
use Rattle.std.specs.Char.{to_ascii_lowercase}
use Rattle.std.specs.Str.{str_eq_ignore_ascii_case}
use Rattle.std.proofs.lemmas.Bool.{and_parts, and_from, not-true, true≢false, eq-eqb}
use Rattle.written_entities.proofs.trit_cubes.ListLemmas.{Among}
use Rattle.generated_entities.specs.bool_functions.NameList.{number_of}
use Rattle.generated_drivers.specs.vhdl_tokens.Words.{is_vhdl_word}
use Rattle.generated_drivers.specs.vhdl_tokens.Kept.{is_identifier, is_free, begins, is_numbered, lowered}
use Rattle.generated_drivers.specs.vital_models.Kept.{is_kept_entity_name, is_kept_driver_name, entity_name, driver_name}
use Rattle.generated_entities.proofs.Names.{unlike_lower, no_cell, cells_apart, kept}
use Rattle.generated_entities.proofs.EntityLists.{kept_is_new}
use Rattle.written_entities.proofs.Names.{case_turned}

-- The name of a model of the cell with this number behind these names: a word and the number, or a name that is kept.
abbrev pub IsFormed : List (List ℕ) → ℕ → List ℕ → Type 0
IsFormed names n y = (y ≡ codes "cell" ++ decimal n) ⊎ ((y ≡ codes "vitalz" ++ decimal n) ⊎ IsTrue (is_kept_entity_name names y))

pub entity_formed : (n : ℕ) (given : List (List ℕ)) (name : List ℕ) → IsFormed given n (entity_name n given name)
entity_formed n given name = by (is_kept_entity_name given name) refl
  where
    by : (b : Bool) → is_kept_entity_name given name ≡ b → IsFormed given n (if b then name else codes "cell" ++ decimal n)
    by true e = inr (inr e)
    by false e = inl refl

pub driver_formed : (n : ℕ) (given : List (List ℕ)) (name : List ℕ)
    → (driver_name n given name ≡ codes "vitalz" ++ decimal n) ⊎ IsTrue (is_kept_entity_name given (driver_name n given name))
driver_formed n given name = by (is_kept_driver_name given name) refl
  where
    by : (b : Bool) → is_kept_driver_name given name ≡ b
        → ((if b then name else codes "vitalz" ++ decimal n) ≡ codes "vitalz" ++ decimal n)
        ⊎ IsTrue (is_kept_entity_name given (if b then name else codes "vitalz" ++ decimal n))
    by true e = inr (and_parts (is_kept_entity_name given name) (not (str_eq_ignore_ascii_case name (codes "driven"))) e).0
    by false e = inl refl

-- Names that are a word with a number behind it.

pub cell_vitalz : (m n : ℕ) → str_eq_ignore_ascii_case (codes "cell" ++ decimal m) (codes "vitalz" ++ decimal n) ≡ false
cell_vitalz m n = by (decimal m) (decimal n)
  where
    by : (ds es : List ℕ) → str_eq_ignore_ascii_case (codes "cell" ++ ds) (codes "vitalz" ++ es) ≡ false
    by ds es = refl

vitalz_cell : (m n : ℕ) → str_eq_ignore_ascii_case (codes "vitalz" ++ decimal m) (codes "cell" ++ decimal n) ≡ false
vitalz_cell m n = by (decimal m) (decimal n)
  where
    by : (ds es : List ℕ) → str_eq_ignore_ascii_case (codes "vitalz" ++ ds) (codes "cell" ++ es) ≡ false
    by ds es = refl

vitalzs_apart : (m n : ℕ) → m < 2 ^ 64 → n < 2 ^ 64 → (m ≡ n → ⊥)
    → str_eq_ignore_ascii_case (codes "vitalz" ++ decimal m) (codes "vitalz" ++ decimal n) ≡ false
vitalzs_apart m n h k apart = by (decimal m) (decimal n) (cells_apart m n h k apart)
  where
    by : (ds es : List ℕ) → str_eq_ignore_ascii_case (codes "cell" ++ ds) (codes "cell" ++ es) ≡ false
        → str_eq_ignore_ascii_case (codes "vitalz" ++ ds) (codes "vitalz" ++ es) ≡ false
    by ds es e = e

-- Kept names.

equal_bytes : (a b : ℕ) → a ≡ b → (b == a) ≡ true
equal_bytes a b e = eq-eqb b a (sym e)

like_vital : (x ds : List ℕ) → map to_ascii_lowercase x ≡ codes "vitalz" ++ ds → begins (codes "vital") x ≡ true
like_vital [] ds e = absurd cc
like_vital (a ∷ []) ds e = absurd cc
like_vital (a ∷ b ∷ []) ds e = absurd cc
like_vital (a ∷ b ∷ c ∷ []) ds e = absurd cc
like_vital (a ∷ b ∷ c ∷ d ∷ []) ds e = absurd cc
like_vital (a ∷ b ∷ c ∷ d ∷ f ∷ x) ds e =
    let first : to_ascii_lowercase a ≡ 118 = cc in
    let second : to_ascii_lowercase b ≡ 105 = cc in
    let third : to_ascii_lowercase c ≡ 116 = cc in
    let fourth : to_ascii_lowercase d ≡ 97 = cc in
    let fifth : to_ascii_lowercase f ≡ 108 = cc in
    and_from (118 == to_ascii_lowercase a) _ (equal_bytes (to_ascii_lowercase a) 118 first)
    (and_from (105 == to_ascii_lowercase b) _ (equal_bytes (to_ascii_lowercase b) 105 second)
    (and_from (116 == to_ascii_lowercase c) _ (equal_bytes (to_ascii_lowercase c) 116 third)
    (and_from (97 == to_ascii_lowercase d) _ (equal_bytes (to_ascii_lowercase d) 97 fourth)
    (and_from (108 == to_ascii_lowercase f) true (equal_bytes (to_ascii_lowercase f) 108 fifth) refl))))

kept_no_vital : (names : List (List ℕ)) (x : List ℕ) → IsTrue (is_kept_entity_name names x) → begins (codes "vital") x ≡ false
unfolding is_kept_entity_name is_free
kept_no_vital names x h =
    let more : Bool = not (is_numbered (codes "cell") x) && not (is_some (number_of names (lowered x))) in
    let free : Bool = not (is_vhdl_word x) && (not (begins (codes "vital") x) && not (is_numbered (codes "pin") x)) in
    let a = and_parts (is_identifier x) (free && more) h in
    let b = and_parts free more a.1 in
    let c = and_parts (not (is_vhdl_word x)) (not (begins (codes "vital") x) && not (is_numbered (codes "pin") x)) b.0 in
    not-true (begins (codes "vital") x) (and_parts (not (begins (codes "vital") x)) (not (is_numbered (codes "pin") x)) c.1).0

kept_vitalz : (names : List (List ℕ)) (x : List ℕ) (n : ℕ) → IsTrue (is_kept_entity_name names x)
    → str_eq_ignore_ascii_case x (codes "vitalz" ++ decimal n) ≡ false
kept_vitalz names x n h = by (decimal n)
  where
    by : (ds : List ℕ) → str_eq_ignore_ascii_case x (codes "vitalz" ++ ds) ≡ false
    by ds = unlike_lower x (codes "vitalz" ++ ds)
        (λ e. true≢false (sym (like_vital x (map to_ascii_lowercase ds) e) ∙ kept_no_vital names x h))

kept_cell : (names : List (List ℕ)) (x : List ℕ) (n : ℕ) → n < 2 ^ 64 → IsTrue (is_kept_entity_name names x)
    → str_eq_ignore_ascii_case x (codes "cell" ++ decimal n) ≡ false
kept_cell names x n k h = no_cell x n k (kept names x h).no_cell

pub cell_kept : (names : List (List ℕ)) (x : List ℕ) (n : ℕ) → n < 2 ^ 64 → IsTrue (is_kept_entity_name names x)
    → str_eq_ignore_ascii_case (codes "cell" ++ decimal n) x ≡ false
cell_kept names x n k h = case_turned (codes "cell" ++ decimal n) x ∙ kept_cell names x n k h

vitalz_kept : (names : List (List ℕ)) (x : List ℕ) (n : ℕ) → IsTrue (is_kept_entity_name names x)
    → str_eq_ignore_ascii_case (codes "vitalz" ++ decimal n) x ≡ false
vitalz_kept names x n h = case_turned (codes "vitalz" ++ decimal n) x ∙ kept_vitalz names x n h

kepts_apart : (names : List (List ℕ)) (x y : List ℕ) → Among (lowered x) names → IsTrue (is_kept_entity_name names y)
    → str_eq_ignore_ascii_case x y ≡ false
kepts_apart names x y m h = unlike_lower x y (λ same. kept_is_new names y (lowered x) (kept names y h).new m (sym same))

pub both : (x z y w : List ℕ) → x ≡ z → y ≡ w → str_eq_ignore_ascii_case z w ≡ false → str_eq_ignore_ascii_case x y ≡ false
both x z y w a b h = ap (λ v. str_eq_ignore_ascii_case v y) a ∙ ap (str_eq_ignore_ascii_case z) b ∙ h

-- A name before others, which stands among them in lower case where it is kept.
abbrev pub IsFirst : List (List ℕ) → List (List ℕ) → ℕ → List ℕ → Type 0
IsFirst given names n x = (x ≡ codes "cell" ++ decimal n)
    ⊎ ((x ≡ codes "vitalz" ++ decimal n) ⊎ (IsTrue (is_kept_entity_name given x) × Among (lowered x) names))

-- names of models of two cells
pub forms_apart :
    (given names : List (List ℕ)) (m n : ℕ) (x y : List ℕ) → m < 2 ^ 64 → n < 2 ^ 64 → (m ≡ n → ⊥) → IsFirst given names m x
    → IsFormed names n y
    → str_eq_ignore_ascii_case x y ≡ false
forms_apart given names m n x y h k apart (inl a) (inl b) = both x _ y _ a b (cells_apart m n h k apart)
forms_apart given names m n x y h k apart (inl a) (inr (inl b)) = both x _ y _ a b (cell_vitalz m n)
forms_apart given names m n x y h k apart (inl a) (inr (inr b)) = both x _ y y a refl (cell_kept names y m h b)
forms_apart given names m n x y h k apart (inr (inl a)) (inl b) = both x _ y _ a b (vitalz_cell m n)
forms_apart given names m n x y h k apart (inr (inl a)) (inr (inl b)) = both x _ y _ a b (vitalzs_apart m n h k apart)
forms_apart given names m n x y h k apart (inr (inl a)) (inr (inr b)) = both x _ y y a refl (vitalz_kept names y m b)
forms_apart given names m n x y h k apart (inr (inr a)) (inl b) = both x x y _ refl b (kept_cell given x n k a.0)
forms_apart given names m n x y h k apart (inr (inr a)) (inr (inl b)) = both x x y _ refl b (kept_vitalz given x n a.0)
forms_apart given names m n x y h k apart (inr (inr a)) (inr (inr b)) = kepts_apart names x y a.1 b
