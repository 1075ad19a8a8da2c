-- The value of a text, byte by byte.
use Rattle.std.proofs.Common.{◌≡◌, ℕ, ◌+◌, ◌<◌, ◌++◌, zero, suc, Bool, true, false, ◌==◌, cond, List, [], ◌∷◌, length, drop}
use Rattle.std.proofs.Common.{get_or, refl, sym, ◌∙◌, ap, arith, add-one, append_assoc}
use Rattle.std.proofs.Math.Seq.{drop-cons}
use Rattle.std.proofs.lemmas.List.{drop-drop}
use Rattle.std.specs.List.{list_all}
use Rattle.std.proofs.lemmas.Bool.{and_parts as both_true}
use Rattle.liberty_text.specs.Idle.{stands_for_itself}
use Rattle.liberty_text.specs.TextValue.{piece, value_behind, value_of, behind_backslash, blank_line, begins_with_quote}

-- the value behind the first few bytes is that of the others
pub value_skip : (n : ℕ) (bs : List ℕ) → value_behind n bs ≡ value_of (drop n bs)
value_skip zero [] = refl
value_skip (suc n) [] = refl
value_skip zero (b ∷ bs) = refl
value_skip (suc n) (b ∷ bs) = value_skip n bs

-- the value from an offset on, a piece first
pub value_step : (bytes : List ℕ) (at : ℕ) → at < length bytes →
    value_of (drop at bytes) ≡ (piece (get_or bytes at 0) (drop (at + 1) bytes)).0
    ++ value_of (drop (at + (1 + (piece (get_or bytes at 0) (drop (at + 1) bytes)).1)) bytes)
value_step bytes at h =
    let p = piece (get_or bytes at 0) (drop (at + 1) bytes) in
    let first : drop at bytes ≡ get_or bytes at 0 ∷ drop (at + 1) bytes = rw add-one (drop-cons bytes at 0 h) in
    let sum : at + 1 + p.1 ≡ at + (1 + p.1) = omega arith in
    ap value_of first
    ∙ ap (λ v. p.0 ++ v) (value_skip p.1 (drop (at + 1) bytes) ∙ ap value_of (drop-drop p.1 (at + 1) bytes)
    ∙ ap (λ n. value_of (drop n bytes)) sum)

-- a piece joins the value
pub value_turn : (bytes : List ℕ) (at : ℕ) (behind before after : List ℕ) (taken : ℕ) → at < length bytes
    → behind ≡ drop (at + 1) bytes →
    after ≡ before ++ (piece (get_or bytes at 0) behind).0 → taken ≡ (piece (get_or bytes at 0) behind).1 →
    before ++ value_of (drop at bytes) ≡ value_of bytes →
    after ++ value_of (drop (at + (1 + taken)) bytes) ≡ value_of bytes
value_turn bytes at behind before after taken h e f g kept =
    let b = get_or bytes at 0 in
    let p = piece b (drop (at + 1) bytes) in
    let after_is : after ≡ before ++ p.0 = f ∙ ap (λ l. before ++ (piece b l).0) e in
    let taken_is : taken ≡ p.1 = g ∙ ap (λ l. (piece b l).1) e in
    ap (λ l. l ++ value_of (drop (at + (1 + taken)) bytes)) after_is
    ∙ append_assoc before p.0 (value_of (drop (at + (1 + taken)) bytes))
    ∙ ap (λ l. before ++ l) (ap (λ n. p.0 ++ value_of (drop (at + (1 + n)) bytes)) taken_is ∙ sym (value_step bytes at h))
    ∙ kept

-- a byte that stands for itself, before others
itself_first : (b : ℕ) (bs : List ℕ) → stands_for_itself b ≡ true → value_of (b ∷ bs) ≡ b ∷ value_of bs
itself_first b bs e = by_tests (b == 10) (b == 92) refl refl
  where
    by_tests : (p q : Bool) → (b == 10) ≡ p → (b == 92) ≡ q → value_of (b ∷ bs) ≡ b ∷ value_of bs
    by_tests true q f g = absurd cc
    by_tests false true f g = absurd cc
    by_tests false false f g =
        let plain : piece b bs ≡ (b ∷ [], 0) =
        ap (λ q. cond q (32 ∷ [], 0) (cond (b == 92) (behind_backslash (blank_line bs) (begins_with_quote bs)) (b ∷ [], 0))) f
        ∙ ap (λ q. cond q (behind_backslash (blank_line bs) (begins_with_quote bs)) (b ∷ [], 0)) g in
        ap (λ p. p.0 ++ value_behind p.1 bs) plain

-- bytes that stand for themselves
pub value_of_plain : (bytes : List ℕ) → list_all stands_for_itself bytes ≡ true → value_of bytes ≡ bytes
value_of_plain [] e = refl
value_of_plain (b ∷ bs) e =
    let both = both_true (stands_for_itself b) (list_all stands_for_itself bs) e in
    itself_first b bs both.0 ∙ ap (λ l. b ∷ l) (value_of_plain bs both.1)
