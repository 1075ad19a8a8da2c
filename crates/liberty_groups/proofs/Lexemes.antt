-- Tokens with their bytes, in a text and in a longer one.
use Rattle.std.proofs.Common.{◌≡◌, ℕ, ◌+◌, ◌-◌, ◌≤◌, true, false, nat_eq, List, [], ◌∷◌, ◌++◌, length, take, drop, slice_range}
use Rattle.std.proofs.Common.{refl, sym, ap, ◌∙◌, arith, length-drop}
use Rattle.std.proofs.lemmas.List.{append-nil, drop-append-le, take-append-le, take-append-drop, map-append}
use Rattle.std.proofs.Math.Seq.{drop-append_seam, take-append_seam, take-append-add}
use Rattle.std.proofs.lemmas.Slice.Eq.{bytes_eq-Decides}
use Rattle.std.specs.Str.{bytes_eq}
use Rattle.std.specs.List.{starts_with}
use Rattle.liberty_text.specs.declared.token.Token.{Token}
use Rattle.liberty_text.specs.declared.token.Stop.{Stop}
use Rattle.liberty_text.specs.Tokens.{Lexes}
use Rattle.liberty_text.proofs.Places.{inside, wider}
use Rattle.liberty_groups.specs.Lexeme.{Lexeme, lexeme_of, lexemes_of, LieInside}
use Rattle.liberty_groups.proofs.Inside.{by_recursion}

pub bytes_are : (xs ys : List ℕ) → bytes_eq xs ys ≡ true → xs ≡ ys
bytes_are xs ys e = (bytes_eq-Decides xs ys).0 e

pub bytes_agree : (xs ys : List ℕ) → xs ≡ ys → bytes_eq xs ys ≡ true
bytes_agree xs ys e = (bytes_eq-Decides xs ys).1 e

pub begins_with : (xs p : List ℕ) → starts_with nat_eq xs p ≡ true → xs ≡ p ++ drop (length p) xs
begins_with xs p e =
    let i = bytes_are p (take (length p) xs) e in
    sym (take-append-drop (length p) xs) ∙ ap (λ (s : List ℕ). s ++ drop (length p) xs) (sym i)

pub begins_so : (xs p r : List ℕ) → xs ≡ p ++ r → starts_with nat_eq xs p ≡ true
begins_so xs p r e = bytes_agree p (take (length p) xs) (sym (ap (take (length p)) e ∙ take-append_seam p r))

pub slice_more : (bs more : List ℕ) (i j : ℕ) → i ≤ j → j ≤ length bs → slice_range (bs ++ more) i j ≡ slice_range bs i j
slice_more bs more i j h k =
    let a : i ≤ length bs = omega arith in
    let b : j - i ≤ length (drop i bs) = let l = length-drop i bs in omega arith in
    ap (take (j - i)) (drop-append-le i bs more a) ∙ take-append-le (j - i) (drop i bs) more b

-- the end of a list, as a part of it
pub slice_end : (q r : List ℕ) (a n : ℕ) → a ≡ length q → n ≡ a + length r → slice_range (q ++ r) a n ≡ r
slice_end q r a n e f =
    let g : n - a ≡ length r = omega arith in
    ap (λ (k : ℕ). take k (drop a (q ++ r))) g
    ∙ ap (λ (k : ℕ). take (length r) (drop k (q ++ r))) e
    ∙ ap (take (length r)) (drop-append_seam q r)
    ∙ ap (take (length r)) (sym (append-nil r)) ∙ take-append_seam r []

-- a part that goes on behind the end of a list
pub slice_over : (bs more : List ℕ) (a n e : ℕ) → n ≡ length bs → a ≤ n → n ≤ e →
    slice_range (bs ++ more) a e ≡ slice_range bs a n ++ take (e - n) more
slice_over bs more a n e f h k =
    let a' : a ≤ length bs = omega arith in
    let l : length (drop a bs) ≡ length bs - a = length-drop a bs in
    let g : e - a ≡ length (drop a bs) + (e - n) = omega arith in
    let m : n - a ≡ length (drop a bs) = omega arith in
    ap (take (e - a)) (drop-append-le a bs more a')
    ∙ ap (λ (i : ℕ). take i (drop a bs ++ more)) g
    ∙ take-append-add (drop a bs) more (e - n)
    ∙ ap (λ (s : List ℕ). s ++ take (e - n) more)
    (sym (ap (λ (i : ℕ). take i (drop a bs)) m ∙ ap (take (length (drop a bs))) (sym (append-nil (drop a bs)))
    ∙ take-append_seam (drop a bs) []))

pub lexemes_more : (bs more : List ℕ) (ts : List Token) → LieInside bs ts → lexemes_of (bs ++ more) ts ≡ lexemes_of bs ts
lexemes_more bs more [] h = refl
lexemes_more bs more (t ∷ ts) h =
    ap (λ (s : List ℕ). record { token = t; bytes = s } ∷ lexemes_of (bs ++ more) ts) (slice_more bs more t.at t.end h.0 h.1)
    ∙ ap (λ (s : List Lexeme). lexeme_of bs t ∷ s) (lexemes_more bs more ts h.2)

pub lexemes-append : (text : List ℕ) (ts us : List Token) → lexemes_of text (ts ++ us) ≡ lexemes_of text ts ++ lexemes_of text us
lexemes-append text ts us = map-append (lexeme_of text) ts us

pub inside_reads : {bs : List ℕ} {ts : List Token} {stop : Stop} → Lexes 0 false bs ts stop → LieInside bs ts
inside_reads {bs = bs} {ts = ts} d = by_recursion bs ts (wider (0 + length bs) (length bs) (omega arith) ts (inside d))

pub inside_front : (bs : List ℕ) (ts us : List Token) → LieInside bs (ts ++ us) → LieInside bs ts
inside_front bs [] us h = tt
inside_front bs (t ∷ ts) us h = (h.0, h.1, inside_front bs ts us h.2)
