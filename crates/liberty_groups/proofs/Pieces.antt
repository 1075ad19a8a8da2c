-- The pieces of a text when other bytes come behind them, and their fronts.
use Rattle.std.proofs.Common.{◌≡◌, ℕ, ◌==◌, ◌||◌, not, Bool, true, false, List, [], ◌∷◌, ◌++◌, ◌⊎◌, inl, inr, refl, sym, ap}
use Rattle.std.proofs.Common.{subst, ◌∙◌, arith}
use Rattle.std.proofs.lemmas.Bool.Decides.{nat_tests}
use Rattle.std.proofs.lemmas.Bool.{and_right as and_false}
use Rattle.std.specs.Cmp.{first_so as and_true}
use Rattle.liberty_text.specs.Scanner.{class_of}
use Rattle.liberty_text.specs.Tokens.{is_word_class, opens_comment, ends_word, WordBytes, TextBytes, CommentBytes, AreBlanks}
use Rattle.liberty_text.specs.Tokens as lex

pub not_or : (x y : Bool) → (not x || y) ≡ false → (x ≡ true) × (y ≡ false)
not_or true true e = absurd cc
not_or true false e = (refl, refl)
not_or false y e = absurd cc

pub class_word : (b : ℕ) (bs : List ℕ) → ends_word (b ∷ bs) ≡ false → is_word_class (class_of b) ≡ true
class_word b bs e = (not_or (is_word_class (class_of b)) (opens_comment (b ∷ bs)) e).0

no_comment : (b : ℕ) (bs : List ℕ) → ends_word (b ∷ bs) ≡ false → opens_comment (b ∷ bs) ≡ false
no_comment b bs e = (not_or (is_word_class (class_of b)) (opens_comment (b ∷ bs)) e).1

goes_on_so : (b : ℕ) (bs : List ℕ) → is_word_class (class_of b) ≡ true → opens_comment (b ∷ bs) ≡ false
    → ends_word (b ∷ bs) ≡ false
goes_on_so b bs e f = rw (e, f) refl

star_goes_on : (s : List ℕ) → ends_word (42 ∷ s) ≡ false
star_goes_on [] = refl
star_goes_on (c ∷ s) = refl

-- a slash before bytes that end a word opens no comment
pub slash_before : (b : ℕ) (y : List ℕ) → ends_word y ≡ true → opens_comment (b ∷ y) ≡ false
slash_before b [] e = refl
slash_before b (c ∷ s) e = and_false (b == 47) (c == 42) (by_star (c == 42) refl)
  where
    by_star : (q : Bool) → (c == 42) ≡ q → q ≡ false
    by_star true h =
        let i : c ≡ 42 = grind (arith, nat_tests, h) in
        let j : ends_word (c ∷ s) ≡ false = subst (λ (v : ℕ). ends_word (v ∷ s) ≡ false) (sym i) (star_goes_on s) in
        absurd cc
    by_star false h = refl

byte_any : (b : ℕ) (w rest y : List ℕ) → ends_word (b ∷ (w ++ rest)) ≡ false → ends_word y ≡ true
    → ends_word (b ∷ (w ++ y)) ≡ false
byte_any b [] rest y h e = goes_on_so b y (class_word b rest h) (slash_before b y e)
byte_any b (c ∷ w) rest y h e = goes_on_so b (c ∷ (w ++ y)) (class_word b (c ∷ (w ++ rest)) h) (no_comment b (c ∷ (w ++ rest)) h)

-- a word ends before any bytes that end words
pub word_any : {w rest : List ℕ} → WordBytes w rest → (y : List ℕ) → ends_word y ≡ true → WordBytes w y
word_any (lex.word_ends h) y e = lex.word_ends e
word_any (lex.word_byte {b = b} {w = w} {rest = rest} h more) y e = lex.word_byte (byte_any b w rest y h e) (word_any more y e)

pub word_end : {w rest : List ℕ} → WordBytes w rest → ends_word rest ≡ true
word_end (lex.word_ends h) = h
word_end (lex.word_byte h more) = word_end more

byte_front : (b : ℕ) (u v rest : List ℕ) → ends_word (b ∷ ((u ++ v) ++ rest)) ≡ false → ends_word (b ∷ (u ++ [])) ≡ false
byte_front b [] v rest h = goes_on_so b [] (class_word b (v ++ rest) h) refl
byte_front b (c ∷ u) v rest h = goes_on_so b (c ∷ (u ++ [])) (class_word b (c ∷ ((u ++ v) ++ rest)) h)
    (no_comment b (c ∷ ((u ++ v) ++ rest)) h)

pub word_front : (u v rest : List ℕ) → WordBytes (u ++ v) rest → WordBytes u []
word_front [] v rest h = lex.word_ends refl
word_front (b ∷ u) v rest (lex.word_byte h more) = lex.word_byte (byte_front b u v rest h) (word_front u v rest more)

pub text_front : (u v : List ℕ) {escaped last : Bool} → TextBytes escaped last (u ++ v) → (l : Bool) × TextBytes escaped l u
text_front [] v {escaped = escaped} h = (escaped, lex.text_ends)
text_front (b ∷ u) v (lex.text_byte e more) = let i = text_front u v more in (i.0, lex.text_byte e i.1)

pub text_spaced : {escaped last : Bool} {u : List ℕ} → TextBytes escaped last u → TextBytes escaped false (u ++ 32 ∷ [])
text_spaced lex.text_ends = lex.text_byte refl lex.text_ends
text_spaced (lex.text_byte e more) = lex.text_byte e (text_spaced more)

pub comment_front : (u v : List ℕ) {star last : Bool} → CommentBytes star last (u ++ v) → (l : Bool) × CommentBytes star l u
comment_front [] v {star = star} h = (star, lex.comment_ends)
comment_front (b ∷ u) v (lex.comment_byte e more) = let i = comment_front u v more in (i.0, lex.comment_byte e i.1)

pub comment_starred : {star last : Bool} {u : List ℕ} → CommentBytes star last u → CommentBytes star true (u ++ 32 ∷ 42 ∷ [])
comment_starred lex.comment_ends = lex.comment_byte refl (lex.comment_byte refl lex.comment_ends)
comment_starred (lex.comment_byte e more) = lex.comment_byte e (comment_starred more)

pub blanks_front : (u v : List ℕ) → AreBlanks (u ++ v) → AreBlanks u
blanks_front [] v h = tt
blanks_front (b ∷ u) v h = (h.0, blanks_front u v h.1)

abbrev pub Splits : {T : Type 0} → List T → List T → List T → List T → Type 0
Splits {T} bs more u rest =
    ((v : List T) × (u ≡ bs ++ v) × (more ≡ v ++ rest)) ⊎ ((c : T) × (r : List T) × (bs ≡ u ++ c ∷ r) × (rest ≡ (c ∷ r) ++ more))

pub head_same : {T : Type 0} {a b : T} {s t : List T} → a ∷ s ≡ b ∷ t → a ≡ b
head_same e = cc

pub tail_same : {T : Type 0} {a b : T} {s t : List T} → a ∷ s ≡ b ∷ t → s ≡ t
tail_same e = cc

-- of two splits of one list, one is at or behind the other
pub splits : {T : Type 0} (bs more u rest : List T) → bs ++ more ≡ u ++ rest → Splits bs more u rest
splits [] more u rest e = inl (u, refl, e)
splits (b ∷ bs) more [] rest e = inr (b, bs, refl, sym e)
splits {T} (b ∷ bs) more (a ∷ u) rest e =
    let h : b ≡ a = head_same e in
    elim (splits bs more u rest (tail_same e)) [
      | inl (v, i, j) ↦ inl (v, ap (λ (s : List T). a ∷ s) i ∙ ap (λ (x : T). x ∷ (bs ++ v)) (sym h), j)
      | inr (c, r, i, j) ↦ inr (c, r, ap (λ (s : List T). b ∷ s) i ∙ ap (λ (x : T). x ∷ (u ++ c ∷ r)) h, j)
    ]

byte_slash : (b : ℕ) (w rest : List ℕ) → ends_word (b ∷ (w ++ rest)) ≡ false → ends_word (b ∷ ((w ++ 47 ∷ []) ++ [])) ≡ false
byte_slash b [] rest h = goes_on_so b (47 ∷ []) (class_word b rest h) (and_false (b == 47) false refl)
byte_slash b (c ∷ w) rest h = goes_on_so b (c ∷ ((w ++ 47 ∷ []) ++ [])) (class_word b (c ∷ (w ++ rest)) h)
    (no_comment b (c ∷ (w ++ rest)) h)

-- a word and a slash are a word where no star comes behind
pub word_slash : {u rest : List ℕ} → WordBytes u rest → WordBytes (u ++ 47 ∷ []) []
word_slash (lex.word_ends h) = lex.word_byte refl (lex.word_ends refl)
word_slash (lex.word_byte {b = b} {w = w} {rest = rest} h more) = lex.word_byte (byte_slash b w rest h) (word_slash more)

or_true : (x y : Bool) → (not x || y) ≡ true → x ≡ true → y ≡ true
or_true true y h e = h
or_true false y h e = absurd cc

-- Bytes that end a word do so whatever comes behind the front of them, unless the front is the slash of
-- a comment.
pub ends_kept : (x : ℕ) (r more : List ℕ) → ends_word ((x ∷ r) ++ more) ≡ true →
    ((z : List ℕ) → ends_word ((x ∷ r) ++ z) ≡ true) ⊎ ((r ≡ []) × (x ≡ 47))
ends_kept x (y ∷ r) more h = inl (λ z. h)
ends_kept x [] more h = by_class (is_word_class (class_of x)) refl
  where
    by_more : (m : List ℕ) → opens_comment (x ∷ m) ≡ true → x ≡ 47
    by_more [] e = absurd cc
    by_more (c ∷ m) e = let i = and_true (x == 47) (c == 42) e in grind (arith, nat_tests, i)

    by_class : (q : Bool) → is_word_class (class_of x) ≡ q → ((z : List ℕ) → ends_word (x ∷ z) ≡ true)
        ⊎ ((◌≡◌ {A = List ℕ} [] []) × (x ≡ 47))
    by_class true e = inr (refl, by_more more (or_true (is_word_class (class_of x)) (opens_comment (x ∷ more)) h e))
    by_class false e = inl (λ z. rw e refl)
