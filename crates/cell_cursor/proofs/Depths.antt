-- Braces of tokens one after another.
use Rattle.std.proofs.Common.{◌≡◌, ℕ, ◌+◌, ◌-◌, ◌==◌, ◌&&◌, ◌||◌, Bool, true, false, cond, List, [], ◌∷◌, ◌++◌, refl, sym, ap}
use Rattle.std.proofs.Common.{subst, ◌∙◌, arith}
use Rattle.std.proofs.lemmas.Bool.Decides.{nat_tests}
use Rattle.std.proofs.Math.Bool.{or-false as or_false}
use Rattle.liberty_text.specs.declared.token.Token.{Token}
use Rattle.liberty_text.specs.declared.token.TokenKind.{TokenKind}
use Rattle.liberty_text.specs.declared.token.TokenKind.TheVariants.{Word, Brace}
use Rattle.liberty_groups.specs.Lexeme.{Lexeme, lexemes_behind}
use Rattle.cell_cursor.specs.declared.part.Place.{Place}
use Rattle.cell_cursor.specs.declared.part.Place.TheVariants as place
use Rattle.cell_cursor.specs.Braces.{begins_group, ends_group, depth_behind, depth_after, is_outer, shows, has_outer}
use Rattle.cell_cursor.specs.Braces.{LastIsNotOuter, kinds_of, lexeme_kinds}

pub or_assoc : (x y z : Bool) → (x || (y || z)) ≡ ((x || y) || z)
or_assoc true y z = refl
or_assoc false y z = refl

pub left_false : (x y : Bool) → (x || y) ≡ false → x ≡ false
left_false true y e = e
left_false false y e = refl

pub right_false : (x y : Bool) → (x || y) ≡ false → y ≡ false
right_false true y e = absurd cc
right_false false y e = e

pub depth_append : (d : ℕ) (u v : List TokenKind) → depth_after d (u ++ v) ≡ depth_after (depth_after d u) v
depth_append d [] v = refl
depth_append d (k ∷ u) v = depth_append (depth_behind d k) u v

pub shows_append : (is : ℕ → TokenKind → Bool) (d : ℕ) (u v : List TokenKind)
    → shows is d (u ++ v) ≡ (shows is d u || shows is (depth_after d u) v)
shows_append is d [] v = refl
shows_append is d (k ∷ u) v = ap (λ (x : Bool). is d k || x) (shows_append is (depth_behind d k) u v)
    ∙ or_assoc (is d k) (shows is (depth_behind d k) u) (shows is (depth_after (depth_behind d k) u) v)

-- the first tokens, where others follow
pub front_shows : (is : ℕ → TokenKind → Bool) (d : ℕ) (m : List TokenKind) (y : TokenKind) (r front : List TokenKind)
    (last : TokenKind) →
    m ++ (y ∷ r) ≡ front ++ last ∷ [] → shows is d front ≡ false → shows is d m ≡ false
front_shows is d [] y r front last e h = refl
front_shows is d (k ∷ m) y r [] last e h = absurd (none_left m y r (ap tail_of e))
  where
    tail_of : List TokenKind → List TokenKind
    tail_of [] = []
    tail_of (x ∷ s) = s

    none_left : (m : List TokenKind) (y : TokenKind) (r : List TokenKind) → m ++ (y ∷ r) ≡ [] → ⊥
    none_left [] y r e = cc
    none_left (x ∷ m) y r e = cc
front_shows is d (k ∷ m) y r (j ∷ front) last e h =
    let same : k ≡ j = ap head_or e in
    let i : (is d k || shows is (depth_behind d k) front) ≡ false =
    subst (λ (x : TokenKind). (is d x || shows is (depth_behind d x) front) ≡ false) (sym same) h in
    let one : is d k ≡ false = left_false (is d k) (shows is (depth_behind d k) front) i in
    let all : shows is (depth_behind d k) m ≡ false =
    front_shows is (depth_behind d k) m y r front last (ap tail_of e)
    (right_false (is d k) (shows is (depth_behind d k) front) i) in
    ap (λ (x : Bool). x || shows is (depth_behind d k) m) one ∙ all
  where
    tail_of : List TokenKind → List TokenKind
    tail_of [] = []
    tail_of (x ∷ s) = s

    head_or : List TokenKind → TokenKind
    head_or [] = k
    head_or (x ∷ s) = x

pub kinds_append : (s t : List Token) → kinds_of (s ++ t) ≡ kinds_of s ++ kinds_of t
kinds_append [] t = refl
kinds_append (x ∷ s) t = ap (λ (l : List TokenKind). x.kind ∷ l) (kinds_append s t)

pub lexeme_kinds_append : (s t : List Lexeme) → lexeme_kinds (s ++ t) ≡ lexeme_kinds s ++ lexeme_kinds t
lexeme_kinds_append [] t = refl
lexeme_kinds_append (x ∷ s) t = ap (λ (l : List TokenKind). x.token.kind ∷ l) (lexeme_kinds_append s t)

pub lexeme_kinds_behind : (n : ℕ) (text : List ℕ) (ts : List Token) → lexeme_kinds (lexemes_behind n text ts) ≡ kinds_of ts
lexeme_kinds_behind n text [] = refl
lexeme_kinds_behind n text (t ∷ ts) = ap (λ (l : List TokenKind). t.kind ∷ l) (lexeme_kinds_behind n text ts)

-- a token that is no brace of a group
abbrev pub IsPlain : TokenKind → Type 0
IsPlain k = (begins_group k ≡ false) × (ends_group k ≡ false)

pub plain_depth : (d : ℕ) (k : TokenKind) → IsPlain k → depth_behind d k ≡ d
plain_depth d k (b, e) = ap (λ (x : Bool). cond x (d + 1) (cond (ends_group k) (d - 1) d)) b
    ∙ ap (λ (x : Bool). cond x (d - 1) d) e

pub plain_outer : (here : Place) (d : ℕ) (k : TokenKind) → IsPlain k → is_outer here d k ≡ false
plain_outer place.Start d k (b, e) = b
plain_outer place.Inside d k (b, e) = ap (λ (x : Bool). x && (depth_behind d k == 0)) e
plain_outer place.Behind d k h = refl

pub word_plain : IsPlain Word
word_plain = (refl, refl)

differs : (byte a b : ℕ) → (byte == a) ≡ true → (a == b) ≡ false → (byte == b) ≡ false
differs byte a b e f = grind (arith, nat_tests, e, f)

pub brace_plain : (byte a : ℕ) → (byte == a) ≡ true → (a == 123) ≡ false → (a == 125) ≡ false → IsPlain (Brace byte)
brace_plain byte a e f g = (differs byte a 123 e f, differs byte a 125 e g)

pub begin_depth : (d : ℕ) (k : TokenKind) → begins_group k ≡ true → depth_behind d k ≡ d + 1
begin_depth d k b = ap (λ (x : Bool). cond x (d + 1) (cond (ends_group k) (d - 1) d)) b

pub end_begins : (k : TokenKind) → ends_group k ≡ true → begins_group k ≡ false
end_begins (Brace byte) e = differs byte 125 123 e refl
end_begins _ e = absurd cc

pub begin_ends : (k : TokenKind) → begins_group k ≡ true → ends_group k ≡ false
begin_ends (Brace byte) e = differs byte 123 125 e refl
begin_ends _ e = absurd cc

pub end_depth : (d : ℕ) (k : TokenKind) → ends_group k ≡ true → depth_behind (d + 1) k ≡ d
end_depth d k e =
    let less : d + 1 - 1 ≡ d = omega arith in
    ap (λ (x : Bool). cond x (d + 1 + 1) (cond (ends_group k) (d + 1 - 1) (d + 1))) (end_begins k e)
    ∙ ap (λ (x : Bool). cond x (d + 1 - 1) (d + 1)) e ∙ less

-- a Word behind others changes nothing
pub word_last : (here : Place) (d : ℕ) (u : List TokenKind) → shows (is_outer here) d (u ++ Word ∷ []) ≡ shows (is_outer here) d u
word_last here d u =
    shows_append (is_outer here) d u (Word ∷ [])
    ∙ ap (λ (x : Bool). shows (is_outer here) d u || (x || false)) (plain_outer here (depth_after d u) Word word_plain)
    ∙ or_false (shows (is_outer here) d u)

-- where the last token is a Word
pub word_is_not_outer : (here : Place) (kinds u : List TokenKind) → kinds ≡ u ++ Word ∷ [] → LastIsNotOuter here kinds
word_is_not_outer here kinds u e front last f h =
    let k : shows (is_outer here) 0 u ≡ false = front_shows (is_outer here) 0 u Word [] front last (sym e ∙ f) h in
    ap (shows (is_outer here) 0) e ∙ word_last here 0 u ∙ k

pub none_is_not_outer : (here : Place) (kinds : List TokenKind) → has_outer here kinds ≡ false → LastIsNotOuter here kinds
none_is_not_outer here kinds h front last f g = h
