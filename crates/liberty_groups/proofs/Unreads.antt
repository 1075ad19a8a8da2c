-- The next token of those that are not read yet, and the others, with their bytes.
use Rattle.std.proofs.Common.{◌≡◌, ℕ, ◌≤◌, ◌==◌, false, List, [], ◌∷◌, length, slice_range, Option, None, Some, refl, sym, ap, subst}
use Rattle.std.proofs.Common.{◌∙◌, ◌+◌, ◌-◌, take, drop, arith}
use Rattle.std.proofs.lemmas.List.{drop-take, drop-drop, take-take, length-take-le, length-drop}
use Rattle.std.proofs.Math.Seq.{take-length}
use Rattle.std.proofs.lemmas.Bool.Decides.{nat_tests}
use Rattle.liberty_text.specs.declared.token.Token.{Token}
use Rattle.liberty_text.specs.Unread.{first, others}
use Rattle.liberty_groups.specs.Lexeme.{behind, lexemes_behind, LieInside, next_token, next_bytes, rest}
use Rattle.liberty_groups.specs.Answer.{is_last}

abbrev one_behind : ℕ → Option Token → Option Token
one_behind before None = None
one_behind before (Some t) = Some (behind before t)

next_behind : (before : ℕ) (text : List ℕ) (ts : List Token)
    → next_token (lexemes_behind before text ts) ≡ one_behind before (first ts)
next_behind before text [] = refl
next_behind before text (t ∷ ts) = refl

pub next_is : (before : ℕ) (text : List ℕ) (ts : List Token) (o : Option Token) → o ≡ first ts
    → one_behind before o ≡ next_token (lexemes_behind before text ts)
next_is before text ts o e = ap (one_behind before) e ∙ sym (next_behind before text ts)

abbrev bytes_of : List ℕ → Option Token → List ℕ
bytes_of text None = []
bytes_of text (Some t) = slice_range text t.at t.end

bytes_first : (before : ℕ) (text : List ℕ) (ts : List Token)
    → next_bytes (lexemes_behind before text ts) ≡ bytes_of text (first ts)
bytes_first before text [] = refl
bytes_first before text (t ∷ ts) = refl

pub bytes_are : (before : ℕ) (text : List ℕ) (ts : List Token) (o : Option Token) → o ≡ first ts
    → bytes_of text o ≡ next_bytes (lexemes_behind before text ts)
bytes_are before text ts o e = ap (bytes_of text) e ∙ sym (bytes_first before text ts)

pub first_inside : (text : List ℕ) (ts : List Token) (t : Token) → LieInside text ts → Some t ≡ first ts
    → (t.at ≤ t.end) × (t.end ≤ length text)
first_inside text [] t h e = absurd cc
first_inside text (u ∷ ts) t h e = rw (same e) (h.0, h.1)
  where
    same : {x y : Token} → Some x ≡ Some y → x ≡ y
    same e = cc

pub one_is_last : (before : ℕ) (text : List ℕ) (ts : List Token) → (length ts == 1) ≡ is_last (lexemes_behind before text ts)
one_is_last before text [] = refl
one_is_last before text (t ∷ []) = refl
one_is_last before text (t ∷ u ∷ ts) = let e : (length (t ∷ u ∷ ts) == 1) ≡ false = grind (arith, nat_tests) in e

pub others_are : (before : ℕ) (text : List ℕ) (ts us : List Token) → us ≡ others ts
    → lexemes_behind before text us ≡ rest (lexemes_behind before text ts)
others_are before text [] us e = ap (lexemes_behind before text) e
others_are before text (t ∷ ts) us e = ap (lexemes_behind before text) e

pub others_inside : (text : List ℕ) (ts us : List Token) → us ≡ others ts → LieInside text ts → LieInside text us
others_inside text [] us e h = subst (λ (l : List Token). LieInside text l) (sym e) h
others_inside text (t ∷ ts) us e h = subst (λ (l : List Token). LieInside text l) (sym e) h.2

next_range : (before : ℕ) (text : List ℕ) (ts : List Token) (t : Token) → Some t ≡ first ts
    → next_bytes (lexemes_behind before text ts) ≡ slice_range text t.at t.end
next_range before text ts t e = bytes_first before text ts ∙ ap (bytes_of text) (sym e)

-- what ends inside a range of a text ends inside the text
range_end : (text : List ℕ) (at end to : ℕ) → at ≤ end → end ≤ length text → to ≤ length (slice_range text at end) → to ≤ end - at
range_end text at end to le inside within =
    omega (arith, within, length-take-le (end - at) (drop at text) (omega (arith, inside, length-drop at text)))

pub part_inside : (before : ℕ) (text : List ℕ) (ts : List Token) (t : Token) (to : ℕ) → LieInside text ts → Some t ≡ first ts
    → to ≤ length (next_bytes (lexemes_behind before text ts)) → t.at + to ≤ length text
part_inside before text ts t to h e within =
    let i = first_inside text ts t h e in
    let w = range_end text t.at t.end to i.0 i.1 (subst (λ (l : List ℕ). to ≤ length l) (next_range before text ts t e) within) in
    omega (arith, w, i.0, i.1)

range_within : (text : List ℕ) (at end from to : ℕ) → from ≤ to → to ≤ end - at
    → slice_range text (at + from) (at + to) ≡ slice_range (slice_range text at end) from to
range_within text at end from to ordered within =
    ap (λ n. take n (drop (at + from) text)) {x = at + to - (at + from)} {y = to - from} (omega arith)
    ∙ sym (take-take (to - from) (end - at - from) (drop (at + from) text) (omega arith))
    ∙ ap (take (to - from)) (sym behind)
  where
    behind : drop from (take (end - at) (drop at text)) ≡ take (end - at - from) (drop (at + from) text)
    behind = ap (λ n. drop from (take n (drop at text))) {x = end - at} {y = from + (end - at - from)} (omega arith)
        ∙ drop-take from (end - at - from) (drop at text)
        ∙ ap (take (end - at - from)) (drop-drop from at text)

pub part_is : (before : ℕ) (text : List ℕ) (ts : List Token) (t : Token) (from to : ℕ) → LieInside text ts → Some t ≡ first ts
    → from ≤ to → to ≤ length (next_bytes (lexemes_behind before text ts))
    → slice_range text (t.at + from) (t.at + to) ≡ slice_range (next_bytes (lexemes_behind before text ts)) from to
part_is before text ts t from to h e ordered within =
    let i = first_inside text ts t h e in
    let b = next_range before text ts t e in
    let w = range_end text t.at t.end to i.0 i.1 (subst (λ (l : List ℕ). to ≤ length l) b within) in
    range_within text t.at t.end from to ordered w ∙ ap (λ l. slice_range l from to) (sym b)

pub whole_range : (bytes : List ℕ) (n : ℕ) → n ≡ length bytes → slice_range bytes 0 n ≡ bytes
whole_range bytes n e = ap (λ k. take k bytes) {x = n - 0} {y = length bytes} (omega (arith, e)) ∙ take-length bytes
