-- The places of the tokens of a text ascend.
use Rattle.std.proofs.Common.{◌≡◌, ◌≤◌, ◌<◌, ℕ, zero, suc, ◌+◌, Bool, true, false, ◌==◌, if◌then◌else◌, List, [], ◌∷◌, take}
use Rattle.std.proofs.Common.{length, Option, Some, None, refl, subst, arith, eqb-true}
use Rattle.std.proofs.lemmas.Bool.{eqb-false}
use Rattle.lexer.specs.Tokens.{Token, Lexis, at_front, scan, scan_of}
use Rattle.lexer.specs.Places.{place_from}

-- offsets ascend: from the first number on, and the last is below the second
abbrev pub Ascend : ℕ → List Token → ℕ → Type 0
Ascend low [] top = low ≤ top
Ascend low (t ∷ ts) top = (low ≤ t.at) × Ascend (suc t.at) ts top

pub ascend_from : (low high top : ℕ) (ts : List Token) → low ≤ high → Ascend high ts top → Ascend low ts top
ascend_from low high top [] h i = omega arith
ascend_from low high top (t ∷ ts) h (i, j) = (omega arith, j)

-- where the tokens end: the lexical fault, or the end of the bytes
abbrev pub stop_of : ℕ → Option ℕ → ℕ
stop_of end None = end
stop_of end (Some at) = at

-- what was scanned of bytes from one offset to another: tokens in between, up to where they end
abbrev pub Ordered : ℕ → ℕ → List Token × Option ℕ → Type 0
Ordered low end found = Ascend low found.0 (stop_of end found.1)

ascend_below : (low top : ℕ) (ts : List Token) → Ascend low ts top → low ≤ top
ascend_below low top [] a = a
ascend_below low top (t ∷ ts) (a, b) = let c = ascend_below (suc t.at) top ts b in omega arith

fewer_left : (n k : ℕ) → k ≤ suc n → (suc n ≡ k → ⊥) → k ≤ n
fewer_left n k h d = omega arith

-- the place of a token lies between the ends
abbrev pub Lies : ℕ → ℕ → ℕ → Type 0
Lies low top place = (low ≤ place) × (place < top)

here_or_later : (low top at later n left : ℕ) (is : Bool) → (suc n == left) ≡ is → low ≤ at → suc at ≤ top → left ≤ suc n
    → (left ≤ n → Lies (suc at) top later) →
    Lies low top (if is then at else later)
here_or_later low top at later n left true e a b h next = (a, omega arith)
here_or_later low top at later n left false e a b h next =
    let c = next (fewer_left n left h (λ d. eqb-false (suc n) left e d)) in (omega arith, c.1)

pub place_within : (len low top : ℕ) (ts : List Token) (left : ℕ) → Ascend low ts top → left ≤ length ts → 0 < left
    → Lies low top (place_from len ts left)
place_within len low top [] left a h i = absurd (omega arith)
place_within len low top (t ∷ ts) left (a, b) h i =
    here_or_later low top t.at (place_from len ts left) (length ts) left (length (t ∷ ts) == left) refl a
    (ascend_below (suc t.at) top ts b) h
    (λ k. place_within len (suc t.at) top ts left b k i)

here_before : (at later latest n left fewer : ℕ) (is was : Bool) → (suc n == left) ≡ is → (suc n == fewer) ≡ was → left ≤ suc n
    → fewer < left →
    (fewer ≤ n → at < latest) → (left ≤ n → later < latest) → (if is then at else later) < (if was then at else latest)
here_before at later latest n left fewer is true e f h j first next = let d = eqb-true (suc n) fewer f in absurd (omega arith)
here_before at later latest n left fewer true false e f h j first next = first (omega arith)
here_before at later latest n left fewer false false e f h j first next =
    next (fewer_left n left h (λ d. eqb-false (suc n) left e d))

-- with fewer tokens left a place is later
pub place_later : (len low top : ℕ) (ts : List Token) (left fewer : ℕ) → Ascend low ts top → left ≤ length ts → 0 < fewer
    → fewer < left →
    place_from len ts left < place_from len ts fewer
place_later len low top [] left fewer a h i j = absurd (omega arith)
place_later len low top (t ∷ ts) left fewer (a, b) h i j =
    here_before t.at (place_from len ts left) (place_from len ts fewer) (length ts) left fewer (length (t ∷ ts) == left)
    (length (t ∷ ts) == fewer) refl refl h j
    (λ k. let c = place_within len (suc t.at) top ts fewer b k i in omega arith)
    (λ k. place_later len (suc t.at) top ts left fewer b k i j)

module _ (l : Lexis) where
  front_ordered : (flag : Bool) (at : ℕ) (bytes : List ℕ) (rest : Bool → ℕ → List Token × Option ℕ) (s t end : ℕ) → suc at ≤ end →
      ((b : Bool) (n : ℕ) → Ordered (suc at) end (rest b n)) → Ordered at end (at_front l flag at bytes rest s t)
  front_ordered flag at bytes rest zero zero end h all = omega arith
  front_ordered flag at bytes rest zero (suc n) end h all = (omega arith, all (l.flag_after flag (take (suc n) bytes)) n)
  front_ordered flag at bytes rest (suc n) t end h all =
      ascend_from at (suc at) (stop_of end (rest flag n).1) (rest flag n).0 (omega arith) (all flag n)

  scan_ordered : (flag : Bool) (at n end : ℕ) (bytes : List ℕ) → at + length bytes ≡ end → Ordered at end (scan l flag at n bytes)
  scan_ordered flag at n end [] e = omega arith
  scan_ordered flag at (suc n) end (b ∷ bs) e =
      ascend_from at (at + 1) (stop_of end (scan l flag (at + 1) n bs).1) (scan l flag (at + 1) n bs).0 (omega arith)
      (scan_ordered flag (at + 1) n end bs (omega arith))
  scan_ordered flag at zero end (b ∷ bs) e =
      front_ordered flag at (b ∷ bs) (λ set n. scan l set (at + 1) n bs) (l.separator_length (b ∷ bs))
      (l.token_length flag (b ∷ bs)) end (omega arith)
      (λ set n. subst (λ (low : ℕ). Ordered low end (scan l set (at + 1) n bs)) (omega arith)
      (scan_ordered set (at + 1) n end bs (omega arith)))

  -- the tokens of a text ascend up to where they end
  pub text_ordered : (bytes : List ℕ) → Ordered 0 (length bytes) (scan_of l bytes)
  text_ordered bytes = scan_ordered false 0 0 (length bytes) bytes (omega arith)
