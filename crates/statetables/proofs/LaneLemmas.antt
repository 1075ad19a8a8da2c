-- Values at 64 points at once.
use Rattle.std.proofs.Common.{◌≡◌, ◌≢◌, ℕ, zero, suc, ◌+◌, ◌%◌, ◌<◌, min, max, Bool, true, false, not, ◌&&◌, ◌||◌, cond, nat_eq}
use Rattle.std.proofs.Common.{bit_and, List, [], ◌∷◌, length, drop, get_or, Option, Some, None, refl, sym, ap, ◌∙◌, arith}
use Rattle.std.specs.Prelude.{bit_or, bit_xor}
use Rattle.std.specs.Int.{bit_at}
use Rattle.std.proofs.lemmas.Nat.Bits.{bit_at_and, bit_at_or, bit_at_xor, bit_at_ones, bit_at-zero, bit_at-lt}
use Rattle.std.proofs.lemmas.List.{length-map, drop_more}
use Rattle.std.specs.Option.{option_and_then}
pub use Rattle.std.proofs.Math.Bool.{and_assoc, and-false as and_false}
use Rattle.statetables.specs.declared.symbols.InSymbol.{InSymbol}
use Rattle.statetables.specs.declared.lanes.InputWords.{InputWords}
use Rattle.statetables.specs.declared.lanes.StepWords.{StepWords}
use Rattle.statetables.specs.Symbols.{matches_in}
use Rattle.statetables.specs.declared.table.TableRow.{TableRow}
use Rattle.statetables.specs.Step.{inputs_match, row_matches, row_gives, row_of}
use Rattle.statetables.specs.Lanes.{lane, before_at, after_at, found_at}

-- two bits go together as the truth values that they stand for, where 0 and 1 do
on_bits :
    (f : ℕ → ℕ → ℕ) (g : Bool → Bool → Bool)
    → nat_eq (f 0 0) 1 ≡ g false false → nat_eq (f 0 1) 1 ≡ g false true
    → nat_eq (f 1 0) 1 ≡ g true false → nat_eq (f 1 1) 1 ≡ g true true
    → (x y : ℕ) → x < 2 → y < 2 → nat_eq (f x y) 1 ≡ g (nat_eq x 1) (nat_eq y 1)
on_bits f g none second first both zero zero l m = none
on_bits f g none second first both zero (suc zero) l m = second
on_bits f g none second first both (suc zero) zero l m = first
on_bits f g none second first both (suc zero) (suc zero) l m = both
on_bits f g none second first both (suc (suc x)) y l m = absurd (omega (arith, l))
on_bits f g none second first both zero (suc (suc y)) l m = absurd (omega (arith, m))
on_bits f g none second first both (suc zero) (suc (suc y)) l m = absurd (omega (arith, m))

-- the same of the bits of two words
on_words :
    (f : ℕ → ℕ → ℕ) (g : Bool → Bool → Bool)
    → nat_eq (f 0 0) 1 ≡ g false false → nat_eq (f 0 1) 1 ≡ g false true
    → nat_eq (f 1 0) 1 ≡ g true false → nat_eq (f 1 1) 1 ≡ g true true
    → (a b k : ℕ) → nat_eq (f (bit_at a k) (bit_at b k)) 1 ≡ g (lane k a) (lane k b)
unfolding lane
on_words f g none second first both a b k =
    on_bits f g none second first both (bit_at a k) (bit_at b k) (bit_at-lt a k) (bit_at-lt b k)

pub lane_both : (a b k : ℕ) → lane k (bit_and a b) ≡ (lane k a && lane k b)
unfolding lane
lane_both a b k =
    ap (λ x. nat_eq x 1) (bit_at_and a b k) ∙ on_words (λ x y. min x y) (λ x y. x && y) refl refl refl refl a b k

pub lane_either : (a b k : ℕ) → lane k (bit_or a b) ≡ (lane k a || lane k b)
unfolding lane
lane_either a b k =
    ap (λ x. nat_eq x 1) (bit_at_or a b k) ∙ on_words (λ x y. max x y) (λ x y. x || y) refl refl refl refl a b k

pub lane_less : (a b k : ℕ) → lane k (bit_xor a (bit_and a b)) ≡ (lane k a && not (lane k b))
unfolding lane
lane_less a b k =
    ap (λ x. nat_eq x 1) (bit_at_xor a (bit_and a b) k ∙ ap (λ x. (bit_at a k + x) % 2) (bit_at_and a b k))
    ∙ on_words (λ x y. (x + min x y) % 2) (λ x y. x && not y) refl refl refl refl a b k

pub lane_none : (k : ℕ) → lane k 0 ≡ false
unfolding lane
lane_none k = ap (λ x. nat_eq x 1) (bit_at-zero k)

pub lane_all : (k : ℕ) → k < 64 → lane k 18446744073709551615 ≡ true
unfolding lane
lane_all k h = ap (λ x. nat_eq x 1) (bit_at_ones 64 k h)

-- no point is left: none matches
pub none_left : (k points : ℕ) (p m : Bool) → lane k points ≡ (p && m) → points ≡ 0 → (rest : Bool)
    → lane k 0 ≡ (p && (m && rest))
none_left k points p m is none rest =
    lane_none k ∙ ap (λ b. b && rest) (sym (lane_none k) ∙ ap (lane k) (sym none) ∙ is) ∙ and_assoc p m rest

-- columns of another number do not match
pub inputs_match-unequal :
    (symbols : List InSymbol) (before after : List Bool)
    → length symbols ≢ length before → inputs_match symbols before after ≡ false
inputs_match-unequal [] [] after h = absurd (h refl)
inputs_match-unequal [] (b ∷ before) after h = refl
inputs_match-unequal (x ∷ symbols) [] [] h = refl
inputs_match-unequal (x ∷ symbols) [] (a ∷ after) h = refl
inputs_match-unequal (x ∷ symbols) (b ∷ before) [] h = refl
inputs_match-unequal (x ∷ symbols) (b ∷ before) (a ∷ after) h =
    ap (λ m. matches_in x b a && m) (inputs_match-unequal symbols before after (λ e. h (ap suc e)))
    ∙ and_false (matches_in x b a)

pub unequal_columns :
    (k points : ℕ) (symbols : List InSymbol) (inputs : List InputWords) → length symbols ≢ length inputs
    → lane k 0 ≡ (lane k points && inputs_match symbols (before_at k inputs) (after_at k inputs))
unequal_columns k points symbols inputs h =
    lane_none k
    ∙ sym (ap (λ m. lane k points && m)
    (inputs_match-unequal symbols (before_at k inputs) (after_at k inputs)
    (λ e. h (e ∙ length-map {A = InputWords} {B = Bool} inputs (λ (words : InputWords). lane k words.before))))
    ∙ and_false (lane k points))

-- what is found with one more row
abbrev pub found : Bool → Bool → Bool → Option Bool → Option Bool
found u s z later = cond u later (cond s (Some true) (cond z (Some false) None))

-- a row that matches none of the u points adds nothing
pub none_found :
    (u s z m : Bool) (g later : Option Bool) → (u && m) ≡ false
    → found u s z later ≡ found u s z (cond m g later)
none_found false s z m g later h = refl
none_found true s z true g later h = absurd cc
none_found true s z false g later h = refl

-- where no point is undecided nothing more is found
pub all_found : (k : ℕ) (words : StepWords) (later : Option Bool) → words.undecided ≡ 0
    → found_at k words None ≡ found_at k words later
all_found k words later none =
    let found : lane k words.undecided ≡ false = ap (lane k) none ∙ lane_none k in
    rw found refl

choose : {A : Type 0} (b : Bool) (f : A → Option Bool) (x : A) (rest : Option A)
    → cond b (f x) (option_and_then f rest) ≡ option_and_then f (cond b (Some x) rest)
choose true f x rest = refl
choose false f x rest = refl

-- the first row of those from here on
pub row_turn :
    (node : ℕ) (before after : List Bool) (state : Bool) (rows : List TableRow) (i : ℕ) (row : TableRow)
    → i < length rows → row ≡ get_or rows i row
    → cond (row_matches node before after state row) (row_gives node state row)
    (option_and_then (row_gives node state) (row_of (drop (i + 1) rows) node before after state))
    ≡ option_and_then (row_gives node state) (row_of (drop i rows) node before after state)
row_turn node before after state rows i row within is =
    let e : drop i rows ≡ row ∷ drop (i + 1) rows = drop_more rows i row within ∙ ap (λ r. r ∷ drop (i + 1) rows) (sym is) in
    rw e
    (choose (row_matches node before after state row) (row_gives node state) row
    (row_of (drop (i + 1) rows) node before after state))
