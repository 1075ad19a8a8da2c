-- One more turn of the loop over the bits of a vector.
use Rattle.std.proofs.Common.{◌≡◌, ℕ, zero, suc, ◌+◌, ◌-◌, ◌<◌, ◌≤◌, List, [], ◌∷◌, ◌++◌, refl, sym, ap, ◌∙◌, arith, append_assoc}
use Rattle.bus_texts.specs.Numbers.{next_bit, bits_towards}

bits_turn : (to count turn bit : ℕ) → turn < count
    → bits_towards to (count - turn) bit ≡ bit ∷ bits_towards to (count - (turn + 1)) (next_bit to bit)
bits_turn to count turn bit within = let more : count - turn ≡ suc (count - (turn + 1)) = omega arith in rw more refl

-- one more bit
pub bits_step :
    (to count turn bit next : ℕ) (before after all : List ℕ)
    → turn < count → after ≡ before ++ bit ∷ [] → next ≡ next_bit to bit → before ++ bits_towards to (count - turn) bit ≡ all
    → after ++ bits_towards to (count - (turn + 1)) next ≡ all
bits_step to count turn bit next before after all within a n done =
    ap (λ (bs : List ℕ). bs ++ bits_towards to (count - (turn + 1)) next) a
    ∙ (append_assoc before (bit ∷ []) (bits_towards to (count - (turn + 1)) next)
    ∙ (ap (λ (k : ℕ). before ++ bit ∷ bits_towards to (count - (turn + 1)) k) n
    ∙ (ap (λ (bs : List ℕ). before ++ bs) (sym (bits_turn to count turn bit within)) ∙ done)))

pub bits_end : (to count turn bit : ℕ) → count ≤ turn → bits_towards to (count - turn) bit ≡ []
bits_end to count turn bit over = let none : count - turn ≡ zero = omega arith in rw none refl
