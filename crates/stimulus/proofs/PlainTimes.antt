-- A time at the head of a text, read digit by digit.
use Rattle.std.proofs.Common.{◌≡◌, ℕ, zero, suc, ◌+◌, ◌-◌, ◌*◌, ◌^◌, ◌<◌, ◌≤◌, ◌==◌, Bool, true, false, nat_le, nat_lt, ◌||◌}
use Rattle.std.proofs.Common.{if◌then◌else◌, List, [], ◌∷◌, ◌++◌}
use Rattle.std.proofs.Common.{length, take, drop, get_or, Some, None, refl, sym, ap, subst, ◌∙◌, arith, add-one}
use Rattle.std.specs.Prelude.{All}
use Rattle.std.proofs.lemmas.Bool.Decides.{nat_tests}
use Rattle.std.proofs.lemmas.List.{length-take-le, take_more}
use Rattle.std.proofs.lemmas.List.Elements.{All-cons, All-nil, All-append, All-get_or}
use Rattle.stimulus.specs.NextLine.{IsTimeAhead}
use Rattle.stimulus.specs.Times.{is_digit, digits_after, time_of}
use Rattle.stimulus.specs.Written.{is_comment}
use Rattle.stimulus.proofs.PlainLines.{each, word_ends}

abbrev pub IsDigit : ℕ → Type 0
IsDigit byte = is_digit byte ≡ true

digit_solid : (byte : ℕ) → is_digit byte ≡ true → nat_le byte 32 ≡ false
digit_solid byte d = grind (arith, nat_tests, d)

no_hash : (byte : ℕ) → is_digit byte ≡ true → (byte == 35) ≡ false
no_hash byte d = grind (arith, nat_tests, d)

-- one digit more

digit_step :
    (n : ℕ) (xs : List ℕ) (b t : ℕ) (q : Bool)
    → (digits_after n xs ≡ Some t → digits_after n (xs ++ b ∷ []) ≡ Some (10 * t + (b - 48)))
    → (if q then digits_after n xs else None) ≡ Some t
    → (if q then digits_after n (xs ++ b ∷ []) else None) ≡ Some (10 * t + (b - 48))
digit_step n xs b t true more e = more e
digit_step n xs b t false more e = absurd (no_none t e)
  where
    no_none : (t : ℕ) → None ≡ Some t → ⊥
    no_none t e = cc

digits_more :
    (n : ℕ) (xs : List ℕ) (b t : ℕ) → is_digit b ≡ true → digits_after n xs ≡ Some t
    → digits_after n (xs ++ b ∷ []) ≡ Some (10 * t + (b - 48))
digits_more n [] b t d e =
    let same : n ≡ t = cc in
    λ i. if (d i) then Some (10 * same i + (b - 48)) else None
digits_more n (x ∷ xs) b t d e =
    digit_step (10 * n + (x - 48)) xs b t (is_digit x) (digits_more (10 * n + (x - 48)) xs b t d) e

pub time_more :
    (text : List ℕ) (end byte time next : ℕ)
    → end < length text → byte ≡ get_or text end 0 → is_digit byte ≡ true → digits_after 0 (take end text) ≡ Some time
    → next ≡ 10 * time + (byte - 48) → digits_after 0 (take (end + 1) text) ≡ Some next
time_more text end byte time next inside is d e n =
    ap (digits_after 0) (take_more text end 0 inside ∙ ap (λ b. take end text ++ b ∷ []) (sym is))
    ∙ digits_more 0 (take end text) byte time d e ∙ ap Some (sym n)

pub all_more :
    (text : List ℕ) (end byte : ℕ)
    → end < length text → byte ≡ get_or text end 0 → is_digit byte ≡ true → All IsDigit (take end text)
    → All IsDigit (take (end + 1) text)
all_more text end byte inside is d all =
    subst (All IsDigit) (sym (take_more text end 0 inside))
    (All-append IsDigit (take end text) (get_or text end 0 ∷ []) all (All-cons IsDigit (get_or text end 0) [] (ap is_digit (sym is) ∙ d) (All-nil IsDigit)))

pub below_more : (time places digit : ℕ) → time < 10 ^ places → digit ≤ 9 → 10 * time + digit < 10 ^ (places + 1)
below_more time places digit h d = rw add-one (omega (arith, h, d))

-- the digits end at a space

starts_plain : (text : List ℕ) (end : ℕ) → 0 < end → end < length text → All IsDigit (take end text) → is_comment text ≡ false
starts_plain [] end some inside all = refl
starts_plain (x ∷ xs) zero some inside all = absurd (omega (arith, some))
starts_plain (x ∷ xs) (suc end) some inside all = no_hash x (All-get_or IsDigit (x ∷ take end xs) 0 0 (omega arith) all)

timed : (word : List ℕ) (time : ℕ) → 0 < length word → length word ≤ 15 → digits_after 0 word ≡ Some time → time_of word ≡ Some time
timed word time some short e =
    let none : (length word == 0) ≡ false = grind (arith, nat_tests, some) in
    let long : nat_lt 15 (length word) ≡ false = grind (arith, nat_tests, short) in
    (λ i. if (none i || long i) then None else digits_after 0 word) ∙ e

pub time_is :
    (text : List ℕ) (end time : ℕ)
    → end < length text → 0 < end → end ≤ 15 → get_or text end 0 ≡ 32
    → All IsDigit (take end text) → digits_after 0 (take end text) ≡ Some time
    → IsTimeAhead text time (drop (end + 1) text)
time_is text end time inside some short space all e =
    let long : length (take end text) ≡ end = length-take-le end text (omega (arith, inside)) in
    record {
      word = take end text;
      ahead = word_ends text end inside some (each IsDigit (λ byte. nat_le byte 32 ≡ false) digit_solid (take end text) all) space;
      is = timed (take end text) time (omega (arith, long, some)) (omega (arith, long, short)) e;
      says = starts_plain text end some inside all;
    }
