-- Entries of tables that are digits, a point and digits.
use Rattle.std.proofs.Common.{◌≡◌, ℕ, ◌+◌, ◌-◌, ◌*◌, ◌<◌, ◌≤◌, ◌++◌, suc, Bool, true, false, List, [], ◌∷◌, Some, length}
use Rattle.std.proofs.Common.{take, drop, Ok, Err, Option, None, ◌==◌, ◌||◌, subst, refl, sym, ◌∙◌, ap, arith, cond}
use Rattle.std.specs.Prelude.{max, ◌^◌, ◌&&◌, nat_lt, nat_le, pos, ◌-ℤ◌}
use Rattle.std.proofs.lemmas.Bool.{true≢false, and_parts, eqb-true}
use Rattle.std.proofs.Math.Nat.{pow-suc, pow-le-pow_right}
use Rattle.std.proofs.lemmas.Bool.Decides.{nat_tests}
use Rattle.std.proofs.lemmas.List.{take-append-drop, append-nil, length-append, length-take-le}
use Rattle.liberty_text.specs.declared.decimal.Fixed.{Fixed}
use Rattle.liberty_text.specs.declared.decimal.NumberFault.TheVariants.{TooManyDigits, TooLarge}
use Rattle.liberty_text.specs.declared.time.Unit.{Unit as TimeUnit}
use Rattle.liberty_text.specs.Number.{Written, IsNumber, is_digit, digit_run, digits_value, significant, fixed_written}
use Rattle.liberty_text.specs.Number.{fixed_found, fixed_of}
use Rattle.liberty_text.specs.Number as n
use Rattle.liberty_text.proofs.Spelling.{run_digits, number_complete}
use Rattle.timing_arcs.specs.declared.tables.Sum.{Sum}
use Rattle.liberty_text.specs.Time.{IsWithin}
use Rattle.timing_arcs.specs.Times.{time_as, time_of, time_in}
use Rattle.timing_arcs.specs.Tables.{is_separator}
use Rattle.timing_arcs.specs.Sums.{with_time, with_entry}
use Rattle.timing_arcs.specs.Words.{word_length, with_word, front_number}
use Rattle.timing_arcs.specs.PlainForm.{starts_at_point, is_plain_behind, is_plain}

-- the digits at the front, read one after another
pub front_is : (before : ℕ) (bs : List ℕ) → front_number before bs ≡ digits_value before (take (digit_run bs) bs)
front_is before [] = refl
front_is before (b ∷ bs) = by_test (front_is (before * 10 + (b - 48)) bs) (is_digit b)
  where
    by_test : front_number (before * 10 + (b - 48)) bs ≡ digits_value (before * 10 + (b - 48)) (take (digit_run bs) bs)
        → (q : Bool) → cond q (front_number (before * 10 + (b - 48)) bs) before
        ≡ digits_value before (take (cond q (1 + digit_run bs) 0) (b ∷ bs))
    by_test next true =
        let more : suc (digit_run bs) ≡ 1 + digit_run bs = omega arith in
        next ∙ ap (λ k. digits_value before (take k (b ∷ bs))) more
    by_test next false = refl

-- no digit is a separator
digit_joins : (b : ℕ) → is_digit b ≡ true → is_separator b ≡ false
digit_joins b e =
    let comma : (b == 44) ≡ false = grind (arith, nat_tests, e) in
    let space : (b == 32) ≡ false = grind (arith, nat_tests, e) in
    let tab : (b == 9) ≡ false = grind (arith, nat_tests, e) in
    let return_ : (b == 13) ≡ false = grind (arith, nat_tests, e) in
    let feed : (b == 10) ≡ false = grind (arith, nat_tests, e) in
    rw (comma, space, tab, return_, feed) refl

-- an entry goes on behind digits
word_run : (bs : List ℕ) → word_length is_separator bs ≡ digit_run bs + word_length is_separator (drop (digit_run bs) bs)
word_run [] = refl
word_run (b ∷ bs) = by_test (word_run bs) (is_digit b) refl
  where
    by_test : word_length is_separator bs ≡ digit_run bs + word_length is_separator (drop (digit_run bs) bs) → (q : Bool)
        → is_digit b ≡ q → word_length is_separator (b ∷ bs)
        ≡ cond q (1 + digit_run bs) 0 + word_length is_separator (drop (cond q (1 + digit_run bs) 0) (b ∷ bs))
    by_test next true e =
        let first : word_length is_separator (b ∷ bs) ≡ suc (word_length is_separator bs) =
        ap (λ q. cond q 0 (suc (word_length is_separator bs))) (digit_joins b e) in
        let more : suc (digit_run bs) ≡ 1 + digit_run bs = omega arith in
        let tail : word_length is_separator (drop (digit_run bs) bs)
        ≡ word_length is_separator (drop (1 + digit_run bs) (b ∷ bs)) =
        ap (λ k. word_length is_separator (drop k (b ∷ bs))) more in
        omega (arith, first, next, tail)
    by_test next false e = omega arith

-- What is seen at the front of a text: digits, a point and digits, behind which an entry ends.
pub record IsPlain (text fraction behind : List ℕ) (count places : ℕ) : Type 0 where
  pub count_is : count ≡ digit_run text
  pub within : count ≤ length text
  pub point : drop count text ≡ 46 ∷ fraction
  pub places_is : places ≡ digit_run fraction
  pub inside : places ≤ length fraction
  pub behind_is : behind ≡ drop places fraction
  pub ends : (word_length is_separator behind == 0) ≡ true

-- so many bytes has the entry
pub plain_length : (text fraction behind : List ℕ) (count places : ℕ) → IsPlain text fraction behind count places
    → count + places + 1 ≡ word_length is_separator text
plain_length text fraction behind count places k =
    let whole = word_run text in
    let point : drop (digit_run text) text ≡ 46 ∷ fraction = ap (λ m. drop m text) (sym k.count_is) ∙ k.point in
    let behind_point : word_length is_separator (drop (digit_run text) text) ≡ suc (word_length is_separator fraction) =
    ap (word_length is_separator) point in
    let part = word_run fraction in
    let last : word_length is_separator (drop (digit_run fraction) fraction) ≡ word_length is_separator behind =
    ap (word_length is_separator) (ap (λ m. drop m fraction) (sym k.places_is) ∙ sym k.behind_is) in
    let none : word_length is_separator behind ≡ 0 = grind (arith, nat_tests, k.ends) in
    omega (arith, whole, behind_point, part, last, none, k.count_is, k.places_is)

take_behind : (xs ys : List ℕ) (m : ℕ) → take (length xs + m) (xs ++ ys) ≡ xs ++ take m ys
take_behind [] ys m = let same : 0 + m ≡ m = omega arith in ap (λ k. take k ys) same
take_behind (x ∷ xs) ys m =
    let same : length (x ∷ xs) + m ≡ suc (length xs + m) = omega arith in
    ap (λ k. take k (x ∷ xs ++ ys)) same ∙ ap (λ l. x ∷ l) (take_behind xs ys m)

significant_within : (ds : List ℕ) → significant ds ≤ length ds
significant_within [] = omega arith
significant_within (d ∷ ds) = by_test (significant_within ds) (d == 48)
  where
    by_test : significant ds ≤ length ds → (q : Bool) → cond q (significant ds) (length (d ∷ ds)) ≤ length (d ∷ ds)
    by_test next true = omega (arith, next)
    by_test next false = omega arith

-- its bytes
entry_is : (text fraction behind : List ℕ) (count places : ℕ) → IsPlain text fraction behind count places
    → take (word_length is_separator text) text ≡ take count text ++ 46 ∷ take places fraction
entry_is text fraction behind count places k =
    let whole = take count text in
    let size : length whole ≡ count = length-take-le count text k.within in
    let long : word_length is_separator text ≡ length whole + suc places =
    let all = plain_length text fraction behind count places k in omega (arith, size, all) in
    let parts : text ≡ whole ++ 46 ∷ fraction = sym (take-append-drop count text) ∙ ap (λ l. whole ++ l) k.point in
    ap (λ m. take m text) long ∙ ap (take (length whole + suc places)) parts ∙ take_behind whole (46 ∷ fraction) (suc places)

-- digits, a point and digits, not many, are a number
number_of_digits : (whole part : List ℕ) → n.AreDigits whole → n.AreDigits part → 0 < length whole + length part
    → length whole + length part ≤ 18
    → fixed_of (whole ++ 46 ∷ part) ≡ Ok (record {
      mantissa = pos (digits_value (digits_value 0 whole) part);
      exponent = pos 0 -ℤ pos (length part);
    })
number_of_digits whole part all more some few =
    let w : Written = record {
      negative = false;
      whole = whole;
      fraction = part;
      exponent_negative = false;
      exponent = [];
    } in
    let number : IsNumber (whole ++ 46 ∷ part) w = record {
      sign = [];
      sign_is = n.no_sign;
      dot = 46 ∷ [];
      dot_is = n.some_point;
      tail = [];
      tail_is = n.no_exponent;
      whole_is = all;
      fraction_is = more;
      some = some;
      text_is = ap (λ l. whole ++ 46 ∷ l) (sym (append-nil part));
    } in
    let size = length-append whole part in
    let within = significant_within (whole ++ part) in
    let short : nat_lt 18 (significant (whole ++ part)) ≡ false = grind (arith, nat_tests, size, within, few) in
    let places : nat_lt 30 (length part) ≡ false = grind (arith, nat_tests, few) in
    ap fixed_found (number_complete (whole ++ 46 ∷ part) w number)
    ∙ ap (λ q. cond q (Err TooManyDigits) (cond (false || nat_lt 30 (length part)) (Err TooLarge) (Ok (fixed_written w)))) short
    ∙ ap (λ q. cond q (Err TooLarge) (Ok (fixed_written w))) places

-- the number that the entry is
pub plain_number : (text fraction behind : List ℕ) (count places first number : ℕ)
    → IsPlain text fraction behind count places → first ≡ front_number 0 text → number ≡ front_number first fraction
    → 0 < count + places → count + places ≤ 18
    → fixed_of (take (word_length is_separator text) text)
    ≡ Ok (record { mantissa = pos number; exponent = pos 0 -ℤ pos places })
plain_number text fraction behind count places first number k f g some few =
    let whole = take count text in
    let part = take places fraction in
    let whole_size : length whole ≡ count = length-take-le count text k.within in
    let part_size : length part ≡ places = length-take-le places fraction k.inside in
    let whole_is : take (digit_run text) text ≡ whole = ap (λ m. take m text) (sym k.count_is) in
    let part_is : take (digit_run fraction) fraction ≡ part = ap (λ m. take m fraction) (sym k.places_is) in
    let value : number ≡ digits_value (digits_value 0 whole) part =
    g ∙ front_is first fraction ∙ ap (digits_value first) part_is
    ∙ ap (λ m. digits_value m part) (f ∙ front_is 0 text ∙ ap (digits_value 0) whole_is) in
    ap fixed_of (entry_is text fraction behind count places k)
    ∙ number_of_digits whole part (subst n.AreDigits whole_is (run_digits text)) (subst n.AreDigits part_is (run_digits fraction))
    (omega (arith, whole_size, part_size, some)) (omega (arith, whole_size, part_size, few))
    ∙ ap (λ m. Ok (record { mantissa = pos m; exponent = pos 0 -ℤ pos (length part) })) (sym value)
    ∙ ap (λ m. Ok (record { mantissa = pos number; exponent = pos 0 -ℤ pos m })) part_size

-- its time
pub time_in_is : (unit : Option TimeUnit) (text : List ℕ) (number : Fixed) → fixed_of text ≡ Ok number
    → time_in unit number ≡ time_of unit text
unfolding time_of
time_in_is None text number e = refl
time_in_is (Some unit) text number e = sym (ap (time_as unit) e)

-- an entry joins the sum

pub joined : (unit : Option TimeUnit) (at : ℕ) (sum after : Sum) (text : List ℕ) (size : ℕ) (time : Option ℕ)
    → size ≡ word_length is_separator text → size ≤ length text → (word_length is_separator text == 0) ≡ false
    → time ≡ time_of unit (take (word_length is_separator text) text) → after ≡ with_time at sum time
    → after ≡ with_word unit at sum (take (word_length is_separator text) text)
joined unit at sum after text size time e within some t a =
    let word = take (word_length is_separator text) text in
    let long : length word ≡ word_length is_separator text =
    length-take-le (word_length is_separator text) text (omega (arith, e, within)) in
    let has : (length word == 0) ≡ false = ap (λ n. n == 0) long ∙ some in
    a ∙ ap (with_time at sum) t ∙ sym (ap (λ q. cond q sum (with_entry unit at sum word)) has)

pub joined_number : (unit : Option TimeUnit) (at : ℕ) (sum after : Sum) (text : List ℕ) (size : ℕ) (number : Fixed)
    → size ≡ word_length is_separator text → size ≤ length text → (word_length is_separator text == 0) ≡ false
    → fixed_of (take (word_length is_separator text) text) ≡ Ok number → after ≡ with_time at sum (time_in unit number)
    → after ≡ with_word unit at sum (take (word_length is_separator text) text)
joined_number unit at sum after text size number e within some n a =
    joined unit at sum after text size (time_in unit number) e within some
    (time_in_is unit (take (word_length is_separator text) text) number n) a

-- a time that is not above the greatest leaves that as it is
pub not_above : (at : ℕ) (sum : Sum) (time : Option ℕ) → IsWithin sum.greatest time
    → record { has_entry = true; greatest = sum.greatest; bad_at = sum.bad_at } ≡ with_time at sum time
not_above at sum None h = absurd h
not_above at sum (Some time) h =
    let same : sum.greatest ≡ max sum.greatest time = omega (arith, h) in
    ap (λ (g : ℕ). record { has_entry = true; greatest = g; bad_at = sum.bad_at }) same

-- no entry leaves it as it is

pub none_there : (text : List ℕ) → (word_length is_separator text == 0) ≡ true → 0 ≡ word_length is_separator text
none_there text none = grind (arith, nat_tests, none)

pub passed : (unit : Option TimeUnit) (at : ℕ) (sum : Sum) (text : List ℕ) → (word_length is_separator text == 0) ≡ true
    → sum ≡ with_word unit at sum (take (word_length is_separator text) text)
passed unit at sum text none =
    let empty : take 0 text ≡ take (word_length is_separator text) text = ap (λ n. take n text) (none_there text none) in
    ap (with_word unit at sum) empty

-- which texts have the plain form
unless : (b : Bool) → (b ≡ true → ⊥) → b ≡ false
unless true f = absurd (f refl)
unless false f = refl

record PlainParts (whole : ℕ) (rest : List ℕ) : Type 0 where
  fraction : List ℕ
  point : rest ≡ 46 ∷ fraction
  ends : (word_length is_separator (drop (digit_run fraction) fraction) == 0) ≡ true
  some : 0 < whole + digit_run fraction
  few : whole + digit_run fraction ≤ 18

plain_parts : (whole : ℕ) (rest : List ℕ) → is_plain_behind whole rest ≡ true → PlainParts whole rest
plain_parts whole [] h = absurd cc
plain_parts whole (b ∷ fraction) h =
    let digits : ℕ = whole + digit_run fraction in
    let ending : Bool = word_length is_separator (drop (digit_run fraction) fraction) == 0 in
    let one = and_parts (b == 46) (ending && (nat_lt 0 digits && nat_le digits 18)) h in
    let two = and_parts ending (nat_lt 0 digits && nat_le digits 18) one.1 in
    let three = and_parts (nat_lt 0 digits) (nat_le digits 18) two.1 in
    record {
      fraction = fraction;
      point = ap (λ x. x ∷ fraction) (eqb-true b 46 one.0);
      ends = two.0;
      some = grind (arith, nat_tests, three.0);
      few = grind (arith, nat_tests, three.1);
    }

pub too_many : (text : List ℕ) → 18 < digit_run text → is_plain text ≡ false
too_many text h =
    unless (is_plain text) (λ p. let k = plain_parts (digit_run text) (drop (digit_run text) text) p in
    absurd (omega (arith, h, k.few)))

pub no_point : (text rest : List ℕ) (count : ℕ) → count ≡ digit_run text → rest ≡ drop count text
    → starts_at_point rest ≡ false → is_plain text ≡ false
no_point text rest count c r h =
    unless (is_plain text) (λ p. let k = plain_parts (digit_run text) (drop (digit_run text) text) p in
    let there : rest ≡ 46 ∷ k.fraction = r ∙ ap (λ m. drop m text) c ∙ k.point in
    true≢false (sym (ap starts_at_point there) ∙ h))

-- the digits behind the point
fraction_is : (text fraction : List ℕ) (count : ℕ) → count ≡ digit_run text → drop count text ≡ 46 ∷ fraction
    → (k : PlainParts (digit_run text) (drop (digit_run text) text)) → fraction ≡ k.fraction
fraction_is text fraction count c r k =
    let same : 46 ∷ fraction ≡ 46 ∷ k.fraction = sym r ∙ ap (λ m. drop m text) c ∙ k.point in ap (drop 1) same

pub too_many_behind : (text fraction : List ℕ) (count : ℕ) → count ≡ digit_run text → drop count text ≡ 46 ∷ fraction
    → 18 - count < digit_run fraction → is_plain text ≡ false
too_many_behind text fraction count c r h =
    unless (is_plain text) (λ p. let k = plain_parts (digit_run text) (drop (digit_run text) text) p in
    let run : digit_run fraction ≡ digit_run k.fraction = ap digit_run (fraction_is text fraction count c r k) in
    absurd (omega (arith, c, h, run, k.few)))

pub plain_is : (text fraction behind : List ℕ) (count places : ℕ) → IsPlain text fraction behind count places
    → 0 < count + places → count + places ≤ 18 → is_plain text ≡ true
plain_is text fraction behind count places k some few =
    let rest : drop (digit_run text) text ≡ 46 ∷ fraction = ap (λ m. drop m text) (sym k.count_is) ∙ k.point in
    let left : drop (digit_run fraction) fraction ≡ behind = ap (λ m. drop m fraction) (sym k.places_is) ∙ sym k.behind_is in
    let ends : (word_length is_separator (drop (digit_run fraction) fraction) == 0) ≡ true =
    ap (λ l. word_length is_separator l == 0) left ∙ k.ends in
    let one : nat_lt 0 (digit_run text + digit_run fraction) ≡ true =
    let here : 0 < digit_run text + digit_run fraction = omega (arith, some, k.count_is, k.places_is) in
    grind (arith, nat_tests, here) in
    let all : nat_le (digit_run text + digit_run fraction) 18 ≡ true =
    let here : digit_run text + digit_run fraction ≤ 18 = omega (arith, few, k.count_is, k.places_is) in
    grind (arith, nat_tests, here) in
    ap (is_plain_behind (digit_run text)) rest ∙ rw (ends, one, all) refl

-- one digit more
pub digit_more : (number room at digit : ℕ) → number < 10 ^ (18 - room + at) → at < room → room ≤ 18 → digit ≤ 9
    → (number * 10 + digit < 10 ^ (18 - room + (at + 1))) × (number * 10 + digit < 2 ^ 63)
digit_more number room at digit h l r d =
    let ten : 0 < 10 = omega arith in
    let low : 18 - room + at ≤ 17 = omega (arith, l, r) in
    let power : 10 ^ (18 - room + at) ≤ 10 ^ 17 = pow-le-pow_right ten low in
    let next : 18 - room + (at + 1) ≡ suc (18 - room + at) = omega arith in
    let step : 10 ^ (18 - room + (at + 1)) ≡ 10 ^ (18 - room + at) * 10 = ap (λ k. 10 ^ k) next ∙ pow-suc 10 (18 - room + at) in
    (omega (arith, h, d, step), omega (arith, h, d, power))

pub all_fits : (number room count : ℕ) → number < 10 ^ (18 - room + count) → count ≤ room → room ≤ 18 → number < 2 ^ 63
all_fits number room count h l r =
    let ten : 0 < 10 = omega arith in
    let low : 18 - room + count ≤ 18 = omega (arith, l, r) in
    let power : 10 ^ (18 - room + count) ≤ 10 ^ 18 = pow-le-pow_right ten low in
    omega (arith, h, power)

pub room_behind : (number count : ℕ) → number < 10 ^ (18 - 18 + count) → count ≤ 18 → number < 10 ^ (18 - (18 - count))
room_behind number count h l =
    let same : 18 - 18 + count ≡ 18 - (18 - count) = omega (arith, l) in subst (λ k. number < 10 ^ k) same h
