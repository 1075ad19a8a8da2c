-- A text is a number in one way at most, and this one is found.
use Rattle.std.proofs.Common.{◌≡◌, ℕ, ◌+◌, ◌<◌, ◌++◌, suc, Bool, true, false, List, [], ◌∷◌, Option, Some, None, length, take}
use Rattle.std.proofs.Common.{drop, ◌==◌, ◌&&◌, ◌||◌, refl, sym, ◌∙◌, ap, subst, arith, cond}
use Rattle.std.specs.Prelude.{nat_lt}
use Rattle.std.proofs.lemmas.Bool.Decides.{nat_tests}
use Rattle.std.proofs.lemmas.List.{take-append-drop, append-nil}
use Rattle.std.proofs.Math.Seq.{take-length, take-append_seam, drop-append_seam}
use Rattle.std.proofs.lemmas.Bool.{and_parts as both}
use Rattle.liberty_text.specs.Number.{Written, is_digit, AreDigits, IsSign, IsPoint, IsExponent, IsNumber, digit_run, sign_of}
use Rattle.liberty_text.specs.Number.{fraction_of, is_run, exponent_of, written_with, written_behind, written_of}
use Rattle.liberty_text.specs.Number as n

-- the sign that a text begins with
pub record HasSign (text : List ℕ) : Type 0 where
  pub sign : List ℕ
  pub sign_is : IsSign sign (sign_of text).0
  pub split : text ≡ sign ++ (sign_of text).1

pub sign_parts : (text : List ℕ) → HasSign text
sign_parts [] = record { sign = []; sign_is = n.no_sign; split = refl }
sign_parts (b ∷ bs) = by_minus (b == 45) refl
  where
    found : Bool × List ℕ → Type 0
    found s = (sign : List ℕ) × IsSign sign s.0 × (b ∷ bs ≡ sign ++ s.1)

    made : (s : Bool × List ℕ) → sign_of (b ∷ bs) ≡ s → found s → HasSign (b ∷ bs)
    made s e k = record {
      sign = k.0;
      sign_is = subst (λ v. IsSign k.0 v.0) (sym e) k.1;
      split = subst (λ v. b ∷ bs ≡ k.0 ++ v.1) (sym e) k.2;
    }

    by_plus : (q : Bool) → (b == 43) ≡ q → found (cond q (false, bs) (false, b ∷ bs))
    by_plus true e = let same : b ≡ 43 = grind (arith, nat_tests, e) in (43 ∷ [], n.plus, ap (λ x. x ∷ bs) same)
    by_plus false e = ([], n.no_sign, refl)

    by_minus : (q : Bool) → (b == 45) ≡ q → HasSign (b ∷ bs)
    by_minus true e =
        let same : b ≡ 45 = grind (arith, nat_tests, e) in
        made (true, bs) (ap (λ q. cond q (true, bs) (cond (b == 43) (false, bs) (false, b ∷ bs))) e)
        (45 ∷ [], n.minus, ap (λ x. x ∷ bs) same)
    by_minus false e =
        made (cond (b == 43) (false, bs) (false, b ∷ bs))
        (ap (λ q. cond q (true, bs) (cond (b == 43) (false, bs) (false, b ∷ bs))) e) (by_plus (b == 43) refl)

-- the digits at the front are digits
pub run_digits : (bs : List ℕ) → AreDigits (take (digit_run bs) bs)
run_digits [] = tt
run_digits (b ∷ bs) = by_test (run_digits bs) (is_digit b) refl
  where
    by_test : AreDigits (take (digit_run bs) bs) → (q : Bool) → is_digit b ≡ q
        → AreDigits (take (cond q (1 + digit_run bs) 0) (b ∷ bs))
    by_test next true e =
        let more : 1 + digit_run bs ≡ suc (digit_run bs) = omega arith in
        subst (λ k. AreDigits (take k (b ∷ bs))) (sym more) (e, next)
    by_test next false e = tt

-- bytes that are all a run are digits
pub all_digits : (bs : List ℕ) → digit_run bs ≡ length bs → AreDigits bs
all_digits bs e = subst AreDigits (ap (λ k. take k bs) e ∙ take-length bs) (run_digits bs)

-- the point and the digits behind it that a text begins with
pub record HasFraction (text : List ℕ) : Type 0 where
  pub dot : List ℕ
  pub dot_is : IsPoint dot (fraction_of text).0
  pub digits : AreDigits (fraction_of text).0
  pub split : text ≡ dot ++ ((fraction_of text).0 ++ (fraction_of text).1)

pub fraction_parts : (text : List ℕ) → HasFraction text
fraction_parts [] = record { dot = []; dot_is = n.no_point; digits = tt; split = refl }
fraction_parts (b ∷ bs) = by_test (b == 46) refl
  where
    made : (s : List ℕ × List ℕ) → fraction_of (b ∷ bs) ≡ s → (dot : List ℕ) → IsPoint dot s.0 → AreDigits s.0
        → b ∷ bs ≡ dot ++ (s.0 ++ s.1) → HasFraction (b ∷ bs)
    made s e dot k l m = record {
      dot = dot;
      dot_is = subst (λ v. IsPoint dot v.0) (sym e) k;
      digits = subst (λ v. AreDigits v.0) (sym e) l;
      split = subst (λ v. b ∷ bs ≡ dot ++ (v.0 ++ v.1)) (sym e) m;
    }

    by_test : (q : Bool) → (b == 46) ≡ q → HasFraction (b ∷ bs)
    by_test true e =
        let same : b ≡ 46 = grind (arith, nat_tests, e) in
        let parts : List ℕ × List ℕ = (take (digit_run bs) bs, drop (digit_run bs) bs) in
        made parts (ap (λ q. cond q parts ([], b ∷ bs)) e)
        (46 ∷ []) n.some_point (run_digits bs)
        (ap (λ x. x ∷ bs) same ∙ ap (λ l. 46 ∷ l) (sym (take-append-drop (digit_run bs) bs)))
    by_test false e =
        made ([], b ∷ bs) (ap (λ q. cond q (take (digit_run bs) bs, drop (digit_run bs) bs) ([], b ∷ bs)) e) [] n.no_point tt refl

-- a run of one digit at least
pub run_parts : (bs : List ℕ) → is_run bs ≡ true → (0 < length bs) × AreDigits bs
run_parts bs e =
    let parts = both (nat_lt 0 (length bs)) (digit_run bs == length bs) e in
    let some : 0 < length bs = grind (arith, nat_tests, parts.0) in
    let all : digit_run bs ≡ length bs = grind (arith, nat_tests, parts.1) in
    (some, all_digits bs all)

pub exponent_parts : (text : List ℕ) (e : Bool × List ℕ) → exponent_of text ≡ Some e → IsExponent text e.0 e.1
exponent_parts [] e f =
    let same : (false, []) ≡ e = cc in
    subst (λ v. IsExponent [] v.0 v.1) same n.no_exponent
exponent_parts (b ∷ bs) e f = by_test ((b == 101 || b == 69) && is_run (sign_of bs).1) refl f
  where
    by_test : (q : Bool) → ((b == 101 || b == 69) && is_run (sign_of bs).1) ≡ q → cond q (Some (sign_of bs)) None ≡ Some e
        → IsExponent (b ∷ bs) e.0 e.1
    by_test true g h =
        let parts = both (b == 101 || b == 69) (is_run (sign_of bs).1) g in
        let run = run_parts (sign_of bs).1 parts.1 in
        let s = sign_parts bs in
        let same : sign_of bs ≡ e = cc in
        subst (λ v. IsExponent (b ∷ bs) v.0 v.1) same
        (n.some_exponent b s.sign parts.0 s.sign_is run.1 run.0 (ap (λ l. b ∷ l) s.split))
    by_test false g h = absurd cc

-- the parts that were found
abbrev parts_written : List ℕ → List ℕ → List ℕ → Bool × List ℕ → Written
parts_written text whole rest e = record {
  negative = (sign_of text).0;
  whole = whole;
  fraction = (fraction_of rest).0;
  exponent_negative = e.0;
  exponent = e.1;
}

-- they make the number
pub number_made : (text whole rest : List ℕ) (e : Bool × List ℕ) (w : Written) → (sign_of text).1 ≡ whole ++ rest
    → AreDigits whole →
    exponent_of (fraction_of rest).1 ≡ Some e →
    written_with (sign_of text).0 whole (fraction_of rest).0 (Some e) ≡ Some w → IsNumber text w
number_made text whole rest e w split digits tail = by_test (nat_lt 0 (length whole + length (fraction_of rest).0)) refl
  where
    by_test : (q : Bool) → nat_lt 0 (length whole + length (fraction_of rest).0) ≡ q
        → cond q (Some (parts_written text whole rest e)) None ≡ Some w → IsNumber text w
    by_test true g h =
        let s = sign_parts text in
        let f = fraction_parts rest in
        let some : 0 < length whole + length (fraction_of rest).0 = grind (arith, nat_tests, g) in
        let same : parts_written text whole rest e ≡ w = cc in
        subst (IsNumber text) same
        (record {
          sign = s.sign;
          dot = f.dot;
          tail = (fraction_of rest).1;
          sign_is = s.sign_is;
          dot_is = f.dot_is;
          tail_is = exponent_parts (fraction_of rest).1 e tail;
          whole_is = digits;
          fraction_is = f.digits;
          some = some;
          text_is = s.split ∙ ap (λ l. s.sign ++ l) (split ∙ ap (λ l. whole ++ l) f.split);
        })
    by_test false g h = absurd cc

pub number_sound : (text : List ℕ) (w : Written) → written_of text ≡ Some w → IsNumber text w
number_sound text w e =
    let body = (sign_of text).1 in
    by_exponent (take (digit_run body) body) (drop (digit_run body) body) (sym (take-append-drop (digit_run body) body))
    (run_digits body)
    (exponent_of (fraction_of (drop (digit_run body) body)).1) refl e
  where
    by_exponent : (whole rest : List ℕ) → (sign_of text).1 ≡ whole ++ rest → AreDigits whole →
        (o : Option (Bool × List ℕ)) → exponent_of (fraction_of rest).1 ≡ o
        → written_with (sign_of text).0 whole (fraction_of rest).0 o ≡ Some w → IsNumber text w
    by_exponent whole rest split digits None f g = absurd cc
    by_exponent whole rest split digits (Some x) f g = number_made text whole rest x w split digits f g

-- a sign is passed before bytes that begin with none
pub sign_skips : {sign : List ℕ} {negative : Bool} → IsSign sign negative → (rest : List ℕ) → sign_of rest ≡ (false, rest)
    → sign_of (sign ++ rest) ≡ (negative, rest)
sign_skips n.no_sign rest e = e
sign_skips n.plus rest e = refl
sign_skips n.minus rest e = refl

-- a digit is no sign
pub digit_plain : (b : ℕ) (bs : List ℕ) → is_digit b ≡ true → sign_of (b ∷ bs) ≡ (false, b ∷ bs)
digit_plain b bs e =
    let other : Bool × List ℕ = cond (b == 43) (false, bs) (false, b ∷ bs) in
    let no_minus : (b == 45) ≡ false = grind (arith, nat_tests, e) in
    let no_plus : (b == 43) ≡ false = grind (arith, nat_tests, e) in
    let first : sign_of (b ∷ bs) ≡ other = ap (λ q. cond q (true, bs) other) no_minus in
    let second : other ≡ (false, b ∷ bs) = ap (λ q. cond q (false, bs) (false, b ∷ bs)) no_plus in
    first ∙ second

pub run_skips : (ds rest : List ℕ) → AreDigits ds → digit_run rest ≡ 0 → digit_run (ds ++ rest) ≡ length ds
run_skips [] rest all e = e
run_skips (d ∷ ds) rest (f, all) e =
    let next = run_skips ds rest all e in
    ap (λ q. cond q (1 + digit_run (ds ++ rest)) 0) f ∙ omega (arith, next)

pub take_run : (ds rest : List ℕ) → AreDigits ds → digit_run rest ≡ 0 → take (digit_run (ds ++ rest)) (ds ++ rest) ≡ ds
take_run ds rest all e = ap (λ k. take k (ds ++ rest)) (run_skips ds rest all e) ∙ take-append_seam ds rest

pub drop_run : (ds rest : List ℕ) → AreDigits ds → digit_run rest ≡ 0 → drop (digit_run (ds ++ rest)) (ds ++ rest) ≡ rest
drop_run ds rest all e = ap (λ k. drop k (ds ++ rest)) (run_skips ds rest all e) ∙ drop-append_seam ds rest

-- digits are a run
pub digits_run : (ds : List ℕ) → AreDigits ds → 0 < length ds → is_run ds ≡ true
digits_run ds all some =
    let all_run : digit_run ds ≡ length ds = ap digit_run (sym (append-nil ds)) ∙ run_skips ds [] all refl in
    let one : nat_lt 0 (length ds) ≡ true = grind (arith, nat_tests, some) in
    let same : (digit_run ds == length ds) ≡ true = grind (arith, nat_tests, all_run) in
    ap (λ q. q && (digit_run ds == length ds)) one ∙ same

-- digits begin with no sign
pub digits_plain : (ds : List ℕ) → AreDigits ds → 0 < length ds → sign_of ds ≡ (false, ds)
digits_plain [] all some = absurd (omega arith)
digits_plain (d ∷ ds) all some = digit_plain d ds all.0

-- what an exponent is not, and what it is
pub record ExponentFound (tail digits : List ℕ) (negative : Bool) : Type 0 where
  pub no_digit : digit_run tail ≡ 0
  pub no_dot : fraction_of tail ≡ ([], tail)
  pub found : exponent_of tail ≡ Some (negative, digits)

pub exponent_found : {tail digits : List ℕ} {negative : Bool} → IsExponent tail negative digits
    → ExponentFound tail digits negative
exponent_found n.no_exponent = record { no_digit = refl; no_dot = refl; found = refl }
exponent_found {digits = digits} {negative = negative} (n.some_exponent mark sign marked sign_is all some split) =
    let rest = sign ++ digits in
    let other : is_digit mark ≡ false = grind (arith, nat_tests, marked) in
    let no_dot : (mark == 46) ≡ false = grind (arith, nat_tests, marked) in
    let behind : sign_of rest ≡ (negative, digits) = sign_skips sign_is digits (digits_plain digits all some) in
    let run : is_run (sign_of rest).1 ≡ true = ap (λ s. is_run s.1) behind ∙ digits_run digits all some in
    let chosen : ((mark == 101 || mark == 69) && is_run (sign_of rest).1) ≡ true = ap (λ q. q && is_run (sign_of rest).1) marked
    ∙ run in
    subst (λ l. ExponentFound l digits negative) (sym split)
    (record {
      no_digit = ap (λ q. cond q (1 + digit_run rest) 0) other;
      no_dot = ap (λ q. cond q (take (digit_run rest) rest, drop (digit_run rest) rest) ([], mark ∷ rest)) no_dot;
      found = ap (λ q. cond q (Some (sign_of rest)) None) chosen ∙ ap Some behind;
    })

-- the fraction that a point begins
pub record FractionFound (dot fraction tail : List ℕ) : Type 0 where
  pub no_digit : digit_run (dot ++ (fraction ++ tail)) ≡ 0
  pub found : fraction_of (dot ++ (fraction ++ tail)) ≡ (fraction, tail)

pub fraction_found : {dot fraction : List ℕ} → IsPoint dot fraction → (tail : List ℕ) → AreDigits fraction → digit_run tail ≡ 0
    → fraction_of tail ≡ ([], tail) → FractionFound dot fraction tail
fraction_found n.no_point tail all e f = record { no_digit = e; found = f }
fraction_found (n.some_point {fraction = fraction}) tail all e f = record {
  no_digit = refl;
  found = ap (λ l. (l, drop (digit_run (fraction ++ tail)) (fraction ++ tail))) (take_run fraction tail all e)
      ∙ ap (λ l. (fraction, l)) (drop_run fraction tail all e);
}

-- a number begins with no second sign
pub number_plain : {dot fraction : List ℕ} → IsPoint dot fraction → (whole tail : List ℕ) → AreDigits whole
    → 0 < length whole + length fraction →
    sign_of (whole ++ (dot ++ (fraction ++ tail))) ≡ (false, whole ++ (dot ++ (fraction ++ tail)))
number_plain {dot = dot} {fraction = fraction} p (d ∷ ds) tail all some = digit_plain d (ds ++ (dot ++ (fraction ++ tail))) all.0
number_plain n.no_point [] tail all some = absurd (omega arith)
number_plain n.some_point [] tail all some = refl

pub number_complete : (text : List ℕ) (w : Written) → IsNumber text w → written_of text ≡ Some w
number_complete text w k =
    let e = exponent_found k.tail_is in
    let f = fraction_found k.dot_is k.tail k.fraction_is e.no_digit e.no_dot in
    let rest = k.dot ++ (w.fraction ++ k.tail) in
    let body = w.whole ++ rest in
    let split : sign_of text ≡ (w.negative, body) =
    ap sign_of k.text_is ∙ sign_skips k.sign_is body (number_plain k.dot_is w.whole k.tail k.whole_is k.some) in
    let some : nat_lt 0 (length w.whole + length w.fraction) ≡ true = let h = k.some in grind (arith, nat_tests, h) in
    ap (λ s. written_behind s.0 (take (digit_run s.1) s.1) (fraction_of (drop (digit_run s.1) s.1))) split
    ∙ ap (λ l. written_behind w.negative l (fraction_of (drop (digit_run body) body)))
    (take_run w.whole rest k.whole_is f.no_digit)
    ∙ ap (λ l. written_behind w.negative w.whole (fraction_of l)) (drop_run w.whole rest k.whole_is f.no_digit)
    ∙ ap (λ l. written_behind w.negative w.whole l) f.found
    ∙ ap (λ o. written_with w.negative w.whole w.fraction o) e.found
    ∙ ap (λ q. cond q (Some (record {
      negative = w.negative;
      whole = w.whole;
      fraction = w.fraction;
      exponent_negative =
          w.exponent_negative;
      exponent = w.exponent;
    })) None) some

-- the digits of an exponent are digits
pub exponent_digits : {tail digits : List ℕ} {negative : Bool} → IsExponent tail negative digits → AreDigits digits
exponent_digits n.no_exponent = tt
exponent_digits (n.some_exponent mark sign marked sign_is all some split) = all

-- the parts of a number are digits
pub spelled_digits : (text : List ℕ) (w : Written) → written_of text ≡ Some w → AreDigits w.whole × AreDigits w.fraction
    × AreDigits w.exponent
spelled_digits text w e = let k = number_sound text w e in (k.whole_is, k.fraction_is, exponent_digits k.tail_is)
