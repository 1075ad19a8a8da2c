-- A word of 1 to 5 decimal digits is read as the number that they stand for.
use Rattle.std.proofs.Common.{◌≡◌, ◌≤◌, ◌<◌, ℕ, Bool, true, false, ◌&&◌, List, length, nat_le, Result, Ok, arith, refl, rules}
use Rattle.std.specs.Char.{is_ascii_digit}
use Rattle.std.specs.List.{list_all}
use Rattle.std.specs.Str.Parse.{digits_value, ParsesUnsigned}
use Rattle.std.proofs.lemmas.Bool.Decides.{nat_tests}
use Rattle.std.proofs.lemmas.Str.Parse.{IsNumeralModel, numerals_by_value, parse_gives, digits_value_short}
use Rattle.command_words.specs.Numerals.{is_numeral}

own : IsNumeralModel (λ ds. list_all is_ascii_digit ds ≡ true) (digits_value 10)
own = numerals_by_value _ (search rules)

parts : (a b c : Bool) → (a && (b && c)) ≡ true → (a ≡ true) × (b ≡ true) × (c ≡ true)
parts true true true e = (refl, refl, refl)
parts true true false e = absurd cc
parts true false c e = absurd cc
parts false b c e = absurd cc

some : (n : ℕ) → nat_le 1 n ≡ true → 0 < n
some n h = grind (arith, nat_tests, h)

few : (n : ℕ) → nat_le n 5 ≡ true → n ≤ 5
few n h = grind (arith, nat_tests, h)

pub numeral_parses : {E : Type 0} (word : List ℕ) (r : Result ℕ E) → ParsesUnsigned 64 10 word r → is_numeral word ≡ true
    → r ≡ Ok (digits_value 10 word)
numeral_parses word r h n =
    let p = parts (nat_le 1 (length word)) (nat_le (length word) 5) (list_all is_ascii_digit word) n in
    let small = digits_value_short own word 5 p.2 (few (length word) p.1) in
    parse_gives own 64 word r h p.2 (some (length word) p.0) (omega (arith, small))
