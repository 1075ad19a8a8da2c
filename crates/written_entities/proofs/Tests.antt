-- Tests of numbers, and tests of which both hold, or neither.
use Rattle.std.proofs.Common.{◌≡◌, ℕ, suc, Bool, true, false, nat_eq, nat_lt, if◌then◌else◌, refl, arith}
use Rattle.std.proofs.lemmas.Bool.Decides.{nat_tests}

pub if_true : {A : Type 0} (b : Bool) (x y : A) → b ≡ true → (if b then x else y) ≡ x
if_true b x y e = rw e refl

pub if_false : {A : Type 0} (b : Bool) (x y : A) → b ≡ false → (if b then x else y) ≡ y
if_false b x y e = rw e refl

pub if_either : {A : Type 0} (b : Bool) {x : A} → (if b then x else x) ≡ x
if_either true = refl
if_either false = refl

-- a list with an item has some
pub some_items : (n : ℕ) → nat_lt 0 (suc n) ≡ true
some_items n = grind (arith, nat_tests)

pub no_less : (m n : ℕ) → m ≡ n → nat_lt m n ≡ false
no_less m n h = grind (arith, nat_tests, h)

pub equal_self : (n : ℕ) → nat_eq n n ≡ true
equal_self n = grind (arith, nat_tests)

pub numbers_turned : (m n : ℕ) → nat_eq m n ≡ nat_eq n m
numbers_turned m n = grind (arith, nat_tests)
