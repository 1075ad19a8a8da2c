-- Digits make numbers that fit.
use Rattle.std.proofs.Common.{ℕ, ◌^◌, ◌<◌, ◌≤◌, arith, lit<}
use Rattle.std.proofs.Math.Nat.{pow-le-pow_right}

-- at most 15 digits
pub below_all : (number places : ℕ) → number < 10 ^ places → places ≤ 15 → number < 10 ^ 15
below_all number places h p =
    let e : 10 ^ places ≤ 10 ^ 15 = pow-le-pow_right (lit< tt) p in
    omega (arith, e)
