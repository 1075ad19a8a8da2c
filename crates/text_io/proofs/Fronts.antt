-- The first bytes of a file, as they are collected.
use Rattle.std.proofs.Common.{◌≡◌, ℕ, ◌+◌, ◌-◌, ◌≤◌, Bool, false, List, [], ◌++◌, take, drop, length, nat_lt, Option, Some, None}
use Rattle.std.proofs.Common.{Result, Ok, Err, OnErr, refl, sym, ◌∙◌, ap, IfSome, arith, length-append, length-drop}
use Rattle.std.specs.Option.{option_map}
use Rattle.std.proofs.lemmas.List.{take_all, length-take-le}
use Rattle.std.proofs.lemmas.Bool.Decides.{nat_tests}
use Rattle.std.proofs.Math.Seq.{take-add}

-- the bytes are the first of those that were left
abbrev pub IsFront : Option (List ℕ) → List ℕ → Type 0
IsFront left bytes = IfSome left (λ all. (bytes ≡ take (length bytes) all) × (length bytes ≤ length all))

pub IsFront-nil : (left : Option (List ℕ)) → IsFront left []
IsFront-nil None = tt
IsFront-nil (Some all) = (refl, omega arith)

-- with a piece more
pub IsFront-more : (left : Option (List ℕ)) (bytes piece : List ℕ) (n : ℕ) → n ≤ length piece → IsFront left bytes
    → IfSome (option_map (drop (length bytes)) left) (λ rest. (take n piece ≡ take n rest) × (n ≤ length rest))
    → IsFront left (bytes ++ take n piece)
IsFront-more None bytes piece n h front read = tt
IsFront-more (Some all) bytes piece n h front read =
    let size : length (bytes ++ take n piece) ≡ length bytes + n = length-append bytes (take n piece)
    ∙ ap (λ k. length bytes + k) (length-take-le n piece h) in
    let joined : bytes ++ take n piece ≡ take (length bytes + n) all =
    ap (λ t. t ++ take n piece) front.0 ∙ ap (λ t. take (length bytes) all ++ t) read.0 ∙ sym (take-add (length bytes) n all) in
    (joined ∙ ap (λ k. take k all) (sym size), omega (arith, size, read.1, length-drop (length bytes) all))

-- where nothing is left, they are all
pub front_at_end : (left : Option (List ℕ)) (bytes : List ℕ) (limit : ℕ) → length bytes ≤ limit → IsFront left bytes
    → IfSome (option_map (drop (length bytes)) left) (λ rest. rest ≡ [])
    → IfSome left (λ all. bytes ≡ take limit all) × IfSome left (λ all. false ≡ nat_lt limit (length all))
front_at_end None bytes limit h front end = (tt, tt)
front_at_end (Some all) bytes limit h front end =
    let short : length all ≤ length bytes = omega (arith, ap length end, length-drop (length bytes) all) in
    (front.0 ∙ take_all (length bytes) all short ∙ sym (take_all limit all (omega arith)), grind (arith, nat_tests, short))

-- where they are as many as the limit, a byte more tells whether they are all
pub front_at_limit : (left : Option (List ℕ)) (bytes : List ℕ) (limit : ℕ) (found : Bool) → length bytes ≡ limit
    → IsFront left bytes
    → IfSome (option_map (drop (length bytes)) left) (λ rest. found ≡ nat_lt 0 (length rest))
    → IfSome left (λ all. bytes ≡ take limit all) × IfSome left (λ all. found ≡ nat_lt limit (length all))
front_at_limit None bytes limit found h front told = (tt, tt)
front_at_limit (Some all) bytes limit found h front told = (
  front.0 ∙ ap (λ k. take k all) h,
  told ∙ ap (nat_lt 0) (length-drop (length bytes) all)
      ∙ ap (λ k. nat_lt 0 (length all - k)) h ∙ above limit (length all),
)
  where
    above : (a b : ℕ) → nat_lt 0 (b - a) ≡ nat_lt a b
    above a b = grind (arith, nat_tests)

-- how many there are with a piece more
pub length-front_more : (bytes piece : List ℕ) (n : ℕ) → n ≤ length piece → length (bytes ++ take n piece) ≡ length bytes + n
length-front_more bytes piece n h = length-append bytes (take n piece) ∙ ap (λ k. length bytes + k) (length-take-le n piece h)

-- what holds anyway holds on a fault
pub OnErr-always : {T E P : Type 0} (r : Result T E) → P → OnErr r P
OnErr-always (Ok x) p = tt
OnErr-always (Err e) p = p
