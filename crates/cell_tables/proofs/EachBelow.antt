-- Lists with an entry for each number below a bound.
use Rattle.std.proofs.Common.{◌≡◌, ℕ, zero, suc, ◌+◌, ◌<◌, ◌≤◌, Bool, true, false, List, [], ◌∷◌, ◌++◌, length, slice_get, get_or}
use Rattle.std.proofs.Common.{Some, refl, ◌∙◌, ap, subst, arith, nat_lt, append_assoc, length-append}
use Rattle.std.proofs.lemmas.Bool.{ltb-true, ltb-false}
use Rattle.std.proofs.lemmas.Option.{get_or_from_slice_get}
use Rattle.udp_tables.specs.Edges.{each_below}

pub get-left : {X : Type 0} (xs ys : List X) (i : ℕ) → i < length xs → slice_get (xs ++ ys) i ≡ slice_get xs i
get-left [] ys i h = absurd (omega arith)
get-left (x ∷ xs) ys zero h = refl
get-left (x ∷ xs) ys (suc i) h = get-left xs ys i (omega arith)

pub get-right : {X : Type 0} (xs ys : List X) (n i : ℕ) → length xs ≡ n → slice_get (xs ++ ys) (n + i) ≡ slice_get ys i
get-right [] ys n i e = let same : n + i ≡ i = omega arith in ap (slice_get ys) same
get-right (x ∷ xs) ys zero i e = absurd (omega arith)
get-right (x ∷ xs) ys (suc n) i e =
    let moved : suc n + i ≡ suc (n + i) = omega arith in
    ap (slice_get (x ∷ (xs ++ ys))) moved ∙ get-right xs ys n i (omega arith)

-- one entry for each number
module _ {X : Type 0} (f : ℕ → X) where
  pub below-length : (n : ℕ) → length (each_below (λ i. f i ∷ []) n) ≡ n
  below-length zero = refl
  below-length (suc n) =
      let rest = below-length n in
      let whole = length-append (each_below (λ i. f i ∷ []) n) (f n ∷ []) in
      omega (arith, rest, whole)

  pub below-get : (n i : ℕ) → i < n → slice_get (each_below (λ i. f i ∷ []) n) i ≡ Some (f i)
  below-get zero i h = absurd (omega arith)
  below-get (suc n) i h = by (nat_lt i n) refl (λ below. below-get n i below)
    where
      by :
          (b : Bool) → nat_lt i n ≡ b → (i < n → slice_get (each_below (λ i. f i ∷ []) n) i ≡ Some (f i))
          → slice_get (each_below (λ i. f i ∷ []) n ++ f n ∷ []) i ≡ Some (f i)
      by true e again =
          let below : i < n = ltb-true i n e in
          get-left (each_below (λ i. f i ∷ []) n) (f n ∷ []) i (let long = below-length n in omega (arith, long)) ∙ again below
      by false e again =
          let above : n ≤ i = ltb-false i n e in
          let last : n + 0 ≡ i = omega arith in
          let same : n ≡ i = omega arith in
          subst (λ k. slice_get (each_below (λ i. f i ∷ []) n ++ f n ∷ []) k ≡ Some (f i)) last
          (get-right (each_below (λ i. f i ∷ []) n) (f n ∷ []) n 0 (below-length n) ∙ ap (λ k. Some (f k)) same)

  pub below-at : (n i : ℕ) (d : X) → i < n → get_or (each_below (λ k. f k ∷ []) n) i d ≡ f i
  below-at n i d h = get_or_from_slice_get (each_below (λ k. f k ∷ []) n) i (f i) d (below-get n i h)

  -- one entry more
  pub below-more :
      (n : ℕ) (start now next : List X) (x : X)
      → now ≡ start ++ each_below (λ i. f i ∷ []) n → next ≡ now ++ x ∷ [] → x ≡ f n
      → next ≡ start ++ each_below (λ i. f i ∷ []) (n + 1)
  below-more n start now next x before item same =
      let more : suc n ≡ n + 1 = omega arith in
      item
      ∙ ap (λ y. now ++ y ∷ []) same
      ∙ ap (λ l. l ++ f n ∷ []) before
      ∙ append_assoc start (each_below (λ i. f i ∷ []) n) (f n ∷ [])
      ∙ ap (λ m. start ++ each_below (λ i. f i ∷ []) m) more
