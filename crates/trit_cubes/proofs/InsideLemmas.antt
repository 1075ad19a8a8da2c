-- The tests of being inside a set and of being a prime say what the facts say.
use Rattle.std.proofs.Common.{◌≡◌, ◌≢◌, ℕ, zero, suc, ◌<◌, Bool, true, false, not, List, [], ◌∷◌, map, length, slice_index_or}
use Rattle.std.proofs.Common.{slice_set, refl, sym, ◌∙◌, arith}
use Rattle.std.specs.List.{list_all}
use Rattle.std.proofs.lemmas.Bool.{true≢false, and_parts, and_from, not-true}
use Rattle.std.proofs.lemmas.List.Folds.{list_all-map}
use Rattle.trit_cubes.specs.declared.trits.Trit.{Trit}
use Rattle.trit_cubes.specs.declared.trits.Trit.TheVariants.{Zero, One, Unknown}
use Rattle.trit_cubes.specs.Filling.{IsFilling}
use Rattle.trit_cubes.specs.Resolution.{agreed, res}
use Rattle.trit_cubes.specs.Prime.{IsInside, IsPrime, is_inside, freed, is_prime}
use Rattle.trit_cubes.proofs.Basics.{zero≢unknown, one≢unknown}

-- a test that passes is true at each filling
pub is_inside-fillings : (set : List Bool → Bool) (ts : List Trit) → is_inside set ts ≡ true → IsInside set ts
is_inside-fillings set [] h [] fill = h
is_inside-fillings set [] h (b ∷ p) fill = absurd fill
is_inside-fillings set (t ∷ ts) h [] fill = absurd fill
is_inside-fillings set (Zero ∷ ts) h (false ∷ p) fill = is_inside-fillings (λ q. set (false ∷ q)) ts h p fill.1
is_inside-fillings set (Zero ∷ ts) h (true ∷ p) fill = absurd (true≢false fill.0)
is_inside-fillings set (One ∷ ts) h (true ∷ p) fill = is_inside-fillings (λ q. set (true ∷ q)) ts h p fill.1
is_inside-fillings set (One ∷ ts) h (false ∷ p) fill = absurd (true≢false (sym fill.0))
is_inside-fillings set (Unknown ∷ ts) h (false ∷ p) fill =
    is_inside-fillings (λ q. set (false ∷ q)) ts
    (and_parts (is_inside (λ q. set (false ∷ q)) ts) (is_inside (λ q. set (true ∷ q)) ts) h).0 p fill.1
is_inside-fillings set (Unknown ∷ ts) h (true ∷ p) fill =
    is_inside-fillings (λ q. set (true ∷ q)) ts
    (and_parts (is_inside (λ q. set (false ∷ q)) ts) (is_inside (λ q. set (true ∷ q)) ts) h).1 p fill.1

pub fillings-is_inside : (set : List Bool → Bool) (ts : List Trit) → IsInside set ts → is_inside set ts ≡ true
fillings-is_inside set [] h = h [] tt
fillings-is_inside set (Zero ∷ ts) h = fillings-is_inside (λ q. set (false ∷ q)) ts (λ p fill. h (false ∷ p) (refl, fill))
fillings-is_inside set (One ∷ ts) h = fillings-is_inside (λ q. set (true ∷ q)) ts (λ p fill. h (true ∷ p) (refl, fill))
fillings-is_inside set (Unknown ∷ ts) h =
    and_from (is_inside (λ q. set (false ∷ q)) ts) (is_inside (λ q. set (true ∷ q)) ts)
    (fillings-is_inside (λ q. set (false ∷ q)) ts (λ p fill. h (false ∷ p) (tt, fill)))
    (fillings-is_inside (λ q. set (true ∷ q)) ts (λ p fill. h (true ∷ p) (tt, fill)))

-- what holds of each cube got by freeing a fixed place holds at each such place
pub all_freed-at : (p : List Trit → Bool) (ts : List Trit) → list_all p (freed ts) ≡ true
    → (i : ℕ) → i < length ts → slice_index_or ts i Unknown ≢ Unknown → p (slice_set ts i Unknown) ≡ true
all_freed-at p [] h i l fixed = absurd (omega arith)
all_freed-at p (Unknown ∷ ts) h zero l fixed = absurd (fixed refl)
all_freed-at p (Unknown ∷ ts) h (suc i) l fixed =
    all_freed-at (λ c. p (Unknown ∷ c)) ts (sym (list_all-map p (λ c. Unknown ∷ c) (freed ts)) ∙ h) i (omega arith) fixed
all_freed-at p (Zero ∷ ts) h zero l fixed = (and_parts (p (Unknown ∷ ts)) (list_all p (map (λ c. Zero ∷ c) (freed ts))) h).0
all_freed-at p (Zero ∷ ts) h (suc i) l fixed =
    all_freed-at (λ c. p (Zero ∷ c)) ts
    (sym (list_all-map p (λ c. Zero ∷ c) (freed ts))
    ∙ (and_parts (p (Unknown ∷ ts)) (list_all p (map (λ c. Zero ∷ c) (freed ts))) h).1) i (omega arith) fixed
all_freed-at p (One ∷ ts) h zero l fixed = (and_parts (p (Unknown ∷ ts)) (list_all p (map (λ c. One ∷ c) (freed ts))) h).0
all_freed-at p (One ∷ ts) h (suc i) l fixed =
    all_freed-at (λ c. p (One ∷ c)) ts
    (sym (list_all-map p (λ c. One ∷ c) (freed ts))
    ∙ (and_parts (p (Unknown ∷ ts)) (list_all p (map (λ c. One ∷ c) (freed ts))) h).1) i (omega arith) fixed

pub at-all_freed : (p : List Trit → Bool) (ts : List Trit)
    → ((i : ℕ) → i < length ts → slice_index_or ts i Unknown ≢ Unknown → p (slice_set ts i Unknown) ≡ true)
    → list_all p (freed ts) ≡ true
at-all_freed p [] h = refl
at-all_freed p (Unknown ∷ ts) h =
    list_all-map p (λ c. Unknown ∷ c) (freed ts)
    ∙ at-all_freed (λ c. p (Unknown ∷ c)) ts (λ i l fixed. h (suc i) (omega arith) fixed)
at-all_freed p (Zero ∷ ts) h =
    and_from (p (Unknown ∷ ts)) (list_all p (map (λ c. Zero ∷ c) (freed ts))) (h zero (omega arith) zero≢unknown)
    (list_all-map p (λ c. Zero ∷ c) (freed ts) ∙ at-all_freed (λ c. p (Zero ∷ c)) ts (λ i l fixed. h (suc i) (omega arith) fixed))
at-all_freed p (One ∷ ts) h =
    and_from (p (Unknown ∷ ts)) (list_all p (map (λ c. One ∷ c) (freed ts))) (h zero (omega arith) one≢unknown)
    (list_all-map p (λ c. One ∷ c) (freed ts) ∙ at-all_freed (λ c. p (One ∷ c)) ts (λ i l fixed. h (suc i) (omega arith) fixed))

pub is_prime-fact : (set : List Bool → Bool) (c : List Trit) → is_prime set c ≡ true → IsPrime set c
is_prime-fact set c h =
    let parts = and_parts (is_inside set c) (list_all (λ d. not (is_inside set d)) (freed c)) h in
    record {
      inside = is_inside-fillings set c parts.0;
      maximal = λ i l fixed within.
          true≢false (sym (fillings-is_inside set (slice_set c i Unknown) within)
          ∙ not-true (is_inside set (slice_set c i Unknown)) (all_freed-at (λ d. not (is_inside set d)) c parts.1 i l fixed));
    }

pub fact-is_prime : (set : List Bool → Bool) (c : List Trit) → IsPrime set c → is_prime set c ≡ true
fact-is_prime set c h =
    and_from (is_inside set c) (list_all (λ d. not (is_inside set d)) (freed c)) (fillings-is_inside set c h.inside)
    (at-all_freed (λ d. not (is_inside set d)) c
    (λ i l fixed. outside (is_inside set (slice_set c i Unknown))
    (λ e. h.maximal i l fixed (is_inside-fillings set (slice_set c i Unknown) e))))
  where
    outside : (b : Bool) → (b ≡ true → ⊥) → not b ≡ true
    outside true f = absurd (f refl)
    outside false f = refl

-- the resolution is the common value of all fillings
pub agreed-parts : (a b v : Trit) → v ≢ Unknown → agreed a b ≡ v → (a ≡ v) × (b ≡ v)
agreed-parts Zero Zero v k e = (e, e)
agreed-parts Zero One v k e = absurd (k (sym e))
agreed-parts Zero Unknown v k e = absurd (k (sym e))
agreed-parts One Zero v k e = absurd (k (sym e))
agreed-parts One One v k e = (e, e)
agreed-parts One Unknown v k e = absurd (k (sym e))
agreed-parts Unknown b v k e = absurd (k (sym e))

pub agreed-same : (v : Trit) → agreed v v ≡ v
agreed-same Zero = refl
agreed-same One = refl
agreed-same Unknown = refl

pub res-fillings : (f : List Bool → Trit) (ts : List Trit) (v : Trit) → v ≢ Unknown → res f ts ≡ v → (p : List Bool)
    → IsFilling ts p → f p ≡ v
res-fillings f [] v k e [] fill = e
res-fillings f [] v k e (b ∷ p) fill = absurd fill
res-fillings f (t ∷ ts) v k e [] fill = absurd fill
res-fillings f (Zero ∷ ts) v k e (false ∷ p) fill = res-fillings (λ q. f (false ∷ q)) ts v k e p fill.1
res-fillings f (Zero ∷ ts) v k e (true ∷ p) fill = absurd (true≢false fill.0)
res-fillings f (One ∷ ts) v k e (true ∷ p) fill = res-fillings (λ q. f (true ∷ q)) ts v k e p fill.1
res-fillings f (One ∷ ts) v k e (false ∷ p) fill = absurd (true≢false (sym fill.0))
res-fillings f (Unknown ∷ ts) v k e (false ∷ p) fill =
    res-fillings (λ q. f (false ∷ q)) ts v k (agreed-parts (res (λ q. f (false ∷ q)) ts) (res (λ q. f (true ∷ q)) ts) v k e).0 p
    fill.1
res-fillings f (Unknown ∷ ts) v k e (true ∷ p) fill =
    res-fillings (λ q. f (true ∷ q)) ts v k (agreed-parts (res (λ q. f (false ∷ q)) ts) (res (λ q. f (true ∷ q)) ts) v k e).1 p
    fill.1

pub fillings-res : (f : List Bool → Trit) (ts : List Trit) (v : Trit) → ((p : List Bool) → IsFilling ts p → f p ≡ v)
    → res f ts ≡ v
fillings-res f [] v h = h [] tt
fillings-res f (Zero ∷ ts) v h = fillings-res (λ q. f (false ∷ q)) ts v (λ p fill. h (false ∷ p) (refl, fill))
fillings-res f (One ∷ ts) v h = fillings-res (λ q. f (true ∷ q)) ts v (λ p fill. h (true ∷ p) (refl, fill))
fillings-res f (Unknown ∷ ts) v h =
    rw (
      fillings-res (λ q. f (false ∷ q)) ts v (λ p fill. h (false ∷ p) (tt, fill)),
      fillings-res (λ q. f (true ∷ q)) ts v
          (λ p fill. h (true ∷ p) (tt, fill)),
    )
    (agreed-same v)
