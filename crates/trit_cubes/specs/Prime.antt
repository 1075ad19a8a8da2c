-- Primes of a set of points: the cubes inside it that no freed place would keep inside.
use Rattle.std.specs.Prelude.{◌≡◌, ◌≢◌, ◌↔◌, ℕ, zero, suc, ◌<◌, ◌⊎◌, Bool, true, false, not, ◌&&◌, IsTrue, List, [], ◌∷◌, ◌++◌}
use Rattle.std.specs.Prelude.{map, filter, length, Contains, slice_index_or, slice_set}
use Rattle.std.specs.List.{list_any, list_all}
use Rattle.trit_cubes.specs.declared.trits.Trit.{Trit}
use Rattle.trit_cubes.specs.declared.trits.Trit.TheVariants.{Zero, One, Unknown}
use Rattle.trit_cubes.specs.Filling.{IsFilling, same, covers}
use Rattle.trit_cubes.specs.Resolution.{res}
use Rattle.trit_cubes.specs.Sets.{common, joined, gives}

-- each point of the cube is in the set
abbrev pub IsInside : (List Bool → Bool) → List Trit → Type 0
IsInside set cube = (p : List Bool) → IsFilling cube p → IsTrue (set p)

-- a cube inside the set, of which no cube got by freeing one fixed place is inside
pub record IsPrime (set : List Bool → Bool) (cube : List Trit) : Type 0 where
  pub inside : IsInside set cube
  pub maximal : (i : ℕ) → i < length cube → slice_index_or cube i Unknown ≢ Unknown → IsInside set (slice_set cube i Unknown) → ⊥

-- 0 before 1 before free
abbrev pub Below : Trit → Trit → Type 0
Below Zero One = Unit {0}
Below Zero Unknown = Unit {0}
Below One Unknown = Unit {0}
Below _ _ = ⊥

-- the first cube stands before the second: place by place from the left, by the first place at which they differ
abbrev pub Precedes : List Trit → List Trit → Type 0
Precedes (s ∷ ss) (t ∷ ts) = Below s t ⊎ ((s ≡ t) × Precedes ss ts)
Precedes _ _ = ⊥

-- the cube stands before each of the others
abbrev pub PrecedesAll : List Trit → List (List Trit) → Type 0
PrecedesAll c [] = Unit {0}
PrecedesAll c (d ∷ ds) = Precedes c d × PrecedesAll c ds

-- each cube stands before all that come after it
abbrev pub IsAscending : List (List Trit) → Type 0
IsAscending [] = Unit {0}
IsAscending (c ∷ cs) = PrecedesAll c cs × IsAscending cs

-- exactly the primes over n places of the set, in their order
pub record ArePrimes (n : ℕ) (set : List Bool → Bool) (cubes : List (List Trit)) : Type 0 where
  pub only : (c : List Trit) → Contains cubes c → (length c ≡ n) × IsPrime set c
  pub all : (c : List Trit) → length c ≡ n → IsPrime set c → Contains cubes c
  pub ascending : IsAscending cubes

-- whether each point of the cube is in the set
abbrev pub is_inside : (List Bool → Bool) → List Trit → Bool
is_inside set [] = set []
is_inside set (Zero ∷ ts) = is_inside (λ p. set (false ∷ p)) ts
is_inside set (One ∷ ts) = is_inside (λ p. set (true ∷ p)) ts
is_inside set (Unknown ∷ ts) = is_inside (λ p. set (false ∷ p)) ts && is_inside (λ p. set (true ∷ p)) ts

-- the cubes got by freeing one fixed place
abbrev pub freed : List Trit → List (List Trit)
freed [] = []
freed (Unknown ∷ ts) = map (λ c. Unknown ∷ c) (freed ts)
freed (t ∷ ts) = (Unknown ∷ ts) ∷ map (λ c. t ∷ c) (freed ts)

-- whether the cube is a prime of the set
abbrev pub is_prime : (List Bool → Bool) → List Trit → Bool
is_prime set cube = is_inside set cube && list_all (λ c. not (is_inside set c)) (freed cube)

-- all lists of n trits, in order
abbrev pub cubes_of : ℕ → List (List Trit)
cubes_of zero = [] ∷ []
cubes_of (suc n) = map (λ c. Zero ∷ c) (cubes_of n) ++ map (λ c. One ∷ c) (cubes_of n) ++ map (λ c. Unknown ∷ c) (cubes_of n)

-- the primes over n places of the set, in their order
abbrev pub prime_list : ℕ → (List Bool → Bool) → List (List Trit)
prime_list n set = filter (is_prime set) (cubes_of n)

-- whether one of the cubes covers this list of trits
abbrev pub any_covers : List (List Trit) → List Trit → Bool
any_covers cubes ts = list_any (λ c. covers c ts) cubes

-- the cubes that no cube of the cover covers
abbrev pub uncovered : List (List Trit) → List (List Trit) → List (List Trit)
uncovered cover cubes = filter (λ c. not (any_covers cover c)) cubes

-- 0 in front of the cubes of the first list that no cube of `both` covers, 1 in front of those of the second, and a free
-- place in front of those of `both`
abbrev pub merged : List (List Trit) → List (List Trit) → List (List Trit) → List (List Trit)
merged zero_cubes one_cubes both_cubes =
    map (λ c. Zero ∷ c) (uncovered both_cubes zero_cubes) ++ map (λ c. One ∷ c) (uncovered both_cubes one_cubes)
    ++ map (λ c. Unknown ∷ c) both_cubes

-- the primes of two sets over n places, and of the points in both
pub record AreHalves (n : ℕ) (f g : List Bool → Bool) (zero_cubes one_cubes both_cubes : List (List Trit)) : Type 0 where
  pub zero_primes : zero_cubes ≡ prime_list n f
  pub one_primes : one_cubes ≡ prime_list n g
  pub both_primes : both_cubes ≡ prime_list n (common f g)

-- the list of a set's primes is the one list that holds exactly the primes in their order
abbrev pub PrimesAreOneList : Type 0
PrimesAreOneList =
    (n : ℕ) (set : List Bool → Bool) (cubes : List (List Trit)) → ArePrimes n set cubes ↔ (cubes ≡ prime_list n set)

-- a list of trits lies inside a set exactly where some prime covers it
abbrev pub PrimesCoverInside : Type 0
PrimesCoverInside =
    (n : ℕ) (set : List Bool → Bool) (ts : List Trit)
    → length ts ≡ n → IsInside set ts ↔ IsTrue (any_covers (prime_list n set) ts)

-- 0 followed by a cube is a prime exactly where the cube is a prime of the first set and no prime of the points in both
-- covers it, 1 likewise with the second set, and a free place followed by a cube exactly where it is a prime of the points
-- in both
abbrev pub MergedArePrimes : Type 0
MergedArePrimes =
    (n : ℕ) (f g : List Bool → Bool)
    → merged (prime_list n f) (prime_list n g) (prime_list n (common f g)) ≡ prime_list (suc n) (joined f g)

-- sets that are equal at the points of n places have the same primes over n places
abbrev pub PrimesAreOfPoints : Type 0
PrimesAreOfPoints =
    (n : ℕ) (f g : List Bool → Bool)
    → ((p : List Bool) → length p ≡ n → f p ≡ g p) → prime_list n f ≡ prime_list n g

-- a prime of the points at which a function gives 0 or 1 covers a list of trits exactly where the resolution is this value
abbrev pub PrimesGiveResolution : Type 0
PrimesGiveResolution =
    (n : ℕ) (f : List Bool → Trit) (v : Trit) (ts : List Trit)
    → v ≢ Unknown → length ts ≡ n → any_covers (prime_list n (gives v f)) ts ≡ same v (res f ts)
