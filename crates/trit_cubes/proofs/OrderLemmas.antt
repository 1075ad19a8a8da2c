-- The list of a set's primes is ascending, and an ascending list is the only one with its elements.
use Rattle.std.proofs.Common.{◌≡◌, ◌↔◌, ℕ, zero, suc, Bool, true, false, cond, ◌⊎◌, List, [], ◌∷◌, ◌++◌, map, length, refl, sym}
use Rattle.std.proofs.Common.{◌∙◌, subst, inl, inr, arith}
use Rattle.std.specs.List.{filter}
use Rattle.trit_cubes.specs.declared.trits.Trit.{Trit}
use Rattle.trit_cubes.specs.declared.trits.Trit.TheVariants.{Zero, One, Unknown}
use Rattle.trit_cubes.specs.Prime.{Below, Precedes, PrecedesAll, IsAscending, ArePrimes, is_prime, cubes_of, prime_list}
use Rattle.trit_cubes.proofs.ListLemmas.{Among, among-contains, contains-among, among-map, map-among, among-append}
use Rattle.trit_cubes.proofs.ListLemmas.{append-among_left, append-among_right, among-filter, filter-among}
use Rattle.trit_cubes.proofs.InsideLemmas.{is_prime-fact, fact-is_prime}
use Rattle.trit_cubes.proofs.SplitLemmas.{prime_list-length}

below-asym : (s t : Trit) → Below s t → Below t s → ⊥
below-asym Zero Zero h k = h
below-asym Zero One h k = k
below-asym Zero Unknown h k = k
below-asym One Zero h k = h
below-asym One One h k = h
below-asym One Unknown h k = k
below-asym Unknown t h k = h

below-irr : (s : Trit) → Below s s → ⊥
below-irr s h = below-asym s s h h

precedes-asym : (c d : List Trit) → Precedes c d → Precedes d c → ⊥
precedes-asym [] d h k = h
precedes-asym (s ∷ ss) [] h k = h
precedes-asym (s ∷ ss) (t ∷ ts) h k =
    elim h [
      | inl a ↦ elim k [ inl b ↦ below-asym s t a b | inr b ↦ below-irr t (subst (λ u. Below u t) (sym b.0) a) ]
      | inr a ↦ elim k [ inl b ↦ below-irr t (subst (λ u. Below t u) a.0 b) | inr b ↦ precedes-asym ss ts a.1 b.1 ]
    ]

precedes-among : (c d : List Trit) (ds : List (List Trit)) → PrecedesAll c ds → Among d ds → Precedes c d
precedes-among c d [] h k = absurd k
precedes-among c d (e ∷ ds) h k = elim k [ inl same ↦ subst (Precedes c) same h.0 | inr rest ↦ precedes-among c d ds h.1 rest ]

-- ---- the list of all cubes is ascending

before-map : (t : Trit) (c : List Trit) (ds : List (List Trit)) → PrecedesAll c ds → PrecedesAll (t ∷ c) (map (λ d. t ∷ d) ds)
before-map t c [] h = tt
before-map t c (d ∷ ds) h = (inr (refl, h.0), before-map t c ds h.1)

ascending-map : (t : Trit) (cs : List (List Trit)) → IsAscending cs → IsAscending (map (λ c. t ∷ c) cs)
ascending-map t [] h = tt
ascending-map t (c ∷ cs) h = (before-map t c cs h.0, ascending-map t cs h.1)

below-map : (s t : Trit) (c : List Trit) (ds : List (List Trit)) → Below s t → PrecedesAll (s ∷ c) (map (λ d. t ∷ d) ds)
below-map s t c [] h = tt
below-map s t c (d ∷ ds) h = (inl h, below-map s t c ds h)

before-append : (c : List Trit) (ds es : List (List Trit)) → PrecedesAll c ds → PrecedesAll c es → PrecedesAll c (ds ++ es)
before-append c [] es h k = k
before-append c (d ∷ ds) es h k = (h.0, before-append c ds es h.1 k)

ascending-append : (cs ds : List (List Trit)) → IsAscending cs → IsAscending ds
    → ((c : List Trit) → Among c cs → PrecedesAll c ds) → IsAscending (cs ++ ds)
ascending-append [] ds h k between = k
ascending-append (c ∷ cs) ds h k between =
    (before-append c cs ds h.0 (between c (inl refl)), ascending-append cs ds h.1 k (λ d m. between d (inr m)))

above : (s t : Trit) (cs ds : List (List Trit)) (c : List Trit) → Below s t → Among c (map (λ d. s ∷ d) cs)
    → PrecedesAll c (map (λ d. t ∷ d) ds)
above s t cs ds c h k =
    let r = among-map (λ d. s ∷ d) c cs k in subst (λ e. PrecedesAll e (map (λ d. t ∷ d) ds)) r.1 (below-map s t r.0 ds h)

cubes_of-ascending : (n : ℕ) → IsAscending (cubes_of n)
cubes_of-ascending zero = (tt, tt)
cubes_of-ascending (suc n) =
    let zeros = map (λ c. Zero ∷ c) (cubes_of n) in
    let ones = map (λ c. One ∷ c) (cubes_of n) in
    let frees = map (λ c. Unknown ∷ c) (cubes_of n) in
    ascending-append (zeros ++ ones) frees
    (ascending-append zeros ones (ascending-map Zero (cubes_of n) (cubes_of-ascending n))
    (ascending-map One (cubes_of n) (cubes_of-ascending n))
    (λ c k. above Zero One (cubes_of n) (cubes_of n) c tt k))
    (ascending-map Unknown (cubes_of n) (cubes_of-ascending n))
    (λ c k. elim (among-append c zeros ones k)
    [ inl z ↦ above Zero Unknown (cubes_of n) (cubes_of n) c tt z | inr o ↦ above One Unknown (cubes_of n) (cubes_of n) c tt o ])

-- ---- and so is each filter of it

before-cond : (b : Bool) (c d : List Trit) (ds : List (List Trit)) → Precedes c d → PrecedesAll c ds
    → PrecedesAll c (cond b (d ∷ ds) ds)
before-cond true c d ds h k = (h, k)
before-cond false c d ds h k = k

before-filter : (p : List Trit → Bool) (c : List Trit) (ds : List (List Trit)) → PrecedesAll c ds → PrecedesAll c (filter p ds)
before-filter p c [] h = tt
before-filter p c (d ∷ ds) h = before-cond (p d) c d (filter p ds) h.0 (before-filter p c ds h.1)

ascending-cond : (b : Bool) (d : List Trit) (ds : List (List Trit)) → PrecedesAll d ds → IsAscending ds
    → IsAscending (cond b (d ∷ ds) ds)
ascending-cond true d ds h k = (h, k)
ascending-cond false d ds h k = k

ascending-filter : (p : List Trit → Bool) (cs : List (List Trit)) → IsAscending cs → IsAscending (filter p cs)
ascending-filter p [] h = tt
ascending-filter p (c ∷ cs) h = ascending-cond (p c) c (filter p cs) (before-filter p c cs h.0) (ascending-filter p cs h.1)

-- ---- two ascending lists with the same elements are one list

later : (c d : List Trit) (cs : List (List Trit)) → PrecedesAll c cs → Among d (c ∷ cs) → (d ≡ c) ⊎ Precedes c d
later c d cs h k = elim k [ inl e ↦ inl (sym e) | inr m ↦ inr (precedes-among c d cs h m) ]

heads : (c d : List Trit) (cs ds : List (List Trit)) → PrecedesAll c cs → PrecedesAll d ds → Among c (d ∷ ds) → Among d (c ∷ cs)
    → c ≡ d
heads c d cs ds h k m n =
    elim (later d c ds k m) [
      | inl e ↦ e
      | inr a ↦ elim
          (later c d cs h n) [ inl e ↦ sym e | inr b ↦ absurd (precedes-asym c d b a) ]
    ]

not_twice : (c : List Trit) (cs : List (List Trit)) → PrecedesAll c cs → Among c cs → ⊥
not_twice c cs h k = let p = precedes-among c c cs h k in precedes-asym c c p p

tails : (c d : List Trit) (cs ds : List (List Trit)) → PrecedesAll c cs → c ≡ d
    → ((e : List Trit) → Among e (c ∷ cs) → Among e (d ∷ ds))
    → (e : List Trit) → Among e cs → Among e ds
tails c d cs ds h same within e k =
    elim (within e (inr k)) [ inl f ↦ absurd (not_twice c cs h (subst (λ x. Among x cs) (sym (same ∙ f)) k)) | inr m ↦ m ]

pub one_list : (cs ds : List (List Trit)) → IsAscending cs → IsAscending ds
    → ((e : List Trit) → Among e cs → Among e ds) → ((e : List Trit) → Among e ds → Among e cs) → cs ≡ ds
one_list [] [] h k there back = refl
one_list [] (d ∷ ds) h k there back = absurd (back d (inl refl))
one_list (c ∷ cs) [] h k there back = absurd (there c (inl refl))
one_list (c ∷ cs) (d ∷ ds) h k there back =
    let same = heads c d cs ds h.0 k.0 (there c (inl refl)) (back d (inl refl)) in
    let rest = one_list cs ds h.1 k.1 (tails c d cs ds h.0 same there) (tails d c ds cs k.0 (sym same) back) in
    rw (same, rest) refl

-- ---- the primes

length-cubes_of : (n : ℕ) (c : List Trit) → length c ≡ n → Among c (cubes_of n)
length-cubes_of zero [] e = inl refl
length-cubes_of zero (t ∷ c) e = absurd (omega arith)
length-cubes_of (suc n) [] e = absurd (omega arith)
length-cubes_of (suc n) (Zero ∷ c) e =
    let zeros = map (λ d. Zero ∷ d) (cubes_of n) in
    let ones = map (λ d. One ∷ d) (cubes_of n) in
    append-among_left (Zero ∷ c) (zeros ++ ones) (map (λ d. Unknown ∷ d) (cubes_of n))
    (append-among_left (Zero ∷ c) zeros ones (map-among (λ d. Zero ∷ d) c (cubes_of n) (length-cubes_of n c (omega arith))))
length-cubes_of (suc n) (One ∷ c) e =
    let zeros = map (λ d. Zero ∷ d) (cubes_of n) in
    let ones = map (λ d. One ∷ d) (cubes_of n) in
    append-among_left (One ∷ c) (zeros ++ ones) (map (λ d. Unknown ∷ d) (cubes_of n))
    (append-among_right (One ∷ c) zeros ones (map-among (λ d. One ∷ d) c (cubes_of n) (length-cubes_of n c (omega arith))))
length-cubes_of (suc n) (Unknown ∷ c) e =
    let zeros = map (λ d. Zero ∷ d) (cubes_of n) in
    let ones = map (λ d. One ∷ d) (cubes_of n) in
    append-among_right (Unknown ∷ c) (zeros ++ ones) (map (λ d. Unknown ∷ d) (cubes_of n))
    (map-among (λ d. Unknown ∷ d) c (cubes_of n) (length-cubes_of n c (omega arith)))

pub prime_list-primes : (n : ℕ) (set : List Bool → Bool) → ArePrimes n set (prime_list n set)
prime_list-primes n set =
    record {
      only = λ c k.
          let m = contains-among c (prime_list n set) k in
          (prime_list-length n set c m, is_prime-fact set c (among-filter (is_prime set) c (cubes_of n) m).1);
      all = λ c long prime.
          among-contains c (prime_list n set)
          (filter-among (is_prime set) c (cubes_of n) (length-cubes_of n c long) (fact-is_prime set c prime));
      ascending = ascending-filter (is_prime set) (cubes_of n) (cubes_of-ascending n);
    }

same_primes : (n : ℕ) (set : List Bool → Bool) (cs ds : List (List Trit)) → ArePrimes n set cs → ArePrimes n set ds
    → (c : List Trit) → Among c cs → Among c ds
same_primes n set cs ds h k c m = let r = h.only c (among-contains c cs m) in contains-among c ds (k.all c r.0 r.1)

pub primes-one_list : (n : ℕ) (set : List Bool → Bool) (cubes : List (List Trit)) → ArePrimes n set cubes
    ↔ (cubes ≡ prime_list n set)
primes-one_list n set cubes = (
  λ h. let own = prime_list-primes n set in
      one_list cubes (prime_list n set) h.ascending own.ascending (same_primes n set cubes (prime_list n set) h own)
      (same_primes n set (prime_list n set) cubes own h),
  λ e. subst (ArePrimes n set) (sym e) (prime_list-primes n set),
)
