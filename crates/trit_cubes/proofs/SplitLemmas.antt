-- The primes of a set by its halves, the points with 0 and those with 1 at the first place.
use Rattle.std.proofs.Common.{◌≡◌, ◌≢◌, ℕ, zero, suc, Bool, true, false, cond, not, ◌&&◌, ◌||◌, List, [], ◌∷◌, ◌++◌, map, length}
use Rattle.std.proofs.Common.{refl, sym, ◌∙◌, ap, inl, inr, arith}
use Rattle.std.specs.List.{filter, list_all}
use Rattle.std.proofs.lemmas.Bool.{cases_Bool, true≢false, and_parts, and_from, or_right, not-false as true_from_not}
use Rattle.std.proofs.lemmas.List.Elements.{filter-append}
use Rattle.std.proofs.lemmas.List.Folds.{list_all-map, list_any-append}
use Rattle.std.proofs.Math.Bool.{or-false as or_false}
use Rattle.trit_cubes.specs.declared.trits.Trit.{Trit}
use Rattle.trit_cubes.specs.declared.trits.Trit.TheVariants.{Zero, One, Unknown}
use Rattle.trit_cubes.specs.Filling.{is_unknown, same, covers}
use Rattle.trit_cubes.specs.Resolution.{agreed, res}
use Rattle.trit_cubes.specs.Sets.{common, gives}
use Rattle.trit_cubes.specs.Prime.{is_inside, freed, is_prime, cubes_of, prime_list, any_covers, uncovered, merged}
use Rattle.trit_cubes.proofs.ListLemmas.{Among, among-map, among-append, among-filter, filter-map, filter-and, filter_same}
use Rattle.trit_cubes.proofs.ListLemmas.{any_same, any-map, any_never, any-filter, all_same}
use Rattle.trit_cubes.proofs.Basics.{and_swap, zero≢unknown, one≢unknown}

-- the points whose first place has this value, without that place
abbrev pub half : (List Bool → Bool) → Bool → List Bool → Bool
half set b p = set (b ∷ p)

-- the points that are in both halves
abbrev pub both : (List Bool → Bool) → List Bool → Bool
both set = common (half set false) (half set true)

and_last : (p q r : Bool) → (p && (not q && r)) ≡ ((p && r) && not q)
and_last false q r = refl
and_last true true true = refl
and_last true true false = refl
and_last true false true = refl
and_last true false false = refl

pub is_inside-common : (f g : List Bool → Bool) (ts : List Trit) → is_inside (common f g) ts ≡ (is_inside f ts && is_inside g ts)
is_inside-common f g [] = refl
is_inside-common f g (Zero ∷ ts) = is_inside-common (half f false) (half g false) ts
is_inside-common f g (One ∷ ts) = is_inside-common (half f true) (half g true) ts
is_inside-common f g (Unknown ∷ ts) =
    rw (is_inside-common (half f false) (half g false) ts, is_inside-common (half f true) (half g true) ts)
    (and_swap (is_inside (half f false) ts) (is_inside (half g false) ts) (is_inside (half f true) ts)
    (is_inside (half g true) ts))

is_prime-free : (set : List Bool → Bool) (ts : List Trit) → is_prime set (Unknown ∷ ts) ≡ is_prime (both set) ts
is_prime-free set ts =
    rw (
      list_all-map (λ c. not (is_inside set c)) (λ c. Unknown ∷ c) (freed ts),
      all_same (λ c. not (is_inside set (Unknown ∷ c))) (λ c. not (is_inside (both set) c)) (freed ts)
          (λ c. ap not (sym (is_inside-common (half set false) (half set true) c))),
      is_inside-common (half set false) (half set true) ts,
    )
    refl

is_prime-zero : (set : List Bool → Bool) (ts : List Trit)
    → is_prime set (Zero ∷ ts) ≡ (is_prime (half set false) ts && not (is_inside (both set) ts))
is_prime-zero set ts =
    rw (
      list_all-map (λ c. not (is_inside set c)) (λ c. Zero ∷ c) (freed ts),
      is_inside-common (half set false)
          (half set true) ts,
    )
    (and_last (is_inside (half set false) ts) (is_inside set (Unknown ∷ ts))
    (list_all (λ c. not (is_inside (half set false) c)) (freed ts)))

is_prime-one : (set : List Bool → Bool) (ts : List Trit)
    → is_prime set (One ∷ ts) ≡ (is_prime (half set true) ts && not (is_inside (both set) ts))
is_prime-one set ts =
    rw (list_all-map (λ c. not (is_inside set c)) (λ c. One ∷ c) (freed ts), is_inside-common (half set false) (half set true) ts)
    (and_last (is_inside (half set true) ts) (is_inside set (Unknown ∷ ts))
    (list_all (λ c. not (is_inside (half set true) c)) (freed ts)))

-- the primes with a fixed first place are those of the half that are not inside both halves
abbrev fixed_primes : ℕ → (List Bool → Bool) → Bool → List (List Trit)
fixed_primes n set b = filter (λ c. not (is_inside (both set) c)) (prime_list n (half set b))

primes-fixed : (n : ℕ) (set : List Bool → Bool) (t : Trit) (b : Bool)
    → ((c : List Trit) → is_prime set (t ∷ c) ≡ (is_prime (half set b) c && not (is_inside (both set) c)))
    → filter (is_prime set) (map (λ c. t ∷ c) (cubes_of n)) ≡ map (λ c. t ∷ c) (fixed_primes n set b)
primes-fixed n set t b is =
    filter-map (is_prime set) (λ c. t ∷ c) (cubes_of n)
    ∙ ap (map (λ c. t ∷ c))
    (filter_same (λ c. is_prime set (t ∷ c)) (λ c. is_prime (half set b) c && not (is_inside (both set) c)) (cubes_of n)
    (λ c _. is c)
    ∙ filter-and (is_prime (half set b)) (λ c. not (is_inside (both set) c)) (cubes_of n))

primes-free : (n : ℕ) (set : List Bool → Bool)
    → filter (is_prime set) (map (λ c. Unknown ∷ c) (cubes_of n)) ≡ map (λ c. Unknown ∷ c) (prime_list n (both set))
primes-free n set =
    filter-map (is_prime set) (λ c. Unknown ∷ c) (cubes_of n)
    ∙ ap (map (λ c. Unknown ∷ c)) (filter_same (λ c. is_prime set (Unknown ∷ c)) (is_prime (both set)) (cubes_of n)
    (λ c _. is_prime-free set c))

pub prime_list-outside : (n : ℕ) (set : List Bool → Bool)
    → prime_list (suc n) set
    ≡ map (λ c. Zero ∷ c) (filter (λ c. not (is_inside (both set) c)) (prime_list n (half set false)))
    ++ map (λ c. One ∷ c) (filter (λ c. not (is_inside (both set) c)) (prime_list n (half set true)))
    ++ map (λ c. Unknown ∷ c) (prime_list n (both set))
prime_list-outside n set =
    filter-append (is_prime set) (map (λ c. Zero ∷ c) (cubes_of n) ++ map (λ c. One ∷ c) (cubes_of n))
    (map (λ c. Unknown ∷ c) (cubes_of n))
    ∙ rw (
      filter-append (is_prime set) (map (λ c. Zero ∷ c) (cubes_of n)) (map (λ c. One ∷ c) (cubes_of n)),
      primes-fixed n set
          Zero false (is_prime-zero set),
      primes-fixed n set One true (is_prime-one set),
      primes-free n set,
    ) refl

-- a list of trits that a cube inside the set covers is inside the set
pub is_inside-covered : (set : List Bool → Bool) (c ts : List Trit) → covers c ts ≡ true → is_inside set c ≡ true
    → is_inside set ts ≡ true
is_inside-covered set [] [] h k = k
is_inside-covered set [] (t ∷ ts) h k = absurd (true≢false (sym h))
is_inside-covered set (w ∷ c) [] h k = absurd (true≢false (sym h))
is_inside-covered set (Zero ∷ c) (Zero ∷ ts) h k = is_inside-covered (half set false) c ts h k
is_inside-covered set (Zero ∷ c) (One ∷ ts) h k = absurd (true≢false (sym h))
is_inside-covered set (Zero ∷ c) (Unknown ∷ ts) h k = absurd (true≢false (sym h))
is_inside-covered set (One ∷ c) (Zero ∷ ts) h k = absurd (true≢false (sym h))
is_inside-covered set (One ∷ c) (One ∷ ts) h k = is_inside-covered (half set true) c ts h k
is_inside-covered set (One ∷ c) (Unknown ∷ ts) h k = absurd (true≢false (sym h))
is_inside-covered set (Unknown ∷ c) (Zero ∷ ts) h k =
    is_inside-covered (half set false) c ts h (and_parts (is_inside (half set false) c) (is_inside (half set true) c) k).0
is_inside-covered set (Unknown ∷ c) (One ∷ ts) h k =
    is_inside-covered (half set true) c ts h (and_parts (is_inside (half set false) c) (is_inside (half set true) c) k).1
is_inside-covered set (Unknown ∷ c) (Unknown ∷ ts) h k =
    let parts = and_parts (is_inside (half set false) c) (is_inside (half set true) c) k in
    and_from (is_inside (half set false) ts) (is_inside (half set true) ts) (is_inside-covered (half set false) c ts h parts.0)
    (is_inside-covered (half set true) c ts h parts.1)

-- what covers a list with this first place
any_covers-free : (cs : List (List Trit)) (t : Trit) (ts : List Trit)
    → any_covers (map (λ c. Unknown ∷ c) cs) (t ∷ ts) ≡ any_covers cs ts
any_covers-free cs t ts = any-map (λ c. covers c (t ∷ ts)) (λ c. Unknown ∷ c) cs

any_covers-same : (v : Trit) (cs : List (List Trit)) (ts : List Trit) → v ≢ Unknown
    → any_covers (map (λ c. v ∷ c) cs) (v ∷ ts) ≡ any_covers cs ts
any_covers-same Zero cs ts known = any-map (λ c. covers c (Zero ∷ ts)) (λ c. Zero ∷ c) cs
any_covers-same One cs ts known = any-map (λ c. covers c (One ∷ ts)) (λ c. One ∷ c) cs
any_covers-same Unknown cs ts known = absurd (known refl)

any_covers-other : (v t : Trit) (cs : List (List Trit)) (ts : List Trit) → (is_unknown v || same v t) ≡ false
    → any_covers (map (λ c. v ∷ c) cs) (t ∷ ts) ≡ false
any_covers-other v t cs ts h =
    any-map (λ c. covers c (t ∷ ts)) (λ c. v ∷ c) cs
    ∙ any_same (λ c. covers (v ∷ c) (t ∷ ts)) (λ _. false) cs (λ c. ap (λ b. b && covers c ts) h)
    ∙ any_never cs

not_covering : (set : List Bool → Bool) (c ts : List Trit) → is_inside set ts ≡ false → is_inside set c ≡ true
    → covers c ts ≡ false
not_covering set c ts h k =
    elim (cases_Bool (covers c ts))
    [ inl is_covered ↦ absurd (true≢false (sym (is_inside-covered set c ts is_covered k) ∙ h)) | inr n ↦ n ]

-- of the primes of a half, those left out because they are inside a smaller set are made up for by the primes of that set
made_up : (small f : List Bool → Bool) (cs : List (List Trit)) (ts : List Trit)
    → any_covers cs ts ≡ is_inside f ts → (is_inside small ts ≡ true → is_inside f ts ≡ true)
    → (any_covers (filter (λ c. not (is_inside small c)) cs) ts || is_inside small ts) ≡ is_inside f ts
made_up small f cs ts e within =
    elim (cases_Bool (is_inside small ts)) [
      | inl h ↦ or_right (any_covers (filter (λ c. not (is_inside small c)) cs) ts) (is_inside small ts) h ∙ sym (within h)
      | inr h ↦
          let kept : any_covers (filter (λ c. not (is_inside small c)) cs) ts ≡ any_covers cs ts
          = any-filter (λ c. covers c ts) (λ c. not (is_inside small c)) cs
          (λ c k. not_covering small c ts h (true_from_not (is_inside small c) k)) in
          rw (h, kept, e) (or_false (is_inside f ts))
    ]

both_within : (set : List Bool → Bool) (ts : List Trit) → is_inside (both set) ts ≡ true
    → (is_inside (half set false) ts ≡ true) × (is_inside (half set true) ts ≡ true)
both_within set ts h =
    and_parts (is_inside (half set false) ts) (is_inside (half set true) ts)
    (sym (is_inside-common (half set false) (half set true) ts) ∙ h)

no_places : (b : Bool) → any_covers (cond (b && true) ([] ∷ []) []) [] ≡ b
no_places true = refl
no_places false = refl

any_covers-split : (zs bs cs : List (List Trit)) (ts : List Trit)
    → any_covers (zs ++ bs ++ cs) ts ≡ ((any_covers zs ts || any_covers bs ts) || any_covers cs ts)
any_covers-split zs bs cs ts =
    list_any-append (λ c. covers c ts) (zs ++ bs) cs ∙ ap (λ b. b || any_covers cs ts) (list_any-append (λ c. covers c ts) zs bs)

-- whether a prime covers a list, by the first place of the prime
covers-split : (n : ℕ) (set : List Bool → Bool) (t : Trit) (ts : List Trit)
    → any_covers (prime_list n (both set)) ts ≡ is_inside (both set) ts
    → any_covers (prime_list (suc n) set) (t ∷ ts)
    ≡ ((any_covers (map (λ c. Zero ∷ c) (fixed_primes n set false)) (t ∷ ts)
    || any_covers (map (λ c. One ∷ c) (fixed_primes n set true)) (t ∷ ts))
    || is_inside (both set) ts)
covers-split n set t ts small =
    ap (λ cs. any_covers cs (t ∷ ts)) (prime_list-outside n set)
    ∙ any_covers-split (map (λ c. Zero ∷ c) (fixed_primes n set false)) (map (λ c. One ∷ c) (fixed_primes n set true))
    (map (λ c. Unknown ∷ c) (prime_list n (both set))) (t ∷ ts)
    ∙ rw (any_covers-free (prime_list n (both set)) t ts, small) refl

-- a list of trits is inside a set exactly where some prime covers it
pub any_covers-primes : (n : ℕ) (set : List Bool → Bool) (ts : List Trit) → length ts ≡ n
    → any_covers (prime_list n set) ts ≡ is_inside set ts
any_covers-primes zero set [] e = no_places (set [])
any_covers-primes zero set (t ∷ ts) e = absurd (omega arith)
any_covers-primes (suc n) set [] e = absurd (omega arith)
any_covers-primes (suc n) set (Zero ∷ ts) e =
    let long : length ts ≡ n = omega arith in
    covers-split n set Zero ts (any_covers-primes n (both set) ts long)
    ∙ rw (
      any_covers-same Zero (fixed_primes n set false) ts zero≢unknown,
      any_covers-other One Zero
          (fixed_primes n set true) ts refl,
      or_false (any_covers (fixed_primes n set false) ts),
    )
    (made_up (both set) (half set false) (prime_list n (half set false)) ts (any_covers-primes n (half set false) ts long)
    (λ h. (both_within set ts h).0))
any_covers-primes (suc n) set (One ∷ ts) e =
    let long : length ts ≡ n = omega arith in
    covers-split n set One ts (any_covers-primes n (both set) ts long)
    ∙ rw (
      any_covers-other Zero One (fixed_primes n set false) ts refl,
      any_covers-same One
          (fixed_primes n set true) ts one≢unknown,
    )
    (made_up (both set) (half set true) (prime_list n (half set true)) ts (any_covers-primes n (half set true) ts long)
    (λ h. (both_within set ts h).1))
any_covers-primes (suc n) set (Unknown ∷ ts) e =
    covers-split n set Unknown ts (any_covers-primes n (both set) ts (omega arith))
    ∙ rw (
      any_covers-other Zero Unknown (fixed_primes n set false) ts refl,
      any_covers-other One Unknown
          (fixed_primes n set true) ts refl,
    )
    (is_inside-common (half set false) (half set true) ts)

-- the lists of n trits
pub cubes_of-length : (n : ℕ) (c : List Trit) → Among c (cubes_of n) → length c ≡ n
cubes_of-length zero c h = elim h [ inl e ↦ sym (ap length e) | inr k ↦ absurd k ]
cubes_of-length (suc n) c h =
    elim (among-append c (map (λ d. Zero ∷ d) (cubes_of n) ++ map (λ d. One ∷ d) (cubes_of n))
    (map (λ d. Unknown ∷ d) (cubes_of n)) h) [
      | inl front ↦
          elim (among-append c (map (λ d. Zero ∷ d) (cubes_of n)) (map (λ d. One ∷ d) (cubes_of n)) front) [
            | inl k ↦ let r = among-map (λ d. Zero ∷ d) c (cubes_of n) k
                in sym (ap length r.1) ∙ ap suc (cubes_of-length n r.0 r.2)
            | inr k ↦ let r = among-map (λ d. One ∷ d) c (cubes_of n) k
                in sym (ap length r.1) ∙ ap suc (cubes_of-length n r.0 r.2)
          ]
      | inr k ↦ let r = among-map (λ d. Unknown ∷ d) c (cubes_of n) k in sym (ap length r.1) ∙ ap suc (cubes_of-length n r.0 r.2)
    ]

pub prime_list-length : (n : ℕ) (set : List Bool → Bool) (c : List Trit) → Among c (prime_list n set) → length c ≡ n
prime_list-length n set c h = cubes_of-length n c (among-filter (is_prime set) c (cubes_of n) h).0

-- the primes of a set are those merged of its halves
pub prime_list-merged : (n : ℕ) (set : List Bool → Bool)
    → merged (prime_list n (half set false)) (prime_list n (half set true)) (prime_list n (both set)) ≡ prime_list (suc n) set
prime_list-merged n set =
    sym (prime_list-outside n set ∙ rw (same_left_out (half set false), same_left_out (half set true)) refl)
  where
    same_left_out : (f : List Bool → Bool)
        → filter (λ c. not (is_inside (both set) c)) (prime_list n f) ≡ uncovered (prime_list n (both set)) (prime_list n f)
    same_left_out f =
        filter_same (λ c. not (is_inside (both set) c)) (λ c. not (any_covers (prime_list n (both set)) c)) (prime_list n f)
        (λ c k. ap not (sym (any_covers-primes n (both set) c (prime_list-length n f c k))))

-- sets that are equal at the points of n places have the same primes
is_inside-same : (f g : List Bool → Bool) (ts : List Trit) → ((p : List Bool) → length p ≡ length ts → f p ≡ g p)
    → is_inside f ts ≡ is_inside g ts
is_inside-same f g [] h = h [] refl
is_inside-same f g (Zero ∷ ts) h = is_inside-same (half f false) (half g false) ts (λ p e. h (false ∷ p) (ap suc e))
is_inside-same f g (One ∷ ts) h = is_inside-same (half f true) (half g true) ts (λ p e. h (true ∷ p) (ap suc e))
is_inside-same f g (Unknown ∷ ts) h =
    rw (
      is_inside-same (half f false) (half g false) ts (λ p e. h (false ∷ p) (ap suc e)),
      is_inside-same (half f true)
          (half g true) ts (λ p e. h (true ∷ p) (ap suc e)),
    ) refl

both-same : (f g : List Bool → Bool) (n : ℕ) → ((p : List Bool) → length p ≡ suc n → f p ≡ g p) → (p : List Bool) → length p ≡ n
    → both f p ≡ both g p
both-same f g n h p e = rw (h (false ∷ p) (ap suc e), h (true ∷ p) (ap suc e)) refl

outside-same : (f g : List Bool → Bool) (ts : List Trit) → ((p : List Bool) → length p ≡ suc (length ts) → f p ≡ g p)
    → not (is_inside (both f) ts) ≡ not (is_inside (both g) ts)
outside-same f g ts h = ap not (is_inside-same (both f) (both g) ts (both-same f g (length ts) h))

is_prime-same : (f g : List Bool → Bool) (ts : List Trit) → ((p : List Bool) → length p ≡ length ts → f p ≡ g p)
    → is_prime f ts ≡ is_prime g ts
is_prime-same f g [] h = rw (h [] refl) refl
is_prime-same f g (Zero ∷ ts) h =
    let fixed = is_prime-same (half f false) (half g false) ts (λ p e. h (false ∷ p) (ap suc e)) in
    is_prime-zero f ts ∙ (λ i. fixed i && outside-same f g ts h i) ∙ sym (is_prime-zero g ts)
is_prime-same f g (One ∷ ts) h =
    let fixed = is_prime-same (half f true) (half g true) ts (λ p e. h (true ∷ p) (ap suc e)) in
    is_prime-one f ts ∙ (λ i. fixed i && outside-same f g ts h i) ∙ sym (is_prime-one g ts)
is_prime-same f g (Unknown ∷ ts) h =
    is_prime-free f ts ∙ is_prime-same (both f) (both g) ts (both-same f g (length ts) h) ∙ sym (is_prime-free g ts)

pub prime_list-same : (n : ℕ) (f g : List Bool → Bool) → ((p : List Bool) → length p ≡ n → f p ≡ g p)
    → prime_list n f ≡ prime_list n g
prime_list-same n f g h =
    filter_same (is_prime f) (is_prime g) (cubes_of n) (λ c k. is_prime-same f g c (λ p e. h p (e ∙ cubes_of-length n c k)))

-- the resolution is 0 or 1 exactly inside the points that give this value
same-agreed : (v a b : Trit) → v ≢ Unknown → (same v a && same v b) ≡ same v (agreed a b)
same-agreed v a b h = grind arith

pub is_inside-gives : (v : Trit) (f : List Bool → Trit) (ts : List Trit) → v ≢ Unknown
    → is_inside (gives v f) ts ≡ same v (res f ts)
is_inside-gives v f [] h = refl
is_inside-gives v f (Zero ∷ ts) h = is_inside-gives v (λ p. f (false ∷ p)) ts h
is_inside-gives v f (One ∷ ts) h = is_inside-gives v (λ p. f (true ∷ p)) ts h
is_inside-gives v f (Unknown ∷ ts) h =
    rw (is_inside-gives v (λ p. f (false ∷ p)) ts h, is_inside-gives v (λ p. f (true ∷ p)) ts h)
    (same-agreed v (res (λ p. f (false ∷ p)) ts) (res (λ p. f (true ∷ p)) ts) h)

pub prime_list-gives : (n : ℕ) (f : List Bool → Trit) (v : Trit) (ts : List Trit)
    → v ≢ Unknown → length ts ≡ n → any_covers (prime_list n (gives v f)) ts ≡ same v (res f ts)
prime_list-gives n f v ts known long = any_covers-primes n (gives v f) ts long ∙ is_inside-gives v f ts known
