-- What the code of splitting and merging needs of tables and of lists of primes.
use Rattle.std.proofs.Common.{◌≡◌, ℕ, zero, suc, ◌+◌, ◌-◌, ◌*◌, ◌/◌, ◌^◌, ◌<◌, Bool, true, false, not, ◌&&◌, ◌||◌, List, [], ◌∷◌, ◌++◌, map, length}
use Rattle.std.proofs.Common.{refl, sym, ◌∙◌, ap, inl, inr, arith, pow-suc, add-one}
use Rattle.std.specs.List.{All}
use Rattle.std.proofs.lemmas.Bool.{or_right}
use Rattle.std.proofs.lemmas.List.Elements.{Contains-get_or}
use Rattle.std.proofs.Math.Path.{fun_ext}
use Rattle.trit_cubes.specs.declared.trits.Trit.{Trit}
use Rattle.trit_cubes.specs.Sets.{has, common, joined}
use Rattle.trit_cubes.specs.declared.trits.Trit.TheVariants.{Zero, One, Unknown}
use Rattle.trit_cubes.specs.Filling.{covers}
use Rattle.trit_cubes.specs.Prime.{prime_list, merged, any_covers, uncovered, AreHalves}
use Rattle.trit_cubes.proofs.ListLemmas.{Among, contains-among, filter_same, filter-never}
use Rattle.trit_cubes.proofs.SplitLemmas.{half, both, prime_list-length, prime_list-merged}

-- half of a table of all points
pub length-half : (n l m : ℕ) → (n ≡ 0 → ⊥) → l ≡ 2 ^ n → m ≡ l / 2 → (m ≡ 2 ^ (n - 1)) × (2 * m ≡ l)
length-half zero l m some e f = absurd (some refl)
length-half (suc n) l m some e f =
    let before : suc n - 1 ≡ n = omega arith in
    let double : 2 ^ suc n ≡ 2 * 2 ^ n = rw pow-suc (omega arith) in
    rw before (omega (arith, double), omega (arith, double))

-- primes over fewer than ten places leave room for one more
pub primes-short : (n : ℕ) (set : List Bool → Bool) (cubes : List (List Trit)) → cubes ≡ prime_list n set → n < 10
    → All (λ c. length c < 10) cubes
primes-short n set cubes e room k d within =
    let long = prime_list-length n set _ (contains-among _ _ (Contains-get_or (prime_list n set) k d (rw (← e) within))) in
    rw e (omega (arith, long))

-- the primes of a table from those of its halves
pub primes-halves : (n : ℕ) (set zero_half one_half both_half : List Bool) (zero_cubes one_cubes both_cubes : List (List Trit))
    → (n ≡ 0 → ⊥)
    → ((p : List Bool) → has zero_half p ≡ half (has set) false p)
    → ((p : List Bool) → has one_half p ≡ half (has set) true p)
    → ((p : List Bool) → has both_half p ≡ common (has zero_half) (has one_half) p)
    → zero_cubes ≡ prime_list (n - 1) (has zero_half) → one_cubes ≡ prime_list (n - 1) (has one_half)
    → both_cubes ≡ prime_list (n - 1) (has both_half)
    → merged zero_cubes one_cubes both_cubes ≡ prime_list n (has set)
primes-halves zero set zh oh bh zs os bs some hz ho hb ez eo eb = absurd (some refl)
primes-halves (suc n) set zh oh bh zs os bs some hz ho hb ez eo eb =
    let before : suc n - 1 ≡ n = omega arith in
    let zeros : has zh ≡ half (has set) false = fun_ext hz in
    let ones : has oh ≡ half (has set) true = fun_ext ho in
    let boths : has bh ≡ both (has set) = fun_ext hb ∙ ap (λ f. common f (has oh)) zeros ∙ ap (common (half (has set) false)) ones
    in
    let z : zs ≡ prime_list n (half (has set) false) = ez ∙ ap (λ m. prime_list m (has zh)) before ∙ ap (prime_list n) zeros in
    let o : os ≡ prime_list n (half (has set) true) = eo ∙ ap (λ m. prime_list m (has oh)) before ∙ ap (prime_list n) ones in
    let b : bs ≡ prime_list n (both (has set)) = eb ∙ ap (λ m. prime_list m (has bh)) before ∙ ap (prime_list n) boths in
    ap (λ x. merged x os bs) z ∙ ap (λ x. merged (prime_list n (half (has set) false)) x bs) o
    ∙ ap (merged (prime_list n (half (has set) false)) (prime_list n (half (has set) true))) b ∙ prime_list-merged n (has set)

-- a cube covers itself, and so no cube of a list is uncovered by the list
covers-itself : (c : List Trit) → covers c c ≡ true
covers-itself [] = refl
covers-itself (Zero ∷ c) = covers-itself c
covers-itself (One ∷ c) = covers-itself c
covers-itself (Unknown ∷ c) = covers-itself c

covered-among : (c : List Trit) (cs : List (List Trit)) → Among c cs → any_covers cs c ≡ true
covered-among c [] h = absurd h
covered-among c (d ∷ cs) h =
    elim h [
      | inl e ↦ ap (λ b. b || any_covers cs c) (ap (λ w. covers w c) e ∙ covers-itself c)
      | inr k ↦ or_right (covers d c) (any_covers cs c) (covered-among c cs k)
    ]

none-uncovered : (cs : List (List Trit)) → uncovered cs cs ≡ []
none-uncovered cs =
    filter_same (λ c. not (any_covers cs c)) (λ _. false) cs (λ c k. ap not (covered-among c cs k)) ∙ filter-never cs

-- the primes of a table whose halves are the same
pub primes-free : (n : ℕ) (set zero_half one_half : List Bool) (cubes found : List (List Trit)) → (n ≡ 0 → ⊥)
    → ((p : List Bool) → has zero_half p ≡ half (has set) false p)
    → ((p : List Bool) → has one_half p ≡ half (has set) true p)
    → zero_half ≡ one_half → cubes ≡ prime_list (n - 1) (has zero_half) → found ≡ merged [] [] cubes
    → found ≡ prime_list n (has set)
primes-free n set zh oh cs found some hz ho same e f =
    let both_is : (p : List Bool) → has zh p ≡ common (has zh) (has oh) p
    = λ p. twice (has zh p) ∙ ap (λ t. has zh p && has t p) same in
    f ∙ sym (ap (λ cubes. map (λ c. Zero ∷ c) cubes ++ map (λ c. One ∷ c) cubes ++ map (λ c. Unknown ∷ c) cs) (none-uncovered cs))
    ∙ primes-halves n set zh oh zh cs cs cs some hz ho both_is e (e ∙ ap (λ t. prime_list (n - 1) (has t)) same) e
  where
    twice : (b : Bool) → b ≡ (b && b)
    twice true = refl
    twice false = refl

-- the joined set
pub primes-joined : (n : ℕ) (f g : List Bool → Bool) (zs os bs found : List (List Trit))
    → AreHalves n f g zs os bs → found ≡ merged zs os bs → found ≡ prime_list (n + 1) (joined f g)
primes-joined n f g zs os bs found h e =
    e ∙ ap (λ x. merged x os bs) h.zero_primes ∙ ap (λ x. merged (prime_list n f) x bs) h.one_primes
    ∙ ap (merged (prime_list n f) (prime_list n g)) h.both_primes ∙ prime_list-merged n (joined f g)
    ∙ ap (λ m. prime_list m (joined f g)) (sym (add-one n))
