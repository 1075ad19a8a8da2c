-- Sets of points as words: their parts, and the primes of a set that are inside none of other sets.
use Rattle.std.proofs.Common.{◌≡◌, ◌==◌, ℕ, zero, suc, ◌/◌, ◌%◌, ◌^◌, ◌<◌, Bool, true, false, not, ◌&&◌, ◌||◌, nat_eq, bit_and}
use Rattle.std.proofs.Common.{List, [], ◌∷◌, ◌++◌, map, length, refl, sym, ◌∙◌, ap, inl, inr, arith, eq-eqb}
use Rattle.std.specs.List.{filter, list_any}
use Rattle.std.specs.Int.Bits.{and_zero_l, and_self}
use Rattle.std.proofs.Math.Path.{fun_ext}
use Rattle.std.proofs.Math.Nat.{zero-mod, zero-div}
use Rattle.std.proofs.lemmas.Bool.{true≢false, and_parts, or_cases, or_right, eqb-true}
use Rattle.std.proofs.lemmas.List.{append_assoc, append-nil, map-append}
use Rattle.std.proofs.lemmas.List.Elements.{filter-append}
use Rattle.std.proofs.lemmas.List.Folds.{list_any-append}
use Rattle.std.proofs.lemmas.Nat.{and_mod, and_shr, and_le_l}
use Rattle.std.proofs.Math.Bool.{or-false as or_false}
use Rattle.trit_cubes.specs.declared.trits.Trit.{Trit}
use Rattle.trit_cubes.specs.declared.trits.Trit.TheVariants.{Zero, One, Unknown}
use Rattle.trit_cubes.specs.Sets.{common}
use Rattle.trit_cubes.specs.Prime.{is_inside, is_prime, cubes_of, prime_list}
use Rattle.trit_cubes.specs.InWords.{in_word, word_part, in_one, primes_outside}
use Rattle.trit_cubes.proofs.ConstantLemmas.{primes-of-none}
use Rattle.trit_cubes.proofs.ListLemmas.{among-filter, filter-map, filter-and, filter_same, filter-never, any_same, any-map}
use Rattle.trit_cubes.proofs.SplitLemmas.{half, both, is_inside-common, prime_list-outside, prime_list-same}

-- the points in both words
bits-and : (x y : ℕ) → x < 2 → y < 2 → (bit_and x y == 1) ≡ ((x == 1) && (y == 1))
bits-and zero y p q = ap (λ b. b == 1) (and_zero_l y)
bits-and (suc zero) zero p q = refl
bits-and (suc zero) (suc zero) p q = refl
bits-and (suc zero) (suc (suc y)) p q = absurd (omega arith)
bits-and (suc (suc x)) y p q = absurd (omega arith)

pub in_word-and : (n a b : ℕ) (p : List Bool) → in_word n (bit_and a b) p ≡ common (in_word n a) (in_word n b) p
in_word-and zero a b p = ap (λ x. x == 1) (and_mod a b 1) ∙ bits-and (a % 2) (b % 2) (omega arith) (omega arith)
in_word-and (suc n) a b [] = refl
in_word-and (suc n) a b (false ∷ p) = ap (λ w. in_word n w p) (and_mod a b (2 ^ n))
    ∙ in_word-and n (a % 2 ^ 2 ^ n) (b % 2 ^ 2 ^ n) p
in_word-and (suc n) a b (true ∷ p) = ap (λ w. in_word n w p) (and_shr a b (2 ^ n))
    ∙ in_word-and n (a / 2 ^ 2 ^ n) (b / 2 ^ 2 ^ n) p

both-of : (n w : ℕ) → both (in_word (suc n) w) ≡ in_word n (word_part n Unknown w)
both-of n w = sym (fun_ext (in_word-and n (w % 2 ^ 2 ^ n) (w / 2 ^ 2 ^ n)))

inside-part : (n w : ℕ) (t : Trit) (c : List Trit)
    → is_inside (in_word (suc n) w) (t ∷ c) ≡ is_inside (in_word n (word_part n t w)) c
inside-part n w Zero c = refl
inside-part n w One c = refl
inside-part n w Unknown c =
    sym (is_inside-common (half (in_word (suc n) w) false) (half (in_word (suc n) w) true) c)
    ∙ ap (λ f. is_inside f c) (both-of n w)

in_one-part : (n : ℕ) (gs : List ℕ) (t : Trit) (c : List Trit) → in_one (suc n) gs (t ∷ c) ≡ in_one n (map (word_part n t) gs) c
in_one-part n gs t c =
    any_same (λ g. is_inside (in_word (suc n) g) (t ∷ c)) (λ g. is_inside (in_word n (word_part n t g)) c) gs
    (λ g. inside-part n g t c)
    ∙ sym (any-map (λ g. is_inside (in_word n g) c) (word_part n t) gs)

in_one-more : (n : ℕ) (gs : List ℕ) (b : ℕ) (c : List Trit)
    → in_one n (gs ++ b ∷ []) c ≡ (in_one n gs c || is_inside (in_word n b) c)
in_one-more n gs b c =
    list_any-append (λ g. is_inside (in_word n g) c) gs (b ∷ [])
    ∙ ap (λ x. in_one n gs c || x) (or_false (is_inside (in_word n b) c))

neither : (x y : Bool) → (not y && not x) ≡ not (x || y)
neither true true = refl
neither true false = refl
neither false true = refl
neither false false = refl

-- of the primes with a fixed first place, those inside none of the others
fixed-part : (n w : ℕ) (gs : List ℕ) (t : Trit) (cs : List (List Trit))
    → filter (λ c. not (in_one (suc n) gs c)) (map (λ c. t ∷ c) (filter (λ c. not (is_inside (both (in_word (suc n) w)) c)) cs))
    ≡ map (λ c. t ∷ c) (filter (λ c. not (in_one n (map (word_part n t) gs ++ word_part n Unknown w ∷ []) c)) cs)
fixed-part n w gs t cs =
    let free = word_part n Unknown w in
    let parts = map (word_part n t) gs in
    filter-map (λ c. not (in_one (suc n) gs c)) (λ c. t ∷ c) (filter (λ c. not (is_inside (both (in_word (suc n) w)) c)) cs)
    ∙ ap (map (λ c. t ∷ c))
    (sym (filter-and (λ c. not (is_inside (both (in_word (suc n) w)) c)) (λ c. not (in_one (suc n) gs (t ∷ c))) cs)
    ∙ filter_same (λ c. not (is_inside (both (in_word (suc n) w)) c) && not (in_one (suc n) gs (t ∷ c)))
    (λ c. not (in_one n (parts ++ free ∷ []) c)) cs
    (λ c _. ap (λ x. not (is_inside (both (in_word (suc n) w)) c) && not x) (in_one-part n gs t c)
    ∙ neither (in_one n parts c) (is_inside (both (in_word (suc n) w)) c)
    ∙ ap (λ f. not (in_one n parts c || is_inside f c)) (both-of n w)
    ∙ ap not (sym (in_one-more n parts free c))))

free-part : (n w : ℕ) (gs : List ℕ)
    → filter (λ c. not (in_one (suc n) gs c)) (map (λ c. Unknown ∷ c) (prime_list n (both (in_word (suc n) w))))
    ≡ map (λ c. Unknown ∷ c) (primes_outside n (word_part n Unknown w) (map (word_part n Unknown) gs))
free-part n w gs =
    filter-map (λ c. not (in_one (suc n) gs c)) (λ c. Unknown ∷ c) (prime_list n (both (in_word (suc n) w)))
    ∙ ap (map (λ c. Unknown ∷ c))
    (filter_same (λ c. not (in_one (suc n) gs (Unknown ∷ c))) (λ c. not (in_one n (map (word_part n Unknown) gs) c))
    (prime_list n (both (in_word (suc n) w)))
    (λ c _. ap not (in_one-part n gs Unknown c))
    ∙ ap (λ f. filter (λ c. not (in_one n (map (word_part n Unknown) gs) c)) (prime_list n f)) (both-of n w))

-- the other sets of a half: their halves, and the points in both halves
abbrev pub others_of : ℕ → ℕ → List ℕ → Trit → List ℕ
others_of n w gs t = map (word_part n t) gs ++ word_part n Unknown w ∷ []

outside-split : (n w : ℕ) (gs : List ℕ)
    → primes_outside (suc n) w gs
    ≡ map (λ c. Zero ∷ c) (primes_outside n (word_part n Zero w) (others_of n w gs Zero))
    ++ map (λ c. One ∷ c) (primes_outside n (word_part n One w) (others_of n w gs One))
    ++ map (λ c. Unknown ∷ c) (primes_outside n (word_part n Unknown w) (map (word_part n Unknown) gs))
outside-split n w gs =
    let set = in_word (suc n) w in
    let is_kept : List Trit → Bool = λ c. not (in_one (suc n) gs c) in
    let zs = map (λ c. Zero ∷ c) (filter (λ c. not (is_inside (both set) c)) (prime_list n (half set false))) in
    let os = map (λ c. One ∷ c) (filter (λ c. not (is_inside (both set) c)) (prime_list n (half set true))) in
    let fs = map (λ c. Unknown ∷ c) (prime_list n (both set)) in
    ap (filter is_kept) (prime_list-outside n set)
    ∙ filter-append is_kept (zs ++ os) fs
    ∙ ap (λ xs. xs ++ filter is_kept fs) (filter-append is_kept zs os)
    ∙ ap (λ xs. (xs ++ filter is_kept os) ++ filter is_kept fs) (fixed-part n w gs Zero (prime_list n (half set false)))
    ∙ ap (λ xs. (map (λ c. Zero ∷ c) (primes_outside n (word_part n Zero w) (others_of n w gs Zero)) ++ xs) ++ filter is_kept fs)
    (fixed-part n w gs One (prime_list n (half set true)))
    ∙ ap (λ xs. (map (λ c. Zero ∷ c) (primes_outside n (word_part n Zero w) (others_of n w gs Zero))
    ++ map (λ c. One ∷ c) (primes_outside n (word_part n One w) (others_of n w gs One))) ++ xs)
    (free-part n w gs)

-- cubes behind the places in front of them
behind : (front : List Trit) (t : Trit) (cs : List (List Trit))
    → map (λ c. (front ++ t ∷ []) ++ c) cs ≡ map (λ c. front ++ c) (map (λ c. t ∷ c) cs)
behind front t [] = refl
behind front t (c ∷ cs) = rw (append_assoc front (t ∷ []) c, behind front t cs) refl

part-added : (n : ℕ) (t : Trit) (v w : ℕ) (vs ws : List ℕ) (front longer : List Trit) → v ≡ w → vs ≡ ws → longer ≡ front ++ t ∷ []
    → map (λ c. longer ++ c) (primes_outside n v vs) ≡ map (λ c. front ++ c) (map (λ c. t ∷ c) (primes_outside n w ws))
part-added n t v w vs ws front longer ev es el =
    ap (λ f. map (λ c. f ++ c) (primes_outside n v vs)) el
    ∙ ap (λ u. map (λ c. (front ++ t ∷ []) ++ c) (primes_outside n u vs)) ev
    ∙ ap (λ us. map (λ c. (front ++ t ∷ []) ++ c) (primes_outside n w us)) es
    ∙ behind front t (primes_outside n w ws)

pub added-halves : (n left w zero_word one_word both_word : ℕ) (gs zs os fs : List ℕ) (front zf of ff : List Trit)
    (x0 x1 x2 x3 : List (List Trit))
    → left ≡ suc n → zero_word ≡ word_part n Zero w → one_word ≡ word_part n One w → both_word ≡ word_part n Unknown w
    → zs ≡ map (word_part n Zero) gs ++ both_word ∷ [] → os ≡ map (word_part n One) gs ++ both_word ∷ []
    → fs ≡ map (word_part n Unknown) gs
    → zf ≡ front ++ Zero ∷ [] → of ≡ front ++ One ∷ [] → ff ≡ front ++ Unknown ∷ []
    → x1 ≡ x0 ++ map (λ c. zf ++ c) (primes_outside n zero_word zs)
    → x2 ≡ x1 ++ map (λ c. of ++ c) (primes_outside n one_word os)
    → x3 ≡ x2 ++ map (λ c. ff ++ c) (primes_outside n both_word fs)
    → x3 ≡ x0 ++ map (λ c. front ++ c) (primes_outside left w gs)
added-halves n left w zw ow bw gs zs os fs front zf of ff x0 x1 x2 x3 el ez eo eb hz ho hf fz fo ft e1 e2 e3 =
    let za = map (λ c. Zero ∷ c) (primes_outside n (word_part n Zero w) (others_of n w gs Zero)) in
    let oa = map (λ c. One ∷ c) (primes_outside n (word_part n One w) (others_of n w gs One)) in
    let fa = map (λ c. Unknown ∷ c) (primes_outside n (word_part n Unknown w) (map (word_part n Unknown) gs)) in
    let put : List (List Trit) → List (List Trit) = map (λ c. front ++ c) in
    let z : x1 ≡ x0 ++ put za
    = e1 ∙ ap (λ v. x0 ++ v)
    (part-added n Zero zw (word_part n Zero w) zs (others_of n w gs Zero) front zf ez
    (hz ∙ ap (λ b. map (word_part n Zero) gs ++ b ∷ []) eb) fz) in
    let o : x2 ≡ x1 ++ put oa
    = e2 ∙ ap (λ v. x1 ++ v)
    (part-added n One ow (word_part n One w) os (others_of n w gs One) front of eo
    (ho ∙ ap (λ b. map (word_part n One) gs ++ b ∷ []) eb) fo) in
    let f : x3 ≡ x2 ++ put fa
    = e3 ∙ ap (λ v. x2 ++ v) (part-added n Unknown bw (word_part n Unknown w) fs (map (word_part n Unknown) gs) front ff eb hf ft)
    in
    f ∙ ap (λ v. v ++ put fa) (o ∙ ap (λ v. v ++ put oa) z ∙ append_assoc x0 (put za) (put oa))
    ∙ append_assoc x0 (put za ++ put oa) (put fa)
    ∙ ap (λ v. x0 ++ (v ++ put fa)) (sym (map-append (λ c. front ++ c) za oa))
    ∙ ap (λ v. x0 ++ v) (sym (map-append (λ c. front ++ c) (za ++ oa) fa))
    ∙ ap (λ v. x0 ++ put v) (sym (outside-split n w gs))
    ∙ ap (λ m. x0 ++ put (primes_outside m w gs)) (sym el)

-- no prime where another set has all points of the set
inside-smaller : (n w g : ℕ) (c : List Trit) → bit_and w g ≡ w → is_inside (in_word n w) c ≡ true
    → is_inside (in_word n g) c ≡ true
inside-smaller n w g c e h =
    let within : (is_inside (in_word n w) c && is_inside (in_word n g) c) ≡ true
    = sym (is_inside-common (in_word n w) (in_word n g) c) ∙ ap (λ f. is_inside f c) (sym (fun_ext (in_word-and n w g)))
    ∙ ap (λ v. is_inside (in_word n v) c) e ∙ h in
    (and_parts (is_inside (in_word n w) c) (is_inside (in_word n g) c) within).1

in_one-smaller : (n w : ℕ) (gs : List ℕ) (c : List Trit) → list_any (λ g. nat_eq (bit_and w g) w) gs ≡ true
    → is_inside (in_word n w) c ≡ true → in_one n gs c ≡ true
in_one-smaller n w [] c h k = absurd (true≢false (sym h))
in_one-smaller n w (g ∷ gs) c h k =
    elim (or_cases (nat_eq (bit_and w g) w) (list_any (λ v. nat_eq (bit_and w v) w) gs) h) [
      | inl e ↦ ap (λ b. b || in_one n gs c) (inside-smaller n w g c (eqb-true (bit_and w g) w e) k)
      | inr e ↦ or_right (is_inside (in_word n g) c) (in_one n gs c) (in_one-smaller n w gs c e k)
    ]

pub outside-covered : (n w : ℕ) (gs : List ℕ) → list_any (λ g. nat_eq (bit_and w g) w) gs ≡ true → primes_outside n w gs ≡ []
outside-covered n w gs h =
    filter_same (λ c. not (in_one n gs c)) (λ _. false) (prime_list n (in_word n w))
    (λ c k.
    let prime = (among-filter (is_prime (in_word n w)) c (cubes_of n) k).1 in
    ap not (in_one-smaller n w gs c h (and_parts (is_inside (in_word n w) c) _ prime).0))
    ∙ filter-never (prime_list n (in_word n w))

-- none where the part of the set in front of which the place is fixed is that where it is free
pub added-same : (n own both : ℕ) (parts : List ℕ) (front : List Trit) (x0 : List (List Trit)) → own ≡ both
    → x0 ≡ x0 ++ map (λ c. front ++ c) (primes_outside n own (parts ++ both ∷ []))
added-same n own both parts front x0 e =
    let within : nat_eq (bit_and own both) own ≡ true
    = eq-eqb (bit_and own both) own (ap (bit_and own) (sym e) ∙ and_self own) in
    let covered : list_any (λ other. nat_eq (bit_and own other) own) (parts ++ both ∷ []) ≡ true
    = list_any-append (λ other. nat_eq (bit_and own other) own) parts (both ∷ [])
    ∙ or_right (list_any (λ other. nat_eq (bit_and own other) own) parts) (nat_eq (bit_and own both) own || false)
    (ap (λ b. b || false) within) in
    sym (append-nil x0)
    ∙ ap (λ cs. x0 ++ map (λ c. front ++ c) cs) (sym (outside-covered n own (parts ++ both ∷ []) covered))

-- no prime of no points
in_word-none : (n : ℕ) (p : List Bool) → in_word n 0 p ≡ false
in_word-none zero p = refl
in_word-none (suc n) [] = refl
in_word-none (suc n) (false ∷ p) = ap (λ w. in_word n w p) (zero-mod (2 ^ 2 ^ n)) ∙ in_word-none n p
in_word-none (suc n) (true ∷ p) = ap (λ w. in_word n w p) (zero-div (2 ^ 2 ^ n)) ∙ in_word-none n p

pub outside-none : (n w : ℕ) (gs : List ℕ) → w ≡ 0 → primes_outside n w gs ≡ []
outside-none n w gs e =
    ap (λ v. primes_outside n v gs) e
    ∙ ap (λ f. filter (λ c. not (in_one n gs c)) (prime_list n f)) (fun_ext (in_word-none n))
    ∙ ap (filter (λ c. not (in_one n gs c))) (primes-of-none n)

-- the one prime over no places
one-bit : (g : ℕ) → (g % 2 == 1) ≡ nat_eq (bit_and 1 g) 1
one-bit g =
    let low : (bit_and 1 g % 2 == 1) ≡ (g % 2 == 1) = in_word-and zero 1 g [] in
    let same : bit_and 1 g % 2 ≡ bit_and 1 g = omega (arith, and_le_l 1 g) in
    sym low ∙ ap (λ x. nat_eq x 1) same

pub outside-last : (n w : ℕ) (gs : List ℕ) → n ≡ 0 → (w ≡ 0 → ⊥) → w < 2 ^ 2 ^ n
    → list_any (λ g. nat_eq (bit_and w g) w) gs ≡ false → primes_outside n w gs ≡ [] ∷ []
outside-last zero zero gs e some l h = absurd (some refl)
outside-last zero (suc zero) gs e some l h =
    ap (λ b. filter (λ _. not b) ([] ∷ []))
    (any_same (λ g. is_inside (in_word zero g) []) (λ g. nat_eq (bit_and 1 g) 1) gs one-bit ∙ h)
outside-last zero (suc (suc w)) gs e some l h = absurd (omega arith)
outside-last (suc n) w gs e some l h = absurd (omega arith)

-- no other sets
filter-always : {X : Type 0} (xs : List X) → filter (λ _. true) xs ≡ xs
filter-always [] = refl
filter-always (x ∷ xs) = ap (λ ys. x ∷ ys) (filter-always xs)

pub outside-nothing : (n w : ℕ) → primes_outside n w [] ≡ prime_list n (in_word n w)
outside-nothing n w = filter-always (prime_list n (in_word n w))

-- nothing added, the one prime over no places, and all primes
pub added-none : (n w : ℕ) (gs : List ℕ) (front : List Trit) (x0 : List (List Trit)) → primes_outside n w gs ≡ []
    → x0 ≡ x0 ++ map (λ c. front ++ c) (primes_outside n w gs)
added-none n w gs front x0 e = sym (append-nil x0) ∙ ap (λ cs. x0 ++ map (λ c. front ++ c) cs) (sym e)

pub added-last : (n w : ℕ) (gs : List ℕ) (front : List Trit) (x0 x1 : List (List Trit)) → x1 ≡ x0 ++ front ∷ []
    → n ≡ 0 → (w ≡ 0 → ⊥) → w < 2 ^ 2 ^ n → list_any (λ g. nat_eq (bit_and w g) w) gs ≡ false
    → x1 ≡ x0 ++ map (λ c. front ++ c) (primes_outside n w gs)
added-last n w gs front x0 x1 e none some l h =
    e ∙ ap (λ f. x0 ++ f ∷ []) (sym (append-nil front))
    ∙ ap (λ cs. x0 ++ map (λ c. front ++ c) cs) (sym (outside-last n w gs none some l h))

map-same : (cs : List (List Trit)) → map (λ c. [] ++ c) cs ≡ cs
map-same [] = refl
map-same (c ∷ cs) = ap (λ ds. c ∷ ds) (map-same cs)

pub added-all : (n w : ℕ) (set : List Bool → Bool) (front : List Trit) (x0 x1 : List (List Trit)) → x0 ≡ [] → front ≡ []
    → x1 ≡ x0 ++ map (λ c. front ++ c) (primes_outside n w []) → ((p : List Bool) → length p ≡ n → in_word n w p ≡ set p)
    → x1 ≡ prime_list n set
added-all n w set front x0 x1 e0 ef e h =
    e ∙ ap (λ x. x ++ map (λ c. front ++ c) (primes_outside n w [])) e0
    ∙ ap (λ f. map (λ c. f ++ c) (primes_outside n w [])) ef
    ∙ map-same (primes_outside n w []) ∙ outside-nothing n w ∙ prime_list-same n (in_word n w) set h
