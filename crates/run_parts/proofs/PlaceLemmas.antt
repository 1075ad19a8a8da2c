-- The places of entries that pass a test, and what is done at these places, one after another.
use Rattle.std.proofs.Common.{◌≡◌, ℕ, zero, suc, ◌+◌, ◌<◌, ◌≤◌, Bool, true, false, ◌||◌, cond, List, [], ◌∷◌, ◌++◌, append_assoc}
use Rattle.std.proofs.Common.{length, get_or, set, take, drop, map, refl, ap, sym, ◌∙◌, Option, Some, None, slice_get, arith}
use Rattle.std.proofs.Common.{add-one, length-take-le, length-drop}
use Rattle.std.specs.List.{list_any}
use Rattle.std.proofs.lemmas.List.{append-nil, take_more, take-append-drop, drop_all, length-set, set-get_or}
use Rattle.std.proofs.lemmas.Option.{slice_get_within, get_or_from_slice_get}
use Rattle.cell_machine.specs.Each.{each}
use Rattle.cell_machine.proofs.ArcDelays.{drop-at}
use Rattle.cell_machine.proofs.EachLemmas.{each-step, each-done}
use Rattle.run_parts.specs.Places.{places_from, FindsAnew}
use Rattle.run_parts.proofs.Fronts.{take-set}

-- one entry more
pub places-last :
    {X : Type 0} (t : X → Bool) (k : ℕ) (xs : List X) (x : X)
    → places_from t k (xs ++ x ∷ []) ≡ places_from t k xs ++ cond (t x) ((k + length xs) ∷ []) []
places-last t k [] x =
    let here : k ≡ k + 0 = omega arith in
    ap (λ m. cond (t x) (m ∷ []) []) here
places-last t k (y ∷ ys) x =
    let further : (k + 1) + length ys ≡ k + suc (length ys) = omega arith in
    let rest : places_from t (k + 1) (ys ++ x ∷ []) ≡ places_from t (k + 1) ys ++ cond (t x) ((k + suc (length ys)) ∷ []) []
    = places-last t (k + 1) ys x ∙ ap (λ m. places_from t (k + 1) ys ++ cond (t x) (m ∷ []) []) further in
    elim (t y) as (λ b.
    cond b (k ∷ places_from t (k + 1) (ys ++ x ∷ [])) (places_from t (k + 1) (ys ++ x ∷ []))
    ≡ cond b (k ∷ places_from t (k + 1) ys) (places_from t (k + 1) ys) ++ cond (t x) ((k + suc (length ys)) ∷ []) []) [
      | true ↦ ap (λ r. k ∷ r) rest
      | false ↦ rest
    ]

-- one entry more passes a test or does not
pub places-more :
    {X : Type 0} (t : X → Bool) (xs : List X) (i : ℕ) (d : X)
    → i < length xs
    → places_from t 0 (take i xs) ++ cond (t (get_or xs i d)) (i ∷ []) [] ≡ places_from t 0 (take (i + 1) xs)
places-more t xs i d inside =
    let few : i ≤ length xs = omega (arith, inside) in
    let long : i ≡ 0 + length (take i xs) = omega (arith, length-take-le i xs few) in
    ap (λ m. places_from t 0 (take i xs) ++ cond (t (get_or xs i d)) (m ∷ []) []) long
    ∙ sym (places-last t 0 (take i xs) (get_or xs i d))
    ∙ ap (places_from t 0) (sym (take_more xs i d inside))

-- the places are inside
places-one :
    (k n : ℕ) (places : List ℕ) (d : ℕ) → ((j : ℕ) → j < length places → get_or places j d < (k + 1) + n)
    → (b : Bool) (j : ℕ) → j < length (cond b (k ∷ places) places) → get_or (cond b (k ∷ places) places) j d < k + suc n
places-one k n places d rest true zero inside = omega arith
places-one k n places d rest true (suc j) inside = let r = rest j (omega (arith, inside)) in omega (arith, r)
places-one k n places d rest false j inside = let r = rest j inside in omega (arith, r)

pub places-within :
    {X : Type 0} (t : X → Bool) (k : ℕ) (xs : List X) (d j : ℕ)
    → j < length (places_from t k xs) → get_or (places_from t k xs) j d < k + length xs
places-within t k [] d j inside = absurd (omega (arith, inside))
places-within t k (x ∷ xs) d j inside =
    places-one k (length xs) (places_from t (k + 1) xs) d (λ i h. places-within t (k + 1) xs d i h) (t x) j inside

-- Entries at places are stepped, one after another.
abbrev pub step_one : {X S : Type 0} → (X → S → S) → S → ℕ → List S → Option X → List S
step_one f d i ss None = ss
step_one f d i ss (Some x) = set ss i (f x (get_or ss i d))

abbrev pub stepped : {X S : Type 0} → (X → S → S) → S → List X → List ℕ → List S → List S
stepped f d xs [] ss = ss
stepped f d xs (i ∷ is) ss = stepped f d xs is (step_one f d i ss (slice_get xs i))

pub get-drop : {X : Type 0} (xs : List X) (k : ℕ) (x : X) (rest : List X) → drop k xs ≡ x ∷ rest → slice_get xs k ≡ Some x
get-drop [] zero x rest e = absurd cc
get-drop [] (suc k) x rest e = absurd cc
get-drop (y ∷ ys) zero x rest e = let same : y ≡ x = cc in ap Some same
get-drop (y ∷ ys) (suc k) x rest e = get-drop ys k x rest e

pub drop-behind : {X : Type 0} (xs : List X) (k : ℕ) (x : X) (rest : List X) → drop k xs ≡ x ∷ rest → rest ≡ drop (suc k) xs
drop-behind [] zero x rest e = absurd cc
drop-behind [] (suc k) x rest e = absurd cc
drop-behind (y ∷ ys) zero x rest e = let same : ys ≡ rest = cc in sym same
drop-behind (y ∷ ys) (suc k) x rest e = drop-behind ys k x rest e

joined :
    {X S : Type 0} (f : X → S → S) (xs rest : List X) (x : X) (k : ℕ) (ss : List S) (new d : S)
    → drop k xs ≡ x ∷ rest → k < length ss → new ≡ f x (get_or ss k d)
    → take (k + 1) (set ss k new) ++ each f rest (drop (k + 1) (set ss k new)) ≡ take k ss ++ each f (x ∷ rest) (drop k ss)
joined f xs rest x k ss new d is inside own =
    let next : k + 1 ≡ suc k = omega arith in
    let behind = drop-behind xs k x rest is in
    (λ i. take (next i) (set ss k new) ++ each f (behind i) (drop (next i) (set ss k new)))
    ∙ each-step f xs ss k x new d (get-drop xs k x rest is) inside own
    ∙ ap (λ r. take k ss ++ each f r (drop k ss)) is

one-fed :
    {X S : Type 0} (f : X → S → S) (d : S) (xs rest : List X) (x : X) (k : ℕ) (ss : List S) (places : List ℕ) (b : Bool)
    → (b ≡ false → (s : S) → f x s ≡ s) → drop k xs ≡ x ∷ rest → length ss ≡ length xs
    → ((us : List S) → length us ≡ length xs → stepped f d xs places us ≡ take (k + 1) us ++ each f rest (drop (k + 1) us))
    → stepped f d xs (cond b (k ∷ places) places) ss ≡ take k ss ++ each f (x ∷ rest) (drop k ss)
one-fed f d xs rest x k ss places true keeps is long again =
    let found = get-drop xs k x rest is in
    let within = slice_get_within xs k x found in
    ap (λ o. stepped f d xs places (step_one f d k ss o)) found
    ∙ again (set ss k (f x (get_or ss k d))) (length-set ss k (f x (get_or ss k d)) ∙ long)
    ∙ joined f xs rest x k ss (f x (get_or ss k d)) d is (omega (arith, within, long)) refl
one-fed f d xs rest x k ss places false keeps is long again =
    let found = get-drop xs k x rest is in
    let within = slice_get_within xs k x found in
    again ss long
    ∙ (λ i. take (k + 1) (sym (set-get_or ss k d) i) ++ each f rest (drop (k + 1) (sym (set-get_or ss k d) i)))
    ∙ joined f xs rest x k ss (get_or ss k d) d is (omega (arith, within, long)) (sym (keeps refl (get_or ss k d)))

-- the entries that a step alters are those that pass a test
pub stepped-from :
    {X S : Type 0} (f : X → S → S) (d : S) (t : X → Bool) (xs rest : List X) (k : ℕ) (ss : List S)
    → ((x : X) (s : S) → t x ≡ false → f x s ≡ s) → drop k xs ≡ rest → length ss ≡ length xs
    → stepped f d xs (places_from t k rest) ss ≡ take k ss ++ each f rest (drop k ss)
stepped-from f d t xs [] k ss keeps is long =
    let gone : length (drop k xs) ≡ 0 = ap length is in
    let few : length ss ≤ k = omega (arith, length-drop k xs, gone, long) in
    sym (ap (λ r. take k ss ++ each f r (drop k ss)) (sym is) ∙ each-done f xs ss k few)
stepped-from f d t xs (x ∷ rest) k ss keeps is long =
    let next : drop (k + 1) xs ≡ rest = ap (λ m. drop m xs) (add-one k) ∙ sym (drop-behind xs k x rest is) in
    one-fed f d xs rest x k ss (places_from t (k + 1) rest) (t x) (λ e s. keeps x s e) is long
    (λ us l. stepped-from f d t xs rest (k + 1) us keeps next l)

pub none-any : {X : Type 0} (t : X → Bool) (xs : List X) → ((x : X) → t x ≡ false) → list_any t xs ≡ false
none-any t [] none = refl
none-any t (x ∷ xs) none = ap (λ b. b || list_any t xs) (none x) ∙ none-any t xs none

pub none-placed : {X : Type 0} (t : X → Bool) (k : ℕ) (xs : List X) → ((x : X) → t x ≡ false) → places_from t k xs ≡ []
none-placed t k [] none = refl
none-placed t k (x ∷ xs) none =
    ap (λ b. cond b (k ∷ places_from t (k + 1) xs) (places_from t (k + 1) xs)) (none x) ∙ none-placed t (k + 1) xs none

-- A place is added to a list once.
pub once-added :
    (list : List ℕ) (p : ℕ) (b c : Bool)
    → (c ≡ true → b ≡ false) → (list ++ cond b (p ∷ []) []) ++ cond c (p ∷ []) [] ≡ list ++ cond (b || c) (p ∷ []) []
once-added list p true true apart = let no = apart refl in absurd cc
once-added list p true false apart = append-nil (list ++ p ∷ [])
once-added list p false true apart = ap (λ r. r ++ p ∷ []) (append-nil list)
once-added list p false false apart = append-nil (list ++ [])

pub stays : (b c : Bool) → (c ≡ true → b ≡ true) → b ≡ (b || c)
stays true c whole = refl
stays false true whole = whole refl
stays false false whole = refl

-- where there is no entry a list ends
pub past-end : {X : Type 0} (xs : List X) (i : ℕ) → slice_get xs i ≡ None → length xs ≤ i
past-end [] i e = omega arith
past-end (x ∷ xs) zero e = absurd cc
past-end (x ∷ xs) (suc i) e = let rest = past-end xs i e in omega (arith, rest)

pub step-more :
    {X S : Type 0} (f : X → S → S) (xs : List X) (places : List ℕ) (j : ℕ) (ss : List S) (k : ℕ) (d : S) (new : S)
    (next : List S) {x : X}
    → slice_get places j ≡ Some k → slice_get xs k ≡ Some x → new ≡ f x (get_or ss k d) → next ≡ set ss k new
    → stepped f d xs (drop (j + 1) places) next ≡ stepped f d xs (drop j places) ss
step-more f xs places j ss k d new next here found own written =
    let one : j + 1 ≡ suc j = omega arith in
    (λ i. stepped f d xs (drop (one i) places) (written i))
    ∙ ap (λ n. stepped f d xs (drop (suc j) places) (set ss k n)) own
    ∙ ap (λ o. stepped f d xs (drop (suc j) places) (step_one f d k ss o)) (sym found)
    ∙ ap (λ is. stepped f d xs is ss) (sym (drop-at places j k here))

drop-set : {S : Type 0} (ss : List S) (k : ℕ) (s : S) → drop (suc k) (set ss k s) ≡ drop (suc k) ss
drop-set [] k s = refl
drop-set (x ∷ ss) zero s = refl
drop-set (x ∷ ss) (suc k) s = drop-set ss k s

-- the entry at a place is found anew, or is what it was
one-anew :
    {X S : Type 0} (before now : X → S) (d : S) (xs rest : List X) (x : X) (k : ℕ) (ss : List S) (places : List ℕ) (b : Bool)
    → (b ≡ false → before x ≡ now x) → drop k xs ≡ x ∷ rest → drop k ss ≡ before x ∷ map before rest
    → ((us : List S) → drop (k + 1) us ≡ map before rest
    → stepped (λ y s. now y) d xs places us ≡ take (k + 1) us ++ map now rest)
    → stepped (λ y s. now y) d xs (cond b (k ∷ places) places) ss ≡ take k ss ++ (now x ∷ map now rest)
one-anew before now d xs rest x k ss places true same is are again =
    let found = get-drop xs k x rest is in
    let within = slice_get_within ss k (before x) (get-drop ss k (before x) (map before rest) are) in
    let behind : drop (k + 1) (set ss k (now x)) ≡ map before rest
    = ap (λ m. drop m (set ss k (now x))) (add-one k) ∙ drop-set ss k (now x)
    ∙ sym (drop-behind ss k (before x) (map before rest) are) in
    ap (λ o. stepped (λ y s. now y) d xs places (step_one (λ y s. now y) d k ss o)) found
    ∙ again (set ss k (now x)) behind
    ∙ ap (λ m. take m (set ss k (now x)) ++ map now rest) (add-one k)
    ∙ ap (λ r. r ++ map now rest) (take-set ss k (now x) within)
    ∙ append_assoc (take k ss) (now x ∷ []) (map now rest)
one-anew before now d xs rest x k ss places false same is are again =
    let there = get-drop ss k (before x) (map before rest) are in
    let within = slice_get_within ss k (before x) there in
    let behind : drop (k + 1) ss ≡ map before rest
    = ap (λ m. drop m ss) (add-one k) ∙ sym (drop-behind ss k (before x) (map before rest) are) in
    again ss behind
    ∙ ap (λ r. r ++ map now rest) (take_more ss k d within)
    ∙ ap (λ s. (take k ss ++ s ∷ []) ++ map now rest) (get_or_from_slice_get ss k (before x) d there ∙ same refl)
    ∙ append_assoc (take k ss) (now x ∷ []) (map now rest)

pub all-anew :
    {X S : Type 0} (before now : X → S) (d : S) (t : X → Bool) (xs rest : List X) (k : ℕ) (ss : List S)
    → ((i : ℕ) (x : X) → slice_get xs i ≡ Some x → t x ≡ false → before x ≡ now x)
    → drop k xs ≡ rest → drop k ss ≡ map before rest
    → stepped (λ y s. now y) d xs (places_from t k rest) ss ≡ take k ss ++ map now rest
all-anew before now d t xs [] k ss same is are = sym (take-append-drop k ss) ∙ ap (λ r. take k ss ++ r) are
all-anew before now d t xs (x ∷ rest) k ss same is are =
    let next : drop (k + 1) xs ≡ rest = ap (λ m. drop m xs) (add-one k) ∙ sym (drop-behind xs k x rest is) in
    one-anew before now d xs rest x k ss (places_from t (k + 1) rest) (t x) (λ e. same k x (get-drop xs k x rest is) e) is are
    (λ us r. all-anew before now d t xs rest (k + 1) us same next r)

-- The loop over the places has found all values.
pub found-anew :
    {X S : Type 0} (now : X → S) (d : S) (xs : List X) (places : List ℕ) (j : ℕ) (first last : List S)
    → length places ≤ j
    → stepped (λ x s. now x) d xs (drop j places) last ≡ stepped (λ x s. now x) d xs places first
    → FindsAnew now xs places first last
found-anew {X} {S} now d xs places j first last past rest = λ before test are was same.
    let f : X → S → S = λ x s. now x in
    sym (ap (λ is. stepped f d xs is last) (drop_all j places past))
    ∙ rest
    ∙ (λ i. stepped f d xs (are i) (was i))
    ∙ all-anew before now d test xs xs 0 (map before xs) same refl refl

-- Places of entries are inside.
pub all-inside :
    {X : Type 0} (t : X → Bool) (xs : List X) (places : List ℕ)
    → places ≡ places_from t 0 xs → (j d : ℕ) → j < length places → get_or places j d < length xs
all-inside t xs places are j d inside =
    let few : j < length (places_from t 0 xs) = omega (arith, ap length are, inside) in
    let below = places-within t 0 xs d j few in
    omega (arith, ap (λ (is : List ℕ). get_or is j d) are, below)
