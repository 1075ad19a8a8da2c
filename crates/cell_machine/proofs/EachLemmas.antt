-- A list that is stepped in place, entry by entry.
use Rattle.std.proofs.Common.{◌≡◌, ℕ, zero, suc, ◌+◌, ◌<◌, ◌≤◌, List, [], ◌∷◌, ◌++◌, length, map, get_or, set, take, drop, refl}
use Rattle.std.proofs.Common.{ap, sym, ◌∙◌, Some, slice_get, arith, add-one}
use Rattle.std.proofs.lemmas.List.{append-nil, take_all}
use Rattle.cell_machine.specs.Each.{each}

-- one entry more is stepped
pub each-step :
    {X S : Type 0} (f : X → S → S) (xs : List X) (ss : List S) (i : ℕ) (x : X) (new d : S)
    → slice_get xs i ≡ Some x → i < length ss → new ≡ f x (get_or ss i d)
    → take (suc i) (set ss i new) ++ each f (drop (suc i) xs) (drop (suc i) (set ss i new))
    ≡ take i ss ++ each f (drop i xs) (drop i ss)
each-step f xs [] i x new d e h is = absurd (omega arith)
each-step f [] (s ∷ ss) i x new d e h is = absurd cc
each-step f (y ∷ ys) (s ∷ ss) zero x new d e h is =
    let same : y ≡ x = cc in
    ap (λ n. n ∷ each f ys ss) (is ∙ ap (λ z. f z s) (sym same))
each-step f (y ∷ ys) (s ∷ ss) (suc i) x new d e h is =
    ap (λ r. s ∷ r) (each-step f ys ss i x new d e (omega arith) is)

-- the same in a loop, where the entry is set
pub each-kept :
    {X S : Type 0} (f : X → S → S) (xs : List X) (ss : List S) (i : ℕ) (d : S) {x : X} {new : S} {next whole : List S}
    → slice_get xs i ≡ Some x → i < length ss → new ≡ f x (get_or ss i d) → next ≡ set ss i new
    → take i ss ++ each f (drop i xs) (drop i ss) ≡ whole
    → take (i + 1) next ++ each f (drop (i + 1) xs) (drop (i + 1) next) ≡ whole
each-kept f xs ss i d e h is written so_far = rw (written, add-one) (each-step f xs ss i _ _ d e h is ∙ so_far)

-- all entries are stepped
pub each-done :
    {X S : Type 0} (f : X → S → S) (xs : List X) (ss : List S) (i : ℕ)
    → length ss ≤ i → take i ss ++ each f (drop i xs) (drop i ss) ≡ ss
each-done f [] [] zero h = refl
each-done f [] [] (suc i) h = refl
each-done f (x ∷ xs) [] zero h = refl
each-done f (x ∷ xs) [] (suc i) h = elim (drop i xs) as (λ r. each f r [] ≡ []) [ [] ↦ refl | y ∷ ys ↦ refl ]
each-done f [] (s ∷ ss) zero h = absurd (omega arith)
each-done f (x ∷ xs) (s ∷ ss) zero h = absurd (omega arith)
each-done f [] (s ∷ ss) (suc i) h = ap (λ r. s ∷ r) (append-nil (take i ss) ∙ take_all i ss (omega arith))
each-done f (x ∷ xs) (s ∷ ss) (suc i) h = ap (λ r. s ∷ r) (each-done f xs ss i (omega arith))

pub length-each :
    {X S T : Type 0} (f : X → S → T) (xs : List X) (ss : List S) → length xs ≡ length ss → length (each f xs ss) ≡ length ss
length-each f [] [] h = refl
length-each f [] (s ∷ ss) h = absurd (omega arith)
length-each f (x ∷ xs) [] h = absurd (omega arith)
length-each f (x ∷ xs) (s ∷ ss) h = ap suc (length-each f xs ss (omega arith))

-- what is made of the same list twice
pub each-map :
    {A B C : Type 0} (f : A → B → C) (g : A → B) (xs : List A) → each f xs (map g xs) ≡ map (λ x. f x (g x)) xs
each-map f g [] = refl
each-map f g (x ∷ xs) = ap (λ r. f x (g x) ∷ r) (each-map f g xs)

map-take-suc :
    {X Y : Type 0} (f : X → Y) (xs : List X) (i : ℕ) (x : X)
    → slice_get xs i ≡ Some x → map f (take i xs) ++ f x ∷ [] ≡ map f (take (suc i) xs)
map-take-suc f [] i x e = absurd cc
map-take-suc f (y ∷ ys) zero x e = let same : y ≡ x = cc in ap (λ z. f z ∷ []) (sym same)
map-take-suc f (y ∷ ys) (suc i) x e = ap (λ r. f y ∷ r) (map-take-suc f ys i x e)

-- one entry more is mapped
pub map-take-more :
    {X Y : Type 0} (f : X → Y) (xs : List X) (i : ℕ) (x : X) (y : Y) (ys : List Y)
    → slice_get xs i ≡ Some x → y ≡ f x → ys ≡ map f (take i xs) → ys ++ y ∷ [] ≡ map f (take (suc i) xs)
map-take-more f xs i x y ys e is so_far = (λ j. so_far j ++ is j ∷ []) ∙ map-take-suc f xs i x e

-- an entry of a list does not depend on the default
pub get_or-default :
    {X : Type 0} (xs : List X) (i : ℕ) (d e : X) → i < length xs → get_or xs i d ≡ get_or xs i e
get_or-default [] i d e h = absurd (omega arith)
get_or-default (x ∷ xs) zero d e h = refl
get_or-default (x ∷ xs) (suc i) d e h = get_or-default xs i d e (omega arith)

-- a part of an entry is the entry of the list of these parts
pub get_or-part :
    {X Y Z : Type 0} (f : X → Y) (part : Y → Z) (xs : List X) (i : ℕ) (d : Y) (e : Z)
    → i < length xs → part (get_or (map f xs) i d) ≡ get_or (map (λ x. part (f x)) xs) i e
get_or-part f part [] i d e h = absurd (omega arith)
get_or-part f part (x ∷ xs) zero d e h = refl
get_or-part f part (x ∷ xs) (suc i) d e h = get_or-part f part xs i d e (omega arith)

pub part-at :
    {X Y Z : Type 0} (f : X → Y) (part : Y → Z) (xs : List X) (ys : List Y) (i : ℕ) (d : Y) (e : Z)
    → ys ≡ map f xs → i < length xs → part (get_or ys i d) ≡ get_or (map (λ x. part (f x)) xs) i e
part-at f part xs ys i d e are h = ap (λ zs. part (get_or zs i d)) are ∙ get_or-part f part xs i d e h
