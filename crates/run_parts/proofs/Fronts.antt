-- Lists that are written in place, entry by entry.
use Rattle.std.proofs.Common.{◌≡◌, ℕ, zero, suc, ◌+◌, ◌<◌, ◌≤◌, List, [], ◌∷◌, ◌++◌, length, map, get_or, set, take, drop}
use Rattle.std.proofs.Common.{replicate, refl, ap, sym, ◌∙◌, Some, slice_get, subst, arith, add-one}
use Rattle.std.specs.Prelude.{All}
use Rattle.std.proofs.lemmas.List.{take_all}
use Rattle.cell_machine.specs.Each.{each}

-- what holds of all entries holds of the one at a place
pub all-at :
    {X : Type 0} (P : X → Type 0) (xs : List X) (i : ℕ) (x : X) → All P xs → slice_get xs i ≡ Some x → P x
all-at P [] i x h e = absurd cc
all-at P (y ∷ ys) zero x h e = let same : y ≡ x = cc in subst P same (h 0 y (omega arith))
all-at P (y ∷ ys) (suc i) x h e = all-at P ys i x (λ k d within. h (suc k) d (omega arith)) e

pub take-set :
    {X : Type 0} (xs : List X) (i : ℕ) (v : X) → i < length xs → take (suc i) (set xs i v) ≡ take i xs ++ v ∷ []
take-set [] i v h = absurd (omega arith)
take-set (x ∷ xs) zero v h = refl
take-set (x ∷ xs) (suc i) v h = ap (λ r. x ∷ r) (take-set xs i v (omega arith))

each-take :
    {X S T : Type 0} (f : X → S → T) (xs : List X) (ss : List S) (i : ℕ) (x : X) (d : S)
    → slice_get xs i ≡ Some x → i < length ss
    → each f (take i xs) (take i ss) ++ f x (get_or ss i d) ∷ [] ≡ each f (take (suc i) xs) (take (suc i) ss)
each-take f [] ss i x d e h = absurd cc
each-take f (y ∷ ys) [] i x d e h = absurd (omega arith)
each-take f (y ∷ ys) (s ∷ ss) zero x d e h = let same : y ≡ x = cc in ap (λ z. f z s ∷ []) (sym same)
each-take f (y ∷ ys) (s ∷ ss) (suc i) x d e h = ap (λ r. f y s ∷ r) (each-take f ys ss i x d e (omega arith))

-- one entry more is written, of the entries of two lists at its place
pub front-step :
    {X S T : Type 0} (f : X → S → T) (xs : List X) (ss : List S) (ts : List T) (i : ℕ) (x : X) (d : S) (v : T)
    → slice_get xs i ≡ Some x → i < length ss → i < length ts → v ≡ f x (get_or ss i d)
    → take i ts ≡ each f (take i xs) (take i ss)
    → take (i + 1) (set ts i v) ≡ each f (take (i + 1) xs) (take (i + 1) ss)
front-step f xs ss ts i x d v e h k is front =
    rw add-one (take-set ts i v k ∙ (λ j. front j ++ is j ∷ []) ∙ each-take f xs ss i x d e h)

pub map-step :
    {S : Type 0} (f : S → S) (ss : List S) (i : ℕ) (d v : S)
    → i < length ss → v ≡ f (get_or ss i d)
    → take (suc i) (set ss i v) ++ map f (drop (suc i) (set ss i v)) ≡ take i ss ++ map f (drop i ss)
map-step f [] i d v h is = absurd (omega arith)
map-step f (s ∷ ss) zero d v h is = ap (λ r. r ∷ map f ss) is
map-step f (s ∷ ss) (suc i) d v h is = ap (λ r. s ∷ r) (map-step f ss i d v (omega arith) is)

pub replicate-more : {X : Type 0} (n : ℕ) (x : X) → replicate n x ++ x ∷ [] ≡ replicate (suc n) x
replicate-more zero x = refl
replicate-more (suc n) x = ap (λ r. x ∷ r) (replicate-more n x)

pub clear-step :
    {X : Type 0} (xs : List X) (i : ℕ) (x : X)
    → i < length xs → take i xs ≡ replicate i x → take (i + 1) (set xs i x) ≡ replicate (i + 1) x
clear-step xs i x h front = rw add-one (take-set xs i x h ∙ ap (λ r. r ++ x ∷ []) front ∙ replicate-more i x)

-- all entries are written
pub front-done :
    {X S T : Type 0} (f : X → S → T) (xs : List X) (ss : List S) (ts : List T) (i : ℕ)
    → length xs ≤ i → length ss ≤ i → length ts ≤ i → take i ts ≡ each f (take i xs) (take i ss) → ts ≡ each f xs ss
front-done f xs ss ts i h k l front =
    sym (take_all i ts l) ∙ front ∙ (λ j. each f (take_all i xs h j) (take_all i ss k j))

pub map-done :
    {S : Type 0} (f : S → S) (ss : List S) (i : ℕ) → length ss ≤ i → take i ss ++ map f (drop i ss) ≡ ss
map-done f [] zero h = refl
map-done f [] (suc i) h = refl
map-done f (s ∷ ss) zero h = absurd (omega arith)
map-done f (s ∷ ss) (suc i) h = ap (λ r. s ∷ r) (map-done f ss i (omega arith))
