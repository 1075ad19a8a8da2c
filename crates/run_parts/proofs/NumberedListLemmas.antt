-- Lists that have numbers, as they are filled.
use Rattle.std.proofs.Common.{◌≡◌, ℕ, zero, suc, ◌≤◌, cond, List, [], ◌∷◌, ◌++◌, length, get_or, set, refl, ap, sym, ◌∙◌, Some}
use Rattle.std.proofs.Common.{slice_get, nat_eq}
use Rattle.std.proofs.Math.Dec.{eqb-zero-suc, eqb-suc-zero, eqb-suc-suc}
use Rattle.std.proofs.lemmas.List.{append-nil, set_past}
use Rattle.run_parts.specs.NumberedLists.{AreLists}

-- an entry is added to one of the lists
one-more :
    {X : Type 0} (all : List (List X)) (q p : ℕ) (x : X) (d list found : List X)
    → ((was : List X) → slice_get all p ≡ Some was → was ≡ list)
    → slice_get (set all q (get_or all q d ++ x ∷ [])) p ≡ Some found → found ≡ list ++ cond (nat_eq q p) (x ∷ []) []
one-more [] q p x d list found was e = absurd cc
one-more (y ∷ ys) zero zero x d list found was e =
    let same : y ++ x ∷ [] ≡ found = cc in sym same ∙ ap (λ r. r ++ x ∷ []) (was y refl)
one-more (y ∷ ys) zero (suc p) x d list found was e =
    was found e ∙ sym (append-nil list) ∙ ap (λ b. list ++ cond b (x ∷ []) []) (sym (eqb-zero-suc p))
one-more (y ∷ ys) (suc q) zero x d list found was e =
    was found e ∙ sym (append-nil list) ∙ ap (λ b. list ++ cond b (x ∷ []) []) (sym (eqb-suc-zero q))
one-more (y ∷ ys) (suc q) (suc p) x d list found was e =
    one-more ys q p x d list found was e ∙ ap (λ b. list ++ cond b (x ∷ []) []) (sym (eqb-suc-suc q p))

pub added :
    {X : Type 0} (all next : List (List X)) (lists : ℕ → List X) (q : ℕ) (x : X) (d : List X)
    → next ≡ set all q (get_or all q d ++ x ∷ []) → AreLists lists all
    → AreLists (λ n. lists n ++ cond (nat_eq q n) (x ∷ []) []) next
added {X} all next lists q x d is are = λ n found e.
    one-more all q n x d (lists n) found (are n) (ap (λ (xs : List (List X)). slice_get xs n) (sym is) ∙ e)

pub not-added :
    {X : Type 0} (all : List (List X)) (lists : ℕ → List X) (q : ℕ) (x : X)
    → length all ≤ q → AreLists lists all → AreLists (λ n. lists n ++ cond (nat_eq q n) (x ∷ []) []) all
not-added all lists q x past are = added all all lists q x [] (sym (set_past all q (get_or all q [] ++ x ∷ []) past)) are

-- the same lists by other words
pub same-lists :
    {X : Type 0} (all : List (List X)) (lists others : ℕ → List X) → ((n : ℕ) → lists n ≡ others n) → AreLists lists all
    → AreLists others all
same-lists all lists others same are = λ n found e. are n found e ∙ same n
