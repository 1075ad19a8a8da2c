-- Names of a list in which none stands twice, added one after another.
use Rattle.std.proofs.Common.{◌≡◌, ◌<◌, ℕ, ◌+◌, false, List, [], ◌∷◌, ◌++◌, map, take, drop, get_or, length, Option, Some, None}
use Rattle.std.proofs.Common.{refl, sym, ap, subst, ◌∙◌}
use Rattle.std.specs.Str.{bytes_eq}
use Rattle.std.specs.List.{IsDistinct, AllByRecursion, list_any}
use Rattle.std.proofs.lemmas.Bool.{or_from}
use Rattle.std.proofs.lemmas.Bool.Decides.{same_from_decides}
use Rattle.std.proofs.lemmas.Slice.Eq.{bytes_eq-Decides}
use Rattle.std.proofs.lemmas.List.{map-append, take-append-drop, drop_more, take_more}
use Rattle.bool_functions.specs.NameList.{number_of, Adds, AreDistinct}
use Rattle.bool_functions.proofs.NameLists.{position-none}

in_place : (P : List ℕ → Type 0) (before : List (List ℕ)) (x : List ℕ) (rest : List (List ℕ))
    → AllByRecursion P (before ++ x ∷ rest) → P x
in_place P [] x rest h = h.0
in_place P (y ∷ before) x rest h = in_place P before x rest h.1

bytes_symm : (x y : List ℕ) → bytes_eq x y ≡ bytes_eq y x
bytes_symm x y =
    same_from_decides (bytes_eq x y) (bytes_eq y x) (bytes_eq-Decides x y)
    (λ e. sym ((bytes_eq-Decides y x).0 e), λ e. (bytes_eq-Decides y x).1 (sym e))

-- a name of such a list is none of those before it
pub other_names : (before : List (List ℕ)) (x : List ℕ) (rest : List (List ℕ)) → AreDistinct (before ++ x ∷ rest)
    → list_any (bytes_eq x) before ≡ false
unfolding IsDistinct
other_names [] x rest h = refl
other_names (y ∷ before) x rest h =
    or_from (bytes_eq x y) (list_any (bytes_eq x) before)
    (bytes_symm x y ∙ in_place (λ z. bytes_eq y z ≡ false) before x rest h.0) (other_names before x rest h.1)

-- the list at one of its places
pub split_at : {X : Type 0} (f : X → List ℕ) (xs : List X) (i : ℕ) (x : X) → i < length xs → x ≡ get_or xs i x
    → map f xs ≡ map f (take i xs) ++ f x ∷ map f (drop (i + 1) xs)
split_at f xs i x h e =
    ap (map f) (sym (take-append-drop i xs)) ∙ map-append f (take i xs) (drop i xs)
    ∙ ap (λ rest. map f (take i xs) ++ map f rest) (drop_more xs i x h ∙ ap (λ y. y ∷ drop (i + 1) xs) (sym e))

pub others_before : {X : Type 0} (f : X → List ℕ) (xs : List X) (i : ℕ) (x : X) → i < length xs → x ≡ get_or xs i x
    → AreDistinct (map f xs) → list_any (bytes_eq (f x)) (map f (take i xs)) ≡ false
others_before f xs i x h e own =
    other_names (map f (take i xs)) (f x) (map f (drop (i + 1) xs)) (subst AreDistinct (split_at f xs i x h e) own)

pub new_name : {X : Type 0} (f : X → List ℕ) (xs : List X) (i : ℕ) (x : X) → i < length xs → x ≡ get_or xs i x
    → AreDistinct (map f xs) → number_of (map f (take i xs)) (f x) ≡ None
new_name f xs i x h e own = position-none (bytes_eq (f x)) (map f (take i xs)) (others_before f xs i x h e own)

-- the names of one more
pub one_more : {X Y : Type 0} (f : X → Y) (xs : List X) (i : ℕ) (x : X) → i < length xs → x ≡ get_or xs i x
    → map f (take (i + 1) xs) ≡ map f (take i xs) ++ f x ∷ []
one_more f xs i x h e =
    ap (map f) (take_more xs i x h) ∙ map-append f (take i xs) (get_or xs i x ∷ [])
    ∙ ap (λ y. map f (take i xs) ++ f y ∷ []) (sym e)

-- a name that is none of those before is added
pub added_name : (old new : List (List ℕ)) (name : List ℕ) (found : Option ℕ) → number_of old name ≡ None
    → Adds old name found new → new ≡ old ++ name ∷ []
added_name old new name None none a = absurd (a.0 none)
added_name old new name (Some i) none a = a.2

-- the next name is added
pub names_more : {X : Type 0} (f : X → List ℕ) (xs : List X) (i : ℕ) (x : X) (old new : List (List ℕ)) (found : Option ℕ)
    → i < length xs → x ≡ get_or xs i x → (AreDistinct (map f xs) → old ≡ map f (take i xs)) → Adds old (f x) found new
    → AreDistinct (map f xs) → new ≡ map f (take (i + 1) xs)
names_more f xs i x old new found h e before a own =
    let none : number_of old (f x) ≡ None = ap (λ names. number_of names (f x)) (before own) ∙ new_name f xs i x h e own in
    added_name old new (f x) found none a ∙ ap (λ names. names ++ f x ∷ []) (before own) ∙ sym (one_more f xs i x h e)
