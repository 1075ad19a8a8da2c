-- The symbols of a row for the places of a cube, as they are put together.
use Rattle.std.proofs.Common.{◌≡◌, ℕ, zero, suc, ◌+◌, ◌<◌, ◌≤◌, List, [], ◌∷◌, ◌++◌, map, drop, length, slice_get, Some}
use Rattle.std.proofs.Common.{refl, sym, ◌∙◌, ap, arith, append_assoc}
use Rattle.std.proofs.lemmas.List.{drop_more, length-map}
use Rattle.std.proofs.lemmas.Option.{get_or_from_slice_get}
use Rattle.trit_cubes.specs.declared.trits.Trit.{Trit}
use Rattle.cell_machine.specs.Machine.{insert, init, last}
pub use Rattle.cell_machine.proofs.Tables.{insert_parts as insert-parts}
use Rattle.udp_tables.specs.Edges.{change_columns}

-- one more symbol of a row
pub symbols-more :
    {E : Type 0} (place : Trit → E) (cube : List Trit) (i : ℕ) (t : Trit) (es more : List E)
    → i < length cube → slice_get cube i ≡ Some t → more ≡ es ++ place t ∷ []
    → more ++ map place (drop (i + 1) cube) ≡ es ++ map place (drop i cube)
symbols-more place cube i t es more l e f =
    let rest : drop i cube ≡ t ∷ drop (i + 1) cube
    = drop_more cube i t l ∙ ap (λ x. x ∷ drop (i + 1) cube) (get_or_from_slice_get cube i t t e) in
    ap (λ xs. xs ++ map place (drop (i + 1) cube)) f
    ∙ append_assoc es (place t ∷ []) (map place (drop (i + 1) cube))
    ∙ ap (λ xs. es ++ map place xs) (sym rest)

-- a list less its last entry
pub length-init : {X : Type 0} (x : X) (xs : List X) → length (init (x ∷ xs)) ≡ length xs
length-init x [] = refl
length-init x (y ∷ ys) = ap suc (length-init y ys)

pub init-long : {X : Type 0} (xs : List X) → 0 < length xs → length (init xs) + 1 ≡ length xs
init-long [] l = absurd (omega arith)
init-long (x ∷ xs) l = omega (arith, length-init x xs)

pub get-init : {X : Type 0} (xs : List X) (i : ℕ) (x : X) → i + 1 < length xs → slice_get xs i ≡ Some x
    → slice_get (init xs) i ≡ Some x
get-init [] i x l e = absurd (omega arith)
get-init (y ∷ []) i x l e = absurd (omega arith)
get-init (y ∷ z ∷ zs) zero x l e = e
get-init (y ∷ z ∷ zs) (suc i) x l e = get-init (z ∷ zs) i x (omega arith) e

pub get-last : {X : Type 0} (xs : List X) (k : ℕ) (d x : X) → length xs ≡ k + 1 → slice_get xs k ≡ Some x → x ≡ last d xs
get-last [] k d x l e = absurd (omega arith)
get-last (y ∷ []) zero d x l e = let same : y ≡ x = cc in sym same
get-last (y ∷ []) (suc k) d x l e = absurd (omega arith)
get-last (y ∷ z ∷ zs) zero d x l e = absurd (omega arith)
get-last (y ∷ z ∷ zs) (suc k) d x l e = get-last (z ∷ zs) k d x (omega arith) e

-- the other inputs of a cube
pub others-long : {E : Type 0} (place : Trit → E) (c : List Trit) → 3 ≤ length c
    → length (map place (drop 2 (init c))) + 3 ≡ length c
others-long place [] l = absurd (omega arith)
others-long place (old ∷ []) l = absurd (omega arith)
others-long place (old ∷ new ∷ []) l = absurd (omega arith)
others-long place (old ∷ new ∷ r ∷ rest) l = omega (arith, length-map (init (r ∷ rest)) place, length-init r rest)

-- the columns of a change, as they are put together
pub change_columns-is :
    {E : Type 0} (place : Trit → E) (change : Trit → Trit → E) (p : ℕ) (c : List Trit) (old new : Trit)
    → 3 ≤ length c → slice_get c 0 ≡ Some old → slice_get c 1 ≡ Some new
    → insert p (change old new) (map place (drop 2 (init c))) ≡ change_columns place change p c
change_columns-is place change p [] old new l e f = absurd (omega arith)
change_columns-is place change p (a ∷ []) old new l e f = absurd (omega arith)
change_columns-is place change p (a ∷ b ∷ []) old new l e f = absurd (omega arith)
change_columns-is place change p (a ∷ b ∷ r ∷ rest) old new l e f =
    let first : a ≡ old = cc in
    let second : b ≡ new = cc in
    λ i. insert p (change (sym first i) (sym second i)) (map place (init (r ∷ rest)))
