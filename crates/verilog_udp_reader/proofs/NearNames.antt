-- The first names of a list and those behind them.
use Rattle.std.proofs.Common.{◌≡◌, ℕ, Bool, true, false, ◌||◌, List, [], ◌∷◌, ◌++◌, map, length}
use Rattle.std.proofs.Common.{Option, Some, None, refl, sym, ap, ◌∙◌}
use Rattle.std.specs.List.{list_any}
use Rattle.std.specs.Option.{is_some}
use Rattle.std.specs.Str.{bytes_eq}
use Rattle.std.proofs.lemmas.List.{append_assoc}
use Rattle.std.proofs.lemmas.List.Folds.{list_any-append}
use Rattle.bool_functions.specs.NameList.{Adds, number_of}
use Rattle.bool_functions.proofs.NameLists.{position-none, position-some}

-- one of them passes exactly where one of the first does or one of those behind them
pub any_parted : {Y : Type 0} (p : Y → Bool) (near far : List Y) → (list_any p near || list_any p far) ≡ list_any p (near ++ far)
any_parted p near far = sym (list_any-append p near far)

second_false : (a b : Bool) → (a || b) ≡ false → b ≡ false
second_false true b e = absurd cc
second_false false b e = e

-- where none passes, none of those behind the first does
pub none_far : {Y : Type 0} (p : Y → Bool) (near far : List Y) → list_any p (near ++ far) ≡ false → list_any p far ≡ false
none_far p near far e = second_false (list_any p near) _ (any_parted p near far ∙ e)

pub none_of_none : {Y : Type 0} (p : Y → Bool) (far : List Y) → length far ≡ 0 → list_any p far ≡ false
none_of_none p [] h = refl
none_of_none p (y ∷ far) h = absurd cc

-- one more behind the first, each shown by its bytes, where there are no others
pub near_kept : {X Y : Type 0} (f : X → Y) (xs : List X) (x : X) (far : List Y) → length far ≡ 0
    → map f (xs ++ x ∷ []) ++ far ≡ map f xs ++ far ++ f x ∷ []
near_kept f xs x (y ∷ far) h = absurd cc
near_kept f [] x [] h = refl
near_kept f (z ∷ xs) x [] h = ap (λ ys. f z ∷ ys) (near_kept f xs x [] h)

-- one more behind all of them
pub far_kept : {Y : Type 0} (near far more : List Y) (y : Y) → more ≡ far ++ y ∷ [] → near ++ more ≡ near ++ far ++ y ∷ []
far_kept near far more y e = ap (λ ys. near ++ ys) e ∙ sym (append_assoc near far (y ∷ []))

-- a name has a number exactly where it is one of the names
pub numbered : (names : List (List ℕ)) (name : List ℕ) → is_some (number_of names name) ≡ list_any (bytes_eq name) names
numbered names name = by (list_any (bytes_eq name) names) refl (number_of names name) refl
  where
    by : (b : Bool) → list_any (bytes_eq name) names ≡ b → (o : Option ℕ) → number_of names name ≡ o → is_some o ≡ b
    by true e (Some i) f = refl
    by true e None f = absurd (position-some (bytes_eq name) names e f)
    by false e (Some i) f = absurd (let g = position-none (bytes_eq name) names e in cc)
    by false e None f = refl

-- a name that is none of the names goes last
pub added : (names : List (List ℕ)) (name : List ℕ) (found : Option ℕ) (new : List (List ℕ)) → Adds names name found new
    → list_any (bytes_eq name) names ≡ false → new ≡ names ++ name ∷ []
added names name (Some i) new a e = a.2
added names name None new a e = absurd (a.0 (position-none (bytes_eq name) names e))
