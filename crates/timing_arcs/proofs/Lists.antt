-- Lists.
use Rattle.std.proofs.Common.{◌≡◌, ℕ, zero, suc, ◌<◌, Bool, true, false, ◌||◌, List, [], ◌∷◌, ◌++◌, map, take, drop, set, get_or}
use Rattle.std.proofs.Common.{length, refl, sym, ap, ◌∙◌, arith}
use Rattle.std.specs.List.{list_any}
use Rattle.std.proofs.Math.Bool.{or-false}

pub or-assoc : (a b c : Bool) → (a || (b || c)) ≡ ((a || b) || c)
or-assoc true b c = refl
or-assoc false b c = refl

-- what is done to each after another is done to each
pub map-both : {A B C : Type 0} (f : B → C) (g : A → B) (xs : List A) → map f (map g xs) ≡ map (λ x. f (g x)) xs
map-both f g [] = refl
map-both f g (x ∷ xs) = ap (λ ys. f (g x) ∷ ys) (map-both f g xs)

-- a list of which the first so many were changed, and then one more
abbrev pub changed : {A : Type 0} → (A → A) → ℕ → List A → List A
changed f i xs = map f (take i xs) ++ drop i xs

pub set_next : {A : Type 0} (f : A → A) (xs : List A) (i : ℕ) (x : A) → i < length xs → x ≡ get_or (changed f i xs) i x
    → set (changed f i xs) i (f x) ≡ changed f (suc i) xs
set_next f [] i x h e = absurd (omega arith)
set_next f (y ∷ xs) zero x h e = ap (λ z. f z ∷ xs) e
set_next f (y ∷ xs) (suc i) x h e = ap (λ zs. f y ∷ zs) (set_next f xs i x (omega arith) e)

pub any_next : {A : Type 0} (f : A → A) (p : A → Bool) (xs : List A) (i : ℕ) (x : A) → i < length xs
    → x ≡ get_or (changed f i xs) i x → list_any p (take (suc i) xs) ≡ (list_any p (take i xs) || p x)
any_next f p [] i x h e = absurd (omega arith)
any_next f p (y ∷ xs) zero x h e = ap (λ z. p z || false) (sym e) ∙ or-false (p x)
any_next f p (y ∷ xs) (suc i) x h e = ap (λ b. p y || b) (any_next f p xs i x (omega arith) e)
    ∙ or-assoc (p y) (list_any p (take i xs)) (p x)
