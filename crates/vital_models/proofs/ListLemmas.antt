-- Lists that grow by what each item of another one gives.
use Rattle.std.proofs.Common.{◌≡◌, ℕ, ◌+◌, ◌<◌, Bool, true, false, List, [], ◌∷◌, ◌++◌, map, drop, length, get_or, sym, ◌∙◌, ap}
use Rattle.std.proofs.Common.{append_assoc, if◌then◌else◌}
use Rattle.std.specs.Prelude.{filter}
use Rattle.std.proofs.lemmas.List.{drop_more}

-- one item more
pub map-more :
    {X Y : Type 0} (g : X → Y) (xs : List X) (i : ℕ) (x : X) (before after : List Y)
    → i < length xs → x ≡ get_or xs i x → after ≡ before ++ g x ∷ []
    → after ++ map g (drop (i + 1) xs) ≡ before ++ map g (drop i xs)
map-more g xs i x before after l is e =
    let rest : drop i xs ≡ x ∷ drop (i + 1) xs = drop_more xs i x l ∙ ap (λ y. y ∷ drop (i + 1) xs) (sym is) in
    ap (λ ys. ys ++ map g (drop (i + 1) xs)) e
    ∙ append_assoc before (g x ∷ []) (map g (drop (i + 1) xs))
    ∙ ap (λ ys. before ++ map g ys) (sym rest)

-- one item more that passes a test, or that does not
pub filter-more :
    {X Y : Type 0} (g : X → Y) (test : X → Bool) (xs : List X) (i : ℕ) (x : X) (before after : List Y)
    → i < length xs → x ≡ get_or xs i x → test x ≡ true → after ≡ before ++ g x ∷ []
    → after ++ map g (filter test (drop (i + 1) xs)) ≡ before ++ map g (filter test (drop i xs))
filter-more g test xs i x before after l is passes e =
    let rest : drop i xs ≡ x ∷ drop (i + 1) xs = drop_more xs i x l ∙ ap (λ y. y ∷ drop (i + 1) xs) (sym is) in
    ap (λ ys. ys ++ map g (filter test (drop (i + 1) xs))) e
    ∙ append_assoc before (g x ∷ []) (map g (filter test (drop (i + 1) xs)))
    ∙ ap (λ b. before ++ map g (if b then x ∷ filter test (drop (i + 1) xs) else filter test (drop (i + 1) xs))) (sym passes)
    ∙ ap (λ ys. before ++ map g (filter test ys)) (sym rest)

pub filter-less :
    {X Y : Type 0} (g : X → Y) (test : X → Bool) (xs : List X) (i : ℕ) (x : X) (before : List Y)
    → i < length xs → x ≡ get_or xs i x → test x ≡ false
    → before ++ map g (filter test (drop (i + 1) xs)) ≡ before ++ map g (filter test (drop i xs))
filter-less g test xs i x before l is fails =
    let rest : drop i xs ≡ x ∷ drop (i + 1) xs = drop_more xs i x l ∙ ap (λ y. y ∷ drop (i + 1) xs) (sym is) in
    ap (λ b. before ++ map g (if b then x ∷ filter test (drop (i + 1) xs) else filter test (drop (i + 1) xs))) (sym fails)
    ∙ ap (λ ys. before ++ map g (filter test ys)) (sym rest)

-- the same of what is made in two steps
pub map-map-more :
    {X Y Z : Type 0} (g : Y → Z) (h : X → Y) (xs : List X) (i : ℕ) (x : X) (before after : List Z)
    → i < length xs → x ≡ get_or xs i x → after ≡ before ++ g (h x) ∷ []
    → after ++ map g (map h (drop (i + 1) xs)) ≡ before ++ map g (map h (drop i xs))
map-map-more g h xs i x before after l is e =
    let rest : drop i xs ≡ x ∷ drop (i + 1) xs = drop_more xs i x l ∙ ap (λ y. y ∷ drop (i + 1) xs) (sym is) in
    ap (λ ys. ys ++ map g (map h (drop (i + 1) xs))) e
    ∙ append_assoc before (g (h x) ∷ []) (map g (map h (drop (i + 1) xs)))
    ∙ ap (λ ys. before ++ map g (map h ys)) (sym rest)
