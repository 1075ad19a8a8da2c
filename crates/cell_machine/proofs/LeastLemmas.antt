-- The least of some offsets, part by part.
use Rattle.std.proofs.Common.{◌≡◌, ℕ, ◌+◌, ◌<◌, min, List, [], ◌∷◌, ◌++◌, length, map, drop, get_or, refl, sym, ◌∙◌, ap, arith}
use Rattle.std.proofs.Common.{Option, Some, None}
use Rattle.std.specs.Prelude.{flat_map, option_to_list}
use Rattle.std.proofs.lemmas.List.{drop_more}
use Rattle.cell_machine.specs.Delay.{lesser, least}

pub lesser_none : (a : Option ℕ) → lesser a None ≡ a
lesser_none None = refl
lesser_none (Some x) = refl

min-assoc : (x y z : ℕ) → min (min x y) z ≡ min x (min y z)
min-assoc x y z = omega arith

pub lesser_assoc : (a b c : Option ℕ) → lesser (lesser a b) c ≡ lesser a (lesser b c)
lesser_assoc None b c = refl
lesser_assoc (Some x) None c = refl
lesser_assoc (Some x) (Some y) None = refl
lesser_assoc (Some x) (Some y) (Some z) = ap Some (min-assoc x y z)

pub least_append : (xs ys : List ℕ) → least (xs ++ ys) ≡ lesser (least xs) (least ys)
least_append [] ys = refl
least_append (x ∷ xs) ys = ap (lesser (Some x)) (least_append xs ys) ∙ sym (lesser_assoc (Some x) (least xs) (least ys))

-- one more turn of a loop that keeps the least
pub least_turn :
    {A B : Type 0} (now : A → B) (h : B → List ℕ) (xs : List A) (i : ℕ) (x : A) (found next : Option ℕ)
    → i < length xs → x ≡ get_or xs i x → next ≡ lesser found (least (h (now x)))
    → lesser next (least (flat_map h (map now (drop (i + 1) xs)))) ≡ lesser found (least (flat_map h (map now (drop i xs))))
least_turn now h xs i x found next within is more =
    let e : drop i xs ≡ x ∷ drop (i + 1) xs = drop_more xs i x within ∙ ap (λ y. y ∷ drop (i + 1) xs) (sym is) in
    rw e
    (rw more
    (lesser_assoc found (least (h (now x))) (least (flat_map h (map now (drop (i + 1) xs))))
    ∙ ap (lesser found) (sym (least_append (h (now x)) (flat_map h (map now (drop (i + 1) xs)))))))

pub least_more :
    {B : Type 0} (h : B → List ℕ) (xs : List B) (i : ℕ) (x : B) (found next : Option ℕ)
    → i < length xs → x ≡ get_or xs i x → next ≡ lesser found (least (h x))
    → lesser next (least (flat_map h (drop (i + 1) xs))) ≡ lesser found (least (flat_map h (drop i xs)))
least_more h xs i x found next within is more =
    let e : drop i xs ≡ x ∷ drop (i + 1) xs = drop_more xs i x within ∙ ap (λ y. y ∷ drop (i + 1) xs) (sym is) in
    rw e
    (rw more
    (lesser_assoc found (least (h x)) (least (flat_map h (drop (i + 1) xs)))
    ∙ ap (lesser found) (sym (least_append (h x) (flat_map h (drop (i + 1) xs))))))

pub least_option : (a : Option ℕ) → least (option_to_list a) ≡ a
least_option None = refl
least_option (Some x) = refl
