-- The first question that does not hold.
use Rattle.std.proofs.Common.{◌≡◌, ℕ, ◌+◌, ◌-◌, ◌<◌, ◌≤◌, List, [], ◌∷◌, map, flat_map, None, ◌∙◌, ap}
use Rattle.std.specs.List.{range_with_len}
use Rattle.std.specs.Option.{option_or}
use Rattle.std.proofs.lemmas.List.Folds.{find-append}
use Rattle.module_shapes.specs.declared.shape.ShapeTest.{ShapeTest}
use Rattle.module_shapes.specs.declared.shape_parts.ShapePart.{ShapePart}
use Rattle.module_shapes.specs.Shape.{is_amiss, first_amiss}
use Rattle.module_terminals.proofs.Searches.{one_less, none_left}

pub ask_turn :
    (f : ℕ → ShapeTest) (i n : ℕ) → i < n
    → first_amiss (map f (range_with_len i (n - i)))
    ≡ option_or (first_amiss (f i ∷ [])) (first_amiss (map f (range_with_len (i + 1) (n - (i + 1)))))
ask_turn f i n h =
    ap (λ k. first_amiss (map f (range_with_len i k))) (one_less i n h)
    ∙ find-append is_amiss (f i ∷ []) (map f (range_with_len (i + 1) (n - (i + 1))))

pub ask_done : (f : ℕ → ShapeTest) (i n : ℕ) → n ≤ i → first_amiss (map f (range_with_len i (n - i))) ≡ None
ask_done f i n h = ap (λ k. first_amiss (map f (range_with_len i k))) (none_left i n h)

pub ask_first : (t : ShapeTest) (ts : List ShapeTest) → first_amiss (t ∷ ts) ≡ option_or (first_amiss (t ∷ [])) (first_amiss ts)
ask_first t ts = find-append is_amiss (t ∷ []) ts

pub parts_first :
    (f : ShapePart → List ShapeTest) (p : ShapePart) (ps : List ShapePart)
    → first_amiss (flat_map f (p ∷ ps)) ≡ option_or (first_amiss (f p)) (first_amiss (flat_map f ps))
parts_first f p ps = find-append is_amiss (f p) (flat_map f ps)
