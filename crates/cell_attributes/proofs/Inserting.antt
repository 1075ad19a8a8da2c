-- Putting numbers at their places, part by part.
use Rattle.std.proofs.Common.{◌≡◌, ℕ, Bool, List, ◌++◌, ◌∙◌, ap, filter}
use Rattle.std.proofs.lemmas.List.Elements.{filter-append}
use Rattle.bool_functions.specs.Support.{insert_all}
use Rattle.bool_functions.proofs.Trees.{insert_all_append}

pub pins_step :
    (p : ℕ → Bool) (js xs ys : List ℕ)
    → insert_all js (filter p (xs ++ ys)) ≡ insert_all (insert_all js (filter p xs)) (filter p ys)
pins_step p js xs ys = ap (insert_all js) (filter-append p xs ys) ∙ insert_all_append js (filter p xs) (filter p ys)
