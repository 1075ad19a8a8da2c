-- The text of a group, from the texts of its statements.
use Rattle.std.proofs.Common.{◌≡◌, ℕ, List, [], ◌∷◌, ◌++◌, map, refl, ap, ◌∙◌}
use Rattle.std.specs.List.{flat_map}
use Rattle.liberty_groups.specs.declared.tree.Item.{Item}
use Rattle.liberty_groups.specs.declared.tree.Group.{Group, out-Group, fold_out-Group}
use Rattle.liberty_groups.specs.Writing.{head_text, item_step, group_step, item_text, items_text, group_text}

joined : (items : List Item) → flat_map (λ text. text) (map item_text items) ≡ items_text items
joined [] = refl
joined (x ∷ xs) = ap (λ (t : List ℕ). item_text x ++ t) (joined xs)

pub group_text_is : (g : Group) →
    group_text g ≡ head_text (out-Group g).name (out-Group g).arguments ++ items_text (out-Group g).items ++ 125 ∷ 10 ∷ []
group_text_is g =
    fold_out-Group (List ℕ) (List ℕ) item_step group_step g
    ∙ ap (λ (t : List ℕ). head_text (out-Group g).name (out-Group g).arguments ++ t ++ 125 ∷ 10 ∷ []) (joined (out-Group g).items)
