-- One more turn of the loops over the three-state outputs of a cell.
use Rattle.std.proofs.Common.{◌≡◌, ℕ, ◌+◌, ◌<◌, List, ◌∷◌, ◌++◌, length, map, drop, get_or, sym, ap, ◌∙◌, append_assoc}
use Rattle.std.proofs.lemmas.List.{drop_more}
use Rattle.liberty_groups.specs.declared.tree.Item.{Item}
use Rattle.core_groups.specs.Outputs.{ThreeStateOutput, three_state_of}
use Rattle.core_groups.specs.CoreGroups.{enable_pin_of, enable_pins}

-- the next of some things that are held, as they are shown
pub map_turn :
    {A B : Type 0} (f : A → B) (xs : List A) (i : ℕ) (x : A) → i < length xs → x ≡ get_or xs i x
    → map f (drop i xs) ≡ f x ∷ map f (drop (i + 1) xs)
map_turn f xs i x within is = ap (map f) (drop_more xs i x within ∙ ap (λ y. y ∷ drop (i + 1) xs) (sym is))

-- the output for one more three-state output
pub enable_turn :
    (output : ThreeStateOutput) (rest all : List ThreeStateOutput) (number : ℕ) (before after : List Item)
    → all ≡ output ∷ rest → after ≡ before ++ enable_pin_of number (three_state_of output.group)
    → after ++ enable_pins (number + 1) rest ≡ before ++ enable_pins number all
enable_turn output rest all number before after a n =
    rw a (rw n (append_assoc before (enable_pin_of number (three_state_of output.group)) (enable_pins (number + 1) rest)))
