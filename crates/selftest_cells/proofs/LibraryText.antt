-- The text of the library, cell by cell.
use Rattle.std.proofs.Common.{◌≡◌, ℕ, zero, suc, ◌+◌, ◌-◌, ◌%◌, ◌<◌, List, [], ◌∷◌, ◌++◌, codes, decimal, length, sym, ap, ◌∙◌}
use Rattle.std.proofs.Common.{arith, append_assoc}
use Rattle.std.proofs.lemmas.List.{append-nil}
use Rattle.std.proofs.lemmas.Grind.{flat_map-append}
use Rattle.liberty_groups.specs.declared.tree.Value.{Value}
use Rattle.liberty_groups.specs.declared.tree.Item.{Item, fold_out-Item}
use Rattle.liberty_groups.specs.declared.tree.Item.TheOpen.{Item-F, Group-F}
use Rattle.liberty_groups.specs.declared.tree.Item.TheFolds.{map-Item}
use Rattle.liberty_groups.specs.declared.tree.Item.TheVariants as item
use Rattle.liberty_groups.specs.declared.tree.Group.{Group, out-roll-Group}
use Rattle.liberty_groups.specs.Writing.{simple_text, complex_text, head_text, item_step, group_step, item_text, items_text}
use Rattle.liberty_groups.specs.Writing.{group_text}
use Rattle.liberty_groups.proofs.Texts.{group_text_is}
use Rattle.selftest_cells.specs.Statements.{text, simple, group}
use Rattle.selftest_cells.specs.Library.{items_by, cell_group, cells, library, front_text, library_text}
use Rattle.selftest_cells.specs.Reading.{end_text, text_behind}

pub inner_text : (g : Group) → item_text (item.Inner g) ≡ group_text g
inner_text g =
    fold_out-Item (List ℕ) (List ℕ) item_step group_step (item.Inner g)
    ∙ ap (λ (z : Item-F Item Group). item_step (map-Item Item Group (List ℕ) (List ℕ) item_text group_text z)) (item.outs-Inner g)

pub statement_text : (name : List ℕ) (value : List Value) (at : ℕ)
    → item_text (item.Simple name value at) ≡ simple_text name value
statement_text name value at =
    fold_out-Item (List ℕ) (List ℕ) item_step group_step (item.Simple name value at)
    ∙ ap (λ (z : Item-F Item Group). item_step (map-Item Item Group (List ℕ) (List ℕ) item_text group_text z))
    (item.outs-Simple name value at)

pub complex_statement_text :
    (name : List ℕ) (arguments : List Value) (at : ℕ) → item_text (item.Complex name arguments at) ≡ complex_text name arguments
complex_statement_text name arguments at =
    fold_out-Item (List ℕ) (List ℕ) item_step group_step (item.Complex name arguments at)
    ∙ ap (λ (z : Item-F Item Group). item_step (map-Item Item Group (List ℕ) (List ℕ) item_text group_text z))
    (item.outs-Complex name arguments at)

pub text_of_group :
    (name : List ℕ) (arguments : List Value) (items : List Item)
    → group_text (group name arguments items) ≡ head_text name arguments ++ items_text items ++ 125 ∷ 10 ∷ []
text_of_group name arguments items =
    let g : Group-F Item Group = record { name = name; arguments = arguments; items = items; at = 0 } in
    group_text_is (group name arguments items)
    ∙ ap (λ (z : Group-F Item Group). head_text z.name z.arguments ++ items_text z.items ++ 125 ∷ 10 ∷ []) (out-roll-Group g)

-- one more cell
cells_more : (n : ℕ) → items_text (cells (suc n)) ≡ items_text (cells n) ++ group_text (cell_group (suc n))
cells_more n =
    let one : items_text (item.Inner (cell_group (suc n)) ∷ []) ≡ group_text (cell_group (suc n)) =
    append-nil (item_text (item.Inner (cell_group (suc n)))) ∙ inner_text (cell_group (suc n)) in
    flat_map-append item_text (cells n) (item.Inner (cell_group (suc n)) ∷ [])
    ∙ ap (λ (t : List ℕ). items_text (cells n) ++ t) one

-- the cells so far, and those behind them
unrolled : (n k : ℕ) → items_text (cells n) ++ text_behind n k ≡ items_text (cells (k + n)) ++ end_text
unrolled n zero =
    let none : n ≡ 0 + n = omega (arith) in
    ap (λ (m : ℕ). items_text (cells m) ++ end_text) none
unrolled n (suc k) =
    let more : k + suc n ≡ suc k + n = omega (arith) in
    sym (append_assoc (items_text (cells n)) (group_text (cell_group (suc n))) (text_behind (suc n) k))
    ∙ ap (λ (t : List ℕ). t ++ text_behind (suc n) k) (sym (cells_more n))
    ∙ unrolled (suc n) k
    ∙ ap (λ (m : ℕ). items_text (cells m) ++ end_text) more

whole : (n : ℕ) → front_text ++ (items_text (cells n) ++ end_text) ≡ library_text n
unfolding library library_text front_text
whole n =
    sym (text_of_group (codes "library") (text (codes "selftest") ∷ []) (simple (codes "time_unit") (codes "1ps") ∷ cells n)
    ∙ ap (λ (t : List ℕ). head_text (codes "library") (text (codes "selftest") ∷ []) ++ (t ++ items_text (cells n)) ++ end_text)
    (statement_text (codes "time_unit") (text (codes "1ps") ∷ []) 0))

-- all of it before the first read
pub read_from_start : (front : List ℕ) (n : ℕ) → front ≡ front_text → front ++ text_behind 0 (n - 0) ≡ library_text n
read_from_start front n e =
    let all : n + 0 ≡ n = omega (arith) in
    let same : n - 0 ≡ n = omega (arith) in
    ap (λ (t : List ℕ). t ++ text_behind 0 (n - 0)) e
    ∙ ap (λ (m : ℕ). front_text ++ text_behind 0 m) same
    ∙ ap (λ (t : List ℕ). front_text ++ t) (unrolled 0 n ∙ ap (λ (m : ℕ). items_text (cells m) ++ end_text) all)
    ∙ whole n

-- a cell has a text
pub cell_text_is_some : (number : ℕ) → 0 < length (group_text (cell_group number))
unfolding cell_group
cell_text_is_some number =
    rw (text_of_group (codes "cell") (text (codes "G" ++ decimal number) ∷ []) (items_by (number % 4) number)) omega (arith)
