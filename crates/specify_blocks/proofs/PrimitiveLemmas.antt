-- The primitives of a cell's module by their numbers.
use Rattle.std.proofs.Common.{◌≡◌, ℕ, zero, suc, ◌+◌, ◌<◌, List, [], ◌∷◌, ◌++◌, length, refl, ap, ◌∙◌}
use Rattle.std.proofs.Common.{arith, Some, slice_get, length-append, decimal}
use Rattle.udp_tables.specs.PortNames.{input_name, input_names}
use Rattle.cell_machine.specs.CellData.{CellData}
use Rattle.udp_tables.specs.CellPrimitives.{group_primitive, condition_primitive}
pub use Rattle.cell_tables.proofs.EachBelow.{get-left, get-right, below-length, below-get}
use Rattle.specify_blocks.specs.Names.{numbered}
use Rattle.specify_blocks.specs.Generated.{condition_count, group_primitives, condition_primitives, output_primitives}
use Rattle.specify_blocks.specs.Generated.{primitives_of}

pub numbered-length : (word : List ℕ) (n : ℕ) → length (numbered word n) ≡ n
numbered-length word zero = refl
numbered-length word (suc n) =
    let rest = numbered-length word n in
    let whole = length-append (numbered word n) ((word ++ decimal (suc n)) ∷ []) in
    omega (arith, rest, whole)

pub inputs-length : (n : ℕ) → length (input_names n) ≡ n
inputs-length zero = refl
inputs-length (suc n) =
    let rest = inputs-length n in
    let whole = length-append (input_names n) (input_name (suc n) ∷ []) in
    omega (arith, rest, whole)

pub group_primitive-at : (cell : CellData) (g : ℕ) → g < length cell.groups
    → slice_get (primitives_of cell) g ≡ Some (group_primitive cell g)
group_primitive-at cell g h =
    let long = below-length (group_primitive cell) (length cell.groups) in
    get-left (group_primitives cell) (condition_primitives cell ++ output_primitives cell 0 cell.outputs) g (omega (arith, long))
    ∙ below-get (group_primitive cell) (length cell.groups) g h

after_groups :
    (cell : CellData) (i : ℕ)
    → slice_get (primitives_of cell) (length cell.groups + i)
    ≡ slice_get (condition_primitives cell ++ output_primitives cell 0 cell.outputs) i
after_groups cell i =
    get-right (group_primitives cell) (condition_primitives cell ++ output_primitives cell 0 cell.outputs) (length cell.groups) i
    (below-length (group_primitive cell) (length cell.groups))

pub condition_primitive-at :
    (cell : CellData) (i : ℕ) → i < condition_count cell
    → slice_get (primitives_of cell) (length cell.groups + i) ≡ Some (condition_primitive cell i)
condition_primitive-at cell i h =
    let long = below-length (condition_primitive cell) (condition_count cell) in
    after_groups cell i
    ∙ get-left (condition_primitives cell) (output_primitives cell 0 cell.outputs) i (omega (arith, long))
    ∙ below-get (condition_primitive cell) (condition_count cell) i h

pub output_primitive-at :
    (cell : CellData) (n : ℕ)
    → slice_get (primitives_of cell) ((length cell.groups + condition_count cell) + n) ≡ slice_get
    (output_primitives cell 0 cell.outputs) n
output_primitive-at cell n =
    let moved : (length cell.groups + condition_count cell) + n ≡ length cell.groups + (condition_count cell + n) = omega arith in
    ap (slice_get (primitives_of cell)) moved
    ∙ after_groups cell (condition_count cell + n)
    ∙ get-right (condition_primitives cell) (output_primitives cell 0 cell.outputs) (condition_count cell) n
    (below-length (condition_primitive cell) (condition_count cell))
