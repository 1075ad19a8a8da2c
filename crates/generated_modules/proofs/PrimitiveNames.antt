-- The names of the primitives of a cell: their numbers count from 1.
use Rattle.std.proofs.Common.{◌≡◌, ℕ, zero, suc, ◌+◌, ◌^◌, ◌<◌, Bool, true, false, cond, List, [], ◌∷◌, ◌++◌, length, take, refl}
use Rattle.std.proofs.Common.{sym, ap, ◌∙◌, subst, arith, append_assoc, codes, decimal, if◌then◌else◌}
use Rattle.std.specs.Prelude.{count_by}
use Rattle.std.specs.List.{list_all}
use Rattle.std.proofs.lemmas.Bool.{and_from}
use Rattle.std.proofs.lemmas.List.{append-nil, map-append}
use Rattle.std.proofs.lemmas.List.Folds.{list_all-append}
use Rattle.std.proofs.lemmas.List.Sums.{sum_by-cons}
use Rattle.cell_machine.specs.declared.outputs.OutputPin.{OutputPin}
use Rattle.cell_machine.specs.CellData.{CellData}
use Rattle.verilog_tokens.specs.Kept.{is_name_byte}
use Rattle.udp_tables.specs.declared.table.Udp.{Udp}
use Rattle.udp_tables.specs.Edges.{each_below}
use Rattle.udp_tables.specs.CellPrimitives.{primitive_name, group_primitive, condition_primitive, has_sources, output_primitive}
use Rattle.verilog_grammar.specs.specify_blocks.Names.{numbered}
use Rattle.verilog_grammar.specs.specify_blocks.Generated.{condition_count, output_primitives, group_primitives}
use Rattle.verilog_grammar.specs.specify_blocks.Generated.{condition_primitives}
use Rattle.verilog_grammar.specs.specify_blocks.Generated.{primitives_of}
use Rattle.verilog_grammar.specs.WellFormed.{IsName, udp_names}
use Rattle.verilog_grammar.proofs.ReadNames.{AreNames}
use Rattle.generated_modules.proofs.NumberedNames.{number_in_name, decimal_digits, IsStem, lib_stem, stem_name, numbered_names}

-- the front of the names of a cell's primitives
abbrev pub primitive_front : ℕ → List ℕ
primitive_front c = codes "lib_" ++ (decimal c ++ codes "_")

pub front_stem : (c : ℕ) → c < 2 ^ 64 → IsStem (primitive_front c)
front_stem c h =
    lib_stem (decimal c ++ codes "_")
    (list_all-append is_name_byte (decimal c) (codes "_")
    ∙ and_from (list_all is_name_byte (decimal c)) (list_all is_name_byte (codes "_"))
    (number_in_name (decimal c) (decimal_digits c h)) refl)

pub primitive_named : (c j : ℕ) → primitive_front c ++ decimal j ≡ primitive_name c j
primitive_named c j = refl

pub primitive_is_name : (c j : ℕ) → c < 2 ^ 64 → j < 2 ^ 64 → IsName (primitive_name c j)
primitive_is_name c j h k =
    subst IsName (primitive_named c j) (stem_name (primitive_front c) (front_stem c h) (decimal j) (decimal_digits j k))

names-append : (xs ys : List Udp) → udp_names (xs ++ ys) ≡ udp_names xs ++ udp_names ys
names-append = map-append (λ (udp : Udp). udp.name)

-- one numbered name more
one_more : (word : List ℕ) (b k : ℕ) → k ≡ suc b → numbered word b ++ (word ++ decimal k) ∷ [] ≡ numbered word (suc b)
one_more word b k e = ap (λ m. numbered word b ++ (word ++ decimal m) ∷ []) e

-- primitives that are numbered from b on, behind b names
below_named :
    (word : List ℕ) (f : ℕ → Udp) (b : ℕ) → ((i : ℕ) → (f i).name ≡ word ++ decimal (b + i + 1)) → (n : ℕ)
    → numbered word b ++ udp_names (each_below (λ i. f i ∷ []) n) ≡ numbered word (b + n)
below_named word f b h zero =
    let same : b ≡ b + 0 = omega arith in
    append-nil (numbered word b) ∙ ap (numbered word) same
below_named word f b h (suc n) =
    let before : List Udp = each_below (λ i. f i ∷ []) n in
    let number : b + n + 1 ≡ suc (b + n) = omega arith in
    let same : suc (b + n) ≡ b + suc n = omega arith in
    ap (λ l. numbered word b ++ l) (names-append before (f n ∷ []))
    ∙ sym (append_assoc (numbered word b) (udp_names before) ((f n).name ∷ []))
    ∙ ap (λ l. l ++ (f n).name ∷ []) (below_named word f b h n)
    ∙ ap (λ x. numbered word (b + n) ++ x ∷ []) (h n)
    ∙ one_more word (b + n) (b + n + 1) number
    ∙ ap (numbered word) same

-- the names of these outputs' primitives go on from b
abbrev GoOn : CellData → List ℕ → ℕ → ℕ → List OutputPin → Type 0
GoOn cell word i b outputs =
    (n : ℕ) → (output_primitive cell (i + n)).name ≡ word ++ decimal (b + count_by has_sources (take n outputs) + 1)

goes_on :
    (cell : CellData) (word : List ℕ) (i b c : ℕ) (output : OutputPin) (outputs : List OutputPin)
    → b + cond (has_sources output) 1 0 ≡ c → GoOn cell word i b (output ∷ outputs) → GoOn cell word (i + 1) c outputs
goes_on cell word i b c output outputs e h n =
    let moved : (i + 1) + n ≡ i + suc n = omega arith in
    let more : count_by has_sources (take (suc n) (output ∷ outputs)) ≡ cond (has_sources output) 1 0 + count_by has_sources
    (take n outputs)
    = sum_by-cons (λ x. cond (has_sources x) 1 0) output (take n outputs) in
    let same : b + count_by has_sources (take (suc n) (output ∷ outputs)) + 1 ≡ c + count_by has_sources (take n outputs) + 1
    = omega (arith, more, e) in
    ap (λ m. (output_primitive cell m).name) moved ∙ h (suc n) ∙ ap (λ m. word ++ decimal m) same

outputs_named :
    (cell : CellData) (word : List ℕ) (i b : ℕ) (outputs : List OutputPin) → GoOn cell word i b outputs
    → numbered word b ++ udp_names (output_primitives cell i outputs) ≡ numbered word (b + count_by has_sources outputs)
outputs_named cell word i b [] h =
    let same : b ≡ b + count_by has_sources [] = omega arith in
    append-nil (numbered word b) ∙ ap (numbered word) same
outputs_named cell word i b (output ∷ outputs) h =
    by (has_sources output) refl
    (λ c e. outputs_named cell word (i + 1) c outputs (goes_on cell word i b c output outputs e h))
  where
    counted : count_by has_sources (output ∷ outputs) ≡ cond (has_sources output) 1 0 + count_by has_sources outputs
    counted = sum_by-cons (λ x. cond (has_sources x) 1 0) output outputs

    by :
        (t : Bool) → has_sources output ≡ t
        → ((c : ℕ) → b + cond (has_sources output) 1 0 ≡ c
        → numbered word c ++ udp_names (output_primitives cell (i + 1) outputs) ≡ numbered word
        (c + count_by has_sources outputs))
        → numbered word b ++ udp_names (if t then output_primitive cell i ∷ output_primitives cell (i + 1) outputs
        else output_primitives cell (i + 1) outputs)
        ≡ numbered word (b + count_by has_sources (output ∷ outputs))
    by true e rest =
        let step : ◌≡◌ {A = ℕ} (cond (has_sources output) 1 0) 1 = ap (λ t. cond t 1 0) e in
        let x : List ℕ = (output_primitive cell i).name in
        let later : List (List ℕ) = udp_names (output_primitives cell (i + 1) outputs) in
        let here : i ≡ i + 0 = omega arith in
        let none : count_by has_sources (take 0 (output ∷ outputs)) ≡ 0 = refl in
        let number : b + count_by has_sources (take 0 (output ∷ outputs)) + 1 ≡ suc b = omega (arith, none) in
        let total : suc b + count_by has_sources outputs ≡ b + count_by has_sources (output ∷ outputs) =
        omega (arith, counted, step) in
        sym (append_assoc (numbered word b) (x ∷ []) later)
        ∙ ap (λ y. (numbered word b ++ y ∷ []) ++ later) (ap (λ m. (output_primitive cell m).name) here ∙ h 0)
        ∙ ap (λ l. l ++ later) (one_more word b (b + count_by has_sources (take 0 (output ∷ outputs)) + 1) number)
        ∙ rest (suc b) (omega (arith, step))
        ∙ ap (numbered word) total
    by false e rest =
        let step : ◌≡◌ {A = ℕ} (cond (has_sources output) 1 0) 0 = ap (λ t. cond t 1 0) e in
        let total : b + count_by has_sources outputs ≡ b + count_by has_sources (output ∷ outputs) = omega (arith, counted, step)
        in
        rest b (omega (arith, step)) ∙ ap (numbered word) total

-- how many primitives a cell has
abbrev pub primitive_count : CellData → ℕ
primitive_count cell = length cell.groups + condition_count cell + count_by has_sources cell.outputs

pub primitives_named : (cell : CellData)
    → udp_names (primitives_of cell) ≡ numbered (primitive_front cell.number) (primitive_count cell)
primitives_named cell =
    let word : List ℕ = primitive_front cell.number in
    let g : ℕ = length cell.groups in
    let n : ℕ = condition_count cell in
    let first : List Udp = group_primitives cell in
    let second : List Udp = condition_primitives cell in
    let third : List Udp = output_primitives cell 0 cell.outputs in
    let plain : 0 + g ≡ g = omega arith in
    names-append first (second ++ third)
    ∙ ap (λ l. l ++ udp_names (second ++ third))
    (below_named word (group_primitive cell) 0 (λ i. let same : i + 1 ≡ 0 + i + 1 = omega arith
    in sym (primitive_named cell.number (i + 1)) ∙ ap (λ m. word ++ decimal m) same) g
    ∙ ap (numbered word) plain)
    ∙ ap (λ l. numbered word g ++ l) (names-append second third)
    ∙ sym (append_assoc (numbered word g) (udp_names second) (udp_names third))
    ∙ ap (λ l. l ++ udp_names third)
    (below_named word (condition_primitive cell) g (λ i. sym (primitive_named cell.number (g + i + 1))) n)
    ∙ outputs_named cell word 0 (g + n) cell.outputs
    (λ m.
    let same : 0 + m ≡ m = omega arith in
    ap (λ k. (output_primitive cell k).name) same
    ∙ sym (primitive_named cell.number (g + n + count_by has_sources (take m cell.outputs) + 1)))

-- the names of the primitives are names of which none stands twice
pub primitives_are_named : (cell : CellData) → cell.number < 2 ^ 64 → primitive_count cell < 2 ^ 64
    → AreNames (udp_names (primitives_of cell))
primitives_are_named cell h k =
    subst AreNames (sym (primitives_named cell))
    (numbered_names (primitive_front cell.number) (front_stem cell.number h) (primitive_count cell) k)
