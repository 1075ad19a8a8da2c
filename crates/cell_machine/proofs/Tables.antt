-- Functions of points by their values at all points.
use Rattle.std.proofs.Common.{◌≡◌, ℕ, zero, suc, ◌+◌, ◌-◌, ◌<◌, ◌≤◌, Bool, false, List, [], ◌∷◌, ◌++◌, length, map, take, drop}
use Rattle.std.proofs.Common.{get_or, refl, sym, ap, ◌∙◌, subst, arith, Some, slice_get, length-append}
use Rattle.std.proofs.Math.Seq.{take-length}
use Rattle.std.proofs.lemmas.List.{length-map}
use Rattle.trit_cubes.specs.declared.trits.Trit.{Trit}
use Rattle.trit_cubes.specs.Filling.{IsFilling}
use Rattle.trit_cubes.specs.Resolution.{res}
use Rattle.trit_cubes.specs.Sets.{AreValuesOf}
use Rattle.cell_machine.specs.declared.groups.StateGroup.{StateGroup}
use Rattle.cell_machine.specs.declared.changes.Change.{Change}
use Rattle.cell_machine.specs.declared.outputs.OutputPin.{OutputPin}
use Rattle.cell_machine.specs.CellData.{CellData}
use Rattle.cell_machine.specs.Names.{state_name}
use Rattle.cell_machine.specs.Machine.{Step, insert, without, init, last, edge_value}
use Rattle.cell_machine.specs.Inputs.{pin_value, pin_values}
use Rattle.cell_machine.specs.CellTrace.{source_value, sources_at, output_value_at, output_value, support_at, step_at, place_in}
use Rattle.cell_machine.specs.CellTrace.{moved_at, moved}
use Rattle.cell_machine.proofs.OutputFacts.{sources_at-is, output_value_at-is}
use Rattle.cell_machine.proofs.GroupSteps.{support_at-is, step_at-is}
use Rattle.cell_machine.proofs.StepLemmas.{length-without}

-- a filling has as many places as the list
pub filling_wide : (ts : List Trit) (p : List Bool) → IsFilling ts p → length p ≡ length ts
filling_wide [] [] h = refl
filling_wide [] (b ∷ p) h = absurd h
filling_wide (t ∷ ts) [] h = absurd h
filling_wide (t ∷ ts) (b ∷ p) h = ap suc (filling_wide ts p h.1)

-- the value of an output by its values at all points
pub output_tabled :
    (cell : CellData) (i : ℕ) (output : OutputPin) (v states : List Trit) (values places : List Trit) (found : Trit)
    → slice_get cell.outputs i ≡ Some output
    → places ≡ map (source_value cell.pins v states) output.support
    → AreValuesOf (length (sources_at cell i)) (output_value_at cell i) values
    → ((f : List Bool → Trit) → AreValuesOf (length places) f values → found ≡ res f places)
    → found ≡ output_value cell.pins cell.groups v states output
output_tabled cell i output v states values places found e are known is =
    let sources : length (sources_at cell i) ≡ length places =
    ap length (sources_at-is cell i output e) ∙ sym (ap length are ∙ length-map output.support (source_value cell.pins v states))
    in
    is (output_value_at cell i) (subst (λ n. AreValuesOf n (output_value_at cell i) values) sources known)
    ∙ (λ j. res (output_value_at-is cell i output e j) (are j))

-- the list with an entry more, and with one less, by what stands before and behind

pub insert_parts : {X : Type 0} (p : ℕ) (x : X) (xs : List X) → p ≤ length xs → take p xs ++ x ∷ drop p xs ≡ insert p x xs
insert_parts zero x xs l = refl
insert_parts (suc p) x [] l = absurd (omega arith)
insert_parts (suc p) x (y ∷ ys) l = ap (λ zs. y ∷ zs) (insert_parts p x ys (omega arith))

pub insert_long : {X : Type 0} (p : ℕ) (x : X) (xs : List X) → length (insert p x xs) ≡ suc (length xs)
insert_long zero x xs = refl
insert_long (suc p) x [] = refl
insert_long (suc p) x (y ∷ ys) = ap suc (insert_long p x ys)

pub without_parts : {X : Type 0} (p : ℕ) (xs : List X) → without p xs ≡ take p xs ++ drop (suc p) xs
without_parts zero [] = refl
without_parts (suc p) [] = refl
without_parts zero (x ∷ xs) = refl
without_parts (suc p) (x ∷ xs) = ap (λ r. x ∷ r) (without_parts p xs)

-- the next state of a group at a change of an input of its support, by the values of its step at all points
pub moved_tabled :
    (cell : CellData) (i : ℕ) (group : StateGroup) (v : List Trit) (a : Trit) (c : Change) (s : Trit) (place : ℕ)
    (values point : List Trit) (found : Trit)
    → slice_get cell.groups i ≡ Some group
    → place_in cell.pins group.support c ≡ Some place → place < length group.support
    → point ≡ a ∷ c.to ∷ (without place (pin_values cell.pins v group.support) ++ s ∷ [])
    → AreValuesOf (suc (suc (length (support_at cell i)))) (edge_value (step_at cell i) place) values
    → ((f : List Bool → Trit) → AreValuesOf (length point) f values → found ≡ res f point)
    → found ≡ moved cell.pins (record { name = state_name (length cell.pins) i; group = group }) v a c s
moved_tabled cell i group v a c s place values point found e at inside are known is =
    let pins : List Trit = pin_values cell.pins v group.support in
    let long : length pins ≡ length group.support = length-map group.support (pin_value cell.pins v) in
    let more : length pins ≡ suc (length (without place pins)) = length-without place pins (omega (arith, long, inside)) in
    let behind : length (without place pins ++ s ∷ []) ≡ length (without place pins) + 1 =
    length-append (without place pins) (s ∷ []) in
    let wide : suc (suc (length (support_at cell i))) ≡ length point =
    ap (λ (support : List ℕ). suc (suc (length support))) (support_at-is cell i group e)
    ∙ (ap (λ n. suc (suc n)) (sym long ∙ (more ∙ (omega arith ∙ sym behind))) ∙ sym (ap length are)) in
    is (edge_value (step_at cell i) place) (subst (λ n. AreValuesOf n (edge_value (step_at cell i) place) values) wide known)
    ∙ ((λ j. res (edge_value (step_at-is cell i group e j) place) (are j))
    ∙ sym (ap (λ o. moved_at o (record { name = state_name (length cell.pins) i; group = group }) pins a c.to s) at))

-- The step at a point of a change, by the parts of the point.

init_long : {X : Type 0} (x : X) (xs : List X) → length (init (x ∷ xs)) ≡ length xs
init_long x [] = refl
init_long x (y ∷ ys) = ap suc (init_long y ys)

init_taken : {X : Type 0} (x : X) (xs : List X) → take (length xs) (x ∷ xs) ≡ init (x ∷ xs)
init_taken x [] = refl
init_taken x (y ∷ ys) = ap (λ zs. x ∷ zs) (init_taken y ys)

last_at : {X : Type 0} (x d e : X) (xs : List X) → get_or (x ∷ xs) (length xs) d ≡ last e (x ∷ xs)
last_at x d e [] = refl
last_at x d e (y ∷ ys) = last_at y d e ys

pub edge_value_parts :
    (step : Step) (p : ℕ) (point : List Bool)
    → 3 ≤ length point
    → step (insert p (get_or point 0 false) (take (length point - 1 - 2) (drop 2 point)))
    (insert p (get_or point 1 false) (take (length point - 1 - 2) (drop 2 point))) (get_or point (length point - 1) false)
    ≡ edge_value step p point
edge_value_parts step p [] l = absurd (omega arith)
edge_value_parts step p (old ∷ []) l = absurd (omega arith)
edge_value_parts step p (old ∷ new ∷ []) l = absurd (omega arith)
edge_value_parts step p (old ∷ new ∷ r ∷ rest) l =
    let few : length (old ∷ new ∷ r ∷ rest) - 1 - 2 ≡ length rest = omega arith in
    let place : length (old ∷ new ∷ r ∷ rest) - 1 ≡ suc (suc (length rest)) = omega arith in
    let others : take (length (old ∷ new ∷ r ∷ rest) - 1 - 2) (r ∷ rest) ≡ init (r ∷ rest)
    = ap (λ k. take k (r ∷ rest)) few ∙ init_taken r rest in
    let state : get_or (old ∷ new ∷ r ∷ rest) (length (old ∷ new ∷ r ∷ rest) - 1) false ≡ last false (r ∷ rest)
    = ap (λ k. get_or (old ∷ new ∷ r ∷ rest) k false) place ∙ last_at r false false rest in
    λ i. step (insert p old (others i)) (insert p new (others i)) (state i)

pub others_long : (point : List Bool) → 3 ≤ length point
    → suc (length (take (length point - 1 - 2) (drop 2 point))) + 2 ≡ length point
others_long [] l = absurd (omega arith)
others_long (old ∷ []) l = absurd (omega arith)
others_long (old ∷ new ∷ []) l = absurd (omega arith)
others_long (old ∷ new ∷ r ∷ rest) l =
    let few : length (old ∷ new ∷ r ∷ rest) - 1 - 2 ≡ length rest = omega arith in
    omega (arith, ap length (ap (λ k. take k (r ∷ rest)) few ∙ init_taken r rest), init_long r rest)

-- what holds of each entry, and of one more
holds_of_more :
    {A : Type 0} (P : ℕ → A → Type 0) (xs : List A) (x : A)
    → ((p : ℕ) (v : A) → slice_get xs p ≡ Some v → P p v) → P (length xs) x
    → (p : ℕ) (v : A) → slice_get (xs ++ x ∷ []) p ≡ Some v → P p v
holds_of_more P [] x h new zero v e = let same : x ≡ v = cc in subst (P 0) same new
holds_of_more P [] x h new (suc p) v e = absurd cc
holds_of_more P (y ∷ xs) x h new zero v e = h zero v e
holds_of_more P (y ∷ xs) x h new (suc p) v e = holds_of_more (λ q. P (suc q)) xs x (λ q w. h (suc q) w) new p v e

-- so many entries, of which each holds
pub record HoldEach {A : Type 0} (P : ℕ → A → Type 0) (n : ℕ) (xs : List A) : Type 0 where
  pub one_each : length xs ≡ n
  pub are : (p : ℕ) (v : A) → slice_get xs p ≡ Some v → P p v

-- and one more
pub one_more_holds :
    {A : Type 0} (P : ℕ → A → Type 0) (n : ℕ) (xs next : List A) (x : A)
    → HoldEach P n xs → P n x → next ≡ xs ++ x ∷ [] → HoldEach P (n + 1) next
one_more_holds {A} P n xs next x so_far new pushed =
    let long = length-append xs (x ∷ []) in
    record {
      one_each = ap length pushed ∙ omega (arith, long, so_far.one_each);
      are =
          subst (λ ys. (p : ℕ) (v : A) → slice_get ys p ≡ Some v → P p v) (sym pushed)
          (holds_of_more P xs x so_far.are (subst (λ m. P m x) (sym so_far.one_each) new));
    }

-- parts of a list

pub drop_more_one : {X : Type 0} (p : ℕ) (xs : List X) → drop 1 (drop p xs) ≡ drop (suc p) xs
drop_more_one zero xs = refl
drop_more_one (suc p) [] = refl
drop_more_one (suc p) (x ∷ xs) = drop_more_one p xs

pub tail_all : {X : Type 0} (xs : List X) → take (length xs - 1) (drop 1 xs) ≡ drop 1 xs
tail_all [] = refl
tail_all (x ∷ xs) = let few : suc (length xs) - 1 ≡ length xs = omega arith in ap (λ n. take n xs) few ∙ take-length xs
