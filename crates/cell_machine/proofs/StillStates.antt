-- Changes of inputs that leave the state of a group.
use Rattle.std.proofs.Common.{◌≡◌, ℕ, zero, suc, ◌+◌, ◌*◌, ◌^◌, ◌/◌, ◌<◌, Bool, true, false, List, [], ◌∷◌, ◌++◌, length, map}
use Rattle.std.proofs.Common.{take, drop}
use Rattle.std.proofs.Common.{get_or, refl, sym, ap, ◌∙◌, subst, arith, pow-suc, Some, None, position, slice_get, length-append}
use Rattle.std.specs.Prelude.{nat_eq, Option}
use Rattle.std.specs.List.{list_all}
use Rattle.std.proofs.lemmas.Bool.{and_parts}
use Rattle.std.proofs.lemmas.List.{length-map, length-take-le, length-drop, get_or-take, get_or-drop}
use Rattle.std.proofs.lemmas.Option.{none-some}
use Rattle.trit_cubes.specs.declared.trits.Trit.{Trit}
use Rattle.trit_cubes.specs.declared.trits.Trit.TheVariants.{Zero, One, Unknown}
use Rattle.trit_cubes.specs.Filling.{bit, number, same, trit_of}
use Rattle.trit_cubes.specs.Resolution.{agreed, res}
use Rattle.trit_cubes.specs.Sets.{AreValuesOf}
use Rattle.trit_cubes.proofs.InsideLemmas.{agreed-same}
use Rattle.trit_cubes.proofs.PointLemmas.{number-below}
use Rattle.cell_machine.specs.declared.groups.StateGroup.{StateGroup}
use Rattle.cell_machine.specs.declared.changes.Change.{Change}
use Rattle.cell_machine.specs.declared.group_tables.InputStep.{InputStep}
use Rattle.cell_machine.specs.declared.pins.Pin.{Pin}
use Rattle.cell_machine.specs.CellData.{CellData}
use Rattle.cell_machine.specs.Names.{state_name}
use Rattle.cell_machine.specs.Machine.{without, edge_value}
use Rattle.cell_machine.specs.Inputs.{input_number, numbered_value, pin_value, pin_values}
use Rattle.cell_machine.specs.CellTrace.{support_at, step_at, place_in, moved_at, moved}
use Rattle.cell_machine.specs.StillStates.{leaves_state}
use Rattle.cell_machine.specs.StepTables.{LeavesState, IsInputStep, IsStep}
use Rattle.cell_machine.proofs.GroupSteps.{support_at-is, step_at-is, place-inside}
use Rattle.cell_machine.proofs.StepLemmas.{length-without}
use Rattle.cell_machine.proofs.Tables.{moved_tabled}

-- the number of a point with one place more

number-zero : (p : List Bool) → number (p ++ false ∷ []) ≡ number p
number-zero [] = refl
number-zero (b ∷ p) = ap (λ n. bit b + 2 * n) (number-zero p)

number-one : (p : List Bool) → number (p ++ true ∷ []) ≡ number p + 2 ^ length p
number-one [] = refl
number-one (b ∷ p) =
    let rest = number-one p in
    let two : 2 ^ length (b ∷ p) ≡ 2 * 2 ^ length p = rw pow-suc (omega arith) in
    ap (λ n. bit b + 2 * n) rest ∙ omega (arith, two)

-- entries that all are one value

all-pass : {X : Type 0} (p : X → Bool) (xs : List X) (i : ℕ) (d : X) → i < length xs → list_all p xs ≡ true → p (get_or xs i d) ≡ true
all-pass p [] i d inside e = absurd (omega (arith, inside))
all-pass p (x ∷ xs) zero d inside e = (and_parts (p x) (list_all p xs) e).0
all-pass p (x ∷ xs) (suc i) d inside e = all-pass p xs i d (omega (arith, inside)) (and_parts (p x) (list_all p xs) e).1

same-zero : (b : Trit) → same Zero b ≡ true → b ≡ Zero
same-zero Zero e = refl
same-zero One e = absurd cc
same-zero Unknown e = absurd cc

same-one : (b : Trit) → same One b ≡ true → b ≡ One
same-one Zero e = absurd cc
same-one One e = refl
same-one Unknown e = absurd cc

-- a function whose values are the last place of its points

last-is :
    (n : ℕ) (f : List Bool → Trit) (values : List Trit)
    → AreValuesOf (suc n) f values → leaves_state values ≡ true
    → (p : List Bool) (b : Bool) → length p ≡ n → f (p ++ b ∷ []) ≡ trit_of b
last-is n f values are left p false long =
    let two : 2 ^ suc n ≡ 2 * 2 ^ n = rw pow-suc (omega arith) in
    let half : length values / 2 ≡ 2 ^ n = omega (arith, two, are.entries) in
    let below : number p < 2 ^ n = subst (λ m. number p < 2 ^ m) long (number-below p) in
    let wide : length (p ++ false ∷ []) ≡ suc n = omega (arith, length-append p (false ∷ []), long) in
    let few : number p < length values / 2 = omega (arith, half, below) in
    let inside : number p < length (take (length values / 2) values) =
    omega (arith, few, length-take-le (length values / 2) values (omega arith)) in
    let parts = and_parts (list_all (same Zero) (take (length values / 2) values)) (list_all (same One) (drop (length values / 2) values)) left in
    sym (are.values_at (p ++ false ∷ []) wide)
    ∙ ap (λ k. get_or values k Unknown) (number-zero p)
    ∙ sym (get_or-take (length values / 2) values (number p) Unknown few)
    ∙ same-zero _ (all-pass (same Zero) (take (length values / 2) values) (number p) Unknown inside parts.0)
last-is n f values are left p true long =
    let two : 2 ^ suc n ≡ 2 * 2 ^ n = rw pow-suc (omega arith) in
    let half : length values / 2 ≡ 2 ^ n = omega (arith, two, are.entries) in
    let below : number p < 2 ^ n = subst (λ m. number p < 2 ^ m) long (number-below p) in
    let wide : length (p ++ true ∷ []) ≡ suc n = omega (arith, length-append p (true ∷ []), long) in
    let number_is : number (p ++ true ∷ []) ≡ length values / 2 + number p =
    number-one p ∙ omega (arith, half, ap (λ m. 2 ^ m) long) in
    let inside : number p < length (drop (length values / 2) values) =
    omega (arith, below, half, two, are.entries, length-drop (length values / 2) values) in
    let parts = and_parts (list_all (same Zero) (take (length values / 2) values)) (list_all (same One) (drop (length values / 2) values)) left in
    sym (are.values_at (p ++ true ∷ []) wide)
    ∙ ap (λ k. get_or values k Unknown) number_is
    ∙ sym (get_or-drop (length values / 2) values (number p) Unknown)
    ∙ same-one _ (all-pass (same One) (drop (length values / 2) values) (number p) Unknown inside parts.1)

res-last :
    (f : List Bool → Trit) (ts : List Trit) (s : Trit)
    → ((p : List Bool) (b : Bool) → length p ≡ length ts → f (p ++ b ∷ []) ≡ trit_of b) → res f (ts ++ s ∷ []) ≡ s
res-last f [] Zero is = is [] false refl
res-last f [] One is = is [] true refl
res-last f [] Unknown is = let zero = is [] false refl in let one = is [] true refl in λ i. agreed (zero i) (one i)
res-last f (Zero ∷ ts) s is = res-last (λ p. f (false ∷ p)) ts s (λ p b long. is (false ∷ p) b (ap suc long))
res-last f (One ∷ ts) s is = res-last (λ p. f (true ∷ p)) ts s (λ p b long. is (true ∷ p) b (ap suc long))
res-last f (Unknown ∷ ts) s is =
    let zero = res-last (λ p. f (false ∷ p)) ts s (λ p b long. is (false ∷ p) b (ap suc long)) in
    let one = res-last (λ p. f (true ∷ p)) ts s (λ p b long. is (true ∷ p) b (ap suc long)) in
    (λ i. agreed (zero i) (one i)) ∙ agreed-same s

-- an input that is not in the support, and one at whose changes the step gives the state

placed :
    (cell : CellData) (g : ℕ) (group : StateGroup) (c : Change) (input : ℕ) {at : Option ℕ}
    → slice_get cell.groups g ≡ Some group → c.pin ≡ input
    → position (λ p. nat_eq (input_number cell.pins p) input) (support_at cell g) ≡ at
    → place_in cell.pins group.support c ≡ at
placed cell g group c input e pin at =
    let support = support_at-is cell g group e in
    (λ j. position (λ p. nat_eq (input_number cell.pins p) (pin j)) (sym support j)) ∙ at

pub not-in-support :
    (cell : CellData) (g input : ℕ)
    → position (λ p. nat_eq (input_number cell.pins p) input) (support_at cell g) ≡ None → LeavesState cell g input
not-in-support cell g input none = λ group e v from c s pin.
    ap (λ o. moved_at o (record { name = state_name (length cell.pins) g; group = group }) (pin_values cell.pins v group.support) from c.to s)
    (placed cell g group c input e pin none)

pub step-leaves :
    (cell : CellData) (g input place : ℕ) (values : List Trit)
    → position (λ p. nat_eq (input_number cell.pins p) input) (support_at cell g) ≡ Some place
    → AreValuesOf (suc (suc (length (support_at cell g)))) (edge_value (step_at cell g) place) values
    → leaves_state values ≡ true → LeavesState cell g input
step-leaves cell g input place values at are left = λ group e v from c s pin.
    let support = support_at-is cell g group e in
    let is_placed = placed cell g group c input e pin at in
    let inside : place < length group.support = place-inside cell.pins group.support c place (sym is_placed) in
    let pins : List Trit = pin_values cell.pins v group.support in
    let others : List Trit = without place pins in
    let long : length pins ≡ length group.support = length-map group.support (pin_value cell.pins v) in
    let more : length pins ≡ suc (length others) = length-without place pins (omega (arith, long, inside)) in
    let wide : suc (suc (length others)) ≡ suc (length (support_at cell g)) = omega (arith, more, long, ap length support) in
    ap (λ o. moved_at o (record { name = state_name (length cell.pins) g; group = group }) pins from c.to s) is_placed
    ∙ (λ j. res (edge_value (sym (step_at-is cell g group e) j) place) (from ∷ c.to ∷ (others ++ s ∷ [])))
    ∙ res-last (edge_value (step_at cell g) place) (from ∷ c.to ∷ others) s
    (λ p b known. last-is (suc (length (support_at cell g))) (edge_value (step_at cell g) place) values are left p b (known ∙ wide))

-- the next state of a group by the table of an input

numbered : (pins : List Pin) (v : List Trit) (names : List ℕ) → map (numbered_value v) (map (input_number pins) names) ≡ pin_values pins v names
numbered pins v [] = refl
numbered pins v (name ∷ names) = ap (λ r. pin_value pins v name ∷ r) (numbered pins v names)

without-map : {X Y : Type 0} (f : X → Y) (p : ℕ) (xs : List X) → map f (without p xs) ≡ without p (map f xs)
without-map f zero [] = refl
without-map f (suc p) [] = refl
without-map f zero (x ∷ xs) = refl
without-map f (suc p) (x ∷ xs) = ap (λ r. f x ∷ r) (without-map f p xs)

pub step-tabled :
    (cell : CellData) (g : ℕ) (group : StateGroup) (v : List Trit) (from : Trit) (c : Change) (s : Trit) (table : InputStep)
    (point : List Trit) (found : Trit)
    → slice_get cell.groups g ≡ Some group → IsInputStep cell g c.pin table
    → point ≡ from ∷ c.to ∷ (map (numbered_value v) table.others ++ s ∷ [])
    → ((f : List Bool → Trit) → AreValuesOf (length point) f table.values → found ≡ res f point)
    → found ≡ moved cell.pins (record { name = state_name (length cell.pins) g; group = group }) v from c s
step-tabled cell g group v from c s table point found e is are by_table =
    let support = support_at-is cell g group e in
    let is_placed = placed cell g group c c.pin e refl is.is_place in
    let inside = place-inside cell.pins group.support c table.place (sym is_placed) in
    let others : map (numbered_value v) table.others ≡ without table.place (pin_values cell.pins v group.support)
    = ap (map (numbered_value v)) (is.others_are ∙ ap (λ names. map (input_number cell.pins) (without table.place names)) support)
    ∙ numbered cell.pins v (without table.place group.support)
    ∙ without-map (pin_value cell.pins v) table.place group.support in
    moved_tabled cell g group v from c s table.place table.values point found e is_placed inside
    (are ∙ ap (λ values. from ∷ c.to ∷ (values ++ s ∷ [])) others) is.are_values by_table

-- the step at the changes of an input, with no table and with one

pub no-step : (cell : CellData) (g input : ℕ) → LeavesState cell g input → IsStep cell g input None
no-step cell g input leaves = (λ none. leaves, λ table some. absurd (none-some table some))

pub by-table :
    (cell : CellData) (g input : ℕ) (table : InputStep) → IsInputStep cell g input table → IsStep cell g input (Some table)
by-table cell g input table is =
    (λ none. absurd (none-some table (sym none)), λ other same. subst (IsInputStep cell g input) (table-is table other same) is)
  where
    table-is : (table other : InputStep) → Some table ≡ Some other → table ≡ other
    table-is table other same = cc
