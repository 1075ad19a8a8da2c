-- Least delays of two pins that are kept.
use Rattle.std.proofs.Common.{◌≡◌, ℕ, zero, suc, ◌+◌, ◌<◌, eqb, Bool, true, false, not, ◌&&◌, ◌||◌, cond, List, [], ◌∷◌, ◌++◌}
use Rattle.std.proofs.Common.{length, map, get_or, set, take, subst, refl, sym, ap, ◌∙◌, Option, Some, None, slice_get, arith}
use Rattle.std.proofs.Common.{nat_eq}
use Rattle.std.specs.Prelude.{⊤, filter, flat_map, option_map, option_to_list}
use Rattle.std.specs.List.{list_all, list_any, range_with_len}
use Rattle.std.proofs.lemmas.Bool.{and_parts, or_parts, eqb-true}
use Rattle.std.proofs.lemmas.List.{length-map}
use Rattle.std.proofs.lemmas.List.Folds.{list_any-append}
use Rattle.std.proofs.lemmas.List.FromFn.{length-map-range_with_len, get_or-map-range_with_len}
use Rattle.std.proofs.lemmas.Option.{slice_get-map, slice_get-get_or, slice_get_within, get_or_from_slice_get}
use Rattle.trit_cubes.specs.declared.trits.Trit.{Trit}
use Rattle.trit_cubes.specs.declared.trits.Trit.TheVariants.{Zero, One}
use Rattle.bool_functions.specs.declared.tree.Node.{Node}
use Rattle.cell_machine.specs.declared.pins.Pin.{Pin}
use Rattle.cell_machine.specs.declared.arcs.Arc.{Arc}
use Rattle.cell_machine.specs.declared.outputs.OutputPin.{OutputPin}
use Rattle.cell_machine.specs.declared.delays.Delays.{Delays}
use Rattle.cell_machine.specs.CellData.{CellData}
use Rattle.cell_machine.specs.Names.{has}
use Rattle.cell_machine.specs.Inputs.{input_number}
use Rattle.cell_machine.specs.Outputs.{is_zero}
use Rattle.cell_machine.specs.Delay.{Path, least, active_delays}
use Rattle.cell_machine.specs.CellTrace.{inputs_of, condition_names, arc_names, same_pins, is_off, is_quiet, is_active, path_of}
use Rattle.cell_machine.specs.CellTrace.{is_between}
use Rattle.cell_machine.specs.KeptConditions.{names_input, AreForgotten}
use Rattle.cell_machine.specs.Places.{places_from, entries_at, AreBelow}
use Rattle.cell_machine.specs.ArcDelay.{least_delays}
use Rattle.cell_machine.specs.ArcPlaces.{arcs_between, arcs_from, names_at, first_naming, firsts_naming}
use Rattle.cell_machine.specs.KeptArcs.{IsPair, AreDelaysAt, AreDelays}
use Rattle.cell_machine.proofs.EntryPlaces.{entries-pass, has-from, eqb-self, places-below}
use Rattle.cell_machine.proofs.KeptValues.{condition-stays, unless-some, range-at}
use Rattle.cell_machine.proofs.ArcDelays.{some_at}

-- arcs whose conditions do not name an input give the same delays when it changes

abbrev AllUnnamed : List Pin → ℕ → List Arc → Type 0
AllUnnamed pins input [] = ⊤
AllUnnamed pins input (x ∷ xs) = (names_input pins input (condition_names x.condition) ≡ false) × AllUnnamed pins input xs

off-stays :
    (pins : List Pin) (v : List Trit) (input : ℕ) (to : Trit) (condition : Option Node)
    → names_input pins input (condition_names condition) ≡ false → is_off pins (set v input to) condition ≡ is_off pins v condition
off-stays pins v input to None unnamed = refl
off-stays pins v input to (Some f) unnamed = ap is_zero (condition-stays pins v (Some f) input to unnamed)

quiet-stays :
    (pins : List Pin) (v : List Trit) (input : ℕ) (to : Trit) (arc : Arc) (arcs : List Arc)
    → AllUnnamed pins input arcs
    → list_all (is_quiet pins (set v input to) arc) arcs ≡ list_all (is_quiet pins v arc) arcs
quiet-stays pins v input to arc [] unnamed = refl
quiet-stays pins v input to arc (x ∷ arcs) unnamed =
    let off = off-stays pins v input to x.condition unnamed.0 in
    let rest = quiet-stays pins v input to arc arcs unnamed.1 in
    λ i. (not (same_pins arc x) || off i) && rest i

active-stays :
    (pins : List Pin) (v : List Trit) (input : ℕ) (to : Trit) (arcs : List Arc) (arc : Arc) (condition : Option Node)
    → AllUnnamed pins input arcs → names_input pins input (condition_names condition) ≡ false
    → is_active pins arcs (set v input to) arc condition ≡ is_active pins arcs v arc condition
active-stays pins v input to arcs arc None all unnamed = quiet-stays pins v input to arc arcs all
active-stays pins v input to arcs arc (Some f) all unnamed =
    ap (λ t. not (is_zero t)) (condition-stays pins v (Some f) input to unnamed)

paths-stay :
    (pins : List Pin) (v : List Trit) (input : ℕ) (to : Trit) (arcs rest : List Arc)
    → AllUnnamed pins input arcs → AllUnnamed pins input rest
    → map (path_of pins arcs (set v input to)) rest ≡ map (path_of pins arcs v) rest
paths-stay pins v input to arcs [] all unnamed = refl
paths-stay pins v input to arcs (x ∷ rest) all unnamed =
    let active = active-stays pins v input to arcs x x.condition all unnamed.0 in
    let others = paths-stay pins v input to arcs rest all unnamed.1 in
    λ i. record { active = active i; rise = x.rise; fall = x.fall } ∷ others i

delays-stay :
    (pins : List Pin) (v : List Trit) (input : ℕ) (to : Trit) (arcs : List Arc)
    → AllUnnamed pins input arcs → least_delays pins arcs (set v input to) ≡ least_delays pins arcs v
delays-stay pins v input to arcs unnamed =
    ap (λ (paths : List Path).
    record { rise = least (active_delays Zero One paths); fall = least (active_delays One Zero paths) })
    (paths-stay pins v input to arcs arcs unnamed unnamed)

-- arcs that pass a test are those that pass it one by one

unnamed-one :
    (pins : List Pin) (input : ℕ) (x : Arc) (rest : List Arc) (b : Bool)
    → (b ≡ true → names_input pins input (condition_names x.condition) ≡ false) → AllUnnamed pins input rest
    → AllUnnamed pins input (cond b (x ∷ rest) rest)
unnamed-one pins input x rest true here others = (here refl, others)
unnamed-one pins input x rest false here others = others

unnamed-pass :
    (pins : List Pin) (input : ℕ) (t : Arc → Bool) (arcs : List Arc)
    → ((j : ℕ) (x : Arc) → slice_get arcs j ≡ Some x → t x ≡ true → names_input pins input (condition_names x.condition) ≡ false)
    → AllUnnamed pins input (filter t arcs)
unnamed-pass pins input t [] each = tt
unnamed-pass pins input t (x ∷ arcs) each =
    unnamed-one pins input x (filter t arcs) (t x) (λ e. each 0 x refl e)
    (unnamed-pass pins input t arcs (λ j y e p. each (suc j) y e p))

-- no list with one of some numbers holds an input

none-here :
    (q : ℕ → Bool) (places : List ℕ) (k j : ℕ) (b : Bool)
    → eqb k j ≡ b → q k ≡ false → (has places j ≡ true → q j ≡ false) → (eqb k j || has places j) ≡ true → q j ≡ false
none-here q places k j true e none rest h = ap q (sym (eqb-true k j e)) ∙ none
none-here q places k j false e none rest h = rest (sym (ap (λ b. b || has places j) e) ∙ h)

none-any :
    (q : ℕ → Bool) (places : List ℕ) (j : ℕ) → list_any q places ≡ false → has places j ≡ true → q j ≡ false
none-any q [] j none h = absurd cc
none-any q (k ∷ places) j none h =
    let parts = or_parts (q k) (list_any q places) none in
    none-here q places k j (eqb k j) refl parts.0 (λ more. none-any q places j parts.1 more) h

first-here : (k i : ℕ) (b : Bool) → eqb k i ≡ true → has (cond b (k ∷ []) []) i ≡ false → b ≡ false
first-here k i true e none = sym (ap (λ c. c || false) e) ∙ none
first-here k i false e none = refl

first-none :
    (pins : List Pin) (named : List (List ℕ)) (input : ℕ) (places : List ℕ) (i : ℕ)
    → slice_get places 0 ≡ Some i → has (first_naming pins named input places) i ≡ false
    → list_any (names_at pins named input) places ≡ false
first-none pins named input [] i e none = refl
first-none pins named input (k ∷ places) i e none =
    let same : k ≡ i = cc in
    first-here k i (list_any (names_at pins named input) (k ∷ places)) (ap (eqb k) (sym same) ∙ eqb-self k) none

-- a list that is not among others stands in none of them
flat-none :
    {X : Type 0} (f : X → List ℕ) (xs : List X) (i j : ℕ) (x : X)
    → has (flat_map f xs) i ≡ false → slice_get xs j ≡ Some x → has (f x) i ≡ false
flat-none f [] i j x none e = absurd cc
flat-none f (y ∷ ys) i zero x none e =
    let same : y ≡ x = cc in
    let parts = or_parts (has (f y) i) (has (flat_map f ys) i) (sym (list_any-append (λ k. eqb k i) (f y) (flat_map f ys)) ∙ none) in
    ap (λ z. has (f z) i) (sym same) ∙ parts.0
flat-none f (y ∷ ys) i (suc j) x none e =
    let parts = or_parts (has (f y) i) (has (flat_map f ys) i) (sym (list_any-append (λ k. eqb k i) (f y) (flat_map f ys)) ∙ none) in
    flat-none f ys i j x parts.1 e

range-get : {X : Type 0} (f : ℕ → X) (n i : ℕ) → i < n → slice_get (map f (range_with_len 0 n)) i ≡ Some (f i)
range-get f n i within =
    let here : 0 + i ≡ i = omega arith in
    let inside : i < length (map f (range_with_len 0 n)) = omega (arith, within, length-map-range_with_len f 0 n) in
    slice_get-get_or (map f (range_with_len 0 n)) i (f i) inside ∙ ap Some (get_or-map-range_with_len f 0 n i i (f i) within here)

-- the arcs of two pins of which the first one is not forgotten
pair-unnamed :
    (cell : CellData) (changed input place : ℕ) (output : OutputPin) (i : ℕ)
    → input < inputs_of cell → slice_get cell.outputs place ≡ Some output
    → slice_get (arcs_between cell input output.pin) 0 ≡ Some i → has (firsts_naming cell changed) i ≡ false
    → AllUnnamed cell.pins changed (filter (is_between cell.pins input output.pin) cell.arcs)
pair-unnamed cell changed input place output i is_input is_output first none =
    let named : List (List ℕ) = arc_names cell in
    let t : Arc → Bool = is_between cell.pins input output.pin in
    let between = λ (o : OutputPin). arcs_between cell input o.pin in
    let row = range-get (arcs_from cell) (inputs_of cell) input is_input in
    let list : slice_get (arcs_from cell input) place ≡ Some (arcs_between cell input output.pin)
    = slice_get-map between cell.outputs place ∙ ap (option_map between) is_output in
    let of_row = flat-none (flat_map (first_naming cell.pins named changed)) (map (arcs_from cell) (range_with_len 0 (inputs_of cell))) i input
    (arcs_from cell input) none row in
    let of_list = flat-none (first_naming cell.pins named changed) (arcs_from cell input) i place (arcs_between cell input output.pin) of_row list in
    let any = first-none cell.pins named changed (arcs_between cell input output.pin) i first of_list in
    unnamed-pass cell.pins changed t cell.arcs
    (λ j x e p.
    let zeroed : 0 + j ≡ j = omega arith in
    let placed : has (arcs_between cell input output.pin) j ≡ true
    = ap (has (arcs_between cell input output.pin)) (sym zeroed) ∙ has-from t 0 cell.arcs j x e p in
    let names : slice_get named j ≡ Some (condition_names x.condition)
    = slice_get-map (λ (arc : Arc). condition_names arc.condition) cell.arcs j
    ∙ ap (option_map (λ (arc : Arc). condition_names arc.condition)) e in
    let unnamed : list_any (names_input cell.pins changed) (option_to_list (slice_get named j)) ≡ false
    = none-any (names_at cell.pins named changed) (arcs_between cell input output.pin) j any placed in
    (or_parts (names_input cell.pins changed (condition_names x.condition)) false
    (sym (ap (λ o. list_any (names_input cell.pins changed) (option_to_list o)) names) ∙ unnamed)).0)

-- what is kept of two pins is right when an input changes
pub delays_changed :
    (cell : CellData) (v : List Trit) (kept next : List (Option Delays)) (changed : ℕ) (to : Trit)
    → AreDelays cell v kept → AreForgotten (firsts_naming cell changed) kept next
    → AreDelays cell (set v changed to) next
delays_changed cell v kept next changed to h left_out = (
  left_out.len ∙ h.0,
  λ i delays e input place output is_input is_output first.
      let left = unless-some (has (firsts_naming cell changed) i) (get_or kept i None) delays (sym (left_out.each i) ∙ e) in
      let unnamed = pair-unnamed cell changed input place output i is_input is_output first left.0 in
      let pair = entries-pass (is_between cell.pins input output.pin) cell.arcs in
      h.1 i delays left.1 input place output is_input is_output first
      ∙ ap (λ arcs. least_delays cell.pins arcs v) pair
      ∙ sym (delays-stay cell.pins v changed to (filter (is_between cell.pins input output.pin) cell.arcs) unnamed)
      ∙ ap (λ arcs. least_delays cell.pins arcs (set v changed to)) (sym pair),
)

-- two pins are known by their first arc

abbrev Passing : {X : Type 0} → (X → Bool) → ℕ → List X → ℕ → Type 0
Passing {X} t k xs i = (j : ℕ) × ((x : X) × ((i ≡ k + j) × ((slice_get xs j ≡ Some x) × (t x ≡ true))))

first-one :
    {X : Type 0} (t : X → Bool) (k : ℕ) (x : X) (xs : List X) (i : ℕ) (b : Bool)
    → t x ≡ b → slice_get (cond b (k ∷ places_from t (k + 1) xs) (places_from t (k + 1) xs)) 0 ≡ Some i
    → (slice_get (places_from t (k + 1) xs) 0 ≡ Some i → Passing t (k + 1) xs i)
    → Passing t k (x ∷ xs) i
first-one t k x xs i true p e rest =
    let same : k ≡ i = cc in
    let here : k ≡ k + 0 = omega arith in
    (0, (x, (sym same ∙ here, (refl, p))))
first-one t k x xs i false p e rest =
    let found = rest e in
    let on : (k + 1) + found.0 ≡ k + suc found.0 = omega arith in
    (suc found.0, (found.1.0, (found.1.1.0 ∙ on, (found.1.1.1.0, found.1.1.1.1))))

first-passes :
    {X : Type 0} (t : X → Bool) (k : ℕ) (xs : List X) (i : ℕ) → slice_get (places_from t k xs) 0 ≡ Some i → Passing t k xs i
first-passes t k [] i e = absurd cc
first-passes t k (x ∷ xs) i e = first-one t k x xs i (t x) refl e (λ f. first-passes t (k + 1) xs i f)

same-pair :
    (cell : CellData) (input pin other next i : ℕ)
    → slice_get (arcs_between cell input pin) 0 ≡ Some i → slice_get (arcs_between cell other next) 0 ≡ Some i
    → arcs_between cell input pin ≡ arcs_between cell other next
same-pair cell input pin other next i e f =
    let one = first-passes (is_between cell.pins input pin) 0 cell.arcs i e in
    let two = first-passes (is_between cell.pins other next) 0 cell.arcs i f in
    let place : one.0 ≡ two.0 = omega (arith, one.1.1.0, two.1.1.0) in
    let arc : Some one.1.0 ≡ Some two.1.0
    = sym one.1.1.1.0 ∙ ap (slice_get cell.arcs) place ∙ two.1.1.1.0 in
    let same : one.1.0 ≡ two.1.0 = cc in
    let a = and_parts (nat_eq (input_number cell.pins one.1.0.from) input) (nat_eq one.1.0.to pin) one.1.1.1.1 in
    let b = and_parts (nat_eq (input_number cell.pins two.1.0.from) other) (nat_eq two.1.0.to next) two.1.1.1.1 in
    let inputs : input ≡ other
    = sym (eqb-true (input_number cell.pins one.1.0.from) input a.0) ∙ ap (λ (x : Arc). input_number cell.pins x.from) same
    ∙ eqb-true (input_number cell.pins two.1.0.from) other b.0 in
    let pins : pin ≡ next
    = sym (eqb-true one.1.0.to pin a.1) ∙ ap (λ (x : Arc). x.to) same ∙ eqb-true two.1.0.to next b.1 in
    λ j. arcs_between cell (inputs j) (pins j)

-- the least delays of two pins are those that are kept under their first arc
pub pair-delays :
    (cell : CellData) (v : List Trit) (places : List ℕ) (first : ℕ) (delays : Delays)
    → IsPair cell places → slice_get places 0 ≡ Some first → AreDelaysAt cell v first delays
    → delays ≡ least_delays cell.pins (entries_at cell.arcs places) v
pair-delays cell v places first delays pair e h =
    let at : slice_get (arcs_between cell pair.input pair.output.pin) 0 ≡ Some first
    = ap (λ (is : List ℕ). slice_get is 0) (sym pair.are) ∙ e in
    h pair.input pair.place pair.output pair.is_input pair.is_output at
    ∙ ap (λ is. least_delays cell.pins (entries_at cell.arcs is) v) (sym pair.are)

pub pair-found :
    (cell : CellData) (v : List Trit) (places : List ℕ) (first : ℕ) (delays : Delays)
    → IsPair cell places → slice_get places 0 ≡ Some first
    → delays ≡ least_delays cell.pins (entries_at cell.arcs places) v → AreDelaysAt cell v first delays
pair-found cell v places first delays pair e is = λ input place output is_input is_output f.
    let at : slice_get (arcs_between cell pair.input pair.output.pin) 0 ≡ Some first
    = ap (λ (is : List ℕ). slice_get is 0) (sym pair.are) ∙ e in
    is ∙ ap (λ is. least_delays cell.pins (entries_at cell.arcs is) v)
    (pair.are ∙ same-pair cell pair.input pair.output.pin input output.pin first at f)

-- the first arc of two pins is one of the cell
pub pair-first :
    (cell : CellData) (places : List ℕ) (first : ℕ) → IsPair cell places → slice_get places 0 ≡ Some first → first < length cell.arcs
pair-first cell places first pair e =
    let below = subst (AreBelow (length cell.arcs)) (sym pair.are) (places-below (is_between cell.pins pair.input pair.output.pin) cell.arcs) in
    let found = below 0 (slice_get_within places 0 first e) in
    omega (arith, found, get_or_from_slice_get places 0 first 0 e)

-- the first arcs of two pins are the cell's

abbrev AllBelow : ℕ → List ℕ → Type 0
AllBelow n [] = ⊤
AllBelow n (x ∷ xs) = (x < n) × AllBelow n xs

below-append : (n : ℕ) (xs ys : List ℕ) → AllBelow n xs → AllBelow n ys → AllBelow n (xs ++ ys)
below-append n [] ys a b = b
below-append n (x ∷ xs) ys a b = (a.0, below-append n xs ys a.1 b)

below-flat : {X : Type 0} (n : ℕ) (f : X → List ℕ) (xs : List X) → ((j : ℕ) (x : X) → slice_get xs j ≡ Some x → AllBelow n (f x))
    → AllBelow n (flat_map f xs)
below-flat n f [] each = tt
below-flat n f (x ∷ xs) each =
    below-append n (f x) (flat_map f xs) (each 0 x refl) (below-flat n f xs (λ j y e. each (suc j) y e))

below-all : (n : ℕ) (xs : List ℕ) → AllBelow n xs → AreBelow n xs
below-all n [] all = λ j inside. absurd (omega (arith, inside))
below-all n (x ∷ xs) all = λ j inside. at n x xs j all (λ k i. below-all n xs all.1 k i) inside
  where
    at : (n x : ℕ) (xs : List ℕ) (j : ℕ) → AllBelow n (x ∷ xs) → AreBelow n xs → j < suc (length xs) → get_or (x ∷ xs) j 0 < n
    at n x xs zero all rest inside = all.0
    at n x xs (suc j) all rest inside = rest j (omega (arith, inside))

first-below : (n : ℕ) (places : List ℕ) (b : Bool) → AreBelow n places → AllBelow n (cond b (take 1 places) [])
first-below n [] true below = tt
first-below n (k ∷ places) true below = (below 0 (omega arith), tt)
first-below n places false below = tt

from-row :
    (cell : CellData) (input q o : ℕ) (places : List ℕ) → slice_get (arcs_from cell q) o ≡ Some places
    → AllBelow (length cell.arcs) (first_naming cell.pins (arc_names cell) input places)
from-row cell input q o places f =
    let between = λ (output : OutputPin). arcs_between cell q output.pin in
    let inside : o < length cell.outputs = omega (arith, slice_get_within (arcs_from cell q) o places f, length-map cell.outputs between) in
    let output = some_at cell.outputs o inside in
    let found : Some places ≡ Some (between output.0)
    = sym f ∙ slice_get-map between cell.outputs o ∙ ap (option_map between) output.1 in
    let same : places ≡ between output.0 = cc in
    first-below (length cell.arcs) places (list_any (names_at cell.pins (arc_names cell) input) places)
    (subst (AreBelow (length cell.arcs)) (sym same) (places-below (is_between cell.pins q output.0.pin) cell.arcs))

pub firsts-below : (cell : CellData) (input : ℕ) → AreBelow (length cell.arcs) (firsts_naming cell input)
firsts-below cell input =
    let n : ℕ = length cell.arcs in
    let named : List (List ℕ) = arc_names cell in
    below-all n (firsts_naming cell input)
    (below-flat n (flat_map (first_naming cell.pins named input)) (map (arcs_from cell) (range_with_len 0 (inputs_of cell)))
    (λ j row e.
    let is = range-at (arcs_from cell) (inputs_of cell) j (map (arcs_from cell) (range_with_len 0 (inputs_of cell))) row refl e in
    subst (λ lists. AllBelow n (flat_map (first_naming cell.pins named input) lists)) (sym is)
    (below-flat n (first_naming cell.pins named input) (arcs_from cell j)
    (λ o places f. from-row cell input j o places f))))
