-- Values that are kept of entries.
use Rattle.std.proofs.Common.{◌≡◌, ℕ, zero, suc, ◌+◌, ◌<◌, ◌==◌, eqb, Bool, true, false, not, ◌&&◌, List, [], ◌∷◌, length, map}
use Rattle.std.proofs.Common.{replicate, get_or, set, drop, add-one, subst, refl, sym, ap, ◌∙◌, Option, Some, None, slice_get}
use Rattle.std.proofs.Common.{arith}
use Rattle.std.specs.List.{list_all}
use Rattle.std.specs.Prelude.{option_map}
use Rattle.std.proofs.lemmas.List.{length-set}
use Rattle.std.proofs.lemmas.Bool.{or_parts, eqb-true, eqb-false}
use Rattle.std.proofs.lemmas.List.{get_or-set_same, get_or-set_other, length-replicate}
use Rattle.std.specs.List.{range_with_len}
use Rattle.std.proofs.lemmas.List.FromFn.{length-map-range_with_len, get_or-map-range_with_len}
use Rattle.std.proofs.lemmas.Option.{slice_get-map, slice_get_within, get_or_from_slice_get}
use Rattle.trit_cubes.specs.declared.trits.Trit.{Trit}
use Rattle.trit_cubes.specs.declared.trits.Trit.TheVariants.{Unknown}
use Rattle.trit_cubes.specs.Resolution.{res}
use Rattle.bool_functions.specs.declared.tree.Node.{Node}
use Rattle.bool_functions.specs.Support.{support_of}
use Rattle.cell_machine.specs.declared.pins.Pin.{Pin}
use Rattle.cell_machine.specs.declared.arcs.Arc.{Arc}
use Rattle.cell_machine.specs.CellData.{CellData}
use Rattle.cell_machine.specs.Names.{has}
use Rattle.cell_machine.specs.Inputs.{input_number, pin_values}
use Rattle.cell_machine.specs.Outputs.{condition_at, is_zero}
use Rattle.cell_machine.specs.CellTrace.{condition_names, arc_names, is_off, is_active}
use Rattle.cell_machine.specs.KeptConditions.{arc_condition, names_input, AreKept, AreConditions, AreForgotten, kept_unless}
use Rattle.cell_machine.specs.ArcPlaces.{arcs_naming}
use Rattle.cell_machine.proofs.ArcDelays.{some_at, drop-at}
use Rattle.cell_machine.proofs.EachLemmas.{get_or-default}
use Rattle.cell_machine.proofs.EntryPlaces.{not-placed}

-- at the start nothing is kept
none-at : {V : Type 0} (k : Option V) (n i : ℕ) → k ≡ None → get_or (replicate n k) i None ≡ None
none-at k zero i e = refl
none-at k (suc n) zero e = e
none-at k (suc n) (suc i) e = none-at k n i e

pub kept_none : {V : Type 0} (is_right : ℕ → V → Type 0) (n : ℕ) → AreKept is_right n (replicate n None)
kept_none is_right n = (length-replicate n None, λ i value e. absurd (none-some value (sym (none-at None n i refl) ∙ e)))
  where
    none-some : {V : Type 0} (value : V) → None ≡ Some value → ⊥
    none-some value e = cc

-- a value that is kept
pub kept_at :
    {V : Type 0} (is_right : ℕ → V → Type 0) (n : ℕ) (kept : List (Option V)) (i : ℕ) (d : Option V) (value : V)
    → AreKept is_right n kept → i < n → get_or kept i d ≡ Some value → is_right i value
kept_at is_right n kept i d value h inside e =
    h.1 i value (get_or-default kept i None d (omega (arith, inside, h.0)) ∙ e)

-- a value is made and kept

set-at :
    {V : Type 0} (is_right : ℕ → V → Type 0) (n : ℕ) (kept : List (Option V)) (i j : ℕ) (value other : V) (same : Bool)
    → AreKept is_right n kept → i < n → is_right i value → eqb j i ≡ same → get_or (set kept i (Some value)) j None ≡ Some other
    → is_right j other
set-at is_right n kept i j value other true h inside is e o =
    let at = eqb-true j i e in
    let within : i < length kept = omega (arith, inside, h.0) in
    let found : Some value ≡ Some other
    = sym (get_or-set_same kept i (Some value) None within) ∙ ap (λ m. get_or (set kept i (Some value)) m None) (sym at) ∙ o in
    let equal : value ≡ other = cc in
    subst (λ m. is_right m other) (sym at) (subst (is_right i) equal is)
set-at is_right n kept i j value other false h inside is e o =
    h.1 j other (sym (get_or-set_other kept i j (Some value) None (eqb-false j i e)) ∙ o)

pub kept_set :
    {V : Type 0} (is_right : ℕ → V → Type 0) (n : ℕ) (kept : List (Option V)) (i : ℕ) (value : V) (next : List (Option V))
    → AreKept is_right n kept → i < n → is_right i value → next ≡ set kept i (Some value) → AreKept is_right n next
kept_set is_right n kept i value next h inside is written =
    subst (AreKept is_right n) (sym written)
    (length-set kept i (Some value) ∙ h.0, λ j other o. set-at is_right n kept i j value other (eqb j i) h inside is refl o)

-- an input that is not named may change

values-stay :
    (pins : List Pin) (v : List Trit) (names : List ℕ) (input : ℕ) (to : Trit)
    → names_input pins input names ≡ false → pin_values pins (set v input to) names ≡ pin_values pins v names
values-stay pins v [] input to e = refl
values-stay pins v (name ∷ names) input to e =
    let parts = or_parts (input_number pins name == input) (names_input pins input names) e in
    let here = get_or-set_other v input (input_number pins name) to Unknown (eqb-false (input_number pins name) input parts.0) in
    let rest = values-stay pins v names input to parts.1 in
    λ i. here i ∷ rest i

pub condition-stays :
    (pins : List Pin) (v : List Trit) (condition : Option Node) (input : ℕ) (to : Trit)
    → names_input pins input (condition_names condition) ≡ false
    → arc_condition pins (set v input to) condition ≡ arc_condition pins v condition
condition-stays pins v None input to e = refl
condition-stays pins v (Some f) input to e =
    ap (res (condition_at (support_of f) f)) (values-stay pins v (support_of f) input to e)

-- what is kept of the conditions that do not name an input that changes
pub unless-some :
    {V : Type 0} (b : Bool) (k : Option V) (value : V) → kept_unless b k ≡ Some value → (b ≡ false) × (k ≡ Some value)
unless-some true k value e = absurd cc
unless-some false k value e = (refl, e)

pub kept_changed :
    (cell : CellData) (v : List Trit) (kept next : List (Option Trit)) (input : ℕ) (to : Trit)
    → AreConditions cell.pins v cell.arcs kept → AreForgotten (arcs_naming cell input) kept next
    → AreConditions cell.pins (set v input to) cell.arcs next
kept_changed cell v kept next input to h left_out = (
  left_out.len ∙ h.0,
  λ i value e arc at.
      let left = unless-some (has (arcs_naming cell input) i) (get_or kept i None) value (sym (left_out.each i) ∙ e) in
      let names : slice_get (arc_names cell) i ≡ Some (condition_names arc.condition)
      = slice_get-map (λ (arc : Arc). condition_names arc.condition) cell.arcs i
      ∙ ap (option_map (λ (arc : Arc). condition_names arc.condition)) at in
      let unnamed = not-placed (names_input cell.pins input) (arc_names cell) i (condition_names arc.condition) names left.0 in
      h.1 i value left.1 arc at ∙ sym (condition-stays cell.pins v arc.condition input to unnamed),
)

-- an entry of what is made for each number
pub range-at :
    {X : Type 0} (f : ℕ → X) (n i : ℕ) (made : List X) (x : X)
    → made ≡ map f (range_with_len 0 n) → slice_get made i ≡ Some x → x ≡ f i
range-at f n i made x are found =
    let here : 0 + i ≡ i = omega arith in
    let within : i < n = omega (arith, slice_get_within made i x found, ap length are, length-map-range_with_len f 0 n) in
    sym (get_or_from_slice_get made i x x found) ∙ ap (λ xs. get_or xs i x) are ∙ get_or-map-range_with_len f 0 n i i x within here

pub range-get_or :
    {X : Type 0} (f : ℕ → X) (n i : ℕ) (made : List X) (d : X)
    → made ≡ map f (range_with_len 0 n) → i < n → get_or made i d ≡ f i
range-get_or f n i made d are within =
    let here : 0 + i ≡ i = omega arith in
    ap (λ xs. get_or xs i d) are ∙ get_or-map-range_with_len f 0 n i i d within here

-- an arc with a condition
pub active_by :
    (pins : List Pin) (arcs : List Arc) (v : List Trit) (arc : Arc) (f : Node) (value : Trit)
    → arc.condition ≡ Some f → value ≡ arc_condition pins v arc.condition
    → not (is_zero value) ≡ is_active pins arcs v arc arc.condition
active_by pins arcs v arc f value e is =
    ap (λ t. not (is_zero t)) is ∙ subst (λ o. not (is_zero (arc_condition pins v o)) ≡ is_active pins arcs v arc o) (sym e) refl

-- an arc that leaves another one active, and one that does not

pub all_go :
    (q : Arc → Bool) (arcs : List Arc) (i : ℕ) (found : Bool) {whole : Bool}
    → i < length arcs → ((arc : Arc) → slice_get arcs i ≡ Some arc → found ≡ q arc) → found ≡ true
    → list_all q (drop i arcs) ≡ whole → list_all q (drop (i + 1) arcs) ≡ whole
all_go q arcs i found inside is so so_far =
    let here = some_at arcs i inside in
    let first : q here.0 ≡ true = sym (is here.0 here.1) ∙ so in
    rw add-one (sym (ap (list_all q) (drop-at arcs i here.0 here.1) ∙ ap (λ b. b && list_all q (drop (suc i) arcs)) first)
    ∙ so_far)

pub all_stop :
    (q : Arc → Bool) (arcs : List Arc) (i : ℕ) (found : Bool) {whole : Bool}
    → i < length arcs → ((arc : Arc) → slice_get arcs i ≡ Some arc → found ≡ q arc) → found ≡ false
    → list_all q (drop i arcs) ≡ whole → false ≡ whole
all_stop q arcs i found inside is so so_far =
    let here = some_at arcs i inside in
    let first : q here.0 ≡ false = sym (is here.0 here.1) ∙ so in
    sym (ap (list_all q) (drop-at arcs i here.0 here.1) ∙ ap (λ b. b && list_all q (drop (suc i) arcs)) first) ∙ so_far

-- an arc whose condition is 0, or that has none
pub off_is_zero : (pins : List Pin) (v : List Trit) (condition : Option Node)
    → is_off pins v condition ≡ is_zero (arc_condition pins v condition)
off_is_zero pins v None = refl
off_is_zero pins v (Some f) = refl
