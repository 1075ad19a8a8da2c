-- The arcs of one pair of pins decide which of them are active.
use Rattle.std.proofs.Common.{◌≡◌, ℕ, Bool, true, false, not, ◌&&◌, ◌||◌, cond, List, [], ◌∷◌, map, refl, sym, ap, ◌∙◌, Option}
use Rattle.std.proofs.Common.{Some, None}
use Rattle.std.proofs.Common.{nat_eq, slice_get, if◌then◌else◌}
use Rattle.std.specs.Prelude.{filter, unwrap_or}
use Rattle.std.specs.List.{list_all}
use Rattle.std.proofs.lemmas.Bool.{and_parts, eqb-true}
use Rattle.trit_cubes.specs.declared.trits.Trit.{Trit}
use Rattle.trit_cubes.specs.declared.trits.Trit.TheVariants.{Zero, One, Unknown}
use Rattle.bool_functions.specs.declared.tree.Node.{Node}
use Rattle.cell_machine.specs.declared.pins.Pin.{Pin}
use Rattle.cell_machine.specs.declared.arcs.Arc.{Arc}
use Rattle.cell_machine.specs.CellData.{CellData}
use Rattle.cell_machine.specs.Inputs.{input_number}
use Rattle.cell_machine.specs.Edges.{is_rise}
use Rattle.cell_machine.specs.Delay.{Path, least, active_delays, least_delay}
use Rattle.cell_machine.specs.Places.{entries_at}
use Rattle.cell_machine.specs.ArcDelay.{least_delays, delay_by}
use Rattle.cell_machine.specs.ArcPlaces.{arcs_between}
use Rattle.cell_machine.specs.CellTrace.{same_pins, is_off, is_quiet, is_active, path_of, is_between, paths_between}
use Rattle.cell_machine.proofs.EntryPlaces.{entries-pass}

-- an arc of the pair and one that is not have not the same two pins
apart :
    (pins : List Pin) (input pin : ℕ) (arc other : Arc) (same : Bool)
    → same_pins arc other ≡ same → is_between pins input pin arc ≡ true → is_between pins input pin other ≡ false → same ≡ false
apart pins input pin arc other false e p q = refl
apart pins input pin arc other true e p q =
    let parts = and_parts (nat_eq arc.from other.from) (nat_eq arc.to other.to) e in
    let from = eqb-true arc.from other.from parts.0 in
    let to = eqb-true arc.to other.to parts.1 in
    let alike : is_between pins input pin arc ≡ is_between pins input pin other =
    λ i. nat_eq (input_number pins (from i)) input && nat_eq (to i) pin in
    sym p ∙ alike ∙ q

-- which of the other arcs leave one of the pair active

quiet-one :
    (pins : List Pin) (v : List Trit) (input pin : ℕ) (arc other : Arc) (rest all : Bool) (b : Bool)
    → is_between pins input pin arc ≡ true → is_between pins input pin other ≡ b → (rest ≡ all)
    → cond b (is_quiet pins v arc other && rest) rest ≡ (is_quiet pins v arc other && all)
quiet-one pins v input pin arc other rest all true p q same = ap (λ r. is_quiet pins v arc other && r) same
quiet-one pins v input pin arc other rest all false p q same =
    let quiet : is_quiet pins v arc other ≡ true
    = ap (λ s. not s || is_off pins v other.condition) (apart pins input pin arc other (same_pins arc other) refl p q) in
    same ∙ sym (ap (λ b. b && all) quiet)

list_all-cond :
    {X : Type 0} (q : X → Bool) (x : X) (xs : List X) (b : Bool)
    → list_all q (cond b (x ∷ xs) xs) ≡ cond b (q x && list_all q xs) (list_all q xs)
list_all-cond q x xs true = refl
list_all-cond q x xs false = refl

quiet-pair :
    (pins : List Pin) (v : List Trit) (input pin : ℕ) (arc : Arc) (arcs : List Arc)
    → is_between pins input pin arc ≡ true
    → list_all (is_quiet pins v arc) (filter (is_between pins input pin) arcs) ≡ list_all (is_quiet pins v arc) arcs
quiet-pair pins v input pin arc [] p = refl
quiet-pair pins v input pin arc (x ∷ arcs) p =
    list_all-cond (is_quiet pins v arc) x (filter (is_between pins input pin) arcs) (is_between pins input pin x)
    ∙ quiet-one pins v input pin arc x (list_all (is_quiet pins v arc) (filter (is_between pins input pin) arcs))
    (list_all (is_quiet pins v arc) arcs) (is_between pins input pin x) p refl (quiet-pair pins v input pin arc arcs p)

active-pair :
    (pins : List Pin) (v : List Trit) (input pin : ℕ) (arcs : List Arc) (arc : Arc) (condition : Option Node)
    → is_between pins input pin arc ≡ true
    → is_active pins (filter (is_between pins input pin) arcs) v arc condition ≡ is_active pins arcs v arc condition
active-pair pins v input pin arcs arc None p = quiet-pair pins v input pin arc arcs p
active-pair pins v input pin arcs arc (Some f) p = refl

-- the paths of the pair

paths-one :
    (pins : List Pin) (v : List Trit) (input pin : ℕ) (arcs : List Arc) (x : Arc) (rest : List Arc) (b : Bool)
    → is_between pins input pin x ≡ b
    → map (path_of pins (filter (is_between pins input pin) arcs) v) rest ≡ map (path_of pins arcs v) rest
    → map (path_of pins (filter (is_between pins input pin) arcs) v) (cond b (x ∷ rest) rest)
    ≡ map (path_of pins arcs v) (cond b (x ∷ rest) rest)
paths-one pins v input pin arcs x rest true p same =
    let active = active-pair pins v input pin arcs x x.condition p in
    λ i. record { active = active i; rise = x.rise; fall = x.fall } ∷ same i
paths-one pins v input pin arcs x rest false p same = same

paths-pair :
    (pins : List Pin) (v : List Trit) (input pin : ℕ) (arcs rest : List Arc)
    → map (path_of pins (filter (is_between pins input pin) arcs) v) (filter (is_between pins input pin) rest)
    ≡ map (path_of pins arcs v) (filter (is_between pins input pin) rest)
paths-pair pins v input pin arcs [] = refl
paths-pair pins v input pin arcs (x ∷ rest) =
    paths-one pins v input pin arcs x (filter (is_between pins input pin) rest) (is_between pins input pin x) refl
    (paths-pair pins v input pin arcs rest)

-- the delay of a change is by the least delays of a rise and of a fall
by-edge :
    (a b : Trit) (paths : List Path)
    → delay_by a b (record { rise = least (active_delays Zero One paths); fall = least (active_delays One Zero paths) })
    ≡ least_delay a b paths
by-edge Zero Zero paths = refl
by-edge Zero One paths = refl
by-edge Zero Unknown paths = refl
by-edge One Zero paths = refl
by-edge One One paths = refl
by-edge One Unknown paths = refl
by-edge Unknown Zero paths = refl
by-edge Unknown One paths = refl
by-edge Unknown Unknown paths = refl

pub pair-delay :
    (cell : CellData) (v : List Trit) (input pin : ℕ) (places : List ℕ) (a b : Trit)
    → places ≡ arcs_between cell input pin
    → delay_by a b (least_delays cell.pins (entries_at cell.arcs places) v)
    ≡ least_delay a b (paths_between cell.pins cell.arcs v input pin)
pair-delay cell v input pin places a b are =
    ap (λ some. delay_by a b (least_delays cell.pins some v))
    (ap (entries_at cell.arcs) are ∙ entries-pass (is_between cell.pins input pin) cell.arcs)
    ∙ ap (λ (paths : List Path).
    delay_by a b (record { rise = least (active_delays Zero One paths); fall = least (active_delays One Zero paths) }))
    (paths-pair cell.pins v input pin cell.arcs cell.arcs)
    ∙ by-edge a b (paths_between cell.pins cell.arcs v input pin)

-- two pins without an arc
no-delay : (b : Bool) (delay : Option ℕ) → delay ≡ None → unwrap_or (if b then delay else delay) 0 ≡ 0
no-delay true delay e = ap (λ o. unwrap_or o 0) e
no-delay false delay e = ap (λ o. unwrap_or o 0) e

pub pair-none :
    (cell : CellData) (v : List Trit) (input pin : ℕ) (places : List ℕ) (a b : Trit)
    → slice_get places 0 ≡ None → places ≡ arcs_between cell input pin
    → 0 ≡ least_delay a b (paths_between cell.pins cell.arcs v input pin)
pair-none cell v input pin [] a b e are = sym (no-delay (is_rise a b) None refl) ∙ pair-delay cell v input pin [] a b are
pair-none cell v input pin (place ∷ places) a b e are = absurd cc
