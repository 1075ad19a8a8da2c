-- What drives the three-state outputs of a cell is a driver of its core: they are among the outputs of the cell, in order, each
-- path leads from an input to one of them, and the core has one more output for each.
use Rattle.std.proofs.Common.{◌≡◌, ℕ, ◌+◌, ◌-◌, ◌<◌, ◌≤◌, Bool, true, false, cond, ◌&&◌, List, [], ◌∷◌, ◌++◌, length, refl, sym}
use Rattle.std.proofs.Common.{ap, ◌∙◌, subst, arith, append_assoc, length-append, map, take, IsTrue, Option, Some, None, is_some}
use Rattle.std.proofs.Common.{unwrap_or, nat_lt, nat_le, drop, ltb-true}
use Rattle.std.specs.Prelude.{All, bytes_eq, flat_map, if◌then◌else◌, count_by}
use Rattle.std.specs.List.{list_all, take-map}
use Rattle.std.proofs.Math.Seq.{take-append_seam, drop-append_seam}
use Rattle.std.proofs.lemmas.Bool.{and_parts, and_from, le-leb, lt-ltb, leb-true}
use Rattle.std.proofs.lemmas.List.{map-append, length-map, drop_all}
use Rattle.std.proofs.lemmas.Slice.Eq.{bytes_eq-Decides}
use Rattle.std.proofs.lemmas.List.Elements.{All-nil, All-cons, All-append}
use Rattle.std.proofs.lemmas.List.Recursion.{is_count_by}
use Rattle.liberty_text.specs.declared.time.Unit.{Unit as TimeUnit}
use Rattle.liberty_groups.specs.declared.tree.Value.{Value}
use Rattle.liberty_groups.specs.declared.tree.Group.{Group}
use Rattle.cell_machine.specs.declared.pins.Direction.{Direction}
use Rattle.cell_machine.specs.declared.pins.Direction.TheVariants.{Input, Output, Internal}
use Rattle.cell_machine.specs.declared.pins.Pin.{Pin}
use Rattle.cell_machine.specs.declared.arcs.Arc.{Arc}
use Rattle.cell_machine.specs.declared.outputs.OutputPin.{OutputPin}
use Rattle.cell_machine.specs.CellRules.{is_output, is_ascending, is_input_pin, is_arc, output_pins_from, is_output_of}
use Rattle.cell_machine.specs.Inputs.{is_input_at}
use Rattle.cell_machine.specs.CellData.{CellData, data_of}
use Rattle.cell_machine.specs.CellTrace.{inputs_of}
use Rattle.cell_machine.proofs.RuleLemmas.{cell_rules}
use Rattle.cell_machine.proofs.TimingFacts.{input_number-below}
use Rattle.driven_traces.specs.declared.drivers.Driver.{Driver}
use Rattle.driven_traces.specs.Drivers.{IsPathOf, IsSound, plain}
use Rattle.cell_attributes.proofs.Turns.{count_shown}
use Rattle.cell_attributes.specs.Groups.{is_pin, cell_name, pin_groups}
use Rattle.cell_attributes.specs.Scans.{is_output_group}
use Rattle.cell_attributes.specs.Pins.{direction_of, pin_as, pins_in, pins_of, owner_as, owners_in, owners_of}
use Rattle.timing_arcs.specs.declared.subject.Subject.{Subject}
use Rattle.cell_reader.specs.PinTimings.{subject_at, arcs_in}
use Rattle.cell_reader.specs.CellTexts.{subject_of}
use Rattle.cell_reader.specs.declared.read.ReadCell.{ReadCell}
use Rattle.cell_reader.specs.CellTexts.{IsCellOf}
use Rattle.three_state_cells.specs.declared.drivers.Drivers.{Drivers}
use Rattle.core_groups.specs.declared.outputs.CellPins.{CellPins}
use Rattle.core_groups.specs.Outputs.{ThreeStateOutput, three_state_of, is_three_state, outputs_from, three_state_outputs, shown}
use Rattle.core_groups.specs.Outputs.{outputs_shown}
use Rattle.core_groups.specs.CoreGroups.{core_group}
use Rattle.three_state_cells.specs.Timing.{is_output_at, output_number, driven_of, answer_of, path_of, paths_from, driver_of}
use Rattle.three_state_cells.specs.Drivers.{HasEnables, IsDriverOf}
use Rattle.three_state_cells.specs.CoreReadings.{AreDrivers, IsCoreOfPins}
use Rattle.three_state_cells.specs.DrivenCells.{cell_data, core_name, floating_of, data_by, driven_data}
use Rattle.three_state_cells.specs.Laws.{enable_outputs, KeepsOutputs, DriversAreOfCores}
use Rattle.three_state_cells.proofs.DataLemmas.{data_as}
use Rattle.three_state_cells.proofs.CorePins.{core_pins_are}
use Rattle.three_state_cells.proofs.FewArcs.{driver_arcs_are_sound}

-- How many of some flags are set.

abbrev pub one_if : Bool → ℕ
one_if b = if b then 1 else 0

abbrev pub count : List Bool → ℕ
count [] = 0
count (b ∷ bs) = one_if b + count bs

count_step : (b : Bool) (bs : List Bool) → count (b ∷ bs) ≡ cond b (1 + count bs) (count bs)
count_step true bs = omega arith
count_step false bs = omega arith

pub flags_count : {X : Type 0} (test : X → Bool) (xs : List X) → count (map test xs) ≡ count_by test xs
flags_count test xs = is_count_by (λ ys. count (map test ys)) test refl (λ y ys. count_step (test y) (map test ys)) xs

pub count_append : (xs ys : List Bool) → count (xs ++ ys) ≡ count xs + count ys
count_append [] ys = omega arith
count_append (x ∷ xs) ys = let rest = count_append xs ys in omega (arith, rest)

number_is : (pins : List Pin) (pin : ℕ) → output_number pins pin ≡ count (take pin (map is_output_at pins))
number_is pins pin = sym (flags_count is_output_at (take pin pins)) ∙ ap count (sym (take-map is_output_at pin pins))

-- Which pins of a cell are outputs, by the groups that make them.

abbrev makes_output : Group → Bool
makes_output group = is_output (unwrap_or (direction_of group) Input)

same_in : (group : Group) (arguments : List Value)
    → map is_output_at (map (pin_as group) arguments) ≡ map makes_output (map (owner_as group) arguments)
same_in group [] = refl
same_in group (value ∷ arguments) = ap (λ (bs : List Bool). makes_output group ∷ bs) (same_in group arguments)

same_outputs : (groups : List Group) → map is_output_at (flat_map pins_in groups) ≡ map makes_output (flat_map owners_in groups)
same_outputs [] = refl
same_outputs (group ∷ groups) =
    map-append is_output_at (pins_in group) (flat_map pins_in groups)
    ∙ (ap (λ (bs : List Bool). bs ++ map is_output_at (flat_map pins_in groups)) (same_in group group.arguments)
    ∙ (ap (λ (bs : List Bool). map makes_output (owners_in group) ++ bs) (same_outputs groups)
    ∙ sym (map-append makes_output (owners_in group) (flat_map owners_in groups))))

output_is : (direction : Option Direction) → is_output_group direction ≡ true → is_output (unwrap_or direction Input) ≡ true
output_is None h = absurd cc
output_is (Some Input) h = absurd cc
output_is (Some Output) h = refl
output_is (Some Internal) h = absurd cc

three_state_makes_output : (group : Group) → is_three_state group ≡ true → makes_output group ≡ true
unfolding is_three_state
three_state_makes_output group h =
    output_is (direction_of group)
    (and_parts (is_output_group (direction_of group)) (is_some (three_state_of group))
    (and_parts (is_pin group) (is_output_group (direction_of group) && is_some (three_state_of group)) h).1).0

-- Numbers that ascend between two bounds.

all_weaker : (test other : ℕ → Bool) (xs : List ℕ) → ((x : ℕ) → test x ≡ true → other x ≡ true) → list_all test xs ≡ true
    → list_all other xs ≡ true
all_weaker test other [] weaker h = refl
all_weaker test other (x ∷ xs) weaker h =
    let parts = and_parts (test x) (list_all test xs) h in
    and_from (other x) (list_all other xs) (weaker x parts.0) (all_weaker test other xs weaker parts.1)

abbrev is_between : ℕ → ℕ → ℕ → Bool
is_between low high x = nat_le low x && nat_lt x high

record AreBetween (low high : ℕ) (xs : List ℕ) : Type 0 where
  ascending : IsTrue (is_ascending xs)
  bounds : IsTrue (list_all (is_between low high) xs)

between_weaker : (low other high x : ℕ) → low ≤ other → is_between other high x ≡ true → is_between low high x ≡ true
between_weaker low other high x h k =
    let parts = and_parts (nat_le other x) (nat_lt x high) k in
    let above : other ≤ x = leb-true other x parts.0 in
    and_from (nat_le low x) (nat_lt x high) (le-leb low x (omega arith)) parts.1

are_weaker : (low other high : ℕ) (xs : List ℕ) → low ≤ other → AreBetween other high xs → AreBetween low high xs
are_weaker low other high xs h k = record {
  ascending = k.ascending;
  bounds = all_weaker (is_between other high) (is_between low high) xs (λ x. between_weaker low other high x h) k.bounds;
}

ascends : (low high : ℕ) (xs : List ℕ) → AreBetween (low + 1) high xs → IsTrue (is_ascending (low ∷ xs))
ascends low high [] h = refl
ascends low high (x ∷ xs) h =
    let parts = and_parts (is_between (low + 1) high x) (list_all (is_between (low + 1) high) xs) h.bounds in
    let above : low + 1 ≤ x = leb-true (low + 1) x (and_parts (nat_le (low + 1) x) (nat_lt x high) parts.0).0 in
    and_from (nat_lt low x) (is_ascending (x ∷ xs)) (lt-ltb low x (omega arith)) h.ascending

are_more : (low high : ℕ) (xs : List ℕ) → low < high → AreBetween (low + 1) high xs → AreBetween low high (low ∷ xs)
are_more low high xs below h = record {
  ascending = ascends low high xs h;
  bounds =
      and_from (is_between low high low) (list_all (is_between low high) xs)
      (and_from (nat_le low low) (nat_lt low high) (le-leb low low (omega arith)) (lt-ltb low high below))
      (are_weaker low (low + 1) high xs (omega arith) h).bounds;
}

-- The places of three-state outputs among all outputs, where these flags tell which pins are outputs.

abbrev place_in : List Bool → ThreeStateOutput → ℕ
place_in flags output = count (take output.pin flags)

seam : (flags before rest : List Bool) (pin : ℕ) → flags ≡ before ++ rest → pin ≡ length before
    → count (take pin flags) ≡ count before
seam flags before rest pin e p = rw e (rw p (ap count (take-append_seam before rest)))

abbrev ArePlaced : List Bool → List Bool → List Group → ℕ → Type 0
ArePlaced flags before owners pin =
    AreBetween (count before) (count before + count (map makes_output owners)) (map (place_in flags) (outputs_from pin owners))

placed_by :
    (b : Bool) (flags before after : List Bool) (group : Group) (groups : List Group) (pin : ℕ)
    → is_three_state group ≡ b → flags ≡ before ++ (map makes_output (group ∷ groups) ++ after) → pin ≡ length before
    → ArePlaced flags (before ++ makes_output group ∷ []) groups (pin + 1) → ArePlaced flags before (group ∷ groups) pin
placed_by true flags before after group groups pin t e p later =
    let output : makes_output group ≡ true = three_state_makes_output group t in
    let one : one_if (makes_output group) ≡ 1 = ap one_if output in
    let low : count (before ++ makes_output group ∷ []) ≡ count before + 1 = let c = count_append before (makes_output group ∷ [])
    in omega (arith, c, one) in
    let high : count (before ++ makes_output group ∷ []) + count (map makes_output groups) ≡ count before + count
    (map makes_output (group ∷ groups)) = omega (arith, low, one) in
    let rest : AreBetween (count before + 1) (count before + count (map makes_output (group ∷ groups)))
    (map (place_in flags) (outputs_from (pin + 1) groups)) =
    subst (λ (k : ℕ). AreBetween (count before + 1) k (map (place_in flags) (outputs_from (pin + 1) groups))) high
    (subst (λ (k : ℕ). AreBetween k (count (before ++ makes_output group ∷ []) + count (map makes_output groups))
    (map (place_in flags) (outputs_from (pin + 1) groups))) low later) in
    let here : count (take pin flags) ≡ count before = seam flags before (map makes_output (group ∷ groups) ++ after) pin e p in
    let all : AreBetween (count before) (count before + count (map makes_output (group ∷ groups)))
    (count before ∷ map (place_in flags) (outputs_from (pin + 1) groups)) =
    are_more (count before) (count before + count (map makes_output (group ∷ groups))) _ (omega (arith, one)) rest in
    rw t
    (subst (λ (k : ℕ). AreBetween (count before) (count before + count (map makes_output (group ∷ groups)))
    (k ∷ map (place_in flags) (outputs_from (pin + 1) groups))) (sym here) all)
placed_by false flags before after group groups pin t e p later =
    let c = count_append before (makes_output group ∷ []) in
    let high : count (before ++ makes_output group ∷ []) + count (map makes_output groups) ≡ count before + count
    (map makes_output (group ∷ groups)) = omega (arith, c) in
    rw t
    (subst (λ (k : ℕ). AreBetween (count before) k (map (place_in flags) (outputs_from (pin + 1) groups))) high
    (are_weaker (count before) (count (before ++ makes_output group ∷ [])) _ _ (omega (arith, c)) later))

placed : (owners : List Group) (flags before after : List Bool) (pin : ℕ) → flags ≡ before ++ (map makes_output owners ++ after)
    → pin ≡ length before → ArePlaced flags before owners pin
placed [] flags before after pin e p = record { ascending = refl; bounds = refl }
placed (group ∷ groups) flags before after pin e p =
    placed_by (is_three_state group) flags before after group groups pin refl e p
    (placed groups flags (before ++ makes_output group ∷ []) after (pin + 1)
    (e ∙ sym (append_assoc before (makes_output group ∷ []) (map makes_output groups ++ after)))
    (let longer = length-append before (makes_output group ∷ []) in omega (arith, longer, p)))

-- The outputs of the core.

enables_are_outputs : (number : ℕ) (outputs : List ThreeStateOutput)
    → count (map is_output_at (enable_outputs number outputs)) ≡ length outputs
enables_are_outputs number [] = refl
enables_are_outputs number (output ∷ outputs) = let rest = enables_are_outputs (number + 1) outputs in omega (arith, rest)

core_flags :
    (cell : Group) → map is_output_at (pins_of (core_group cell))
    ≡ map makes_output (owners_of cell) ++ map is_output_at (enable_outputs 0 (three_state_outputs cell))
core_flags cell =
    ap (map is_output_at) (core_pins_are cell)
    ∙ (map-append is_output_at (pins_of cell) (enable_outputs 0 (three_state_outputs cell))
    ∙ ap (λ (bs : List Bool). bs ++ map is_output_at (enable_outputs 0 (three_state_outputs cell)))
    (same_outputs (pin_groups cell)))

map_same : {A B : Type 0} (f g : A → B) → ((x : A) → f x ≡ g x) → (xs : List A) → map f xs ≡ map g xs
map_same f g same [] = refl
map_same f g same (x ∷ xs) = ap (λ y. y ∷ map f xs) (same x) ∙ ap (λ ys. g x ∷ ys) (map_same f g same xs)

core_places : (cell : Group) → AreBetween 0 (count (map makes_output (owners_of cell)))
    (driven_of (pins_of (core_group cell)) (three_state_outputs cell))
core_places cell =
    let flags : List Bool = map is_output_at (pins_of (core_group cell)) in
    let found : AreBetween 0 (0 + count (map makes_output (owners_of cell))) (map (place_in flags) (three_state_outputs cell)) =
    placed (owners_of cell) flags [] (map is_output_at (enable_outputs 0 (three_state_outputs cell))) 0 (core_flags cell) refl in
    let none : 0 + count (map makes_output (owners_of cell)) ≡ count (map makes_output (owners_of cell)) = omega arith in
    subst (AreBetween 0 (count (map makes_output (owners_of cell))))
    (map_same (place_in flags) (λ (output : ThreeStateOutput). output_number (pins_of (core_group cell)) output.pin)
    (λ output. sym (number_is (pins_of (core_group cell)) output.pin)) (three_state_outputs cell))
    (subst (λ (k : ℕ). AreBetween 0 k (map (place_in flags) (three_state_outputs cell))) none found)

own_count :
    (cell : Group)
    → count_by is_output_at (pins_of (core_group cell)) - length
    (driven_of (pins_of (core_group cell)) (three_state_outputs cell))
    ≡ count (map makes_output (owners_of cell))
own_count cell =
    let all = sym (flags_count is_output_at (pins_of (core_group cell))) ∙ ap count (core_flags cell) in
    let parts = count_append (map makes_output (owners_of cell)) (map is_output_at (enable_outputs 0 (three_state_outputs cell)))
    in
    let enables = enables_are_outputs 0 (three_state_outputs cell) in
    let driven = count_shown (λ (output : ThreeStateOutput). output_number (pins_of (core_group cell)) output.pin)
    (three_state_outputs cell) in
    omega (arith, all, parts, enables, driven)

-- how many outputs a core has

one_more : (b : Bool) (k n : ℕ) (ks : List ℕ) → length ks ≡ n → length (if b then k ∷ ks else ks) ≡ one_if b + n
one_more true k n ks e = omega (arith, e)
one_more false k n ks e = omega (arith, e)

outputs_numbered : (k : ℕ) (pins : List Pin) → length (output_pins_from k pins) ≡ count (map is_output_at pins)
outputs_numbered k [] = refl
outputs_numbered k (pin ∷ pins) =
    one_more (is_output pin.direction) k (count (map is_output_at pins)) (output_pins_from (k + 1) pins)
    (outputs_numbered (k + 1) pins)

pub outputs_counted : (core : CellData) → KeepsOutputs core → length core.outputs ≡ count_by is_output_at core.pins
outputs_counted core h =
    let numbers : List ℕ = map (λ (output : OutputPin). output.pin) core.outputs in
    let rules = and_parts (bytes_eq numbers (output_pins_from 0 core.pins))
    (list_all (is_output_of core.pins core.groups) core.outputs) h in
    let same : numbers ≡ output_pins_from 0 core.pins = (bytes_eq-Decides numbers (output_pins_from 0 core.pins)).0 rules.0 in
    sym (length-map core.outputs (λ (output : OutputPin). output.pin))
    ∙ (ap length same ∙ (outputs_numbered 0 core.pins ∙ flags_count is_output_at core.pins))

-- The paths.

module _ (driver : Driver) where
  paths_go :
      (pins : List Pin) (drive : ℕ) (arcs : List Arc) → driver.inputs ≡ count_by is_input_at pins → drive < length driver.drives
      → list_all (is_arc pins) arcs ≡ true → All (IsPathOf driver) (map (path_of pins drive) arcs)
  paths_go pins drive [] e below h = All-nil (IsPathOf driver)
  paths_go pins drive (arc ∷ arcs) e below h =
      let parts = and_parts (is_arc pins arc) (list_all (is_arc pins) arcs) h in
      let from = input_number-below pins arc.from (and_parts (is_input_pin pins arc.from) _ parts.0).0 in
      All-cons (IsPathOf driver) (path_of pins drive arc) (map (path_of pins drive) arcs)
      (record { from = omega (arith, from, e); drive = below })
      (paths_go pins drive arcs e below parts.1)

  all_paths_go :
      (core : Subject) (drive : ℕ) (outputs : List ThreeStateOutput) → driver.inputs ≡ count_by is_input_at core.pins
      → drive + length outputs ≤ length driver.drives → All (IsPathOf driver) (paths_from core drive outputs)
  all_paths_go core drive [] e h = All-nil (IsPathOf driver)
  all_paths_go core drive (output ∷ outputs) e h =
      All-append (IsPathOf driver) (map (path_of core.pins drive) (arcs_in (answer_of core output)))
      (paths_from core (drive + 1) outputs)
      (paths_go core.pins drive (arcs_in (answer_of core output)) e (omega arith)
      (driver_arcs_are_sound (subject_at core output.pin) output.group (answer_of core output) refl))
      (all_paths_go core (drive + 1) outputs e (omega arith))

-- The driver of a cell with some three-state outputs.

all_below : (high : ℕ) (xs : List ℕ) → IsTrue (list_all (is_between 0 high) xs) → All (λ place. place < high) xs
all_below high [] h = All-nil (λ place. place < high)
all_below high (x ∷ xs) h =
    let parts = and_parts (is_between 0 high x) (list_all (is_between 0 high) xs) h in
    All-cons (λ place. place < high) x xs (ltb-true x high (and_parts (nat_le 0 x) (nat_lt x high) parts.0).1)
    (all_below high xs parts.1)

driven_count : (cell : Group) → length (driven_of (pins_of (core_group cell)) (three_state_outputs cell)) ≡ length
    (three_state_outputs cell)
driven_count cell = count_shown (λ (output : ThreeStateOutput). output_number (pins_of (core_group cell)) output.pin)
    (three_state_outputs cell)

driver_is_sound : (unit : Option TimeUnit) (cell : Group)
    → IsSound (driver_of (subject_of unit (core_group cell)) (three_state_outputs cell))
unfolding driver_of
driver_is_sound unit cell =
    let places = core_places cell in
    let pins : List Pin = pins_of (core_group cell) in
    let drives : List ℕ = driven_of pins (three_state_outputs cell) in
    let counted = driven_count cell in
    let own : count_by is_output_at pins - length (three_state_outputs cell) ≡ count (map makes_output (owners_of cell)) =
    ap (λ (n : ℕ). count_by is_output_at pins - n) (sym counted) ∙ own_count cell in
    record {
      ascending = places.ascending;
      outputs = subst (λ (high : ℕ). All (λ place. place < high) drives) (sym own)
          (all_below (count (map makes_output (owners_of cell))) drives places.bounds);
      paths =
          all_paths_go (driver_of (subject_of unit (core_group cell)) (three_state_outputs cell))
          (subject_of unit (core_group cell)) 0
          (three_state_outputs cell) refl (omega (arith, counted));
    }

enables_pass : (number : ℕ) (outputs : List ThreeStateOutput) → IsTrue (list_all is_output_at (enable_outputs number outputs))
enables_pass number [] = refl
enables_pass number (output ∷ outputs) = enables_pass (number + 1) outputs

enables_length : (number : ℕ) (outputs : List ThreeStateOutput) → length (enable_outputs number outputs) ≡ length outputs
enables_length number [] = refl
enables_length number (output ∷ outputs) = let rest = enables_length (number + 1) outputs in omega (arith, rest)

last_pass :
    (own enables pins : List Pin) (driven : ℕ) → pins ≡ own ++ enables → length enables ≡ driven
    → IsTrue (list_all is_output_at enables)
    → IsTrue (list_all is_output_at (drop (length pins - driven) pins))
last_pass own enables pins driven e n h =
    let seam : length pins - driven ≡ length own = (let all = ap length e in let parts = length-append own enables
    in omega (arith, all, parts, n)) in
    let rest : drop (length pins - driven) pins ≡ enables =
    ap (λ (k : ℕ). drop k pins) seam ∙ (ap (drop (length own)) e ∙ drop-append_seam own enables) in
    subst (λ (xs : List Pin). IsTrue (list_all is_output_at xs)) (sym rest) h

has_enables : (unit : Option TimeUnit) (cell : Group)
    → HasEnables (pins_of (core_group cell)) (driver_of (subject_of unit (core_group cell)) (three_state_outputs cell))
unfolding driver_of
has_enables unit cell =
    last_pass (pins_of cell) (enable_outputs 0 (three_state_outputs cell)) (pins_of (core_group cell)) _ (core_pins_are cell)
    (enables_length 0 (three_state_outputs cell) ∙ sym (driven_count cell)) (enables_pass 0 (three_state_outputs cell))

-- a core has at least as many outputs as enables
pub few_enables : (cell : Group) → length (three_state_outputs cell) ≤ count_by is_output_at (pins_of (core_group cell))
few_enables cell =
    let all = sym (flags_count is_output_at (pins_of (core_group cell))) ∙ ap count (core_flags cell) in
    let parts = count_append (map makes_output (owners_of cell)) (map is_output_at (enable_outputs 0 (three_state_outputs cell)))
    in
    let enables = enables_are_outputs 0 (three_state_outputs cell) in
    omega (arith, all, parts, enables)

-- the same of what is held of the cell
pub few_held :
    (unit : Option TimeUnit) (core : Group) (pins : CellPins) (subject : Subject) → IsCoreOfPins core pins
    → subject ≡ subject_of unit core
    → length pins.outputs.items ≤ count_by is_output_at subject.pins
few_held unit core pins subject (cell, (is_core, are)) same =
    let few = few_enables cell in
    let held : length pins.outputs.items ≡ length (three_state_outputs cell) = sym (count_shown shown pins.outputs.items)
    ∙ ap length are.of_outputs in
    let of_core : count_by is_output_at subject.pins ≡ count_by is_output_at (pins_of (core_group cell)) =
    ap (λ (s : Subject). count_by is_output_at s.pins) same ∙ ap (λ (g : Group). count_by is_output_at (pins_of g)) is_core in
    omega (arith, few, held, of_core)

core_driver :
    (unit : Option TimeUnit) (name : List ℕ) (number : ℕ) (cell : Group)
    → KeepsOutputs (cell_data unit name number (core_group cell))
    → IsDriverOf (cell_data unit name number (core_group cell))
    (driver_of (subject_of unit (core_group cell)) (three_state_outputs cell))
unfolding driver_of
core_driver unit name number cell h =
    let some = few_enables cell in
    let all = outputs_counted (cell_data unit name number (core_group cell)) h in
    let counted = driven_count cell in
    record {
      sound = driver_is_sound unit cell;
      is_core = record { inputs = refl; outputs = omega (arith, some, all, counted) };
      enables = has_enables unit cell;
    }

-- That of the cell that was read.
pub read_driver :
    (unit : Option TimeUnit) (number : ℕ) (core : Group) (pins : CellPins) (read : ReadCell) (drivers : Drivers)
    → IsCoreOfPins core pins → IsCellOf (subject_of unit core) number core read.cell
    → AreDrivers unit core (outputs_shown pins) drivers
    → IsDriverOf (data_of read.cell) drivers.driver
read_driver unit number core pins read drivers (cell, (is_core, are)) h d =
    let of_core : data_of read.cell ≡ cell_data unit (cell_name core) number core = data_as unit number core read.cell h in
    let same : drivers.driver ≡ driver_of (subject_of unit core) (three_state_outputs cell) =
    d.driver ∙ ap (driver_of (subject_of unit core)) are.of_outputs in
    let keeps : KeepsOutputs (cell_data unit (cell_name core) number core) =
    subst KeepsOutputs of_core (cell_rules read.cell).of_outputs in
    let whole : (core : Group) → core ≡ core_group cell → KeepsOutputs (cell_data unit (cell_name core) number core)
    → IsDriverOf (cell_data unit (cell_name core) number core) (driver_of (subject_of unit core) (three_state_outputs cell)) =
    λ core e k. subst (λ (g : Group). KeepsOutputs (cell_data unit (cell_name g) number g)
    → IsDriverOf (cell_data unit (cell_name g) number g) (driver_of (subject_of unit g) (three_state_outputs cell)))
    (sym e) (core_driver unit (cell_name (core_group cell)) number cell) k in
    subst (λ (c : CellData). IsDriverOf c drivers.driver) (sym of_core)
    (subst (IsDriverOf (cell_data unit (cell_name core) number core)) (sym same) (whole core is_core keeps))

-- A cell without three-state outputs.

pub plain_driver : (core : CellData) → IsDriverOf core (plain (inputs_of core) (length core.outputs))
plain_driver core = record {
  sound = record {
    ascending = refl;
    outputs = All-nil (λ place. place < length core.outputs);
    paths = All-nil (IsPathOf (plain (inputs_of core) (length core.outputs)));
  };
  is_core = record { inputs = refl; outputs = omega arith };
  enables = ap (list_all is_output_at) (drop_all (length core.pins - 0) core.pins (omega arith));
}

-- All cells.

pub drivers_are_of_cores : DriversAreOfCores
unfolding driven_data floating_of
drivers_are_of_cores unit number cell = by (three_state_outputs cell) refl
  where
    by : (outputs : List ThreeStateOutput) → three_state_outputs cell ≡ outputs
        → KeepsOutputs (data_by unit number cell outputs).core
        → IsDriverOf (data_by unit number cell outputs).core (data_by unit number cell outputs).driver
    by [] e h = plain_driver (cell_data unit (cell_name cell) number cell)
    by (output ∷ outputs) e h =
        subst (λ (found : List ThreeStateOutput). IsDriverOf (cell_data unit (core_name number) number (core_group cell))
        (driver_of (subject_of unit (core_group cell)) found))
        e (core_driver unit (core_name number) number cell h)
